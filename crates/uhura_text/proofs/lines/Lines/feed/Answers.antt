use Rattle.std.proofs.Common.{ap, refl, arith}
use Rattle.uhura_text.proofs.LineLemmas.{held-more, held-full}
use Rattle.uhura_text.proofs.lines.Lines.feed.Goals as goal

pub returns-then-self-le-LINE_LIMIT : goal.returns-then-self-le-LINE_LIMIT
returns-then-self-le-LINE_LIMIT c =
    (c.if-byte-eq10.false, held-more _ _ _ _ c.if-self-le-LINE_LIMIT.true c.self.invariant.0 (ap (λ r. r.held) c.self.view_is), refl)

pub returns-else-self-le-LINE_LIMIT : goal.returns-else-self-le-LINE_LIMIT
returns-else-self-le-LINE_LIMIT c =
    (c.if-byte-eq10.false, held-full _ _ _ _ (omega arith) c.self.invariant.0 (ap (λ r. r.held) c.self.view_is), refl)
