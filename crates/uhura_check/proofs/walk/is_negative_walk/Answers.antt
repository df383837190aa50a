use Rattle.std.proofs.Common.{rules, ◌≡◌, true, false, true≢false, ℤ, pos, SFits, sym, subst, ◌∙◌}
use Rattle.std.specs.Prelude.{◌<ℤ◌}
use Rattle.std.specs.Bool.{Decides}
use Rattle.std.specs.Int.{w128}
use Rattle.std.proofs.lemmas.Int.{to_z-of_z}
use Rattle.uhura_check.proofs.Walks.{negative-decides, not-closed}
use Rattle.uhura_check.proofs.walk.is_negative_walk.Goals as goal

pub returns-then-not-are_firm : goal.returns-then-not-are_firm
returns-then-not-are_firm c = λ state is.
    let unso : c.are_firm.result ≡ false = search rules in
    (λ no. absurd (true≢false (sym no)), λ walk. absurd (true≢false (sym ((c.are_firm.ensures state is).1 walk.each) ∙ unso)))

pub returns-then-not-is_closed : goal.returns-then-not-is_closed
returns-then-not-is_closed c = λ state is.
    let unso : c.is_closed.result ≡ false = search rules in
    (λ no. absurd (true≢false (sym no)), λ walk. absurd (not-closed state c.args.table.now c.args.keys.now is c.requires (λ closed. true≢false (sym (c.is_closed.ensures.1 closed) ∙ unso)) walk))

pub returns : goal.returns
returns c = λ state is.
    let firm : c.are_firm.result ≡ true = search rules in
    let closed : c.is_closed.result ≡ true = search rules in
    let fits : SFits w128 c.bounds_along.result = search rules in
    negative-decides state c.args.table.now c.args.keys.now c.bounds_along.result c.is_below_0.result is c.requires ((c.are_firm.ensures state is).0 firm) (c.is_closed.ensures.0 closed) c.bounds_along.ensures
    (subst (λ (z : ℤ). Decides c.is_below_0.result (z <ℤ pos 0)) (to_z-of_z w128 c.bounds_along.result fits) c.is_below_0.ensures)
