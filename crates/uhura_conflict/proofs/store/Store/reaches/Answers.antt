use Rattle.std.proofs.Common.{List, subst}
use Rattle.std.specs.Bool.{MatchBool}
use Rattle.uhura_choice.specs.declared.prefix.Pick.{Pick}
use Rattle.uhura_conflict.specs.declared.sought.Sought.{Sought}
use Rattle.uhura_conflict.specs.Store.{Stored, Reaches}
use Rattle.uhura_conflict.specs.Entries.{reaching, IsFound}
use Rattle.uhura_conflict.proofs.Reaching.{found-matches}
use Rattle.uhura_conflict.proofs.store.Store.reaches.Goals as goal

pub returns : goal.returns
returns c =
    let inside = c.self.inside in
    let Same : List Pick → Sought → Type 0 = λ picks sought. MatchBool c.finds_in.result (IsFound inside.entries picks sought) (IsFound inside.entries picks sought → ⊥) in
    let found : Same c.args.prefix.now (reaching c.args.least) =
    subst (λ picks. Same picks (reaching c.args.least)) c.entries.ensures.entries (subst (λ sought. Same c.entries.result.now sought) c.reaching.ensures c.finds_in.ensures) in
    subst (λ (store : Stored). MatchBool c.finds_in.result (Reaches store c.args.prefix.now c.args.least) (Reaches store c.args.prefix.now c.args.least → ⊥)) c.self.view_is
    (found-matches inside.entries inside.order.items inside.table c.args.prefix.now c.args.least c.self.invariant.0.worth c.finds_in.result found)
