use Rattle.std.proofs.Common.{ℕ, ◌<◌, ◌≤◌, List, drop, length, ap, sym, subst, arith}
use Rattle.uhura_conflict.specs.Store.{Stored, IsStore, Trims}
use Rattle.uhura_conflict.specs.Entries.{shown_as, IsHeldStore, pairs_among}
use Rattle.uhura_conflict.proofs.Keeping.{held-left, trims, untrimmed}
use Rattle.uhura_conflict.proofs.Summing.{reached-either}
use Rattle.uhura_conflict.proofs.store.Store.trim.Goals as goal

pub returns-then-count-eq0-clause-trimmed : goal.returns-then-count-eq0-clause-trimmed
returns-then-count-eq0-clause-trimmed c =
    let inside = c.self.inside in
    let order = inside.order.items in
    let within : pairs_among inside.entries (drop c.given_up-count.result order) ≤ c.args.most =
    subst (λ (keys : List ℕ). pairs_among inside.entries (drop c.given_up-count.result keys) ≤ c.args.most) c.deref.ensures.value c.given_up-count.ensures.within in
    let whole : pairs_among inside.entries order ≤ c.args.most = subst (λ (n : ℕ). pairs_among inside.entries (drop n order) ≤ c.args.most) c.if-count-eq0.true within in (
      0,
      subst (λ (store : Stored). Trims store store c.args.most 0) c.self.view_is (untrimmed inside.entries order inside.table c.args.most c.self.invariant.0 whole),
    )

pub renew-requires : goal.renew-requires
renew-requires c = reached-either c.self.inside.summaries c.self.inside.entries c.give_up.new.entries c.give_up.ensures.either c.self.invariant.2

pub invariant_of-self : goal.invariant_of-self
invariant_of-self c = (
  let inside = c.self.inside in
      let order = inside.order.items in
      let count = c.given_up-count.result in
      let few : count ≤ length order = omega (arith, c.given_up-count.ensures.count, ap length c.deref.ensures.value) in
      subst (λ (keys : List ℕ). IsHeldStore c.give_up.new.entries keys inside.table) (sym c.give_up.ensures.order)
      (held-left inside.entries c.give_up.new.entries order inside.table c.args.most count few c.give_up.ensures.given_up c.give_up.ensures.others c.give_up.ensures.either c.self.invariant.0),
  c.self.invariant.1,
  c.renew.ensures,
)

pub returns-clause-trimmed : goal.returns-clause-trimmed
returns-clause-trimmed c =
    let inside = c.self.inside in
    let order = inside.order.items in
    let count = c.given_up-count.result in
    let few : count ≤ length order = omega (arith, c.given_up-count.ensures.count, ap length c.deref.ensures.value) in
    let within : pairs_among inside.entries (drop count order) ≤ c.args.most =
    subst (λ (keys : List ℕ). pairs_among inside.entries (drop count keys) ≤ c.args.most) c.deref.ensures.value c.given_up-count.ensures.within in
    let fewest : (fewer : ℕ) → fewer < count → c.args.most < pairs_among inside.entries (drop fewer order) =
    subst (λ (keys : List ℕ). (fewer : ℕ) → fewer < count → c.args.most < pairs_among inside.entries (drop fewer keys)) c.deref.ensures.value c.given_up-count.ensures.fewest in (
      count,
      subst (λ (keys : List ℕ). Trims c.args.self.now (shown_as c.give_up.new.entries keys inside.table) c.args.most count) (sym c.give_up.ensures.order)
          (subst (λ (store : Stored). Trims store (shown_as c.give_up.new.entries (drop count order) inside.table) c.args.most count) c.self.view_is
          (trims inside.entries c.give_up.new.entries order inside.table c.args.most count few c.give_up.ensures.given_up c.give_up.ensures.others c.give_up.ensures.either c.self.invariant.0 within fewest)),
    )

pub returns-clause-sound : goal.returns-clause-sound
returns-clause-sound c =
    let inside = c.self.inside in
    let order = inside.order.items in
    let count = c.given_up-count.result in
    let few : count ≤ length order = omega (arith, c.given_up-count.ensures.count, ap length c.deref.ensures.value) in
    subst (λ (keys : List ℕ). IsStore (shown_as c.give_up.new.entries keys inside.table)) (sym c.give_up.ensures.order)
    (held-left inside.entries c.give_up.new.entries order inside.table c.args.most count few c.give_up.ensures.given_up c.give_up.ensures.others c.give_up.ensures.either c.self.invariant.0).sound
