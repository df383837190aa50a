use Rattle.std.proofs.Common.{ℕ, Option, All, subst}
use Rattle.std.specs.Prelude.{MatchOption}
use Rattle.uhura_shows.specs.Carried.{IsCarried}
use Rattle.uhura_check.specs.Conditions.{MayCarry}
use Rattle.uhura_check.specs.Firsts.{IsFirstNot}
use Rattle.uhura_check.specs.Reaches.{IsSettledIn}
use Rattle.uhura_check.proofs.Carrying.{first-both}
use Rattle.uhura_check.proofs.units.first_not_carried.Goals as goal

pub returns-in-Some-Some : goal.returns-in-Some-Some
returns-in-Some-Some c =
    let state = c.args.state.now in
    let prefix = c.args.prefix.now in
    let pairs = c.args.pairs.now in
    first-both (IsSettledIn state prefix) (IsCarried state) (MayCarry state prefix) (λ x settled carried. record { settled = settled; carried = carried }) (λ x may. may.settled) (λ x may. may.carried)
    pairs c.in-Some-Some.inactive c.in-Some-Some.uncarried c.min.result c.min.ensures
    (subst (λ (o : Option ℕ). MatchOption o (All (IsSettledIn state prefix) pairs) (IsFirstNot (IsSettledIn state prefix) pairs)) c.in-Some-Some.is-0 c.first_inactive.ensures)
    (subst (λ (o : Option ℕ). MatchOption o (All (IsCarried state) pairs) (IsFirstNot (IsCarried state) pairs)) c.in-Some-Some.is-1 c.requires)
