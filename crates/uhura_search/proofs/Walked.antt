-- The walk that closes branches: what is closed when it goes on.
use Rattle.std.proofs.Common.{◌<◌, List, Some, Option, subst, sym}
use Rattle.uhura_plan.specs.declared.choice.Choice.{Choice}
use Rattle.uhura_choice.specs.declared.prefix.Pick.{Pick}
use Rattle.uhura_choice.specs.Branch.{IsBranch, IsEarlier}
use Rattle.uhura_choice.specs.Order.{IsFrontOf}
use Rattle.uhura_shows.specs.Behind.{IsBehind, IsNextBehind, HaveBefore}
use Rattle.uhura_shows.proofs.Behind.{begun-earlier}
use Rattle.uhura_shows.proofs.Passing.{have-before_next}
use Rattle.uhura_search.specs.Closed.{Prefixes, HasFront}
use Rattle.uhura_search.proofs.Ranks.{rank, rank-falls}

-- what is closed stays so, and the branches of the prefix are closed with it
pub closed-next : (cs : List Choice) (Old New : Prefixes) (branch prefix : List Pick) (later : Option (List Pick)) → IsBranch cs branch → HaveBefore cs (HasFront Old) (Some branch) →
    IsFrontOf prefix branch → New prefix → ((front : List Pick) → Old front → New front) → IsBehind cs prefix later → HaveBefore cs (HasFront New) later
closed-next cs Old New branch prefix later is have begins closed kept behind =
    have-before_next cs (HasFront Old) (HasFront New) branch prefix later is have begins behind
    (λ other front. record { prefix = front.prefix; begins = front.begins; shut = kept front.prefix front.shut })
    (λ other is_other begun. record { prefix = prefix; begins = begun; shut = closed })

-- the branch behind the prefix is later
pub closed-falls : (cs : List Choice) (branch prefix next : List Pick) → IsFrontOf prefix branch → IsNextBehind cs prefix next → rank cs next < rank cs branch
closed-falls cs branch prefix next begins behind =
    rank-falls cs branch next behind.is_branch
    (subst (λ b. IsEarlier b next) (sym begins.1) (begun-earlier prefix begins.0 next behind.behind))
