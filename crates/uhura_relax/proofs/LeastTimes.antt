-- The opposites of the greatest times up to 0 that meet the turned edges are the earliest schedule, and a closed walk of
-- turned edges whose bounds sum below 0 leaves none.
use Rattle.std.proofs.Common.{◌≡◌, ℕ, ◌<◌, Bool, List, Option, length, sym, arith}
use Rattle.std.specs.Prelude.{ℤ, neg_ℤ, ◌≤ℤ◌, reverse}
use Rattle.std.proofs.lemmas.Int.{ints}
use Rattle.uhura_plan.specs.declared.key.SideKey.{SideKey}
use Rattle.uhura_plan.specs.Lists.{Lists}
use Rattle.uhura_plan.specs.Sound.{IsSound}
use Rattle.uhura_choice.specs.declared.prefix.Pick.{Pick}
use Rattle.uhura_net.specs.declared.edge.Edge.{Edge}
use Rattle.uhura_net.specs.declared.place.Place.{Place}
use Rattle.uhura_net.specs.Edges.{Edges, chosen_edges, time_at, AreKept}
use Rattle.uhura_net.specs.Walk.{IsNegativeWalk}
use Rattle.uhura_net.proofs.Walks.{none_meet}
use Rattle.uhura_cycle.specs.Verdict.{AreGreatestTimes}
use Rattle.uhura_worst.specs.Units.{side_units}
use Rattle.uhura_worst.specs.Filled.{IsFilledBy}
use Rattle.uhura_worst.specs.Proposal.{Proposal, CoversAllDurations}
use Rattle.uhura_worst.specs.Best.{StartsAtZero}
use Rattle.uhura_worst.specs.WorstCase.{HasTimesOf, MeetsWorstCase, extreme_times}
use Rattle.uhura_worst.proofs.WorstCase.{covers, extremes-meet, extreme_times-are}
use Rattle.uhura_relax.specs.Loosened.{turned_tables}
use Rattle.uhura_relax.specs.Schedule.{proposal_with, scheduled_time, LeavesSome, IsEarliestSchedule, HasNoSchedule}
use Rattle.uhura_relax.proofs.Turning.{turned_edges, turned-met, turned_back-met}
use Rattle.uhura_relax.proofs.TurnedWalk.{IsNegativeWalk-backward}
use Rattle.uhura_relax.proofs.Placed.{AreAllChosen, AreAtTheirPlaces, AreAtTheirPlaces-turned}
use Rattle.uhura_relax.proofs.LoosenedCase.{worst_case-met, edges-met}
use Rattle.uhura_relax.proofs.Opposites.{IsOppositeOf}
use Rattle.uhura_relax.proofs.FromZero.{times_from_zero, AreExtremes-from_zero, from_zero-meet}

-- the times that are found for turned edges, with the other sign, meet the requirements
opposites-meet : (plan : Lists) (branch : List Pick) (pairs : List (SideKey × ℕ)) (edges : Edges) (times : List ℤ) (schedule : List ℕ) → IsSound plan → AreAtTheirPlaces plan branch (side_units pairs) (turned_edges edges) →
    AreKept edges (time_at times) → IsOppositeOf times (length plan.events) schedule → CoversAllDurations plan 1 (proposal_with branch pairs (scheduled_time schedule))
opposites-meet plan branch pairs edges times schedule sound placed meet opposite =
    let q : Proposal = proposal_with branch pairs (scheduled_time schedule) in
    let found : ℕ → ℤ = λ node. neg_ℤ (time_at times node) in
    let events : HasTimesOf plan q found = λ e below. sym (opposite.each e below) in
    let worst : MeetsWorstCase plan 1 q found = worst_case-met plan q (turned_edges edges) found sound placed (turned-met edges (time_at times) meet) in
    covers plan 1 q found sound events worst

-- and no schedule from 0 on that does has an event before
opposites-least : (plan : Lists) (branch : List Pick) (pairs : List (SideKey × ℕ)) (edges : Edges) (times : List ℤ) (schedule : List ℕ) → IsSound plan → LeavesSome plan branch pairs → AreAtTheirPlaces plan branch (side_units pairs) (turned_edges edges) →
    AreGreatestTimes edges times → IsOppositeOf times (length plan.events) schedule → (others : ℕ → ℤ) → StartsAtZero plan others → CoversAllDurations plan 1 (proposal_with branch pairs others) →
    (e : ℕ) → e < length plan.events → scheduled_time schedule e ≤ℤ others e
opposites-least plan branch pairs edges times schedule sound leaves placed greatest opposite others starts meets e below =
    let q : Proposal = proposal_with branch pairs others in
    let all : ℕ → ℤ = times_from_zero plan q in
    let kept : AreKept (turned_edges edges) all = edges-met plan q (turned_edges edges) all placed.loosened (from_zero-meet plan q sound leaves starts meets) in
    let later : neg_ℤ (all e) ≤ℤ time_at times e =
    greatest.greatest (λ node. neg_ℤ (all node)) (turned_back-met edges all kept) (λ node inside. omega (arith, ints)) e (omega (arith, below, sound.counts.events)) in
    let own : all e ≡ others e = (AreExtremes-from_zero plan q sound leaves starts).events e below in
    omega (arith, ints, later, own, opposite.each e below)

pub IsEarliestSchedule-opposite : (plan : Lists) (branch : List Pick) (pairs : List (SideKey × ℕ)) (table : List (Option Edge)) (chosen : List Bool) (times : List ℤ) (schedule : List ℕ) → IsSound plan → LeavesSome plan branch pairs →
    AreAllChosen chosen → IsFilledBy (turned_tables branch (side_units pairs)) plan table → AreGreatestTimes (chosen_edges table chosen) times → IsOppositeOf times (length plan.events) schedule → IsEarliestSchedule plan branch pairs schedule
IsEarliestSchedule-opposite plan branch pairs table chosen times schedule sound leaves all filled greatest opposite =
    let edges : Edges = chosen_edges table chosen in
    let placed : AreAtTheirPlaces plan branch (side_units pairs) (turned_edges edges) = AreAtTheirPlaces-turned plan branch (side_units pairs) table chosen all filled in
    record {
      events = opposite.events_are;
      covers = opposites-meet plan branch pairs edges times schedule sound placed greatest.kept opposite;
      earliest = record {
        from_zero = λ e below. omega (arith, ints);
        least = opposites-least plan branch pairs edges times schedule sound leaves placed greatest opposite;
      };
    }

-- where loosened edges have such a closed walk, no times meet the requirements
none-meet : (plan : Lists) (branch : List Pick) (pairs : List (SideKey × ℕ)) (edges : Edges) (places : List Place) → IsSound plan → LeavesSome plan branch pairs → AreAtTheirPlaces plan branch (side_units pairs) edges → IsNegativeWalk edges places →
    (times : ℕ → ℤ) → CoversAllDurations plan 1 (proposal_with branch pairs times) → ⊥
none-meet plan branch pairs edges places sound leaves placed walk times meets =
    let q : Proposal = proposal_with branch pairs times in
    let extreme : ℕ → ℤ = extreme_times plan 1 q in
    let worst : MeetsWorstCase plan 1 q extreme = extremes-meet plan 1 q extreme sound leaves (extreme_times-are plan 1 q sound) meets in
    none_meet edges places extreme (edges-met plan q edges extreme placed.loosened worst) walk

pub HasNoSchedule-backward : (plan : Lists) (branch : List Pick) (pairs : List (SideKey × ℕ)) (table : List (Option Edge)) (chosen : List Bool) (places : List Place) → IsSound plan → LeavesSome plan branch pairs →
    AreAllChosen chosen → IsFilledBy (turned_tables branch (side_units pairs)) plan table → IsNegativeWalk (chosen_edges table chosen) places → HasNoSchedule plan branch pairs (reverse places)
HasNoSchedule-backward plan branch pairs table chosen places sound leaves all filled walk =
    let edges : Edges = turned_edges (chosen_edges table chosen) in
    let placed : AreAtTheirPlaces plan branch (side_units pairs) edges = AreAtTheirPlaces-turned plan branch (side_units pairs) table chosen all filled in
    let negative : IsNegativeWalk edges (reverse places) = IsNegativeWalk-backward (chosen_edges table chosen) places walk in
    record {
      none = none-meet plan branch pairs edges (reverse places) sound leaves placed negative;
      edges = edges;
      loosened = placed.loosened;
      negative = negative;
    }
