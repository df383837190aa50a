-- An evening at a restaurant and then at the cinema, in minutes: what shows the answers to its first two questions.
use Rattle.std.specs.Prelude.{ℕ, pos, slice_index_or, List, [], ◌∷◌, None, Some, codes}
use Rattle.uhura_plan.specs.declared.key.Side.TheVariants.{Lower, Upper}
use Rattle.uhura_plan.specs.declared.key.EdgeKey.{EdgeKey}
use Rattle.uhura_plan.specs.declared.key.EdgeKey.TheVariants.{Loose, Firm}
use Rattle.uhura_plan.specs.declared.key.EventRef.{EventRef}
use Rattle.uhura_plan.specs.declared.key.EventRef.TheVariants.{Controllable, End}
use Rattle.uhura_plan.specs.declared.guard.Literal.{Literal}
use Rattle.uhura_plan.specs.declared.requirement.Requirement.{Requirement}
use Rattle.uhura_plan.specs.declared.requirement.Bounded.{Bounded}
use Rattle.uhura_plan.specs.declared.uncertain.Uncertain.{Uncertain}
use Rattle.uhura_plan.specs.declared.choice.Choice.{Choice}
use Rattle.uhura_choice.specs.declared.prefix.Pick.{Pick}
use Rattle.uhura_choice.specs.declared.prefix.Pick.TheVariants.{Alternative}
use Rattle.uhura_veto.specs.declared.veto.Veto.TheVariants.{Deny}
use Rattle.uhura_veto.specs.State.{State}
use Rattle.uhura_worst.specs.Examples.{requirement_side, duration_side, unbounded, bounded, priced, flat}
use Rattle.uhura_plan.specs.declared.key.SideKey.{SideKey}
use Rattle.uhura_worst.specs.Units.{side_units}
use Rattle.uhura_worst.specs.Proposal.{Proposal}
use Rattle.uhura_shows.specs.Leaf.{LeafShown}
use Rattle.uhura_shows.specs.Examples.{denied, flow}

-- a drive from one event to the end of this name, of so many minutes, that may be cut at 4 a minute
abbrev pub drive : List ℕ → ℕ → List ℕ → ℕ → ℕ → Uncertain
drive name from to least most = record {
  name = name;
  start = from;
  end = to;
  lower = pos least;
  upper = pos most;
  lower_rate = None;
  upper_rate = Some (flat 4);
}

abbrev pub choice : List ℕ → List ℕ → List ℕ → ℕ → Choice
choice name free dear cost =
    record { name = name; alternatives = (free, 0) ∷ (dear, cost) ∷ []; guard = [] }

-- a requirement between two events, with its two bounds
abbrev pub requirement : List ℕ → ℕ → EventRef → EventRef → Bounded × Bounded → List Literal →
    Requirement
requirement name slot from to bounds guard = record {
  name = name;
  slot = slot;
  from = from;
  to = to;
  lower = bounds.0;
  upper = bounds.1;
  guard = guard;
}

-- where this alternative of the choice is picked
abbrev pub when : ℕ → ℕ → List Literal
when choice alternative = record { choice = choice; alternative = alternative } ∷ []

-- bounds of which one or both are there, and an upper one that may be loosened at a price
abbrev pub at_least : ℕ → Bounded × Bounded
at_least least = (bounded (pos least), unbounded)

abbrev pub at_most : ℕ → Bounded × Bounded
at_most most = (unbounded, bounded (pos most))

abbrev pub at_most_or : ℕ → ℕ → Bounded × Bounded
at_most_or rate most = (unbounded, priced (pos most) (flat rate))

abbrev pub within : ℕ → ℕ → Bounded × Bounded
within least most = (bounded (pos least), bounded (pos most))

-- a dinner of so many minutes, that may be up to 20 shorter, at 3 a minute
abbrev pub dinner_within : ℕ → ℕ → Bounded × Bounded
dinner_within least most = (
  record {
    bound = Some (pos least);
    price = Some (record { rate = 3; second = None; most = Some 20 });
  },
  bounded (pos most),
)

-- the events, the controllable ones in their order and then the ends of the drives
abbrev start : EventRef
start = Controllable 0

abbrev ready : EventRef
ready = Controllable 1

abbrev leave : EventRef
leave = Controllable 2

abbrev seated : EventRef
seated = Controllable 3

abbrev depart : EventRef
depart = Controllable 4

abbrev popcorn : EventRef
popcorn = Controllable 5

abbrev film : EventRef
film = Controllable 6

abbrev credits : EventRef
credits = Controllable 7

abbrev goodnight : EventRef
goodnight = Controllable 8

abbrev at_indian : EventRef
at_indian = End 0

abbrev at_thai : EventRef
at_thai = End 1

abbrev cinema_i : EventRef
cinema_i = End 2

abbrev cinema_t : EventRef
cinema_t = End 3

abbrev at_home : EventRef
at_home = End 4

abbrev pub evening_events : List (List ℕ)
evening_events =
    codes "start" ∷ codes "ready" ∷ codes "leave" ∷ codes "seated" ∷ codes "depart"
    ∷ codes "popcorn" ∷ codes "film" ∷ codes "credits" ∷ codes "goodnight" ∷ []

abbrev pub evening_drives : List Uncertain
evening_drives =
    drive (codes "to_indian") 2 (codes "at_indian") 25 40
    ∷ drive (codes "to_thai") 2 (codes "at_thai") 15 30
    ∷ drive (codes "from_indian") 4 (codes "cinema_i") 20 35
    ∷ drive (codes "from_thai") 4 (codes "cinema_t") 15 25
    ∷ drive (codes "back") 7 (codes "at_home") 30 45 ∷ []

abbrev pub evening_choices : List Choice
evening_choices =
    choice (codes "restaurant") (codes "indian") (codes "thai") 10
    ∷ choice (codes "showing") (codes "early") (codes "late") 15
    ∷ choice (codes "route") (codes "town") (codes "ring") 4 ∷ []

abbrev pub evening_requirements : List Requirement
evening_requirements =
    requirement (codes "go") 0 start leave (at_least 0) []
    ∷ requirement (codes "dress") 1 start ready (within 20 40) []
    ∷ requirement (codes "door") 2 ready leave (within 0 15) []
    ∷ requirement (codes "sit_i") 3 at_indian seated (at_least 0) (when 0 0)
    ∷ requirement (codes "sit_t") 4 at_thai seated (at_least 0) (when 0 1)
    ∷ requirement (codes "dinner_i") 5 seated depart (dinner_within 60 90) (when 0 0)
    ∷ requirement (codes "dinner_t") 6 seated depart (dinner_within 45 80) (when 0 1)
    ∷ requirement (codes "arrive_i") 7 cinema_i popcorn (at_least 0) (when 0 0)
    ∷ requirement (codes "arrive_t") 8 cinema_t popcorn (at_least 0) (when 0 1)
    ∷ requirement (codes "queue") 9 popcorn film (within 10 30) []
    ∷ requirement (codes "early") 10 start film (within 150 150) (when 1 0)
    ∷ requirement (codes "late") 11 start film (within 180 180) (when 1 1)
    ∷ requirement (codes "length") 12 film credits (within 110 110) []
    ∷ requirement (codes "keys") 13 at_home goodnight (at_least 5) []
    ∷ requirement (codes "home") 14 start goodnight (at_most_or 2 330) []
    ∷ requirement (codes "hungry") 15 start seated (at_most 100) []
    ∷ requirement (codes "park") 16 popcorn film (at_least 15) (when 2 0)
    ∷ requirement (codes "wait_i") 17 leave seated (at_most_or 1 60) (when 0 0)
    ∷ requirement (codes "wait_t") 18 leave seated (at_most_or 1 60) (when 0 1)
    ∷ requirement (codes "curfew") 19 start goodnight (at_most 400) [] ∷ []

abbrev pub evening : State
evening = record {
  plan = record {
    events = evening_events;
    uncertains = evening_drives;
    choices = evening_choices;
    requirements = evening_requirements;
  };
  vetoes = [];
}

-- the evening where the second restaurant is denied
abbrev pub without_thai : State
without_thai = record {
  plan = evening.plan;
  vetoes = Deny (codes "no_thai") (when 0 1) ∷ [];
}

-- the picks of the first two choices, and of all three
abbrev pub two : ℕ → ℕ → List Pick
two restaurant showing = Alternative restaurant ∷ Alternative showing ∷ []

abbrev pub three : ℕ → ℕ → ℕ → List Pick
three restaurant showing route =
    Alternative restaurant ∷ Alternative showing ∷ Alternative route ∷ []

-- With the first restaurant the early film comes 15 minutes too soon, at 3 a minute: so many units go from the start
-- through the film, the way there, dinner and the way to it back to the start.
abbrev pub too_soon : ℕ → List (EdgeKey × ℕ)
too_soon units =
    (Firm (requirement_side 1 Lower), units) ∷ (Firm (requirement_side 2 Lower), units)
    ∷ (Firm (requirement_side 3 Lower), units) ∷ (Loose (requirement_side 5 Lower), units)
    ∷ (Firm (requirement_side 7 Lower), units) ∷ (Firm (requirement_side 9 Lower), units)
    ∷ (Firm (requirement_side 10 Upper), units) ∷ (Loose (duration_side 0 Upper), units)
    ∷ (Loose (duration_side 2 Upper), units) ∷ []

-- With the late film they are home 10 minutes too late, at 2 a minute.
abbrev pub too_late : ℕ → List (EdgeKey × ℕ)
too_late units =
    (Firm (requirement_side 11 Lower), units) ∷ (Firm (requirement_side 12 Lower), units)
    ∷ (Firm (requirement_side 13 Lower), units) ∷ (Loose (requirement_side 14 Upper), units)
    ∷ (Loose (duration_side 4 Upper), units) ∷ []

-- the second restaurant and the early film cost 10, and nothing else does
abbrev pub first_leaves : List LeafShown
first_leaves =
    flow (two 0 0) (too_soon 3) ∷ flow (two 0 1) [] ∷ flow (three 1 0 0) []
    ∷ flow (three 1 0 1) [] ∷ flow (two 1 1) [] ∷ []

-- without it the late film costs 15, and 20 for being home late
abbrev pub second_leaves : List LeafShown
second_leaves =
    flow (two 0 0) (too_soon 3) ∷ flow (three 0 1 0) (too_late 2)
    ∷ flow (three 0 1 1) (too_late 2) ∷ denied (Alternative 1 ∷ []) 0 ∷ []

-- a proposal of this branch, with these units, and these times of the controllable events
abbrev pub answer : List Pick → List (SideKey × ℕ) → List ℕ → Proposal
answer branch pairs times = record {
  branch = branch;
  units = side_units pairs;
  times = λ e. pos (slice_index_or times e 0);
}

-- the answer to the first question: nothing is loosened
abbrev pub first_answer : Proposal
first_answer =
    answer (three 1 0 0) [] (0 ∷ 20 ∷ 20 ∷ 50 ∷ 95 ∷ 120 ∷ 150 ∷ 260 ∷ 310 ∷ [])

-- and that to the second: they are home 10 minutes late
abbrev pub second_answer : Proposal
second_answer =
    answer (three 0 1 0) ((requirement_side 14 Upper, 10) ∷ [])
    (0 ∷ 20 ∷ 20 ∷ 60 ∷ 120 ∷ 155 ∷ 180 ∷ 290 ∷ 340 ∷ [])
