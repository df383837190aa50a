-- Worked plans on which the definitions are tried.
use Rattle.std.specs.Prelude.{ℕ, zero, suc, ℤ, pos, List, [], ◌∷◌, None, Some, codes}
use Rattle.uhura_plan.specs.declared.key.Side.{Side}
use Rattle.uhura_plan.specs.declared.key.Side.TheVariants.{Lower, Upper}
use Rattle.uhura_plan.specs.declared.key.Item.TheVariants as item
use Rattle.uhura_plan.specs.declared.key.SideKey.{SideKey}
use Rattle.uhura_plan.specs.declared.key.EventRef.TheVariants.{Controllable, End}
use Rattle.uhura_plan.specs.declared.price.Rate.{Rate}
use Rattle.uhura_plan.specs.declared.requirement.Requirement.{Requirement}
use Rattle.uhura_plan.specs.declared.requirement.Bounded.{Bounded}
use Rattle.uhura_plan.specs.declared.uncertain.Uncertain.{Uncertain}
use Rattle.uhura_plan.specs.declared.choice.Choice.{Choice}
use Rattle.uhura_choice.specs.declared.prefix.Pick.{Pick}
use Rattle.uhura_choice.specs.declared.prefix.Pick.TheVariants.{Alternative}
use Rattle.uhura_net.specs.declared.edge.TheConstants.{FIRM_CAPACITY}
use Rattle.uhura_net.specs.declared.edge.Edge.{Edge}
use Rattle.uhura_veto.specs.declared.veto.Veto.TheVariants.{Deny, Cap}
use Rattle.uhura_veto.specs.State.{State}
use Rattle.uhura_worst.specs.Units.{side_units}
use Rattle.uhura_worst.specs.Proposal.{Proposal}

-- one price for each unit, and one that is greater past so many units
abbrev pub flat : ℕ → Rate
flat first = record { first = first; second = None }

abbrev pub rising : ℕ → ℕ → ℕ → Rate
rising first after rate = record {
  first = first;
  second = Some (record { after = after; rate = rate });
}

-- a side without a bound, with a bound, and with a bound and a rate
abbrev pub unbounded : Bounded
unbounded = record { bound = None; price = None }

abbrev pub bounded : ℤ → Bounded
bounded b = record { bound = Some b; price = None }

abbrev pub priced : ℤ → Rate → Bounded
priced b rate = record {
  bound = Some b;
  price = Some (record { rate = rate.first; second = rate.second; most = None });
}

-- the proposal with this branch and these units that puts every event at 0
abbrev pub at_zero : List Pick → List (SideKey × ℕ) → Proposal
at_zero branch pairs = record { branch = branch; units = side_units pairs; times = λ e. pos 0 }

abbrev pub requirement_side : ℕ → Side → SideKey
requirement_side slot side = record { item = item.Requirement slot; side = side }

abbrev pub duration_side : ℕ → Side → SideKey
duration_side d side = record { item = item.Uncertain d; side = side }

-- an edge from one node to another with this bound and capacity
abbrev pub edge : ℕ → ℕ → ℤ → ℕ → Edge
edge from to bound capacity = record { from = from; to = to; bound = bound; capacity = capacity }

abbrev pub firm : ℕ → ℕ → ℤ → Edge
firm from to bound = edge from to bound FIRM_CAPACITY

-- A drive of 30 to 50 minutes that may be cut at 3 a minute, with dinner at most 40 minutes after leaving home,
-- or later at 2 a minute.
abbrev pub drive : Uncertain
drive = record {
  name = codes "drive";
  start = 0;
  end = codes "arrive";
  lower = pos 30;
  upper = pos 50;
  lower_rate = None;
  upper_rate = Some (flat 3);
}

abbrev pub dinner : Requirement
dinner = record {
  name = codes "dinner";
  slot = 0;
  from = Controllable 0;
  to = End 0;
  lower = unbounded;
  upper = priced (pos 40) (flat 2);
  guard = [];
}

abbrev pub evening_drive : State
evening_drive = record {
  plan = record {
    events = codes "home" ∷ [];
    uncertains = drive ∷ [];
    choices = [];
    requirements = dinner ∷ [];
  };
  vetoes = [];
}

-- dinner later by so many minutes
abbrev pub dinner_later : ℕ → Proposal
dinner_later minutes = at_zero [] ((requirement_side 0 Upper, minutes) ∷ [])

-- The same drive, with dinner later at 2 a minute for 4 minutes and at 5 past them.
abbrev pub rising_dinner : Requirement
rising_dinner = record dinner { upper = priced (pos 40) (rising 2 4 5) }

abbrev pub rising_evening : State
rising_evening = record {
  plan = record evening_drive.plan { requirements = rising_dinner ∷ [] };
  vetoes = [];
}

-- The first drive, with dinner capped at 6 minutes later and then at 4.
abbrev pub capped_drive : State
capped_drive = record {
  plan = evening_drive.plan;
  vetoes = Cap (codes "some") (requirement_side 0 Upper) 6
      ∷ Cap (codes "less") (requirement_side 0 Upper) 4 ∷ [];
}

-- dinner later by the one number and the drive cut by the other
abbrev pub later_and_cut : ℕ → ℕ → Proposal
later_and_cut later cut = at_zero []
    ((requirement_side 0 Upper, later) ∷ (duration_side 0 Upper, cut) ∷ [])

-- A duration of 10 to 20 whose end is to come at least 16 and at most 14 after its start. It may be narrowed at
-- both ends, but not to nothing.
abbrev pub stretch : Uncertain
stretch = record {
  name = codes "d";
  start = 0;
  end = codes "e";
  lower = pos 10;
  upper = pos 20;
  lower_rate = Some (flat 2);
  upper_rate = Some (flat 3);
}

abbrev pub not_before : Requirement
not_before = record {
  name = codes "p";
  slot = 0;
  from = Controllable 0;
  to = End 0;
  lower = bounded (pos 16);
  upper = unbounded;
  guard = [];
}

abbrev pub not_after : Requirement
not_after = record {
  name = codes "q";
  slot = 1;
  from = Controllable 0;
  to = End 0;
  lower = unbounded;
  upper = bounded (pos 14);
  guard = [];
}

abbrev pub squeezed : State
squeezed = record {
  plan = record {
    events = codes "s" ∷ [];
    uncertains = stretch ∷ [];
    choices = [];
    requirements = not_before ∷ not_after ∷ [];
  };
  vetoes = [];
}

-- the range from 16 to 14 is left
abbrev pub narrowed_to_nothing : Proposal
narrowed_to_nothing = at_zero [] ((duration_side 0 Lower, 6) ∷ (duration_side 0 Upper, 6) ∷ [])

-- A duration of 10 to 20 that may be cut at 1 for 5 units and at 4 past them, with its end at most 8 after its start,
-- or later at 3 each.
abbrev pub rising_stretch : Uncertain
rising_stretch = record stretch { lower_rate = None; upper_rate = Some (rising 1 5 4) }

abbrev pub soon_after : Requirement
soon_after = record not_after { slot = 0; upper = priced (pos 8) (flat 3) }

abbrev pub rising_cut : State
rising_cut = record {
  plan = record squeezed.plan {
    uncertains = rising_stretch ∷ [];
    requirements = soon_after ∷ [];
  };
  vetoes = [];
}

-- A duration of 10 to 20 whose range may begin later at 1 for 5 units and at 4 past them, with its end at least 16
-- after its start, or sooner at 2 for 3 units and at 5 past them.
abbrev pub rising_from_below : State
rising_from_below = record {
  plan = record squeezed.plan {
    uncertains = record stretch { lower_rate = Some (rising 1 5 4) } ∷ [];
    requirements = record not_before { lower = priced (pos 16) (rising 2 3 5) } ∷ [];
  };
  vetoes = [];
}

-- Two alternatives, of cost 5 and 3. With the second, b comes at least 12 after a, and one bound has to be
-- loosened by 2 at 1 each: so both branches cost 5.
abbrev pub side_choice : Choice
side_choice = record {
  name = codes "c";
  alternatives = (codes "left", 5) ∷ (codes "right", 3) ∷ [];
  guard = [];
}

abbrev pub near : Requirement
near = record {
  name = codes "near";
  slot = 0;
  from = Controllable 0;
  to = Controllable 1;
  lower = unbounded;
  upper = priced (pos 10) (flat 1);
  guard = [];
}

abbrev pub far : Requirement
far = record {
  name = codes "far";
  slot = 1;
  from = Controllable 0;
  to = Controllable 1;
  lower = bounded (pos 12);
  upper = unbounded;
  guard = record { choice = 0; alternative = 1 } ∷ [];
}

abbrev pub two_sides : State
two_sides = record {
  plan = record {
    events = codes "a" ∷ codes "b" ∷ [];
    uncertains = [];
    choices = side_choice ∷ [];
    requirements = near ∷ far ∷ [];
  };
  vetoes = [];
}

abbrev pub by_left : Proposal
by_left = at_zero (Alternative 0 ∷ []) []

-- the first event at 0, and every other at this time
abbrev pub first_at_zero : ℤ → ℕ → ℤ
first_at_zero time zero = pos 0
first_at_zero time (suc e) = time

abbrev pub by_right : Proposal
by_right = record {
  branch = Alternative 1 ∷ [];
  units = side_units ((requirement_side 0 Upper, 2) ∷ []);
  times = first_at_zero (pos 12);
}

-- Two drives from one start, of 10 to 20 and of 30 to 50. Their ends come 15 to 35 apart, or less or more at 1 each.
abbrev pub short : Uncertain
short = record {
  name = codes "d";
  start = 0;
  end = codes "x";
  lower = pos 10;
  upper = pos 20;
  lower_rate = None;
  upper_rate = None;
}

abbrev pub long : Uncertain
long = record {
  name = codes "f";
  start = 0;
  end = codes "y";
  lower = pos 30;
  upper = pos 50;
  lower_rate = None;
  upper_rate = None;
}

abbrev pub gap : Requirement
gap = record {
  name = codes "gap";
  slot = 0;
  from = End 0;
  to = End 1;
  lower = priced (pos 15) (flat 1);
  upper = priced (pos 35) (flat 1);
  guard = [];
}

abbrev pub two_drives : State
two_drives = record {
  plan = record {
    events = codes "s" ∷ [];
    uncertains = short ∷ long ∷ [];
    choices = [];
    requirements = gap ∷ [];
  };
  vetoes = [];
}

-- the gap's bounds loosened by so many
abbrev pub gap_by : ℕ → ℕ → Proposal
gap_by lower upper = at_zero []
    ((requirement_side 0 Lower, lower) ∷ (requirement_side 0 Upper, upper) ∷ [])

-- The same drives, with their ends at least 10 and at most so many apart.
abbrev pub apart : ℕ → Requirement
apart most = record {
  name = codes "gap";
  slot = 0;
  from = End 0;
  to = End 1;
  lower = bounded (pos 10);
  upper = bounded (pos most);
  guard = [];
}

abbrev pub drives_apart : ℕ → State
drives_apart most = record {
  plan = record {
    events = codes "s" ∷ [];
    uncertains = short ∷ long ∷ [];
    choices = [];
    requirements = apart most ∷ [];
  };
  vetoes = [];
}

-- A drive of 30 to 50 minutes to a film. The film begins when the drive is over or later, and at most so many minutes
-- after leaving home. Nothing may be loosened.
abbrev pub plain_drive : Uncertain
plain_drive = record drive { upper_rate = None }

abbrev pub in_time : Requirement
in_time = record {
  name = codes "w";
  slot = 0;
  from = End 0;
  to = Controllable 1;
  lower = bounded (pos 0);
  upper = unbounded;
  guard = [];
}

abbrev pub film_within : ℕ → Requirement
film_within most = record {
  name = codes "z";
  slot = 1;
  from = Controllable 0;
  to = Controllable 1;
  lower = unbounded;
  upper = bounded (pos most);
  guard = [];
}

abbrev pub drive_to_film : ℕ → State
drive_to_film most = record {
  plan = record {
    events = codes "home" ∷ codes "film" ∷ [];
    uncertains = plain_drive ∷ [];
    choices = [];
    requirements = in_time ∷ film_within most ∷ [];
  };
  vetoes = [];
}

-- leaving home at 0 for a film at this time, with nothing loosened
abbrev pub film_at : ℕ → Proposal
film_at time = record { branch = []; units = side_units []; times = first_at_zero (pos time) }

-- A meal at home for 0 or out for 5. Out, it is at one of two places for 9 each, and the first of them is denied.
abbrev pub meal : Choice
meal = record {
  name = codes "meal";
  alternatives = (codes "home", 0) ∷ (codes "out", 5) ∷ [];
  guard = [];
}

abbrev pub place : Choice
place = record {
  name = codes "place";
  alternatives = (codes "indian", 9) ∷ (codes "thai", 9) ∷ [];
  guard = record { choice = 0; alternative = 1 } ∷ [];
}

abbrev pub dining : State
dining = record {
  plan = record {
    events = codes "a" ∷ [];
    uncertains = [];
    choices = meal ∷ place ∷ [];
    requirements = [];
  };
  vetoes = Deny (codes "no_indian") (record { choice = 1; alternative = 0 } ∷ []) ∷ [];
}

-- the proposal with these two picks
abbrev pub dine : Pick → Pick → Proposal
dine first second = at_zero (first ∷ second ∷ []) []

-- dinner as above, later by at most 3
abbrev pub dinner_at_most : Requirement
dinner_at_most = record dinner {
  upper = record {
    bound = Some (pos 40);
    price = Some (record { rate = 2; second = None; most = Some 3 });
  };
}

-- A duration of 10 to 20, after another in the list, that has to take 15.
abbrev pub exact : Requirement
exact = record {
  name = codes "r";
  slot = 0;
  from = Controllable 0;
  to = End 1;
  lower = bounded (pos 15);
  upper = bounded (pos 15);
  guard = [];
}

abbrev pub pinned : State
pinned = record {
  plan = record {
    events = codes "s" ∷ [];
    uncertains = long ∷ stretch ∷ [];
    choices = [];
    requirements = exact ∷ [];
  };
  vetoes = [];
}

-- the range from 10 to 20 narrowed by so many at its two ends
abbrev pub pinned_by : ℕ → ℕ → Proposal
pinned_by lower upper = at_zero []
    ((duration_side 1 Lower, lower) ∷ (duration_side 1 Upper, upper) ∷ [])
