-- Leaves of worked plans, on which the definitions are tried.
use Rattle.std.specs.Prelude.{ℕ, pos, List, [], ◌∷◌, codes}
use Rattle.uhura_plan.specs.declared.key.Side.TheVariants.{Lower, Upper}
use Rattle.uhura_plan.specs.declared.key.EdgeKey.{EdgeKey}
use Rattle.uhura_plan.specs.declared.key.EdgeKey.TheVariants.{Loose, Firm, Steep}
use Rattle.uhura_plan.specs.declared.requirement.Requirement.{Requirement}
use Rattle.uhura_plan.specs.declared.choice.Choice.{Choice}
use Rattle.uhura_choice.specs.declared.prefix.Pick.{Pick}
use Rattle.uhura_choice.specs.declared.prefix.Pick.TheVariants.{Alternative}
use Rattle.uhura_veto.specs.declared.veto.Veto.TheVariants.{Deny, Cap}
use Rattle.uhura_veto.specs.State.{State}
use Rattle.uhura_worst.specs.Examples.{requirement_side, duration_side, unbounded, bounded}
use Rattle.uhura_worst.specs.Examples.{near, far, side_choice, first_at_zero}
use Rattle.uhura_worst.specs.Units.{side_units}
use Rattle.uhura_worst.specs.Proposal.{Proposal}
use Rattle.uhura_shows.specs.Leaf.{Denied, Flow, Stuck, LeafShown}

abbrev pub denied : List Pick → ℕ → LeafShown
denied prefix veto = record { prefix = prefix; reason = Denied veto }

abbrev pub flow : List Pick → List (EdgeKey × ℕ) → LeafShown
flow prefix pairs = record { prefix = prefix; reason = Flow pairs }

abbrev pub stuck : List Pick → List EdgeKey → LeafShown
stuck prefix keys = record { prefix = prefix; reason = Stuck keys }

-- Of two sides that cost 5 and 3 the left one is free of the bound that clashes. The leaf of the right one has units
-- on the bound that may be loosened and on the one that may not.
abbrev pub left : List Pick
left = Alternative 0 ∷ []

abbrev pub right : List Pick
right = Alternative 1 ∷ []

abbrev pub clash_by : ℕ → ℕ → List (EdgeKey × ℕ)
clash_by loosened firm =
    (Loose (requirement_side 0 Upper), loosened) ∷ (Firm (requirement_side 1 Lower), firm) ∷ []

-- the leaves of both sides, with these units on the right
abbrev pub both_sides : List (EdgeKey × ℕ) → List LeafShown
both_sides pairs = flow left [] ∷ flow right pairs ∷ []

-- The drive with dinner capped at 4 minutes later has one leaf: units on dinner as stated, on dinner at its cap, and
-- on the drive.
abbrev pub drive_leaf : ℕ → ℕ → ℕ → LeafShown
drive_leaf stated capped cut = flow []
    ((Loose (requirement_side 0 Upper), stated) ∷ (Firm (requirement_side 0 Upper), capped)
    ∷ (Loose (duration_side 0 Upper), cut) ∷ [])

-- With dinner later at 2 a minute for 4 minutes and at 5 past them: units on dinner as stated, on its steep edge, and
-- on the drive.
abbrev pub rising_leaf : ℕ → ℕ → ℕ → LeafShown
rising_leaf stated past cut = flow []
    ((Loose (requirement_side 0 Upper), stated) ∷ (Steep (requirement_side 0 Upper), past)
    ∷ (Loose (duration_side 0 Upper), cut) ∷ [])

-- Two alternatives, each of them denied, and a cap.
abbrev pub both_denied : State
both_denied = record {
  plan = record {
    events = [];
    uncertains = [];
    choices = side_choice ∷ [];
    requirements = [];
  };
  vetoes = Deny (codes "n1") (record { choice = 0; alternative = 0 } ∷ [])
      ∷ Deny (codes "n2") (record { choice = 0; alternative = 1 } ∷ [])
      ∷ Cap (codes "n3") (duration_side 0 Upper) 4 ∷ [];
}

-- Two events at least 5 and at most 4 apart.
abbrev pub at_least_5 : Requirement
at_least_5 = record near { name = codes "p"; slot = 0; lower = bounded (pos 5); upper = unbounded }

abbrev pub at_most_4 : Requirement
at_most_4 = record near { name = codes "q"; slot = 1; upper = bounded (pos 4) }

abbrev pub clashing : State
clashing = record {
  plan = record {
    events = codes "a" ∷ codes "b" ∷ [];
    uncertains = [];
    choices = [];
    requirements = at_least_5 ∷ at_most_4 ∷ [];
  };
  vetoes = [];
}

-- Two choices. With the cheap alternative of the first, two bounds clash by 10 at 1 each; the dear one costs 4. The
-- second choice costs nothing.
abbrev pub price_choice : Choice
price_choice = record {
  name = codes "c";
  alternatives = (codes "cheap", 0) ∷ (codes "dear", 4) ∷ [];
  guard = [];
}

abbrev pub free_choice : Choice
free_choice = record {
  name = codes "d";
  alternatives = (codes "x", 0) ∷ (codes "y", 0) ∷ [];
  guard = [];
}

abbrev pub too_far : Requirement
too_far = record far {
  lower = bounded (pos 20);
  guard = record { choice = 0; alternative = 0 } ∷ [];
}

abbrev pub cheap_or_dear : State
cheap_or_dear = record {
  plan = record {
    events = codes "a" ∷ codes "b" ∷ [];
    uncertains = [];
    choices = price_choice ∷ free_choice ∷ [];
    requirements = near ∷ too_far ∷ [];
  };
  vetoes = [];
}

-- the dear alternative with the first and with the second of the free ones
abbrev pub dear_x : List Pick
dear_x = Alternative 1 ∷ Alternative 0 ∷ []

abbrev pub dear_y : List Pick
dear_y = Alternative 1 ∷ Alternative 1 ∷ []

-- the cheap alternative has one leaf for both of the free ones
abbrev pub cheap_leaf : LeafShown
cheap_leaf = flow left (clash_by 1 1)

-- the right side at scale 2: in halves, 12 after the first event, with its bound loosened by 2
abbrev pub right_in_halves : Proposal
right_in_halves = record {
  branch = right;
  units = side_units ((requirement_side 0 Upper, 4) ∷ []);
  times = first_at_zero (pos 24);
}
