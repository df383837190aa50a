-- The durations, choices and requirements that a generator at the number `x` gives.
use Rattle.std.specs.Prelude.{ℕ, ◌+◌, ◌-◌, ◌*◌, ◌%◌, ℤ, pos, List, [], ◌∷◌, map, None, Some}
use Rattle.uhura_plan.specs.declared.key.EventRef.TheVariants.{Controllable, End}
use Rattle.uhura_plan.specs.declared.price.Rate.{Rate}
use Rattle.uhura_plan.specs.declared.uncertain.Uncertain.{Uncertain}
use Rattle.uhura_plan.specs.declared.choice.Choice.{Choice}
use Rattle.uhura_plan.specs.declared.requirement.Bounded.{Bounded}
use Rattle.uhura_plan.specs.declared.requirement.Requirement.{Requirement}
use Rattle.uhura_gen.specs.Draws.{drawn, span_drawn}
use Rattle.uhura_gen.specs.Names.{up_to, duration_name, end_name, choice_name, alternative_name, step_name, stop_name, whole_name}

-- a rate without a second price
abbrev pub plain_rate : ℕ → Rate
plain_rate first = record { first = first; second = None }

-- the duration in this place, from every fourth controllable event, by four draws
abbrev pub duration : ℕ → ℕ → Uncertain
duration x place = let span = span_drawn x 20 20 in record {
  name = duration_name place;
  start = 4 * place;
  end = end_name place;
  lower = span.lower;
  upper = span.upper;
  lower_rate = Some (plain_rate span.lower_price);
  upper_rate = Some (plain_rate span.upper_price);
}

-- the alternative in this place, whose cost is drawn after those of the alternatives before it
abbrev pub alternative : ℕ → ℕ → List ℕ × ℕ
alternative x place = (alternative_name place, drawn x place 30)

-- the choice in this place, of three alternatives, by three draws
abbrev pub choice : ℕ → ℕ → Choice
choice x place = record {
  name = choice_name place;
  alternatives = map (alternative x) (up_to 3);
  guard = [];
}

-- a bound that may be loosened by any number of units, each at this price
abbrev pub priced : ℤ → ℕ → Bounded
priced bound price = record {
  bound = Some bound;
  price = Some (record { rate = price; second = None; most = None });
}

-- a side without a bound
abbrev pub unbounded : Bounded
unbounded = record { bound = None; price = None }

-- the requirement from the controllable event in this place to the next one, by four draws
abbrev pub step : ℕ → ℕ → Requirement
step x place = let span = span_drawn x 10 40 in record {
  name = step_name (place + 1);
  slot = place;
  from = Controllable place;
  to = Controllable (place + 1);
  lower = priced span.lower span.lower_price;
  upper = priced span.upper span.upper_price;
  guard = [];
}

-- the requirement from the end of the duration in this place to the last of the four controllable events that
-- are the duration's, by four draws, where the choices in turn pick an alternative, by the fifth
abbrev pub stop : ℕ → ℕ → ℕ → Requirement
stop x slot place = let span = span_drawn x 10 30 in record {
  name = stop_name place;
  slot = slot;
  from = End place;
  to = Controllable (4 * place + 3);
  lower = priced span.lower span.lower_price;
  upper = priced span.upper span.upper_price;
  guard = record { choice = place % 3; alternative = drawn x 4 3 } ∷ [];
}

-- the requirement from the first to the last of so many controllable events, by two draws
abbrev pub whole : ℕ → ℕ → ℕ → Requirement
whole x slot events = record {
  name = whole_name;
  slot = slot;
  from = Controllable 0;
  to = Controllable (events - 1);
  lower = unbounded;
  upper = priced (pos (drawn x 0 (10 * events))) (1 + drawn x 1 50);
  guard = [];
}
