use Rattle.std.proofs.Common.{rules, ◌≡◌, [], refl, arith}
use Rattle.std.proofs.lemmas.List.Elements.{All-nil, All-cons}
use Rattle.uhura_worst.specs.Examples.{two_sides}
use Rattle.uhura_shows.specs.Examples.{left}
use Rattle.uhura_check.specs.Confirmed.{proposal_of, answer_of}
use Rattle.uhura_check.specs.Conditions.{IsPicked}
use Rattle.uhura_check.specs.Conditions as ask
use Rattle.uhura_check.specs.Table.{Asked, IsKept}
use Rattle.uhura_check.specs.Examples.{left_for, document_with}
use Rattle.uhura_check.proofs.examples.stated_cost_is_checked.Goals as goal

left-picked : IsPicked two_sides left
left-picked = search rules

picks : Asked
picks = record { condition = ask.Picks (proposal_of two_sides.plan (left_for 4)); line = 8 }

pub returns : goal.returns
unfolding picks
returns c = record {
  place = 1;
  asked = record { condition = ask.Cost (proposal_of two_sides.plan (left_for 4)) 4; line = 8 };
  there = refl;
  fails = λ is. let same : 5 ≡ 4 = is in omega (arith, same);
  before = All-cons (IsKept two_sides (answer_of (document_with 4 1 1))) picks [] left-picked (All-nil (IsKept two_sides (answer_of (document_with 4 1 1))));
  has_code = refl;
  at_line = refl;
}
