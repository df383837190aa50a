-- The answer of an edit of the plan or of its vetoes is the state's.
use Rattle.std.proofs.Common.{◌≡◌, ℕ, false, List, Option, Some, None, option_map, Result, Ok, Err, ap, subst, ◌∙◌}
use Rattle.uhura_plan.specs.declared.refusal.EditRefusal.{EditRefusal}
use Rattle.uhura_plan.specs.declared.key.Side.{Side}
use Rattle.uhura_plan.specs.Limits.{IsAmount}
use Rattle.uhura_plan.specs.Refusals.{Answers, AnswersAlways}
use Rattle.uhura_line.specs.declared.command.Command.{Command}
use Rattle.uhura_line.specs.declared.command.Command.TheVariants as command
use Rattle.uhura_line.specs.declared.command.ItemName.{ItemName}
use Rattle.uhura_line.specs.Reads.{IsCommand}
use Rattle.uhura_line.proofs.CommandLimits.{amount_within}
use Rattle.uhura_command.specs.declared.state.refusal.StateRefusal.{StateRefusal}
use Rattle.uhura_command.specs.Apply.{of_edit, AnswersFirst, SucceedsAlways, IsPassedOn}

-- where the plan refuses its edit first of all, the state refuses the command first of all
pub answers_first : (first : Option EditRefusal) (edited : Result (Unit {0}) EditRefusal) (result : Result (Unit {0}) StateRefusal)
    → Answers first edited → IsPassedOn edited result → AnswersFirst (option_map of_edit first) result
answers_first None (Ok done) result answered passed = rw passed tt
answers_first None (Err refusal) result answered passed = rw passed (ap of_edit answered)
answers_first (Some refusal) (Ok done) result answered passed = let no : ⊥ = cc in absurd no
answers_first (Some refusal) (Err other) result answered passed = let same : other ≡ refusal = cc in passed ∙ ap (λ r. Err (of_edit r)) same

-- and so where the edit takes no memory
pub answers_always : (first : Option EditRefusal) (edited : Result (Unit {0}) EditRefusal) (result : Result (Unit {0}) StateRefusal)
    → AnswersAlways first edited → IsPassedOn edited result → AnswersFirst (option_map of_edit first) result
answers_always None (Ok done) result answered passed = rw passed tt
answers_always None (Err refusal) result answered passed = let no : ⊥ = cc in absurd no
answers_always (Some refusal) (Ok done) result answered passed = let no : ⊥ = cc in absurd no
answers_always (Some refusal) (Err other) result answered passed = let same : other ≡ refusal = cc in passed ∙ ap (λ r. Err (of_edit r)) same

-- and it succeeds then
pub succeeds_always : (first : Option EditRefusal) (edited : Result (Unit {0}) EditRefusal) (result : Result (Unit {0}) StateRefusal)
    → AnswersAlways first edited → IsPassedOn edited result → SucceedsAlways false (option_map of_edit first) result
succeeds_always None (Ok done) result answered passed = passed
succeeds_always None (Err refusal) result answered passed = let no : ⊥ = cc in absurd no
succeeds_always (Some refusal) edited result answered passed = tt

-- the units of a cap that a line can give are an amount
pub units_within : (c : Command) (name : List ℕ) (item : ItemName) (side : Side) (units : ℕ) → IsCommand c → c ≡ command.Cap name item side units → IsAmount units
units_within c name item side units good is = amount_within units (subst IsCommand is good).numbers
