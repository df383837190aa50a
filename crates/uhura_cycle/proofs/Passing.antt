-- How the steps taken one by one make a pass.
use Rattle.std.proofs.Common.{◌≡◌, ℕ, ◌+◌, ◌<◌, ◌≤◌, ℤ, pos, ◌≤ℤ◌, ◌<ℤ◌, List, length, take, set, slice_index_or, Option, None, Some, MatchOption, ◌⊎◌, inl, inr, arith}
use Rattle.std.specs.List.{All}
use Rattle.std.proofs.lemmas.Bool.{cases_eq}
use Rattle.std.proofs.lemmas.Grind.{get_or-set_at}
use Rattle.std.proofs.lemmas.Int.{ints}
use Rattle.std.proofs.lemmas.List.{take_all, get_or-set_same, get_or-set_other}
use Rattle.std.proofs.lemmas.List.Elements.{All-more, All-weaker}
use Rattle.uhura_net.specs.declared.edge.TheConstants.{NODES}
use Rattle.uhura_net.specs.Table.{IsEdgeFor}
use Rattle.uhura_net.specs.Edges.{Edges, time_at}
use Rattle.uhura_cycle.specs.declared.step.Step.{Step}
use Rattle.uhura_cycle.specs.Steps.{Labels, AreThere, AreSoundSteps, HasTimesFrom, allowed_by, lowered_by, IsKept}
use Rattle.uhura_cycle.specs.Descent.{Course, History, IsDescent, IsKeptSince, IsAfterPasses, IsPassed, IsPass}
use Rattle.uhura_cycle.proofs.Lowering.{lowered_in, IsDescent-lowered, IsKeptSince-lowered, kept_here, pass_here, passed_after}

-- what stands after the first steps of a pass, by the node that was lowered last in it, if one was
pub record IsPassing (course : Course) (passes taken : ℕ) (labels : Labels) (last : Option ℕ) : Type 0 where
  pub history : History
  pub descent : IsDescent course.edges labels history
  pub kept : All (IsKeptSince passes labels.times history) course.steps
  pub kept_now : All (IsKeptSince (passes + 1) labels.times history) (take taken course.steps)
  pub passed : (node : ℕ) → history.pass node ≤ passes + 1
  pub last_is : MatchOption last (All (IsKept labels.times) (take taken course.steps)) (λ node. (node < NODES) × (history.pass node ≡ passes + 1))

-- the steps over edges, down to a lowest time
abbrev pub course_over : List Step → ℤ → Edges → Course
course_over steps lowest edges = record { edges = edges; steps = steps; lowest = lowest }

-- what stands of the times alone, and of a descent
pub record IsPassSoFar (steps : List Step) (lowest : ℤ) (taken : ℕ) (old new : Labels) (last : Option ℕ) : Type 0 where
  pub above : HasTimesFrom lowest new.times
  pub most : (node : ℕ) → time_at new.times node ≤ℤ pos 0
  pub passing : (edges : Edges) (passes : ℕ) (history : History) → AreThere edges steps →
      IsAfterPasses (course_over steps lowest edges) passes old history → IsPassing (course_over steps lowest edges) passes taken new last

-- after a write a node has the time written, or its old one
time_at-set : (times : List ℤ) (at node : ℕ) (value : ℤ) → at < length times →
    (time_at (set times at value) node ≡ value) ⊎ (time_at (set times at value) node ≡ time_at times node)
time_at-set times at node value inside =
    elim (cases_eq node at) [
      | inl same ↦ inl (get_or-set_at times at node value (pos 0) same inside)
      | inr other ↦ inr (get_or-set_other times at node value (pos 0) other)
    ]

module _ (steps : List Step) (lowest : ℤ) (taken : ℕ) (d : Step) (old now : Labels) (last : Option ℕ) (more : taken < length steps) (sound : AreSoundSteps steps)
    (in_times : length now.times ≡ NODES) (in_backs : length now.backs ≡ NODES) (so_far : IsPassSoFar steps lowest taken old now last) where
  abbrev step : Step
  step = slice_index_or steps taken d

  abbrev allowed : ℤ
  allowed = allowed_by step now.times

  -- a step that lowers its end
  pub IsPassing-lowered : (edges : Edges) (passes : ℕ) (history : History) → AreThere edges steps →
      IsAfterPasses (course_over steps lowest edges) passes old history → allowed <ℤ time_at now.times step.edge.to →
      IsPassing (course_over steps lowest edges) passes (taken + 1) (lowered_by step now) (Some step.edge.to)
  IsPassing-lowered edges passes history there before less =
      let passing = so_far.passing edges passes history there before in
      let fits : IsEdgeFor step.place.0 step.edge = sound taken d more in
      let within : step.edge.to < length now.times = omega (arith, fits.to) in
      let within_backs : step.edge.to < length now.backs = omega (arith, fits.to) in
      let ready : passes + 1 ≤ passing.history.pass step.edge.from + 1 = omega (arith, passing.kept taken d more less) in
      let after : Labels = lowered_by step now in
      let later : History = lowered_in (passes + 1) step.edge.to passing.history in
      let still : (since : ℕ) (other : Step) → since ≤ passes + 1 → IsKeptSince since now.times passing.history other → IsKeptSince since after.times later other =
      IsKeptSince-lowered edges now passing.history step (passes + 1) within within_backs (there taken d more) fits.from fits.apart less ready passing.passed passing.descent in
      let here : IsKept after.times step =
      kept_here edges now passing.history step (passes + 1) within within_backs (there taken d more) fits.from fits.apart less ready passing.passed passing.descent in
      record {
        history = later;
        descent = IsDescent-lowered edges now passing.history step (passes + 1) within within_backs (there taken d more) fits.from fits.apart less ready passing.passed passing.descent;
        kept = All-weaker (IsKeptSince passes now.times passing.history) (IsKeptSince passes after.times later) (λ other. still passes other (omega arith)) steps passing.kept;
        kept_now = All-more (IsKeptSince (passes + 1) after.times later) steps taken d more
            (All-weaker (IsKeptSince (passes + 1) now.times passing.history) (IsKeptSince (passes + 1) after.times later) (λ other. still (passes + 1) other (omega arith)) (take taken steps) passing.kept_now)
            (λ wants. absurd (omega (arith, ints, here, wants)));
        passed = passed_after edges now passing.history step (passes + 1) within within_backs (there taken d more) fits.from fits.apart less ready passing.passed passing.descent;
        last_is = (fits.to, pass_here edges now passing.history step (passes + 1) within within_backs (there taken d more) fits.from fits.apart less ready passing.passed passing.descent);
      }

  pub IsPassSoFar-lowered : allowed <ℤ time_at now.times step.edge.to → lowest ≤ℤ allowed →
      IsPassSoFar steps lowest (taken + 1) old (lowered_by step now) (Some step.edge.to)
  IsPassSoFar-lowered less above =
      let within : step.edge.to < length now.times = omega (arith, (sound taken d more).to) in
      record {
        above = λ node.
            elim (time_at-set now.times step.edge.to node allowed within) [
              | inl written ↦ omega (arith, ints)
              | inr same ↦ omega (arith, ints, so_far.above node)
            ];
        most = λ node.
            elim (time_at-set now.times step.edge.to node allowed within) [
              | inl written ↦ omega (arith, ints, so_far.most step.edge.to)
              | inr same ↦ omega (arith, ints, so_far.most node)
            ];
        passing = λ edges passes history there before. IsPassing-lowered edges passes history there before less;
      }

  -- one that lowers it below the lowest time ends the pass
  pub IsPassed-early : (edges : Edges) (passes : ℕ) (history : History) → AreThere edges steps →
      IsAfterPasses (course_over steps lowest edges) passes old history → allowed <ℤ time_at now.times step.edge.to → allowed <ℤ lowest →
      IsPassed (course_over steps lowest edges) (passes + 1) (lowered_by step now) step.edge.to
  IsPassed-early edges passes history there before less low =
      let passing = IsPassing-lowered edges passes history there before less in
      let within : step.edge.to < length now.times = omega (arith, (sound taken d more).to) in
      record {
        history = passing.history;
        descent = passing.descent;
        inside = passing.last_is.0;
        end = inl (omega (arith, ints, low, get_or-set_same now.times step.edge.to allowed (pos 0) within));
      }

  -- one that is kept
  last-kept : (history : History) (passes : ℕ) (other : Option ℕ) → IsKept now.times step →
      MatchOption other (All (IsKept now.times) (take taken steps)) (λ node. (node < NODES) × (history.pass node ≡ passes + 1)) →
      MatchOption other (All (IsKept now.times) (take (taken + 1) steps)) (λ node. (node < NODES) × (history.pass node ≡ passes + 1))
  last-kept history passes None kept all = All-more (IsKept now.times) steps taken d more all kept
  last-kept history passes (Some node) kept lowered = lowered

  pub IsPassSoFar-kept : IsKept now.times step → IsPassSoFar steps lowest (taken + 1) old now last
  IsPassSoFar-kept kept = record {
    above = so_far.above;
    most = so_far.most;
    passing = λ edges passes history there before.
        let passing = so_far.passing edges passes history there before in
        record {
          history = passing.history;
          descent = passing.descent;
          kept = passing.kept;
          kept_now = All-more (IsKeptSince (passes + 1) now.times passing.history) steps taken d more passing.kept_now
              (λ wants. absurd (omega (arith, ints, kept, wants)));
          passed = passing.passed;
          last_is = last-kept passing.history passes last kept passing.last_is;
        };
  }

-- after all steps
pub IsPass-done : (course : Course) (passes taken : ℕ) (labels : Labels) (last : Option ℕ) → length course.steps ≤ taken →
    HasTimesFrom course.lowest labels.times → IsPassing course passes taken labels last → IsPass course (passes + 1) labels last
IsPass-done course passes taken labels None all above passing = record {
  history = passing.history;
  descent = passing.descent;
  kept = rw (take_all taken course.steps all) at passing.last_is;
  above = above;
}
IsPass-done course passes taken labels (Some node) all above passing = record {
  history = passing.history;
  descent = passing.descent;
  inside = passing.last_is.0;
  end = inr (
    record {
      descent = passing.descent;
      kept = rw (take_all taken course.steps all) at passing.kept_now;
      passed = passing.passed;
      above = above;
    },
    passing.last_is.1,
  );
}
