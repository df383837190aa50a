-- What lowering one node leaves of a descent.
use Rattle.std.proofs.Common.{◌≡◌, ◌≢◌, ℕ, ◌+◌, ◌<◌, ◌≤◌, cond, eqb, pos, ◌≤ℤ◌, ◌<ℤ◌, length, None, Some, inl, inr, refl, sym, ap, ◌∙◌, arith}
use Rattle.std.proofs.lemmas.Bool.{cases_eq, eq-eqb, ne_eqb}
use Rattle.std.proofs.lemmas.Int.{ints}
use Rattle.std.proofs.lemmas.List.{get_or-set_same, get_or-set_other}
use Rattle.uhura_net.specs.declared.edge.TheConstants.{NODES}
use Rattle.uhura_net.specs.Edges.{Edges, time_at}
use Rattle.uhura_cycle.specs.declared.step.Step.{Step}
use Rattle.uhura_cycle.specs.Steps.{Labels, back_of, allowed_by, lowered_by, IsKept}
use Rattle.uhura_cycle.specs.Descent.{History, IsLowered, IsDescent, IsKeptSince}

-- a function with another value at one number
abbrev pub changed_at : (ℕ → ℕ) → ℕ → ℕ → ℕ → ℕ
changed_at f at value n = cond (eqb n at) value (f n)

changed_at-same : (f : ℕ → ℕ) (at value : ℕ) → changed_at f at value at ≡ value
changed_at-same f at value = rw (eq-eqb at at refl) refl

changed_at-other : (f : ℕ → ℕ) (at value n : ℕ) → n ≢ at → changed_at f at value n ≡ f n
changed_at-other f at value n other = rw (ne_eqb n at other) refl

-- the history after a node is lowered in a pass
abbrev pub lowered_in : ℕ → ℕ → History → History
lowered_in pass node history = record {
  pass = changed_at history.pass node pass;
  moment = changed_at history.moment node history.now;
  now = history.now + 1;
}

-- a step that wants its end lowered, in a pass that none of the nodes is past
module _ (edges : Edges) (labels : Labels) (history : History) (step : Step) (pass : ℕ)
    (in_times : step.edge.to < length labels.times) (in_backs : step.edge.to < length labels.backs)
    (there : edges step.place.0 ≡ Some step.edge) (inside : step.edge.from < NODES) (apart : step.edge.from ≢ step.edge.to)
    (less : allowed_by step labels.times <ℤ time_at labels.times step.edge.to)
    (ready : pass ≤ history.pass step.edge.from + 1) (passed : (node : ℕ) → history.pass node ≤ pass)
    (descent : IsDescent edges labels history) where
  abbrev after : Labels
  after = lowered_by step labels

  abbrev history_after : History
  history_after = lowered_in pass step.edge.to history

  -- the node has the new values, and each other one those it had
  time_here : time_at after.times step.edge.to ≡ allowed_by step labels.times
  time_here = get_or-set_same labels.times step.edge.to (allowed_by step labels.times) (pos 0) in_times

  time_else : (node : ℕ) → node ≢ step.edge.to → time_at after.times node ≡ time_at labels.times node
  time_else node other = get_or-set_other labels.times step.edge.to node (allowed_by step labels.times) (pos 0) other

  back_here : back_of after.backs step.edge.to ≡ Some step
  back_here = get_or-set_same labels.backs step.edge.to (Some step) None in_backs

  back_else : (node : ℕ) → node ≢ step.edge.to → back_of after.backs node ≡ back_of labels.backs node
  back_else node other = get_or-set_other labels.backs step.edge.to node (Some step) None other

  pub pass_here : history_after.pass step.edge.to ≡ pass
  pass_here = changed_at-same history.pass step.edge.to pass

  pass_else : (node : ℕ) → node ≢ step.edge.to → history_after.pass node ≡ history.pass node
  pass_else node other = changed_at-other history.pass step.edge.to pass node other

  moment_here : history_after.moment step.edge.to ≡ history.now
  moment_here = changed_at-same history.moment step.edge.to history.now

  moment_else : (node : ℕ) → node ≢ step.edge.to → history_after.moment node ≡ history.moment node
  moment_else node other = changed_at-other history.moment step.edge.to history.now node other

  -- the step is kept now
  pub kept_here : IsKept after.times step
  kept_here = omega (arith, ints, time_here, time_else step.edge.from apart)

  -- no time rises, and no pass falls
  pub time_falls : (node : ℕ) → time_at after.times node ≤ℤ time_at labels.times node
  time_falls node =
      elim (cases_eq node step.edge.to) [
        | inl same ↦ omega (arith, ints, ap (time_at after.times) same, ap (time_at labels.times) same, time_here)
        | inr other ↦ omega (arith, ints, time_else node other)
      ]

  pass_rises : (node : ℕ) → history.pass node ≤ history_after.pass node
  pass_rises node =
      elim (cases_eq node step.edge.to) [
        | inl same ↦ omega (arith, ap history_after.pass same, passed node, pass_here)
        | inr other ↦ omega (arith, pass_else node other)
      ]

  pub passed_after : (node : ℕ) → history_after.pass node ≤ pass
  passed_after node =
      elim (cases_eq node step.edge.to) [
        | inl same ↦ omega (arith, ap history_after.pass same, pass_here)
        | inr other ↦ omega (arith, pass_else node other, passed node)
      ]

  -- the node that was lowered
  lowered_here : (node : ℕ) → node ≡ step.edge.to → IsLowered edges after.times history_after node step
  lowered_here node same = record {
    there = there;
    leads = sym same;
    inside = inside;
    above = omega (arith, ints, ap (time_at after.times) same, time_here, time_else step.edge.from apart);
    since = λ under. omega (arith, ap history_after.moment same, moment_here, moment_else step.edge.from apart, descent.past step.edge.from);
    pass = omega (arith, ap history_after.pass same, pass_here, pass_else step.edge.from apart, ready);
  }

  -- another that was lowered before
  lowered_else : (node : ℕ) (last : Step) → node ≢ step.edge.to → IsLowered edges labels.times history node last →
      IsLowered edges after.times history_after node last
  lowered_else node last other old = record {
    there = old.there;
    leads = old.leads;
    inside = old.inside;
    above = omega (arith, ints, time_else node other, old.above, time_falls last.edge.from);
    since = λ under.
        elim (cases_eq last.edge.from step.edge.to) [
          | inl same ↦ absurd (omega (arith, ints, time_else node other, old.above, ap (time_at after.times) same, ap (time_at labels.times) same, time_here))
          | inr elsewhere ↦
              let before : time_at labels.times node ≤ℤ allowed_by last labels.times = omega (arith, ints, time_else node other, time_else last.edge.from elsewhere) in
              omega (arith, moment_else node other, moment_else last.edge.from elsewhere, old.since before)
        ];
    pass = omega (arith, pass_else node other, old.pass, pass_rises last.edge.from);
  }

  pub IsDescent-lowered : IsDescent edges after history_after
  IsDescent-lowered = record {
    lowered = λ node last is.
        elim (cases_eq node step.edge.to) [
          | inl same ↦
              let one : Some last ≡ Some step = sym is ∙ (ap (back_of after.backs) same ∙ back_here) in
              let same_step : last ≡ step = cc in
              rw same_step (lowered_here node same)
          | inr other ↦ lowered_else node last other (descent.lowered node last (sym (back_else node other) ∙ is))
        ];
    resting = λ node is.
        elim (cases_eq node step.edge.to) [
          | inl same ↦
              let never : None ≡ Some step = sym is ∙ (ap (back_of after.backs) same ∙ back_here) in
              absurd (let no : ⊥ = cc in no)
          | inr other ↦
              let old = descent.resting node (sym (back_else node other) ∙ is) in
              record { time = time_else node other ∙ old.time; pass = pass_else node other ∙ old.pass }
        ];
    past = λ node.
        elim (cases_eq node step.edge.to) [
          | inl same ↦ omega (arith, ap history_after.moment same, moment_here)
          | inr other ↦ omega (arith, moment_else node other, descent.past node)
        ];
    most = λ node. omega (arith, ints, time_falls node, descent.most node);
    greatest = λ others meets most node within.
        elim (cases_eq node step.edge.to) [
          | inl same ↦
              let above_start = descent.greatest others meets most step.edge.from inside in
              let met = meets step.place.0 step.edge there in
              omega (arith, ints, ap (time_at after.times) same, ap others same, time_here, above_start, met)
          | inr other ↦ omega (arith, ints, time_else node other, descent.greatest others meets most node within)
        ];
  }

  -- what was kept, or has a start that was lowered since an earlier pass, still is so
  pub IsKeptSince-lowered : (since : ℕ) (other : Step) → since ≤ pass → IsKeptSince since labels.times history other → IsKeptSince since after.times history_after other
  IsKeptSince-lowered since other early kept wants =
      elim (cases_eq other.edge.from step.edge.to) [
        | inl same ↦ omega (arith, ap history_after.pass same, pass_here)
        | inr elsewhere ↦
            let wanted : allowed_by other labels.times <ℤ time_at labels.times other.edge.to = omega (arith, ints, wants, time_else other.edge.from elsewhere, time_falls other.edge.to) in
            omega (arith, pass_else other.edge.from elsewhere, kept wanted)
      ]
