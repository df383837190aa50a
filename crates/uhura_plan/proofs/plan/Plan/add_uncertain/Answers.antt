-- The name and the end are new, so the duration goes behind the others, and the plan stays sound.
use Rattle.std.proofs.Common.{◌≡◌, IfOk, OnOk, bytes_eq, sym, subst, ap, ◌∙◌, w64, arith}
use mir.Val.{to_z, of_z}
use Rattle.std.proofs.lemmas.Int.{ints}
use Rattle.indexmap.specs.IndexMap.{insert_entry}
use Rattle.indexmap.specs.IndexSet.{insert_key}
use Rattle.uhura_plan.specs.declared.uncertain.Uncertain.{Uncertain}
use Rattle.uhura_plan.specs.Limits.{IsRangeEnd}
use Rattle.uhura_plan.proofs.Uncertains.{view-with_uncertain, HoldsPlan-with_uncertain}
use Rattle.uhura_plan.proofs.plan.Plan.add_uncertain.Goals as goal

-- the duration that the call states, with its range as the code carries it
abbrev made : goal.After-unwrap-2 → Uncertain
made c = record { name = c.args.name; start = c.start_of.result; end = c.args.end; lower = to_z w64 (of_z w64 c.args.lower); upper = to_z w64 (of_z w64 c.args.upper); lower_rate = c.args.lower_rate; upper_rate = c.args.upper_rate }

-- it goes into the table of durations
inserted : (c : goal.After-unwrap-2) → c.insert-2.new.self.entries ≡ insert_entry bytes_eq c.self.inside.uncertains.entries c.args.name (made c)
inserted c =
    subst (λ r. OnOk r (c.insert-2.new.self.entries ≡ insert_entry bytes_eq c.reserve-2.new.self.entries c.args.name (made c))) c.unwrap-2.ensures c.insert-2.ensures.entries
    ∙ ap (λ es. insert_entry bytes_eq es c.args.name (made c)) c.in_ok-reserve-2.ensures.entries

-- and its end into that of ends
end_inserted : (c : goal.After-unwrap-2) → c.insert.new.self.keys ≡ insert_key bytes_eq c.self.inside.ends.keys c.args.end
end_inserted c =
    subst (λ r. IfOk r (λ _. c.insert.new.self.keys ≡ insert_key bytes_eq c.reserve.new.self.keys c.args.end)) c.unwrap.ensures c.insert.ensures.keys
    ∙ ap (λ ks. insert_key bytes_eq ks c.args.end) c.in_ok-reserve.ensures.keys

carried_lower : (c : goal.After-unwrap-2) → to_z w64 (of_z w64 c.args.lower) ≡ c.args.lower
carried_lower c = omega (arith, ints)

carried_upper : (c : goal.After-unwrap-2) → to_z w64 (of_z w64 c.args.upper) ≡ c.args.upper
carried_upper c = omega (arith, ints)

pub invariant_of-self-2 : goal.invariant_of-self-2
invariant_of-self-2 c =
    HoldsPlan-with_uncertain _ _ _ _ _ _ _ c.args.start (made c) c.self.view_is c.self.invariant (inserted c) (sym c.in_default.ensures) _ (end_inserted c) c.start_of.ensures
    (record { name = c.bytes.ensures.name; end = c.bytes-2.ensures.name; lower = subst IsRangeEnd (sym (carried_lower c)) c.requires.lower; upper = subst IsRangeEnd (sym (carried_upper c)) c.requires.upper; lower_rate = c.requires.lower_rate; upper_rate = c.requires.upper_rate })

pub returns-clause-ok : goal.returns-clause-ok
returns-clause-ok c = record {
  from = c.start_of.result;
  found = c.start_of.ensures;
  lists = rw (sym (carried_lower c)) (rw (sym (carried_upper c)) (view-with_uncertain _ _ _ _ _ _ _ c.args.start (made c) c.self.view_is c.self.invariant (inserted c) (sym c.in_default.ensures)));
}
