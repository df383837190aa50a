-- Whether an entry that is looked for applies.
use Rattle.std.proofs.Common.{◌≡◌, ◌⊎◌, ℕ, ◌+◌, ◌≤◌, ℤ, Bool, true, false, List, length, Option, Some, None, inl, inr, ap, sym, subst, refl, ◌∙◌, arith}
use Rattle.std.specs.Prelude.{IsTrue, IsFalse, IfSome, int_le, MatchBool}
use Rattle.std.proofs.lemmas.Int.{ints}
use Rattle.std.proofs.lemmas.Bool.{cases_Bool, cases_eq, cases_lt}
use Rattle.std.proofs.lemmas.List.{get_or_past}
use Rattle.slab.specs.Slab.{Slab, get}
use Rattle.uhura_choice.specs.declared.prefix.Pick.{Pick}
use Rattle.uhura_net.specs.declared.edge.Edge.{Edge}
use Rattle.uhura_conflict.specs.declared.entry.Entry.{Entry}
use Rattle.uhura_conflict.specs.declared.sought.Sought.{Sought}
use Rattle.uhura_conflict.specs.Learned.{Learned}
use Rattle.uhura_conflict.specs.Literals.{Applies}
use Rattle.uhura_conflict.specs.Store.{value_at, IsReachedBy, Reaches}
use Rattle.uhura_conflict.specs.Entries.{conflict_of, shown_as, IsWorth, AreWorth, is_sought_by, is_sought, reaching, IsFound, NoneBetween}
use Rattle.uhura_conflict.proofs.Greatest.{shown_at, true_false, least_z, more_z}

module _ (entries : Slab Entry) (picks : List Pick) (sought : Sought) where
  -- one key more
  pub none-next : (from n : ℕ) (found : Option Entry) → get entries n ≡ found → IfSome found (λ (entry : Entry). Applies picks entry.conflict → IsFalse (is_sought sought entry)) →
      NoneBetween entries picks sought from n → NoneBetween entries picks sought from (n + 1)
  none-next from n found is none so_far = λ key least less. elim (cases_eq key n) [
    | inl same ↦
        subst (λ k. IfSome (get entries k) (λ (entry : Entry). Applies picks entry.conflict → IsFalse (is_sought sought entry))) (sym same)
        (subst (λ f. IfSome f (λ (entry : Entry). Applies picks entry.conflict → IsFalse (is_sought sought entry))) (sym is) none)
    | inr differs ↦ so_far key least (omega (arith, less))
  ]

  -- one part after the other
  pub none-joined : (from between to : ℕ) → NoneBetween entries picks sought from between → NoneBetween entries picks sought between to → NoneBetween entries picks sought from to
  none-joined from between to first second = λ key least less. elim (cases_lt key between) [
    | inl before ↦ first key least before
    | inr behind ↦ second key behind less
  ]

  no_entry : (entry : Entry) → None ≡ Some entry → ⊥
  no_entry entry is = absurd (cc)

  not_here : (found : Option Entry) (entry : Entry) → found ≡ Some entry → IfSome found (λ (e : Entry). Applies picks e.conflict → IsFalse (is_sought sought e)) → Applies picks entry.conflict →
      IsTrue (is_sought sought entry) → ⊥
  not_here found entry is none applies sought_for =
      true_false sought_for (subst (λ f. IfSome f (λ (e : Entry). Applies picks e.conflict → IsFalse (is_sought sought e))) is none applies)

  -- where none is found among all, none is
  pub none-found : (n : ℕ) → length entries.slots ≤ n → NoneBetween entries picks sought 0 n → IsFound entries picks sought → ⊥
  none-found n past none found = elim (cases_lt found.key n) [
    | inl below ↦ not_here (get entries found.key) found.entry found.there (none found.key (omega arith) below) found.applies found.is_sought
    | inr behind ↦ no_entry found.entry (sym (get_or_past entries.slots found.key None (omega arith)) ∙ found.there)
  ]

module _ (entries : Slab Entry) (order : List ℕ) (table : List (Option Edge)) (picks : List Pick) (least : Option ℤ) (worth : AreWorth entries table) where
  worth_at : (key : ℕ) (entry : Entry) → get entries key ≡ Some entry → IsWorth table entry
  worth_at key entry is = subst (λ found. IfSome found (IsWorth table)) is (worth key)

  -- a value that is looked for is no less than the one given
  by_value : (given : Option ℤ) (value : ℤ) → is_sought_by (reaching given) false value ≡ true → IsReachedBy given value
  by_value None value is = absurd (true_false is refl)
  by_value (Some least) value is = least_z least value is

  to_value : (given : Option ℤ) (value : ℤ) → IsReachedBy given value → is_sought_by (reaching given) false value ≡ true
  to_value None value reached = absurd reached
  to_value (Some least) value reached = elim (cases_Bool (int_le least value)) [
    | inl is ↦ is
    | inr not ↦ absurd (omega (arith, ints, reached, more_z least value not))
  ]

  cycle_sought : (given : Option ℤ) (value : ℤ) → is_sought_by (reaching given) true value ≡ true
  cycle_sought None value = refl
  cycle_sought (Some least) value = refl

  by_kind : (entry : Entry) (stuck : Bool) → IsWorth table entry → entry.conflict.stuck ≡ stuck → IsTrue (is_sought (reaching least) entry) →
      IsTrue entry.conflict.stuck ⊎ (IsFalse entry.conflict.stuck × IsReachedBy least (value_at (shown_as entries order table) entry.conflict))
  by_kind entry true worth_it kind is = inl kind
  by_kind entry false worth_it kind is =
      inr (kind, subst (IsReachedBy least) (worth_it kind) (by_value least entry.value (subst (λ b. is_sought_by (reaching least) b entry.value ≡ true) kind is)))

  to_kind : (entry : Entry) → IsWorth table entry →
      IsTrue entry.conflict.stuck ⊎ (IsFalse entry.conflict.stuck × IsReachedBy least (value_at (shown_as entries order table) entry.conflict)) → IsTrue (is_sought (reaching least) entry)
  to_kind entry worth_it (inl stuck) = subst (λ b. is_sought_by (reaching least) b entry.value ≡ true) (sym stuck) (cycle_sought least entry.value)
  to_kind entry worth_it (inr (flow, reached)) =
      subst (λ b. is_sought_by (reaching least) b entry.value ≡ true) (sym flow) (to_value least entry.value (subst (IsReachedBy least) (sym (worth_it flow)) reached))

  -- what is found reaches
  pub found-reaches : IsFound entries picks (reaching least) → Reaches (shown_as entries order table) picks least
  found-reaches found = record {
    key = found.key;
    conflict = found.entry.conflict;
    there = record { there = shown_at entries order table found.key ∙ ap conflict_of found.there; applies = found.applies };
    enough = by_kind found.entry found.entry.conflict.stuck (worth_at found.key found.entry found.there) refl found.is_sought;
  }

  by_entry : (found : Option Entry) (key : ℕ) (c : Learned) → get entries key ≡ found → conflict_of found ≡ Some c → Applies picks c →
      IsTrue c.stuck ⊎ (IsFalse c.stuck × IsReachedBy least (value_at (shown_as entries order table) c)) → IsFound entries picks (reaching least)
  by_entry None key c is shows applies enough = absurd (cc)
  by_entry (Some entry) key c is shows applies enough =
      let same : c ≡ entry.conflict = cc in
      record {
        key = key;
        entry = entry;
        there = is;
        applies = subst (Applies picks) same applies;
        is_sought = to_kind entry (worth_at key entry is) (subst (λ (x : Learned). IsTrue x.stuck ⊎ (IsFalse x.stuck × IsReachedBy least (value_at (shown_as entries order table) x))) same enough);
      }

  -- and what reaches is found
  pub reaches-found : Reaches (shown_as entries order table) picks least → IsFound entries picks (reaching least)
  reaches-found it =
      by_entry (get entries it.key) it.key it.conflict refl (sym (shown_at entries order table it.key) ∙ it.there.there) it.there.applies it.enough

  -- so the one test is the other
  pub found-matches : (test : Bool) → MatchBool test (IsFound entries picks (reaching least)) (IsFound entries picks (reaching least) → ⊥) →
      MatchBool test (Reaches (shown_as entries order table) picks least) (Reaches (shown_as entries order table) picks least → ⊥)
  found-matches true found = found-reaches found
  found-matches false none = λ reached. none (reaches-found reached)
