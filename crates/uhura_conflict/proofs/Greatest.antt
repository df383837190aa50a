-- The best of the conflicts under the first keys.
use Rattle.std.proofs.Common.{◌≡◌, ◌⊎◌, ℕ, zero, suc, ◌+◌, ◌<◌, ◌≤◌, ℤ, pos, ◌≤ℤ◌, ◌<ℤ◌, Bool, true, false, ◌||◌, List, length, Option, Some, None, cond, inl, inr, ap, sym, subst, refl, ◌∙◌, arith}
use Rattle.std.specs.Prelude.{IsTrue, IsFalse, IfSome, int_lt, int_le}
use Rattle.std.proofs.lemmas.Int.{ints, by_lt_z}
use Rattle.std.proofs.lemmas.Bool.Decides.{nat_tests}
use Rattle.std.proofs.lemmas.Bool.{cases_eq, cases_lt}
use Rattle.std.proofs.lemmas.List.{get_or_past}
use Rattle.std.proofs.Math.ListN as lists
use Rattle.slab.specs.Slab.{Slab, get}
use Rattle.uhura_choice.specs.declared.prefix.Pick.{Pick}
use Rattle.uhura_net.specs.declared.edge.Edge.{Edge}
use Rattle.uhura_conflict.specs.declared.bound.Bound.{Bound}
use Rattle.uhura_conflict.specs.declared.bound.Bound.TheVariants.{Nothing, Flow, Stuck}
use Rattle.uhura_conflict.specs.declared.entry.Entry.{Entry}
use Rattle.uhura_conflict.specs.Learned.{Learned}
use Rattle.uhura_conflict.specs.Literals.{Applies}
use Rattle.uhura_conflict.specs.Store.{Applying, NoCycle, IsFirstCycle, IsBefore, IsGreatestFlow, IsBestAmong, AppliesAt, conflict_at, value_at}
use Rattle.uhura_conflict.specs.Entries.{conflict_of, shown_as, IsWorth, AreWorth, exceeds, bound_of, Below, IsBestBelow}

-- a firm cycle under a later key comes where there was none
abbrev with_cycle : Bound → ℕ → Bound
with_cycle (Stuck first) key = Stuck first
with_cycle (Flow value first) key = Stuck key
with_cycle Nothing key = Stuck key

-- a flow under a later key comes where it is worth more than what there was
abbrev with_flow : Bound → ℤ → ℕ → Bound
with_flow (Stuck first) value key = Stuck first
with_flow (Flow most first) value key =
    cond (int_lt most value) (Flow value key) (Flow most first)
with_flow Nothing value key = cond (int_lt (pos 0) value) (Flow value key) Nothing

-- what is known where the entry under a later key applies
abbrev with_entry : Bound → Entry → ℕ → Bound
with_entry best entry key =
    cond entry.conflict.stuck (with_cycle best key) (with_flow best entry.value key)

-- what stands under a key of the store
pub shown_at : (entries : Slab Entry) (order : List ℕ) (table : List (Option Edge)) (key : ℕ) → conflict_at (shown_as entries order table) key ≡ conflict_of (get entries key)
shown_at entries order table key = lists.get_or-map conflict_of entries.slots key None

-- the best doesn't depend on how those that apply are told
pub best-same : (at other : Applying) (values : Learned → ℤ) (best : Bound) → ((key : ℕ) (c : Learned) → at key c → other key c) → ((key : ℕ) (c : Learned) → other key c → at key c) →
    IsBestAmong at values best → IsBestAmong other values best
best-same at other values Nothing to from is = (λ key c there. is.0 key c (from key c there), λ key c there. is.1 key c (from key c there))
best-same at other values (Flow value key) to from is = (
  λ k c there. is.0 k c (from k c there),
  record {
    conflict = is.1.conflict;
    there = to key is.1.conflict is.1.there;
    worth = is.1.worth;
    above = is.1.above;
    greatest = λ k c there. is.1.greatest k c (from k c there);
  },
)
best-same at other values (Stuck key) to from is = record {
  conflict = is.conflict;
  there = to key is.conflict is.there;
  stuck = is.stuck;
  least = λ k c there stuck. is.least k c (from k c there) stuck;
}

-- under no key there is nothing
pub best-none : (at : Applying) (values : Learned → ℤ) → IsBestAmong (Below 0 at) values Nothing
best-none at values = (λ key c there. absurd (omega (arith, there.0)), λ key c there. absurd (omega (arith, there.0)))

-- a key under which none applies changes nothing
pub best-passed : (at : Applying) (values : Learned → ℤ) (n : ℕ) (best : Bound) → ((c : Learned) → at n c → ⊥) → IsBestAmong (Below n at) values best → IsBestAmong (Below (n + 1) at) values best
best-passed at values n best none is =
    best-same (Below n at) (Below (n + 1) at) values best (λ key c there. (omega (arith, there.0), there.1))
    (λ key c there. elim (cases_eq key n) [
      | inl same ↦ absurd (none c (subst (λ k. at k c) same there.1))
      | inr differs ↦ (omega (arith, there.0), there.1)
    ]) is

-- what a test of two integers says
pub lt_z : (a b : ℤ) → int_lt a b ≡ true → a <ℤ b
lt_z a b more = by_lt_z {P = a <ℤ b} a b (λ less. less) (λ least. grind (arith, ints, nat_tests))

pub le_z : (a b : ℤ) → int_lt a b ≡ false → b ≤ℤ a
le_z a b less = by_lt_z {P = b ≤ℤ a} a b (λ more. grind (arith, ints, nat_tests)) (λ least. least)

pub least_z : (a b : ℤ) → int_le a b ≡ true → a ≤ℤ b
least_z a b least = by_lt_z {P = a ≤ℤ b} b a (λ less. grind (arith, ints, nat_tests)) (λ more. more)

pub more_z : (a b : ℤ) → int_le a b ≡ false → b <ℤ a
more_z a b more = by_lt_z {P = b <ℤ a} b a (λ less. less) (λ least. grind (arith, ints, nat_tests))

pub true_false : {b : Bool} → b ≡ true → b ≡ false → ⊥
true_false one other = absurd (cc)

module _ (at : Applying) (values : Learned → ℤ) (n : ℕ) (conflict : Learned) (there : at n conflict) (alone : (c : Learned) → at n c → c ≡ conflict) where
  -- one of the keys up to n is below it, or has this conflict
  split : (key : ℕ) (c : Learned) → Below (n + 1) at key c → Below n at key c ⊎ ((key ≡ n) × (c ≡ conflict))
  split key c it =
      elim (cases_eq key n) [
        | inl same ↦ inr (same, alone c (subst (λ k. at k c) same it.1))
        | inr differs ↦ inl (omega (arith, it.0), it.1)
      ]

  first_here : IsTrue conflict.stuck → NoCycle (Below n at) → IsFirstCycle (Below (n + 1) at) n
  first_here stuck none = record {
    conflict = conflict;
    there = (omega arith, there);
    stuck = stuck;
    least = λ key c it is_stuck. elim (split key c it) [
      | inl before ↦ absurd (true_false is_stuck (none key c before))
      | inr here ↦ omega (arith, here.0)
    ];
  }

  -- a firm cycle comes where there was none
  pub best-cycle : (best : Bound) → IsTrue conflict.stuck → IsBestAmong (Below n at) values best → IsBestAmong (Below (n + 1) at) values (with_cycle best n)
  best-cycle Nothing stuck is = first_here stuck is.0
  best-cycle (Flow value key) stuck is = first_here stuck is.0
  best-cycle (Stuck first) stuck is = record {
    conflict = is.conflict;
    there = (omega (arith, is.there.0), is.there.1);
    stuck = is.stuck;
    least = λ key c it is_stuck. elim (split key c it) [
      | inl before ↦ is.least key c before is_stuck
      | inr here ↦ omega (arith, here.0, is.there.0)
    ];
  }

  no_cycle : IsFalse conflict.stuck → NoCycle (Below n at) → NoCycle (Below (n + 1) at)
  no_cycle flow none = λ key c it. elim (split key c it) [
    | inl before ↦ none key c before
    | inr here ↦ ap (λ (x : Learned). x.stuck) here.1 ∙ flow
  ]

  greatest_here : (above : pos 0 <ℤ values conflict) → ((key : ℕ) (c : Learned) → Below n at key c → values c <ℤ values conflict) → IsGreatestFlow (Below (n + 1) at) values (values conflict) n
  greatest_here above less = record {
    conflict = conflict;
    there = (omega arith, there);
    worth = refl;
    above = above;
    greatest = λ key c it. elim (split key c it) [
      | inl before ↦ inl (less key c before)
      | inr here ↦ inr (ap values here.1, omega (arith, here.0))
    ];
  }

  at_least : (most value : ℤ) (first : ℕ) → first < n → value ≤ℤ most → IsBefore most first value n
  at_least most value first before less = by_lt_z {P = IsBefore most first value n} value most (λ smaller. inl smaller) (λ greater. inr (omega (arith, ints), omega arith))

  flow_over : (most : ℤ) (first : ℕ) (more : Bool) → int_lt most (values conflict) ≡ more → IsFalse conflict.stuck → IsBestAmong (Below n at) values (Flow most first) →
      IsBestAmong (Below (n + 1) at) values (cond more (Flow (values conflict) n) (Flow most first))
  flow_over most first true more flow is = (
    no_cycle flow is.0,
    greatest_here (omega (arith, ints, is.1.above, lt_z most (values conflict) more)) (λ key c before. elim (is.1.greatest key c before) [
      | inl less ↦ omega (arith, ints, less, lt_z most (values conflict) more)
      | inr same ↦ omega (arith, ints, same.0, lt_z most (values conflict) more)
    ]),
  )
  flow_over most first false less flow is = (
    no_cycle flow is.0,
    record {
      conflict = is.1.conflict;
      there = (omega (arith, is.1.there.0), is.1.there.1);
      worth = is.1.worth;
      above = is.1.above;
      greatest = λ key c it. elim (split key c it) [
        | inl before ↦ is.1.greatest key c before
        | inr here ↦
            subst (λ k. IsBefore most first (values c) k) (sym here.0)
            (subst (λ x. IsBefore most first (values x) n) (sym here.1) (at_least most (values conflict) first is.1.there.0 (le_z most (values conflict) less)))
      ];
    },
  )

  flow_first : (more : Bool) → int_lt (pos 0) (values conflict) ≡ more → IsFalse conflict.stuck → IsBestAmong (Below n at) values Nothing →
      IsBestAmong (Below (n + 1) at) values (cond more (Flow (values conflict) n) Nothing)
  flow_first true more flow is = (
    no_cycle flow is.0,
    greatest_here (lt_z (pos 0) (values conflict) more) (λ key c before. omega (arith, ints, is.1 key c before, lt_z (pos 0) (values conflict) more)),
  )
  flow_first false less flow is = (
    no_cycle flow is.0,
    λ key c it. elim (split key c it) [
      | inl before ↦ is.1 key c before
      | inr here ↦ subst (λ x. values x ≤ℤ pos 0) (sym here.1) (le_z (pos 0) (values conflict) less)
    ],
  )

  -- a flow comes where it is worth more
  pub best-flow : (best : Bound) → IsFalse conflict.stuck → IsBestAmong (Below n at) values best → IsBestAmong (Below (n + 1) at) values (with_flow best (values conflict) n)
  best-flow Nothing flow is = flow_first (int_lt (pos 0) (values conflict)) refl flow is
  best-flow (Flow most first) flow is = flow_over most first (int_lt most (values conflict)) refl flow is
  best-flow (Stuck first) flow is = record {
    conflict = is.conflict;
    there = (omega (arith, is.there.0), is.there.1);
    stuck = is.stuck;
    least = λ key c it is_stuck. elim (split key c it) [
      | inl before ↦ is.least key c before is_stuck
      | inr here ↦ absurd (true_false is_stuck (ap (λ (x : Learned). x.stuck) here.1 ∙ flow))
    ];
  }

-- what would not change the best leaves it
kept_by : {X : Type 0} (a b c : X) (one other : Bool) → (one || other) ≡ false → cond one a (cond other b c) ≡ c
kept_by a b c true other none = absurd (cc)
kept_by a b c false true none = absurd (cc)
kept_by a b c false false none = refl

same_by : {X : Type 0} (a : X) (one : Bool) → cond one a a ≡ a
same_by a true = refl
same_by a false = refl

unexceeded : (best : Bound) (entry : Entry) (n : ℕ) → exceeds best entry ≡ false → with_entry best entry n ≡ best
unexceeded Nothing entry n none = kept_by (Stuck n) (Flow entry.value n) Nothing entry.conflict.stuck (int_lt (pos 0) entry.value) none
unexceeded (Flow most first) entry n none = kept_by (Stuck n) (Flow entry.value n) (Flow most first) entry.conflict.stuck (int_lt most entry.value) none
unexceeded (Stuck first) entry n none = same_by (Stuck first) entry.conflict.stuck

-- and what would, comes in its place
comes_by : {X : Type 0} (a b c : X) (one other : Bool) → (one || other) ≡ true → cond one a (cond other b c) ≡ cond one a b
comes_by a b c true other some = refl
comes_by a b c false true some = refl
comes_by a b c false false some = absurd (cc)

exceeded : (best : Bound) (entry : Entry) (n : ℕ) → exceeds best entry ≡ true → with_entry best entry n ≡ bound_of entry n
exceeded Nothing entry n some = comes_by (Stuck n) (Flow entry.value n) Nothing entry.conflict.stuck (int_lt (pos 0) entry.value) some
exceeded (Flow most first) entry n some = comes_by (Stuck n) (Flow entry.value n) (Flow most first) entry.conflict.stuck (int_lt most entry.value) some
exceeded (Stuck first) entry n some = absurd (cc)

-- what is the best where the conflict under a key applies is the best
best-lift : (at : Applying) (values : Learned → ℤ) (n : ℕ) (best : Bound) → ((c : Learned) → at n c → IsBestAmong (Below (n + 1) at) values best) → IsBestAmong (Below n at) values best →
    IsBestAmong (Below (n + 1) at) values best
best-lift at values n Nothing here is = (
  λ key c it. elim (cases_eq key n) [
    | inl same ↦ (here c (subst (λ k. at k c) same it.1)).0 key c it
    | inr differs ↦ is.0 key c (omega (arith, it.0), it.1)
  ],
  λ key c it. elim (cases_eq key n) [
    | inl same ↦ (here c (subst (λ k. at k c) same it.1)).1 key c it
    | inr differs ↦ is.1 key c (omega (arith, it.0), it.1)
  ],
)
best-lift at values n (Flow most first) here is = (
  λ key c it. elim (cases_eq key n) [
    | inl same ↦ (here c (subst (λ k. at k c) same it.1)).0 key c it
    | inr differs ↦ is.0 key c (omega (arith, it.0), it.1)
  ],
  record {
    conflict = is.1.conflict;
    there = (omega (arith, is.1.there.0), is.1.there.1);
    worth = is.1.worth;
    above = is.1.above;
    greatest = λ key c it. elim (cases_eq key n) [
      | inl same ↦ (here c (subst (λ k. at k c) same it.1)).1.greatest key c it
      | inr differs ↦ is.1.greatest key c (omega (arith, it.0), it.1)
    ];
  },
)
best-lift at values n (Stuck first) here is = record {
  conflict = is.conflict;
  there = (omega (arith, is.there.0), is.there.1);
  stuck = is.stuck;
  least = λ key c it is_stuck. elim (cases_eq key n) [
    | inl same ↦ (here c (subst (λ k. at k c) same it.1)).least key c it is_stuck
    | inr differs ↦ is.least key c (omega (arith, it.0), it.1) is_stuck
  ];
}

module _ (entries : Slab Entry) (order : List ℕ) (table : List (Option Edge)) (picks : List Pick) where
  shown_here : (key : ℕ) (found : Option Entry) (c : Learned) → get entries key ≡ found → AppliesAt (shown_as entries order table) picks key c → conflict_of found ≡ Some c
  shown_here key found c is at = sym (ap conflict_of is) ∙ (sym (shown_at entries order table key) ∙ at.there)

  some_same : {a b : Learned} → Some a ≡ Some b → b ≡ a
  some_same is = cc

  by_kind : (n : ℕ) (entry : Entry) (best : Bound) (stuck : Bool) → get entries n ≡ Some entry → Applies picks entry.conflict → IsWorth table entry → entry.conflict.stuck ≡ stuck →
      IsBestAmong (Below n (AppliesAt (shown_as entries order table) picks)) (value_at (shown_as entries order table)) best →
      IsBestAmong (Below (n + 1) (AppliesAt (shown_as entries order table) picks)) (value_at (shown_as entries order table)) (cond stuck (with_cycle best n) (with_flow best entry.value n))
  by_kind n entry best true is applies worth stuck so_far =
      best-cycle (AppliesAt (shown_as entries order table) picks) (value_at (shown_as entries order table)) n entry.conflict
      (record { there = shown_at entries order table n ∙ ap conflict_of is; applies = applies }) (λ c at. some_same (shown_here n (Some entry) c is at)) best stuck so_far
  by_kind n entry best false is applies worth flow so_far =
      subst (λ v. IsBestAmong (Below (n + 1) (AppliesAt (shown_as entries order table) picks)) (value_at (shown_as entries order table)) (with_flow best v n)) (sym (worth flow))
      (best-flow (AppliesAt (shown_as entries order table) picks) (value_at (shown_as entries order table)) n entry.conflict
      (record { there = shown_at entries order table n ∙ ap conflict_of is; applies = applies }) (λ c at. some_same (shown_here n (Some entry) c is at)) best flow so_far)

  -- an entry that applies
  best-with_entry : (n : ℕ) (entry : Entry) (best : Bound) → get entries n ≡ Some entry → Applies picks entry.conflict → AreWorth entries table →
      IsBestAmong (Below n (AppliesAt (shown_as entries order table) picks)) (value_at (shown_as entries order table)) best →
      IsBestAmong (Below (n + 1) (AppliesAt (shown_as entries order table) picks)) (value_at (shown_as entries order table)) (with_entry best entry n)
  best-with_entry n entry best is applies worth so_far =
      by_kind n entry best entry.conflict.stuck is applies (subst (λ found. IfSome found (IsWorth table)) is (worth n)) refl so_far

  -- one that applies and changes what is known
  pub best-exceeded : (n : ℕ) (entry : Entry) (best : Bound) → get entries n ≡ Some entry → Applies picks entry.conflict → exceeds best entry ≡ true → AreWorth entries table →
      IsBestAmong (Below n (AppliesAt (shown_as entries order table) picks)) (value_at (shown_as entries order table)) best →
      IsBestAmong (Below (n + 1) (AppliesAt (shown_as entries order table) picks)) (value_at (shown_as entries order table)) (bound_of entry n)
  best-exceeded n entry best is applies more worth so_far =
      subst (λ b. IsBestAmong (Below (n + 1) (AppliesAt (shown_as entries order table) picks)) (value_at (shown_as entries order table)) b) (exceeded best entry n more)
      (best-with_entry n entry best is applies worth so_far)

  -- one that would not change what is known
  pub best-unexceeded : (n : ℕ) (entry : Entry) (best : Bound) → get entries n ≡ Some entry → (Applies picks entry.conflict → exceeds best entry ≡ false) → AreWorth entries table →
      IsBestAmong (Below n (AppliesAt (shown_as entries order table) picks)) (value_at (shown_as entries order table)) best →
      IsBestAmong (Below (n + 1) (AppliesAt (shown_as entries order table) picks)) (value_at (shown_as entries order table)) best
  best-unexceeded n entry best is none worth so_far =
      best-lift (AppliesAt (shown_as entries order table) picks) (value_at (shown_as entries order table)) n best
      (λ c at.
      let applies : Applies picks entry.conflict = subst (λ (x : Learned). Applies picks x) (some_same (shown_here n (Some entry) c is at)) at.applies in
      subst (λ b. IsBestAmong (Below (n + 1) (AppliesAt (shown_as entries order table) picks)) (value_at (shown_as entries order table)) b) (unexceeded best entry n (none applies))
      (best-with_entry n entry best is applies worth so_far)) so_far

  no_entry : (c : Learned) → conflict_of None ≡ Some c → ⊥
  no_entry c is = absurd (cc)

  -- and none
  pub best-at_none : (n : ℕ) (best : Bound) → get entries n ≡ None →
      IsBestAmong (Below n (AppliesAt (shown_as entries order table) picks)) (value_at (shown_as entries order table)) best →
      IsBestAmong (Below (n + 1) (AppliesAt (shown_as entries order table) picks)) (value_at (shown_as entries order table)) best
  best-at_none n best is so_far =
      best-passed (AppliesAt (shown_as entries order table) picks) (value_at (shown_as entries order table)) n best (λ c at. no_entry c (shown_here n None c is at)) so_far

  -- behind all slots there is none
  pub best-all : (n : ℕ) (best : Bound) → length entries.slots ≤ n →
      IsBestAmong (Below n (AppliesAt (shown_as entries order table) picks)) (value_at (shown_as entries order table)) best →
      IsBestAmong (AppliesAt (shown_as entries order table) picks) (value_at (shown_as entries order table)) best
  best-all n best past so_far =
      best-same (Below n (AppliesAt (shown_as entries order table) picks)) (AppliesAt (shown_as entries order table) picks) (value_at (shown_as entries order table)) best
      (λ key c there. there.1)
      (λ key c there. (
        elim (cases_lt key n) [
          | inl below ↦ below
          | inr behind ↦ absurd (no_entry c (shown_here key None c (get_or_past entries.slots key None (omega arith)) there))
        ],
        there,
      )) so_far

-- the entry under a key, if there is one, would not change what is known
best-at : (entries : Slab Entry) (picks : List Pick) (best : Bound) (n : ℕ) (found : Option Entry) → get entries n ≡ found →
    IfSome found (λ entry. Applies picks entry.conflict → exceeds best entry ≡ false) → IsBestBelow n entries picks best → IsBestBelow (n + 1) entries picks best
best-at entries picks best n None is none so_far = λ order table worth. best-at_none entries order table picks n best is (so_far order table worth)
best-at entries picks best n (Some entry) is none so_far = λ order table worth. best-unexceeded entries order table picks n entry best is none worth (so_far order table worth)

-- keys whose entries would not change what is known are passed over
pub best-passed_over : (entries : Slab Entry) (picks : List Pick) (best : Bound) (from count : ℕ) →
    ((key : ℕ) → from ≤ key → key < from + count → IfSome (get entries key) (λ entry. Applies picks entry.conflict → exceeds best entry ≡ false)) →
    IsBestBelow from entries picks best → IsBestBelow (from + count) entries picks best
best-passed_over entries picks best from zero none so_far = let next : from ≡ from + 0 = omega arith in subst (λ n. IsBestBelow n entries picks best) next so_far
best-passed_over entries picks best from (suc count) none so_far =
    let before : IsBestBelow (from + count) entries picks best = best-passed_over entries picks best from count (λ key least less. none key least (omega arith)) so_far in
    let next : from + count + 1 ≡ from + suc count = omega arith in
    subst (λ n. IsBestBelow n entries picks best) next (best-at entries picks best (from + count) (get entries (from + count)) refl (none (from + count) (omega arith) (omega arith)) before)
