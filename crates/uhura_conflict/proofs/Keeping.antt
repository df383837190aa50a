-- What a store keeps, through each change.
use Rattle.std.proofs.Common.{◌≡◌, ◌≢◌, ◌⊎◌, ℕ, suc, ◌+◌, ◌<◌, ◌≤◌, Bool, true, false, List, [], ◌∷◌, ◌++◌, map, length, get_or, take, drop, Option, Some, None, cond, inl, inr, ap, sym, subst, refl, ◌∙◌, arith}
use Rattle.std.specs.Prelude.{IsSome, IfSome, is_some, option_and_then, Contains, filter, AllPairs, sum}
use Rattle.std.specs.Option.{option_map_or}
use Rattle.std.proofs.lemmas.Bool.{cases_eq}
use Rattle.std.proofs.lemmas.List.{get_or_default, get_or-take, get_or-drop, length-drop, length-take-le, take-append-drop}
use Rattle.std.proofs.lemmas.List.Sums.{sum_by-cons}
use Rattle.std.proofs.lemmas.List.Kept.{AllPairs-filter}
use Rattle.std.proofs.lemmas.List.Quantifiers.{all_pairs_push}
use Rattle.std.proofs.lemmas.List.Elements.{filter_agree, Contains-append_left, Contains-append_right, Contains-append_cases, Contains-get_or, Contains-push, Contains-push_cases}
use Rattle.slab.specs.Slab.{Slab, get, Updates}
use Rattle.slab.proofs.SlabLemmas.{Contains-cons, Contains-cons_cases}
use Rattle.uhura_net.specs.declared.edge.Edge.{Edge}
use Rattle.uhura_net.specs.Circulation.{edges_of}
use Rattle.uhura_conflict.specs.declared.entry.Entry.{Entry}
use Rattle.uhura_conflict.specs.Learned.{Learned, IsLearned, IsValid}
use Rattle.uhura_conflict.specs.Kept.{outlasts}
use Rattle.uhura_conflict.specs.Store.{conflict_at, IsStore, Adds, if_it_outlasts, Revises, pairs_under, pairs_of, Trims}
use Rattle.uhura_conflict.specs.Entries.{conflict_of, shown_as, IsHeldStore, IsKeptFor, IsUntouched, is_held, IsWorth, RevisesAt, pairs_at, pairs_among}
use Rattle.uhura_conflict.proofs.Greatest.{shown_at, true_false}
use Rattle.uhura_conflict.specs.Marked.{AreMarked}
use Rattle.uhura_conflict.proofs.Outlasting.{valid-outlasts}
use Rattle.uhura_conflict.proofs.Untouched.{AreUntouched, untouched-outlasts, untouched-worth}

not_some : {X : Type 0} {found : Option X} → found ≡ None → IsSome found → ⊥
not_some none some = true_false some (ap is_some none)

-- nothing is kept
pub held-empty : (entries : Slab Entry) (order : List ℕ) (table : List (Option Edge)) → entries.slots ≡ [] → order ≡ [] → IsHeldStore entries order table
held-empty entries order table no_slots no_order =
    let none : (key : ℕ) → get entries key ≡ None = λ key. ap (λ slots. get_or slots key None) no_slots in
    let nothing : (key : ℕ) → conflict_at (shown_as entries order table) key ≡ None = λ key. shown_at entries order table key ∙ ap conflict_of (none key) in record {
      sound = record {
        learned = λ key. subst (λ found. IfSome found IsLearned) (sym (nothing key)) tt;
        valid = λ key. subst (λ found. IfSome found (IsValid (edges_of table))) (sym (nothing key)) tt;
        listed = λ key. (λ among. absurd (no_key order key no_order among), λ some. absurd (not_some (nothing key) some));
        once = subst (λ keys. AllPairs ◌≢◌ keys) (sym no_order) (λ i j d before inside. absurd (omega arith));
      };
      worth = λ key. subst (λ found. IfSome found (IsWorth table)) (sym (none key)) tt;
    }
  where
    no_key : (order : List ℕ) (key : ℕ) → order ≡ [] → Contains order key → ⊥
    no_key order key none among = let here : Contains {X = ℕ} [] key = subst (λ keys. Contains keys key) none among in absurd (omega (arith, here.1))

-- how much room there is says nothing of what is kept
pub held-capacity : (entries : Slab Entry) (capacity : ℕ) (order : List ℕ) (table : List (Option Edge)) → IsHeldStore entries order table →
    IsHeldStore (record entries { capacity = capacity }) order table
held-capacity entries capacity order table held = record { sound = held.sound; worth = held.worth }

-- a new entry comes
module _ (old new : Slab Entry) (order : List ℕ) (table : List (Option Edge)) (key : ℕ) (entry : Entry) (free : get old key ≡ None) (updates : Updates old new key (Some entry)) where
  shown_free : conflict_at (shown_as old order table) key ≡ None
  shown_free = shown_at old order table key ∙ ap conflict_of free

  shown_there : conflict_at (shown_as new (order ++ key ∷ []) table) key ≡ Some entry.conflict
  shown_there = shown_at new (order ++ key ∷ []) table key ∙ ap conflict_of updates.changed

  shown_other : (other : ℕ) → other ≢ key → conflict_at (shown_as new (order ++ key ∷ []) table) other ≡ conflict_at (shown_as old order table) other
  shown_other other differs = shown_at new (order ++ key ∷ []) table other ∙ (ap conflict_of (updates.others other differs) ∙ sym (shown_at old order table other))

  pub adds : Adds (shown_as old order table) (shown_as new (order ++ key ∷ []) table) key entry.conflict
  adds = record { free = shown_free; there = shown_there; others = shown_other; order = refl; table = refl }

  each : (P : Learned → Type 0) → P entry.conflict → ((other : ℕ) → IfSome (conflict_at (shown_as old order table) other) P) → (other : ℕ) →
      IfSome (conflict_at (shown_as new (order ++ key ∷ []) table) other) P
  each P here before other =
      elim (cases_eq other key) [
        | inl same ↦ subst (λ k. IfSome (conflict_at (shown_as new (order ++ key ∷ []) table) k) P) (sym same) (subst (λ found. IfSome found P) (sym shown_there) here)
        | inr differs ↦ subst (λ found. IfSome found P) (sym (shown_other other differs)) (before other)
      ]

  pub held-added : IsHeldStore old order table → IsLearned entry.conflict → IsValid (edges_of table) entry.conflict → IsWorth table entry → IsHeldStore new (order ++ key ∷ []) table
  held-added before learned valid worth = record {
    sound = record {
      learned = each IsLearned learned before.sound.learned;
      valid = each (IsValid (edges_of table)) valid before.sound.valid;
      listed = λ other. (
        λ among. elim (Contains-push_cases order key other among) [
          | inl listed ↦
              elim (cases_eq other key) [
                | inl same ↦ subst (λ k. IsSome (conflict_at (shown_as new (order ++ key ∷ []) table) k)) (sym same) (ap is_some shown_there)
                | inr differs ↦ ap is_some (shown_other other differs) ∙ (before.sound.listed other).0 listed
              ]
          | inr same ↦ subst (λ k. IsSome (conflict_at (shown_as new (order ++ key ∷ []) table) k)) same (ap is_some shown_there)
        ],
        λ some. elim (cases_eq other key) [
          | inl same ↦ subst (λ k. Contains (order ++ key ∷ []) k) (sym same) (Contains-push order key)
          | inr differs ↦ Contains-append_left order (key ∷ []) other ((before.sound.listed other).1 (sym (ap is_some (shown_other other differs)) ∙ some))
        ],
      );
      once = all_pairs_push ◌≢◌ order key before.sound.once (λ k d inside same. not_some shown_free
          ((before.sound.listed key).0 (k, inside, get_or_default order k key d inside ∙ same)));
    };
    worth = λ other. elim (cases_eq other key) [
      | inl same ↦ subst (λ k. IfSome (get new k) (IsWorth table)) (sym same) (subst (λ found. IfSome found (IsWorth table)) (sym updates.changed) worth)
      | inr differs ↦ subst (λ found. IfSome found (IsWorth table)) (sym (updates.others other differs)) (before.worth other)
    ];
  }

-- what a filter keeps
keeps_at : (b : Bool) (y x : ℕ) (rest : List ℕ) → ((y ≡ x) ⊎ Contains rest x) → (y ≡ x → b ≡ true) → Contains (cond b (y ∷ rest) rest) x
keeps_at true y x rest (inl same) passes = (0, omega arith, same)
keeps_at true y x rest (inr later) passes = Contains-cons y x rest later
keeps_at false y x rest (inl same) passes = absurd (true_false (passes same) refl)
keeps_at false y x rest (inr later) passes = later

filter-keeps : (p : ℕ → Bool) (xs : List ℕ) (x : ℕ) → Contains xs x → p x ≡ true → Contains (filter p xs) x
filter-keeps p [] x among passes = absurd (omega (arith, among.1))
filter-keeps p (y ∷ ys) x among passes =
    keeps_at (p y) y x (filter p ys) (elim (Contains-cons_cases y x ys among) [ inl same ↦ inl same | inr later ↦ inr (filter-keeps p ys x later passes) ])
    (λ same. subst (λ z. p z ≡ true) (sym same) passes)

kept_at : (b : Bool) (y x : ℕ) (rest : List ℕ) → Contains (cond b (y ∷ rest) rest) x → ((y ≡ x) × (b ≡ true)) ⊎ Contains rest x
kept_at true y x rest among = elim (Contains-cons_cases y x rest among) [ inl same ↦ inl (same, refl) | inr later ↦ inr later ]
kept_at false y x rest among = inr among

filter-kept : (p : ℕ → Bool) (xs : List ℕ) (x : ℕ) → Contains (filter p xs) x → Contains xs x × (p x ≡ true)
filter-kept p [] x among = absurd (omega (arith, among.1))
filter-kept p (y ∷ ys) x among =
    elim (kept_at (p y) y x (filter p ys) among) [
      | inl here ↦ ((0, omega arith, here.0), subst (λ z. p z ≡ true) here.0 here.1)
      | inr later ↦ let kept = filter-kept p ys x later in (Contains-cons y x ys kept.0, kept.1)
    ]

-- a conflict that is kept was there, and outlasts the change
if_kept : (from to : List (Option Edge)) (P : Learned → Type 0) (c : Learned) (lasts : Bool) → (lasts ≡ true → P c) → IfSome (cond lasts (Some c) None) P
if_kept from to P c true holds = holds refl
if_kept from to P c false holds = tt

kept_of : (from to : List (Option Edge)) (P : Learned → Type 0) (found : Option Learned) → ((c : Learned) → found ≡ Some c → outlasts (edges_of from) (edges_of to) c ≡ true → P c) →
    IfSome (option_and_then (if_it_outlasts from to) found) P
kept_of from to P None holds = tt
kept_of from to P (Some c) holds = if_kept from to P c (outlasts (edges_of from) (edges_of to) c) (λ lasts. holds c refl lasts)

was_some : (from to : List (Option Edge)) (found : Option Learned) → IsSome (option_and_then (if_it_outlasts from to) found) → IsSome found
was_some from to None some = absurd (cc)
was_some from to (Some c) some = refl

some_conflict : (found : Option Entry) → is_some (conflict_of found) ≡ is_some found
some_conflict None = refl
some_conflict (Some entry) = refl

-- a table is taken over
module _ (old new : Slab Entry) (order kept : List ℕ) (from to : List (Option Edge)) (revised : (key : ℕ) → RevisesAt old new from to key) (ordered : kept ≡ filter (is_held new) order) where
  shown_kept : (key : ℕ) → conflict_at (shown_as new kept to) key ≡ option_and_then (if_it_outlasts from to) (conflict_at (shown_as old order from) key)
  shown_kept key =
      shown_at new kept to key
      ∙ ((revised key).conflict ∙ ap (λ found. option_and_then (if_it_outlasts from to) found) (sym (shown_at old order from key)))

  held_is_some : (key : ℕ) → is_held new key ≡ is_some (conflict_at (shown_as new kept to) key)
  held_is_some key = sym (ap is_some (shown_at new kept to key) ∙ some_conflict (get new key))

  pub revises : Revises (shown_as old order from) (shown_as new kept to) to
  revises = record {
    table = refl;
    conflicts = shown_kept;
    order = ordered ∙ filter_agree (is_held new) (λ key. is_some (conflict_at (shown_as new kept to) key)) held_is_some order;
  }

  found_at : (P : Learned → Type 0) → (key : ℕ) (c : Learned) → IfSome (conflict_at (shown_as old order from) key) P → conflict_at (shown_as old order from) key ≡ Some c → P c
  found_at P key c holds is = subst (λ found. IfSome found P) is holds

  pub held-revised : IsStore (shown_as old order from) → IsHeldStore new kept to
  held-revised before = record {
    sound = record {
      learned = λ key. subst (λ found. IfSome found IsLearned) (sym (shown_kept key))
          (kept_of from to IsLearned (conflict_at (shown_as old order from) key) (λ c is lasts. found_at IsLearned key c (before.learned key) is));
      valid = λ key. subst (λ found. IfSome found (IsValid (edges_of to))) (sym (shown_kept key))
          (kept_of from to (IsValid (edges_of to)) (conflict_at (shown_as old order from) key)
          (λ c is lasts. valid-outlasts (edges_of from) (edges_of to) c (found_at IsLearned key c (before.learned key) is) lasts (found_at (IsValid (edges_of from)) key c (before.valid key) is)));
      listed = λ key. (
        λ among. sym (held_is_some key) ∙ (filter-kept (is_held new) order key (subst (λ keys. Contains keys key) ordered among)).1,
        λ some.
            let was : IsSome (conflict_at (shown_as old order from) key) = was_some from to (conflict_at (shown_as old order from) key) (sym (ap is_some (shown_kept key)) ∙ some) in
            subst (λ keys. Contains keys key) (sym ordered) (filter-keeps (is_held new) order key ((before.listed key).1 was) (held_is_some key ∙ some)),
      );
      once = subst (λ keys. AllPairs ◌≢◌ keys) (sym ordered) (AllPairs-filter ◌≢◌ (is_held new) order before.once);
    };
    worth = λ key. (revised key).worth;
  }

-- how many pairs keys have
pairs_shown : (found : Option Entry) → option_map_or (λ (c : Learned). length c.pairs) (conflict_of found) 0 ≡ option_map_or (λ (e : Entry). length e.conflict.pairs) found 0
pairs_shown None = refl
pairs_shown (Some entry) = refl

pairs_under_shown : (entries : Slab Entry) (order : List ℕ) (table : List (Option Edge)) (key : ℕ) → pairs_under (shown_as entries order table) key ≡ pairs_at entries key
pairs_under_shown entries order table key =
    ap (λ found. option_map_or (λ (c : Learned). length c.pairs) found 0) (shown_at entries order table key) ∙ pairs_shown (get entries key)

sum_agrees : (f g : ℕ → ℕ) (xs : List ℕ) → ((k : ℕ) (d : ℕ) → k < length xs → f (get_or xs k d) ≡ g (get_or xs k d)) → sum (map f xs) ≡ sum (map g xs)
sum_agrees f g [] same = refl
sum_agrees f g (x ∷ xs) same =
    let first = same 0 x (omega arith) in
    let rest = sum_agrees f g xs (λ k d inside. same (suc k) d (omega arith)) in
    let one = sum_by-cons (λ (n : ℕ). n) (f x) (map f xs) in
    let other = sum_by-cons (λ (n : ℕ). n) (g x) (map g xs) in
    omega (arith, one, other, first, rest)

-- the earliest are given up
module _ (old new : Slab Entry) (order : List ℕ) (table : List (Option Edge)) (most count : ℕ) (few : count ≤ length order)
    (gone : (key : ℕ) → Contains (take count order) key → get new key ≡ None) (others : (key : ℕ) → (Contains (take count order) key → ⊥) → get new key ≡ get old key)
    (either : (key : ℕ) → (get new key ≡ None) ⊎ (get new key ≡ get old key)) (before : IsHeldStore old order table) where
  -- no key that stays is given up
  apart : (key : ℕ) → Contains (drop count order) key → Contains (take count order) key → ⊥
  apart key stays goes =
      let first : goes.0 < count = omega (arith, goes.1, length-take-le count order few) in
      let last : count + stays.0 < length order = omega (arith, stays.1, length-drop count order) in
      let here : get_or order goes.0 key ≡ key = sym (get_or-take count order goes.0 key first) ∙ goes.2 in
      let there : get_or order (count + stays.0) key ≡ key = sym (get_or-drop count order stays.0 key) ∙ stays.2 in
      before.sound.once goes.0 (count + stays.0) key (omega arith) last (here ∙ sym there)

  shown_either : (key : ℕ) → (conflict_at (shown_as new (drop count order) table) key ≡ None) ⊎ (conflict_at (shown_as new (drop count order) table) key ≡ conflict_at (shown_as old order table) key)
  shown_either key = elim (either key) [
    | inl none ↦ inl (shown_at new (drop count order) table key ∙ ap conflict_of none)
    | inr same ↦ inr (shown_at new (drop count order) table key ∙ (ap conflict_of same ∙ sym (shown_at old order table key)))
  ]

  shown_gone : (key : ℕ) → Contains (take count order) key → conflict_at (shown_as new (drop count order) table) key ≡ None
  shown_gone key goes = shown_at new (drop count order) table key ∙ ap conflict_of (gone key goes)

  shown_others : (key : ℕ) → (Contains (take count order) key → ⊥) → conflict_at (shown_as new (drop count order) table) key ≡ conflict_at (shown_as old order table) key
  shown_others key stays = shown_at new (drop count order) table key ∙ (ap conflict_of (others key stays) ∙ sym (shown_at old order table key))

  each_left : (P : Learned → Type 0) → ((key : ℕ) → IfSome (conflict_at (shown_as old order table) key) P) → (key : ℕ) → IfSome (conflict_at (shown_as new (drop count order) table) key) P
  each_left P holds key = elim (shown_either key) [
    | inl none ↦ subst (λ found. IfSome found P) (sym none) tt
    | inr same ↦ subst (λ found. IfSome found P) (sym same) (holds key)
  ]

  listed_left : (key : ℕ) → IsSome (conflict_at (shown_as new (drop count order) table) key) → Contains (drop count order) key
  listed_left key some = elim (shown_either key) [
    | inl none ↦ absurd (not_some none some)
    | inr same ↦
        let listed : Contains (take count order ++ drop count order) key =
        subst (λ keys. Contains keys key) (sym (take-append-drop count order)) ((before.sound.listed key).1 (sym (ap is_some same) ∙ some)) in
        elim (Contains-append_cases (take count order) (drop count order) key listed) [
          | inl goes ↦ absurd (not_some (shown_gone key goes) some)
          | inr stays ↦ stays
        ]
  ]

  was_listed : (key : ℕ) → Contains (drop count order) key → Contains order key
  was_listed key stays = subst (λ keys. Contains keys key) (take-append-drop count order) (Contains-append_right (take count order) (drop count order) key stays)

  pub held-left : IsHeldStore new (drop count order) table
  held-left = record {
    sound = record {
      learned = each_left IsLearned before.sound.learned;
      valid = each_left (IsValid (edges_of table)) before.sound.valid;
      listed = λ key. (λ stays. ap is_some (shown_others key (apart key stays)) ∙ (before.sound.listed key).0 (was_listed key stays), listed_left key);
      once = λ i j d less inside.
          let within : count + j < length order = omega (arith, inside, length-drop count order) in
          subst (λ (n : ℕ). n ≢ get_or (drop count order) j d) (sym (get_or-drop count order i d))
          (subst (λ (n : ℕ). get_or order (count + i) d ≢ n) (sym (get_or-drop count order j d)) (before.sound.once (count + i) (count + j) d (omega arith) within));
    };
    worth = λ key. elim (either key) [
      | inl none ↦ subst (λ found. IfSome found (IsWorth table)) (sym none) tt
      | inr same ↦ subst (λ found. IfSome found (IsWorth table)) (sym same) (before.worth key)
    ];
  }

  pairs_left : pairs_of (shown_as new (drop count order) table) (drop count order) ≡ pairs_among old (drop count order)
  pairs_left =
      sum_agrees (pairs_under (shown_as new (drop count order) table)) (pairs_at old) (drop count order)
      (λ k d inside.
      let key = get_or (drop count order) k d in
      let stays : Contains (drop count order) key = Contains-get_or (drop count order) k d inside in
      pairs_under_shown new (drop count order) table key ∙ ap (λ found. option_map_or (λ (e : Entry). length e.conflict.pairs) found 0) (others key (apart key stays)))

  pairs_before : (keys : List ℕ) → pairs_of (shown_as old order table) keys ≡ pairs_among old keys
  pairs_before keys = sum_agrees (pairs_under (shown_as old order table)) (pairs_at old) keys (λ k d inside. pairs_under_shown old order table (get_or keys k d))

  pub trims : pairs_among old (drop count order) ≤ most → ((fewer : ℕ) → fewer < count → most < pairs_among old (drop fewer order)) →
      Trims (shown_as old order table) (shown_as new (drop count order) table) most count
  trims within fewest = record {
    order = refl;
    given_up = shown_gone;
    others = shown_others;
    table = refl;
    within = subst (λ n. n ≤ most) (sym pairs_left) within;
    fewest = λ fewer less. subst (λ n. most < n) (sym (pairs_before (drop fewer order))) (fewest fewer less);
  }

-- none is given up
pub untrimmed : (entries : Slab Entry) (order : List ℕ) (table : List (Option Edge)) (most : ℕ) → IsHeldStore entries order table → pairs_among entries order ≤ most →
    Trims (shown_as entries order table) (shown_as entries order table) most 0
untrimmed entries order table most before within =
    trims entries entries order table most 0 (omega arith) (λ key goes. absurd (omega (arith, goes.1))) (λ key stays. refl) (λ key. inr refl) before within (λ fewer less. absurd (omega arith))

-- what an entry keeps
pub kept_for : (entries : Slab Entry) (order : List ℕ) (table : List (Option Edge)) → IsHeldStore entries order table → (key : ℕ) → IfSome (get entries key) (IsKeptFor table)
kept_for entries order table held key =
    at (get entries key) (subst (λ found. IfSome found IsLearned) (shown_at entries order table key) (held.sound.learned key))
    (subst (λ found. IfSome found (IsValid (edges_of table))) (shown_at entries order table key) (held.sound.valid key)) (held.worth key)
  where
    at : (found : Option Entry) → IfSome (conflict_of found) IsLearned → IfSome (conflict_of found) (IsValid (edges_of table)) → IfSome found (IsWorth table) → IfSome found (IsKeptFor table)
    at None learned valid worth = tt
    at (Some entry) learned valid worth = record { learned = learned; valid = valid; worth = worth }

-- a conflict that outlasts the change is kept
kept_whole : (from to : List (Option Edge)) (c : Learned) → outlasts (edges_of from) (edges_of to) c ≡ true → if_it_outlasts from to c ≡ Some c
kept_whole from to c lasts = ap (λ b. cond b (Some c) None) lasts

-- an entry without a mark is revised as it stands
untouched_here : (from to : List (Option Edge)) (changed : List Bool) (entry : Entry) → AreMarked from to changed → IsKeptFor from entry → IsUntouched changed entry →
    AreUntouched (edges_of from) (edges_of to) entry.conflict.pairs
untouched_here from to changed entry marked kept unmarked k d inside = marked.unmarked (get_or entry.conflict.pairs k d).0.0 (kept.learned.inside k d inside) (unmarked k d inside)

pub untouched-revised : (entries : Slab Entry) (from to : List (Option Edge)) (changed : List Bool) (key : ℕ) → AreMarked from to changed → IfSome (get entries key) (IsKeptFor from) →
    IfSome (get entries key) (IsUntouched changed) → RevisesAt entries entries from to key
untouched-revised entries from to changed key marked kept unmarked =
    record { conflict = same (get entries key) kept unmarked; worth = worth (get entries key) kept unmarked }
  where
    same : (found : Option Entry) → IfSome found (IsKeptFor from) → IfSome found (IsUntouched changed) → conflict_of found ≡ option_and_then (if_it_outlasts from to) (conflict_of found)
    same None kept unmarked = refl
    same (Some entry) kept unmarked =
        sym (kept_whole from to entry.conflict
        (untouched-outlasts (edges_of from) (edges_of to) entry.conflict marked.sound kept.learned kept.valid (untouched_here from to changed entry marked kept unmarked)))

    worth : (found : Option Entry) → IfSome found (IsKeptFor from) → IfSome found (IsUntouched changed) → IfSome found (IsWorth to)
    worth None kept unmarked = tt
    worth (Some entry) kept unmarked = λ flow. kept.worth flow ∙ sym (untouched-worth (edges_of from) (edges_of to) entry.conflict.pairs (untouched_here from to changed entry marked kept unmarked))

-- a filter that all pass
filter-all : (p : ℕ → Bool) (xs : List ℕ) → ((x : ℕ) → Contains xs x → p x ≡ true) → filter p xs ≡ xs
filter-all p [] passes = refl
filter-all p (x ∷ xs) passes =
    ap (λ b. cond b (x ∷ filter p xs) (filter p xs)) (passes x (0, omega arith, refl)) ∙ ap (λ rest. x ∷ rest) (filter-all p xs (λ y among. passes y (Contains-cons x y xs among)))

-- where nothing changed, a store is revised as it stands
pub unchanged-revises : (entries : Slab Entry) (order : List ℕ) (from to : List (Option Edge)) (changed : List Bool) → IsHeldStore entries order from → AreMarked from to changed → to ≡ from →
    Revises (shown_as entries order from) (shown_as entries order from) to
unchanged-revises entries order from to changed held marked same = record {
  table = sym same;
  conflicts = λ key. at (conflict_at (shown_as entries order from) key) (held.sound.learned key) (held.sound.valid key);
  order = sym (filter-all (λ key. is_some (conflict_at (shown_as entries order from) key)) order (λ key among. (held.sound.listed key).0 among));
}
  where
    at : (found : Option Learned) → IfSome found IsLearned → IfSome found (IsValid (edges_of from)) → found ≡ option_and_then (if_it_outlasts from to) found
    at None learned valid = refl
    at (Some c) learned valid =
        sym (kept_whole from to c
        (untouched-outlasts (edges_of from) (edges_of to) c marked.sound learned valid (λ k d inside. ap (λ table. edges_of table (get_or c.pairs k d).0.0) same)))
