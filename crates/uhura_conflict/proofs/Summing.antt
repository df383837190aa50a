-- What summaries say of entries, as entries come, go and change.
use Rattle.std.proofs.Common.{◌≡◌, ◌⊎◌, ℕ, ◌+◌, ◌*◌, ◌/◌, ◌<◌, ◌≤◌, ℤ, ◌≤ℤ◌, ◌<ℤ◌, Bool, true, false, ◌||◌, List, [], ◌∷◌, ◌++◌, length, get_or, Option, Some, None, inl, inr, ap, sym, subst, refl, ◌∙◌, arith}
use Rattle.std.specs.Prelude.{IsTrue, IsFalse, IsSome, IfSome, is_some, int_lt, int_le, option_and_then}
use Rattle.std.proofs.lemmas.Int.{ints}
use Rattle.std.proofs.lemmas.Bool.{cases_Bool, cases_eq, cases_lt}
use Rattle.std.proofs.lemmas.List.{get_or_past, get_or_push, get_or_append_left, length-append}
use Rattle.slab.specs.Slab.{Slab, get, Updates}
use Rattle.uhura_choice.specs.declared.prefix.Pick.{Pick}
use Rattle.uhura_net.specs.declared.edge.Edge.{Edge}
use Rattle.uhura_conflict.specs.declared.bound.Bound.{Bound}
use Rattle.uhura_conflict.specs.declared.sought.Sought.{Sought}
use Rattle.uhura_conflict.specs.declared.sought.Sought.TheVariants.{NoEntry, Cycle, Above, AtLeast}
use Rattle.uhura_conflict.specs.declared.entry.Entry.{Entry}
use Rattle.uhura_conflict.specs.declared.summary.Summary.{Summary}
use Rattle.uhura_conflict.specs.declared.summaries.Summaries.{Summaries}
use Rattle.uhura_conflict.specs.declared.summaries.TheConstants.{BLOCK, GROUP}
use Rattle.uhura_conflict.specs.Literals.{AreAllPicked, Applies}
use Rattle.uhura_conflict.specs.Store.{if_it_outlasts}
use Rattle.uhura_conflict.specs.Entries.{conflict_of, is_sought_by, is_sought, beyond, NoneBetween, RevisesAt, IsBestBelow}
use Rattle.uhura_conflict.specs.Summaries.{IsCoveredBy, AreCovered, AreSummed, IsInRange, IsReached, CannotMatter}
use Rattle.uhura_conflict.proofs.Greatest.{true_false, lt_z, le_z, least_z, more_z, best-passed_over}

not_least : (a b : ℤ) → b <ℤ a → int_le a b ≡ false
not_least a b less = elim (cases_Bool (int_le a b)) [
  | inl least ↦ absurd (omega (arith, ints, less, least_z a b least))
  | inr so ↦ so
]

not_less : (a b : ℤ) → b ≤ℤ a → int_lt a b ≡ false
not_less a b least = elim (cases_Bool (int_lt a b)) [
  | inl less ↦ absurd (omega (arith, ints, least, lt_z a b less))
  | inr least_so ↦ least_so
]

-- where a wider value isn't looked for, a narrower isn't
not-stuck : (stuck wide : Bool) → (IsTrue stuck → IsTrue wide) → wide ≡ false → stuck ≡ false
not-stuck true wide to none = absurd (true_false (to refl) none)
not-stuck false wide to none = refl

narrower : (stuck wide less more : Bool) → (IsTrue stuck → IsTrue wide) → (more ≡ false → less ≡ false) → (wide || more) ≡ false → (stuck || less) ≡ false
narrower stuck true less more to down none = absurd (cc)
narrower true false less more to down none = absurd (true_false (to refl) refl)
narrower false false less more to down none = down none

sought-narrower : (sought : Sought) (value greatest : ℤ) (stuck wide : Bool) → (IsTrue stuck → IsTrue wide) → value ≤ℤ greatest → is_sought_by sought wide greatest ≡ false → is_sought_by sought stuck value ≡ false
sought-narrower NoEntry value greatest stuck wide to less none = refl
sought-narrower Cycle value greatest stuck wide to less none = not-stuck stuck wide to none
sought-narrower (Above most) value greatest stuck wide to less none =
    narrower stuck wide (int_lt most value) (int_lt most greatest) to (λ no. not_less most value (omega (arith, ints, less, le_z most greatest no))) none
sought-narrower (AtLeast least) value greatest stuck wide to less none =
    narrower stuck wide (int_le least value) (int_le least greatest) to (λ no. not_least least value (omega (arith, ints, less, more_z least greatest no))) none

-- no entry of a block is found that isn't looked for, or that doesn't apply
pub cannot-be_sought : (summary : Summary) (picks : List Pick) (sought : Sought) → is_sought_by sought summary.stuck summary.greatest ≡ false → CannotMatter (Some summary) picks sought
cannot-be_sought summary picks sought none = λ entry covers applies. sought-narrower sought entry.value summary.greatest entry.conflict.stuck summary.stuck covers.stuck covers.greatest none

pub cannot-apply : (summary : Summary) (picks : List Pick) (sought : Sought) → (AreAllPicked picks summary.literals → ⊥) → CannotMatter (Some summary) picks sought
cannot-apply summary picks sought never = λ entry covers applies. absurd (never (λ literal asks. applies literal (covers.literals literal asks)))

-- nothing is found in a block that cannot matter
pub none-in_block : (size : ℕ) (blocks : List (Option Summary)) (entries : Slab Entry) (picks : List Pick) (sought : Sought) (block : ℕ) → AreCovered size blocks entries →
    CannotMatter (get_or blocks block None) picks sought → ((key : ℕ) → block * size ≤ key → key < block * size + size → key / size ≡ block) →
    NoneBetween entries picks sought (block * size) (block * size + size)
none-in_block size blocks entries picks sought block covered cannot inside =
    λ key least less. at (get entries key) (subst (λ b. IfSome (get entries key) (IsCoveredBy (get_or blocks b None))) (inside key least less) (covered key))
  where
    at : (found : Option Entry) → IfSome found (IsCoveredBy (get_or blocks block None)) → IfSome found (λ (entry : Entry). Applies picks entry.conflict → IsFalse (is_sought sought entry))
    at None covers = tt
    at (Some entry) covers = cannot entry covers

-- such a block is passed over
pub best-passed_block : (size : ℕ) (blocks : List (Option Summary)) (entries : Slab Entry) (picks : List Pick) (best : Bound) (block : ℕ) → AreCovered size blocks entries →
    CannotMatter (get_or blocks block None) picks (beyond best) → ((key : ℕ) → block * size ≤ key → key < block * size + size → key / size ≡ block) →
    IsBestBelow (block * size) entries picks best → IsBestBelow (block * size + size) entries picks best
best-passed_block size blocks entries picks best block covered cannot inside so_far =
    best-passed_over entries picks best (block * size) size (none-in_block size blocks entries picks (beyond best) block covered cannot inside) so_far

-- what holds of an entry, if there is one
if_some : (P Q : Entry → Type 0) → ((entry : Entry) → P entry → Q entry) → (found : Option Entry) → IfSome found P → IfSome found Q
if_some P Q to None holds = tt
if_some P Q to (Some entry) holds = to entry holds

-- an entry comes
pub covered-added : (size : ℕ) (before after : List (Option Summary)) (old new : Slab Entry) (key : ℕ) (entry : Entry) → Updates old new key (Some entry) →
    IsCoveredBy (get_or after (key / size) None) entry → ((block : ℕ) (it : Entry) → IsCoveredBy (get_or before block None) it → IsCoveredBy (get_or after block None) it) →
    AreCovered size before old → AreCovered size after new
covered-added size before after old new key entry updates here kept covered other =
    elim (cases_eq other key) [
      | inl same ↦
          subst (λ k. IfSome (get new k) (IsCoveredBy (get_or after (k / size) None))) (sym same)
          (subst (λ found. IfSome found (IsCoveredBy (get_or after (key / size) None))) (sym updates.changed) here)
      | inr differs ↦
          subst (λ found. IfSome found (IsCoveredBy (get_or after (other / size) None))) (sym (updates.others other differs))
          (if_some (IsCoveredBy (get_or before (other / size) None)) (IsCoveredBy (get_or after (other / size) None)) (kept (other / size)) (get old other) (covered other))
    ]

-- a list that has the same summary everywhere covers the same
pub covered-same : (size : ℕ) (before after : List (Option Summary)) (entries : Slab Entry) → ((block : ℕ) → get_or after block None ≡ get_or before block None) →
    AreCovered size before entries → AreCovered size after entries
covered-same size before after entries same covered key = subst (λ summary. IfSome (get entries key) (IsCoveredBy summary)) (sym (same (key / size))) (covered key)

-- where there is no entry, nothing is to be covered
pub covered-none : (size : ℕ) (blocks : List (Option Summary)) (entries : Slab Entry) → ((key : ℕ) → get entries key ≡ None) → AreCovered size blocks entries
covered-none size blocks entries none key = subst (λ found. IfSome found (IsCoveredBy (get_or blocks (key / size) None))) (sym (none key)) tt

-- the summary of a block that has an entry is in the list
no_summary : (found : Option Entry) → IsSome found → IfSome found (IsCoveredBy None) → ⊥
no_summary None some covers = absurd (cc)
no_summary (Some entry) some covers = covers

pub covered-range : (size : ℕ) (blocks : List (Option Summary)) (entries : Slab Entry) → AreCovered size blocks entries → (key : ℕ) → IsSome (get entries key) → IsInRange size blocks key
covered-range size blocks entries covered key some =
    elim (cases_lt (key / size) (length blocks)) [
      | inl below ↦ below
      | inr past ↦ absurd (no_summary (get entries key) some (subst (λ summary. IfSome (get entries key) (IsCoveredBy summary)) (get_or_past blocks (key / size) None past) (covered key)))
    ]

-- where entries only went or changed, each key has its group and its block still
pub reached-left : (summaries : Summaries) (old new : Slab Entry) → ((key : ℕ) → IsSome (get new key) → IsSome (get old key)) → AreSummed summaries old → (key : ℕ) → IsSome (get new key) →
    IsReached summaries key
reached-left summaries old new was summed key some = record {
  group = covered-range GROUP summaries.groups.items old summed.groups key (was key some);
  block = covered-range BLOCK summaries.blocks.items old summed.blocks key (was key some);
}

was_there : (from to : List (Option Edge)) (before after : Option Entry) → conflict_of after ≡ option_and_then (if_it_outlasts from to) (conflict_of before) → IsSome after → IsSome before
was_there from to None None is some = some
was_there from to None (Some entry) is some = absurd (cc)
was_there from to (Some entry) after is some = refl

pub reached-revised : (summaries : Summaries) (old new : Slab Entry) (from to : List (Option Edge)) → ((key : ℕ) → RevisesAt old new from to key) → AreSummed summaries old → (key : ℕ) →
    IsSome (get new key) → IsReached summaries key
reached-revised summaries old new from to revised = reached-left summaries old new (λ key. was_there from to (get old key) (get new key) (revised key).conflict)

pub reached-either : (summaries : Summaries) (old new : Slab Entry) → ((key : ℕ) → (get new key ≡ None) ⊎ (get new key ≡ get old key)) → AreSummed summaries old → (key : ℕ) →
    IsSome (get new key) → IsReached summaries key
reached-either summaries old new either =
    reached-left summaries old new
    (λ key some. elim (either key) [
      | inl none ↦ absurd (true_false some (ap is_some none))
      | inr same ↦ sym (ap is_some same) ∙ some
    ])

-- how much room there is says nothing of what is covered
pub summed-capacity : (summaries : Summaries) (entries : Slab Entry) (capacity : ℕ) → AreSummed summaries entries → AreSummed summaries (record entries { capacity = capacity })
summed-capacity summaries entries capacity summed = record { groups = summed.groups; blocks = summed.blocks }

-- what comes to a list without an entry changes nothing
pub pushed-none : (blocks : List (Option Summary)) (block : ℕ) → get_or (blocks ++ None ∷ []) block None ≡ get_or blocks block None
pushed-none blocks block =
    elim (cases_lt block (length blocks)) [
      | inl below ↦ get_or_append_left blocks (None ∷ []) None block below
      | inr past ↦
          elim (cases_eq block (length blocks)) [
            | inl same ↦ get_or_push blocks None None block (sym same) ∙ sym (get_or_past blocks block None past)
            | inr differs ↦ get_or_past (blocks ++ None ∷ []) block None (omega (arith, length-append blocks (None ∷ []))) ∙ sym (get_or_past blocks block None past)
          ]
    ]
