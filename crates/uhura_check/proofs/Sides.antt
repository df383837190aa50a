-- The units of a side are those of its pair, where it has one.
use Rattle.std.proofs.Common.{◌≡◌, ◌≢◌, ℕ, zero, suc, ◌+◌, ◌<◌, ◌≤◌, Bool, true, false, true≢false, List, [], ◌∷◌, length, Contains, refl, sym, ap, ◌∙◌, subst, inl, inr, arith}
use Rattle.std.specs.Prelude.{◌⊎◌, All, AllPairs, if◌then◌else◌, ◌&&◌}
use Rattle.std.proofs.lemmas.Bool.Decides.{Decides-eqb}
use Rattle.std.proofs.lemmas.List.Elements.{All-nil, All-cons, All-weaker}
use Rattle.std.proofs.lemmas.List.Kept.{AllPairs-cons}
use Rattle.uhura_plan.specs.declared.key.Side.{Side}
use Rattle.uhura_plan.specs.declared.key.Side.TheVariants.{Lower, Upper}
use Rattle.uhura_plan.specs.declared.key.Item.{Item}
use Rattle.uhura_plan.specs.declared.key.Item.TheVariants.{Requirement, Uncertain}
use Rattle.uhura_plan.specs.declared.key.SideKey.{SideKey}
use Rattle.uhura_plan.specs.Keys.{is_same_side, is_same_item, is_same_key}
use Rattle.uhura_worst.specs.Units.{side_units}
use Rattle.uhura_shows.proofs.Lists.{pairs-head, pairs-tail, contains-further}
use Rattle.uhura_cert.specs.Order.{Rises}

-- two keys that are tested to be one are one
same_side : (a b : Side) → is_same_side a b ≡ true → a ≡ b
same_side Lower Lower same = refl
same_side Upper Upper same = refl
same_side Lower Upper same = absurd (true≢false (sym same))
same_side Upper Lower same = absurd (true≢false (sym same))

same_item : (a b : Item) → is_same_item a b ≡ true → a ≡ b
same_item (Requirement a) (Requirement b) same = ap (λ (n : ℕ). Requirement n) ((Decides-eqb a b).0 same)
same_item (Uncertain a) (Uncertain b) same = ap (λ (n : ℕ). Uncertain n) ((Decides-eqb a b).0 same)
same_item (Requirement a) (Uncertain b) same = absurd (true≢false (sym same))
same_item (Uncertain a) (Requirement b) same = absurd (true≢false (sym same))

both : (p q : Bool) → (p && q) ≡ true → (p ≡ true) × (q ≡ true)
both true q same = (refl, same)
both false q same = absurd (true≢false (sym same))

same_key : (a b : SideKey) → is_same_key a b ≡ true → a ≡ b
same_key a b same =
    let parts : (is_same_item a.item b.item ≡ true) × (is_same_side a.side b.side ≡ true) = both (is_same_item a.item b.item) (is_same_side a.side b.side) same in
    let item : a.item ≡ b.item = same_item a.item b.item parts.0 in
    let side : a.side ≡ b.side = same_side a.side b.side parts.1 in
    let with_item : Item → SideKey = λ i. record { item = i; side = a.side } in
    let with_side : Side → SideKey = λ s. record { item = b.item; side = s } in
    ap with_item item ∙ ap with_side side

itself_side : (a : Side) → is_same_side a a ≡ true
itself_side Lower = refl
itself_side Upper = refl

itself_item : (a : Item) → is_same_item a a ≡ true
itself_item (Requirement a) = (Decides-eqb a a).1 refl
itself_item (Uncertain a) = (Decides-eqb a a).1 refl

itself_key : (a : SideKey) → is_same_key a a ≡ true
itself_key a = rw (itself_item a.item, itself_side a.side) refl

-- a side has no units, or those of one of the pairs
abbrev pub AreFrom : List (SideKey × ℕ) → SideKey → ℕ → Type 0
AreFrom pairs key units = (units ≡ 0) ⊎ Contains pairs (key, units)

pub units-from : (pairs : List (SideKey × ℕ)) (key : SideKey) → AreFrom pairs key (side_units pairs key)
units-from [] key = inl refl
units-from (pair ∷ pairs) key = by (is_same_key pair.0 key) refl (units-from pairs key)
  where
    by : (b : Bool) → is_same_key pair.0 key ≡ b → AreFrom pairs key (side_units pairs key) → AreFrom (pair ∷ pairs) key (if b then pair.1 else side_units pairs key)
    by true same rest = inr (0, omega arith, ap (λ (k : SideKey). (k, pair.1)) (same_key pair.0 key same))
    by false other (inl none) = inl none
    by false other (inr there) = inr (contains-further pair (key, side_units pairs key) pairs there)

-- where no side has two pairs, a pair gives its side its units
pub units-own : (pairs : List (SideKey × ℕ)) (pair : SideKey × ℕ) → AllPairs (λ a b. a.0 ≢ b.0) pairs → Contains pairs pair → side_units pairs pair.0 ≡ pair.1
units-own [] pair once (k, below, is) = absurd (omega (arith, below))
units-own (first ∷ pairs) pair once (zero, below, is) = subst (λ (p : SideKey × ℕ). side_units (first ∷ pairs) p.0 ≡ p.1) is own
  where
    by : (b : Bool) → b ≡ true → (if b then first.1 else side_units pairs first.0) ≡ first.1
    by true same = refl
    by false same = absurd (true≢false (sym same))

    own : side_units (first ∷ pairs) first.0 ≡ first.1
    own = by (is_same_key first.0 first.0) (itself_key first.0)
units-own (first ∷ pairs) pair once (suc k, below, is) =
    by (is_same_key first.0 pair.0) refl (units-own pairs pair (pairs-tail (λ (a b : SideKey × ℕ). a.0 ≢ b.0) first pairs once) (k, inside, is))
  where
    inside : k < length pairs
    inside = omega (arith, below)

    other : first.0 ≢ pair.0
    other = subst (λ (p : SideKey × ℕ). first.0 ≢ p.0) is (pairs-head (λ (a b : SideKey × ℕ). a.0 ≢ b.0) first pairs once k pair inside)

    by : (b : Bool) → is_same_key first.0 pair.0 ≡ b → side_units pairs pair.0 ≡ pair.1 → (if b then first.1 else side_units pairs pair.0) ≡ pair.1
    by true same rest = absurd (other (same_key first.0 pair.0 same))
    by false differs rest = rest

-- places that rise are those of different things
rises-above : {A : Type 0} (place : A → ℕ) (least : ℕ) (xs : List A) → Rises place least xs → All (λ x. least ≤ place x) xs
rises-above place least [] rises = All-nil (λ x. least ≤ place x)
rises-above place least (x ∷ xs) rises =
    All-cons (λ y. least ≤ place y) x xs rises.0
    (All-weaker (λ y. place x + 1 ≤ place y) (λ y. least ≤ place y) (λ y above. omega (arith, above, rises.0)) xs (rises-above place (place x + 1) xs rises.1))

pub rises-once : {A B : Type 0} (key : A → B) (place : B → ℕ) (least : ℕ) (xs : List A) → Rises (λ x. place (key x)) least xs → AllPairs (λ a b. key a ≢ key b) xs
rises-once key place least [] rises = λ i j d less below. absurd (omega arith)
rises-once key place least (x ∷ xs) rises =
    AllPairs-cons (λ a b. key a ≢ key b) x xs
    (All-weaker (λ y. place (key x) + 1 ≤ place (key y)) (λ y. key x ≢ key y) (λ y above same. omega (arith, above, ap place same)) xs
    (rises-above (λ y. place (key y)) (place (key x) + 1) xs rises.1))
    (rises-once key place (place (key x) + 1) xs rises.1)
