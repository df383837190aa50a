-- Sides that have units.
use Rattle.std.proofs.Common.{◌≡◌, ◌≢◌, ℕ, zero, suc, ◌<◌, ◌≤◌, Bool, true, false, true≢false, List, [], ◌∷◌, ◌++◌, length, get_or, All, sym, ap, ◌∙◌, arith}
use Rattle.std.specs.Prelude.{if◌then◌else◌}
use Rattle.std.proofs.lemmas.List.Elements.{All-push, All-head, All-tail}
use Rattle.std.proofs.lemmas.List.Quantifiers.{all_pairs_push}
use Rattle.uhura_plan.specs.declared.key.SideKey.{SideKey}
use Rattle.uhura_plan.specs.Keys.{is_same_key}
use Rattle.uhura_worst.specs.Units.{side_units, AreUnits, IsLoosening}
use Rattle.uhura_worst.proofs.Puts.{itself_key}

-- a side that has a pair has units
named-units : (pairs : List (SideKey × ℕ)) (key : SideKey) (i : ℕ) (d : SideKey × ℕ) → All (λ (pair : SideKey × ℕ). AreUnits pair.1) pairs → i < length pairs → (get_or pairs i d).0 ≡ key → 1 ≤ side_units pairs key
named-units [] key i d units below named = absurd (omega (arith, below))
named-units (pair ∷ pairs) key zero d units below named =
    by (is_same_key pair.0 key) (ap (λ (k : SideKey). is_same_key pair.0 k) (sym named) ∙ itself_key pair.0)
  where
    by : (b : Bool) → b ≡ true → 1 ≤ (if b then pair.1 else side_units pairs key)
    by true same = (All-head (λ (p : SideKey × ℕ). AreUnits p.1) pair pairs units).some
    by false same = absurd (true≢false (sym same))
named-units (pair ∷ pairs) key (suc i) d units below named =
    by (is_same_key pair.0 key) (named-units pairs key i d (All-tail (λ (p : SideKey × ℕ). AreUnits p.1) pair pairs units) (omega (arith, below)) named)
  where
    by : (b : Bool) → 1 ≤ side_units pairs key → 1 ≤ (if b then pair.1 else side_units pairs key)
    by true rest = (All-head (λ (p : SideKey × ℕ). AreUnits p.1) pair pairs units).some
    by false rest = rest

-- a side has at most as many units as a pair may
pub side_units-most : (pairs : List (SideKey × ℕ)) (key : SideKey) → All (λ (pair : SideKey × ℕ). AreUnits pair.1) pairs → side_units pairs key ≤ 10000000000000
side_units-most [] key units = omega arith
side_units-most (pair ∷ pairs) key units =
    by (is_same_key pair.0 key) (side_units-most pairs key (All-tail (λ (p : SideKey × ℕ). AreUnits p.1) pair pairs units))
  where
    by : (b : Bool) → side_units pairs key ≤ 10000000000000 → (if b then pair.1 else side_units pairs key) ≤ 10000000000000
    by true rest = (All-head (λ (p : SideKey × ℕ). AreUnits p.1) pair pairs units).most
    by false rest = rest

-- one more side
pub IsLoosening-push : (pairs : List (SideKey × ℕ)) (key : SideKey) (units : ℕ) → IsLoosening pairs → side_units pairs key ≡ 0 → AreUnits units → IsLoosening (pairs ++ (key, units) ∷ [])
IsLoosening-push pairs key units sound fresh some = record {
  units = All-push (λ (p : SideKey × ℕ). AreUnits p.1) pairs (key, units) sound.units some;
  once = all_pairs_push (λ (a b : SideKey × ℕ). a.0 ≢ b.0) pairs (key, units) sound.once
      (λ k d below named. let there : 1 ≤ side_units pairs key = named-units pairs key k d sound.units below named in omega (arith, there, fresh));
}
