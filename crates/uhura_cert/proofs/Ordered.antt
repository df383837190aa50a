-- Lists in order that grow by one at their end, and lines for each thing of a list, one after the other.
use Rattle.std.proofs.Common.{◌≡◌, ℕ, zero, suc, ◌+◌, ◌<◌, ◌≤◌, List, [], ◌∷◌, ◌++◌, length, map, Some, slice_get, refl, sym, ap, ◌∙◌, arith, append_assoc, append-nil}
use Rattle.std.specs.List.{AllByRecursion}
use Rattle.uhura_cert.specs.Order.{Rises}
use Rattle.uhura_cert.specs.Machine.{end_of}
use Rattle.uhura_cert.specs.Run.{Run}

module _ {X : Type 0} (place : X → ℕ) where
  -- a thing that comes next
  pub rises_next : (least : ℕ) (xs : List X) (x : X) → Rises place least xs → end_of place least xs ≤ place x → Rises place least (xs ++ x ∷ [])
  rises_next least [] x rises next = (next, tt)
  rises_next least (y ∷ xs) x rises next = (rises.0, rises_next (place y + 1) xs x rises.1 next)

  -- a thing comes behind those before it
  pub rises_at : (least : ℕ) (front : List X) (x : X) (back : List X) → Rises place least (front ++ x ∷ back) → end_of place least front ≤ place x
  rises_at least [] x back rises = rises.0
  rises_at least (y ∷ front) x back rises = rises_at (place y + 1) front x back rises.1

-- one more that is such
pub all_next : {X : Type 0} (P : X → Type 0) (xs : List X) (x : X) → AllByRecursion P xs → P x → AllByRecursion P (xs ++ x ∷ [])
all_next P [] x are is = (is, tt)
all_next P (y ∷ xs) x are is = (are.0, all_next P xs x are.1 is)

-- each is such
pub all_at : {X : Type 0} (P : X → Type 0) (front : List X) (x : X) (back : List X) → AllByRecursion P (front ++ x ∷ back) → P x
all_at P [] x back are = are.0
all_at P (y ∷ front) x back are = all_at P front x back are.1

-- those in front are such
pub all_front : {X : Type 0} (P : X → Type 0) (front back : List X) → AllByRecursion P (front ++ back) → AllByRecursion P front
all_front P [] back are = tt
all_front P (y ∷ front) back are = (are.0, all_front P front back are.1)

module _ {S L X : Type 0} (Step : S → L → S → Type 0) (at : List X → S) (line : X → L) (whole : List X)
    (each : (front : List X) (x : X) (back : List X) → whole ≡ front ++ x ∷ back → Step (at front) (line x) (at (front ++ x ∷ []))) where
  -- the lines of a list, where each leads on from those before it
  from_each : (front back : List X) → whole ≡ front ++ back → Run Step (at front) (map line back) (at whole)
  from_each front [] is = ap at (is ∙ append-nil front)
  from_each front (x ∷ back) is = record {
    next = at (front ++ x ∷ []);
    step = each front x back is;
    rest = from_each (front ++ x ∷ []) back (is ∙ sym (append_assoc front (x ∷ []) back));
  }

  pub runs_each : Run Step (at []) (map line whole) (at whole)
  runs_each = from_each [] whole refl

-- the elements of a list stand at their places where one more is behind them
pub slice_get-kept : {X : Type 0} (xs : List X) (y : X) (i : ℕ) → i < length xs → slice_get (xs ++ y ∷ []) i ≡ slice_get xs i
slice_get-kept [] y i within = absurd (omega (arith, within))
slice_get-kept (x ∷ xs) y zero within = refl
slice_get-kept (x ∷ xs) y (suc i) within = slice_get-kept xs y i (omega (arith, within))

-- the one behind stands where the others end
pub slice_get-last : {X : Type 0} (xs : List X) (y : X) → slice_get (xs ++ y ∷ []) (length xs) ≡ Some y
slice_get-last [] y = refl
slice_get-last (x ∷ xs) y = slice_get-last xs y
