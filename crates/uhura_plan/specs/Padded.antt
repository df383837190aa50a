-- A fixed array of known filling is given back by its first elements.
use Rattle.std.specs.Prelude.{◌≡◌, ℕ, ◌-◌, ◌≤◌, List, ◌++◌, length, take, drop, replicate}
use Rattle.std.proofs.Common.{ap, sym, subst, ◌∙◌, take-append-drop, length-take-le}
use Rattle.uhura_plan.specs.declared.limits.TheConstants.{LITERALS, NAME_BYTES}
use Rattle.uhura_plan.specs.declared.guard.Literal.{Literal}
use Rattle.uhura_plan.specs.Name.{HoldsName}
use Rattle.uhura_plan.specs.Guard.{HoldsLiterals, no_literal}

module _ {X : Type 0} (filling : X) (size : ℕ) (array : List X) (len : ℕ)
    (capacity : length array ≡ size) (fits : len ≤ size) where
  -- the first elements are as many as the length says
  pub length-front : length (take len array) ≡ len
  length-front = length-take-le len array (subst (λ n. len ≤ n) (sym capacity) fits)

  -- the first elements and the filling are the array
  pub refilled : drop len array ≡ replicate (size - len) filling
      → take len array ++ replicate (size - length (take len array)) filling ≡ array
  refilled padding =
      ap (λ n. take len array ++ replicate (size - n) filling) length-front
      ∙ (ap (λ rest. take len array ++ rest) (sym padding) ∙ take-append-drop len array)

-- a name has as many bytes as is kept beside its array
pub length-padded : (bytes : List ℕ) (len : ℕ) → HoldsName bytes len
    → length (take len bytes) ≡ len
length-padded bytes len held = length-front 0 NAME_BYTES bytes len held.capacity held.fits

-- a name's bytes and zeros are its array
pub padded-back : (bytes : List ℕ) (len : ℕ) → HoldsName bytes len
    → take len bytes ++ replicate (NAME_BYTES - length (take len bytes)) 0 ≡ bytes
padded-back bytes len held = refilled 0 NAME_BYTES bytes len held.capacity held.fits held.padding

-- a guard has as many literals as is kept beside its array
pub length-guard : (literals : List Literal) (len : ℕ) → HoldsLiterals literals len
    → length (take len literals) ≡ len
length-guard literals len held =
    length-front no_literal LITERALS literals len held.capacity held.fits

-- a guard's literals and the filling are its array
pub padded-guard : (literals : List Literal) (len : ℕ) → HoldsLiterals literals len
    → take len literals ++ replicate (LITERALS - length (take len literals)) no_literal ≡ literals
padded-guard literals len held =
    refilled no_literal LITERALS literals len held.capacity held.fits held.padding
