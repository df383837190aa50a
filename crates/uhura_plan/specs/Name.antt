-- What a name is.
use Rattle.std.specs.Prelude.{◌≡◌, ℕ, ◌-◌, ◌≤◌, Bool, not, ◌&&◌, ◌||◌, ◌==◌, nat_le, List, length, take, drop, replicate, IsTrue, bytes_eq, codes, slice_index}
use Rattle.std.specs.List.{list_all}
use Rattle.uhura_plan.specs.declared.limits.TheConstants.{NAME_BYTES}

-- an ASCII letter
unfoldable pub is_letter : ℕ → Bool
is_letter byte = (nat_le 65 byte && nat_le byte 90) || (nat_le 97 byte && nat_le byte 122)

-- an ASCII letter, a digit or `_`
unfoldable pub is_name_byte : ℕ → Bool
is_name_byte byte = is_letter byte || ((nat_le 48 byte && nat_le byte 57) || byte == 95)

-- three words that stand where a name might follow: they are no names
unfoldable pub is_fixed_word : List ℕ → Bool
is_fixed_word word =
    bytes_eq word (codes "lower") || (bytes_eq word (codes "upper") || bytes_eq word (codes "when"))

-- a name has 1 to 32 bytes: a letter, then letters, digits and `_`; the fixed words are no names
unfoldable pub is_name : List ℕ → Bool
is_name word =
    (nat_le 1 (length word) && nat_le (length word) NAME_BYTES)
    && (is_letter (slice_index word 0) && (list_all is_name_byte word && not (is_fixed_word word)))

-- the bytes begin with a name of this length, and zeros follow
pub record HoldsName (bytes : List ℕ) (len : ℕ) : Type 0 where
  pub capacity : length bytes ≡ NAME_BYTES
  pub fits : len ≤ NAME_BYTES
  pub padding : drop len bytes ≡ replicate (NAME_BYTES - len) 0
  pub name : IsTrue (is_name (take len bytes))
