-- Numbers as they are written: each has one spelling.
use Rattle.std.specs.Prelude.{ℕ, ℤ, pos, neg_ℤ, Bool, List, Option, Some, None, length, drop, slice_index, codes, bytes_eq, ◌&&◌, ◌==◌, nat_le, nat_lt, if◌then◌else◌}
use Rattle.std.specs.List.{list_all}
use Rattle.std.specs.Char.{is_ascii_digit}
use Rattle.std.specs.Str.Parse.{digits_value}
use Rattle.std.specs.Fmt.{signed_decimal}
use Rattle.uhura_text.specs.declared.numeral.TheConstants.{DIGITS}

-- digits that write a number above 0: at most 30, and the first is no `0`
unfoldable pub is_magnitude : List ℕ → Bool
is_magnitude ds =
    nat_le (length ds) DIGITS && nat_lt 48 (slice_index ds 0) && list_all is_ascii_digit ds

-- the number that a word writes: it is `0`, or a number above 0, or `-` and a number above 0
unfoldable pub number_of : List ℕ → Option ℤ
number_of word =
    if bytes_eq word (codes "0") then Some (pos 0)
    else if is_magnitude word then Some (pos (digits_value 10 word))
    else if slice_index word 0 == 45 && is_magnitude (drop 1 word)
    then Some (neg_ℤ (pos (digits_value 10 (drop 1 word))))
    else None

-- how a number is written: its decimal digits, behind a `-` where it is below 0
abbrev pub spelling : ℤ → List ℕ
spelling z = signed_decimal z
