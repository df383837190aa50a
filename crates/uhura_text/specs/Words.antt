-- What a line of text holds: its words, its first byte that may not stand there, and whether it is quiet.
use Rattle.std.specs.Prelude.{ℕ, Bool, true, List, Option, filter, find, position, length, not, ◌||◌, ◌&&◌, ◌==◌, nat_le, nat_lt}
use Rattle.std.specs.List.{slice_split}
use Rattle.std.specs.Option.{option_map_or}

-- a space or a tab
abbrev pub is_blank : ℕ → Bool
is_blank b = b == 32 || b == 9

-- a byte that words are made of
abbrev pub is_graphic : ℕ → Bool
is_graphic b = nat_le 0x21 b && nat_le b 0x7E

-- the place of the first byte that is neither a blank nor from 0x21 to 0x7E
unfoldable pub first_bad : List ℕ → Option ℕ
first_bad line = position (λ b. not (is_blank b || is_graphic b)) line

-- the words of a line: what stands between its blanks, but for the empty pieces
unfoldable pub words : List ℕ → List (List ℕ)
words line = filter (λ piece. nat_lt 0 (length piece)) (slice_split is_blank line)

-- a line that asks for nothing: all its bytes are blanks, or the first other byte is `#`
unfoldable pub is_quiet : List ℕ → Bool
is_quiet line = option_map_or (λ b. b == 35) (find (λ b. not (is_blank b)) line) true
