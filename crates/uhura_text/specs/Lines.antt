-- The lines of a list of bytes.
use Rattle.std.specs.Prelude.{ℕ, ◌+◌, ◌-◌, ◌==◌, nat_le, List, [], ◌∷◌, length, map, take, drop, slice_index, if◌then◌else◌}
use Rattle.uhura_text.specs.declared.lines.TheConstants.{LINE_LIMIT}

-- a byte in front of the first line, which it begins where there is none
abbrev pub before_first_line : ℕ → List (List ℕ) → List (List ℕ)
before_first_line b [] = (b ∷ []) ∷ []
before_first_line b (l ∷ ls) = (b ∷ l) ∷ ls

-- the bytes cut at their newlines (10): what follows the last newline is a line where it has a byte
abbrev pub raw_lines : List ℕ → List (List ℕ)
raw_lines [] = []
raw_lines (b ∷ bs) = if b == 10 then [] ∷ raw_lines bs else before_first_line b (raw_lines bs)

-- a line without the CR (13) that may stand at its end
abbrev pub without_cr : List ℕ → List ℕ
without_cr l = if slice_index l (length l - 1) == 13 then take (length l - 1) l else l

-- a line as its reader sees it: without its CR where it has at most 4,096 bytes, else its first 4,097 bytes
unfoldable pub shown : List ℕ → List ℕ
shown l = if nat_le (length l) LINE_LIMIT then without_cr l else take (LINE_LIMIT + 1) l

-- the lines of the bytes, an unfinished last one included
unfoldable pub lines : List ℕ → List (List ℕ)
lines bytes = map shown (raw_lines bytes)

-- a byte in front of what ends with the last newline, which is nothing where there is none
abbrev pub before_newline : ℕ → List ℕ → List ℕ
before_newline b [] = []
before_newline b (c ∷ cs) = b ∷ c ∷ cs

-- the bytes up to the last newline and with it
abbrev pub whole : List ℕ → List ℕ
whole [] = []
whole (b ∷ bs) = if b == 10 then b ∷ whole bs else before_newline b (whole bs)

-- the bytes behind the last newline
abbrev pub behind : List ℕ → List ℕ
behind bs = drop (length (whole bs)) bs
