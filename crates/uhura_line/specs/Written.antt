-- How a command is written: its words on a line of its own.
use Rattle.std.specs.Prelude.{◌≡◌, ℕ, false, List, [], ◌∷◌, ◌++◌, None, codes}
use Rattle.uhura_text.specs.Words.{words, first_bad, is_quiet}
use Rattle.uhura_line.specs.Form.{Word}

-- a line of words, separated by one space, with its newline
abbrev pub line_of : List Word → List ℕ
line_of [] = codes "\n"
line_of (word ∷ []) = word ++ codes "\n"
line_of (word ∷ next ∷ more) = word ++ codes " " ++ line_of (next ∷ more)

-- words with a space in front of each
abbrev pub spaced : List Word → List ℕ
spaced [] = []
spaced (word ∷ more) = codes " " ++ word ++ spaced more

-- words separated by one space
abbrev pub joined : List Word → List ℕ
joined [] = []
joined (word ∷ more) = word ++ spaced more

-- a line after a writer has put words behind it, each behind a space
abbrev pub Appends : List ℕ → List Word → List ℕ → Type 0
Appends line words longer = longer ≡ line ++ spaced words

-- a line after a writer has put words behind it that begin a line
abbrev pub Writes : List ℕ → List Word → List ℕ → Type 0
Writes line words longer = longer ≡ line ++ joined words

-- the line is read as these words: it holds no other byte, and is no comment
pub record ReadsAs (line : List ℕ) (ws : List Word) : Type 0 where
  pub words_are : words line ≡ ws
  pub no_bad_byte : first_bad line ≡ None
  pub asks : is_quiet line ≡ false

-- the text is one line with its newline, and the line is read as these words
pub record IsLineOf (text : List ℕ) (ws : List Word) : Type 0 where
  pub line : List ℕ
  pub is_line : text ≡ line ++ codes "\n"
  pub reads : ReadsAs line ws
