-- A line of good bytes that a newline ends is the first of the lines.
use Rattle.std.proofs.Common.{◌≡◌, ◌≢◌, ℕ, ◌-◌, ◌≤◌, true, false, List, [], ◌∷◌, ◌++◌, length, get_or, refl, sym, ap, ◌∙◌, arith, ne_eqb, append_assoc}
use Rattle.std.specs.List.{list_all}
use Rattle.std.proofs.lemmas.Bool.{and_parts}
use Rattle.std.proofs.lemmas.List.Sums.{AllPass-from_list_all}
use Rattle.uhura_text.specs.Lines.{lines, whole, behind, shown}
use Rattle.uhura_text.proofs.Growing.{lines-nil, lines-push_newline, lines-whole_append, whole-push_newline}
use Rattle.uhura_text.proofs.LineLemmas.{shown-without_cr}
use Rattle.uhura_line.proofs.ReadsBack.{is_good}

-- a good byte is no byte that isn't good
good_other : (b n : ℕ) → is_good n ≡ false → is_good b ≡ true → b ≢ n
good_other b n bad good same = let both : is_good b ≡ is_good n = ap is_good same in cc

-- no newline is among good bytes
whole-good : (line : List ℕ) → list_all is_good line ≡ true → whole line ≡ []
whole-good [] good = refl
whole-good (b ∷ bs) good =
    let parts = and_parts (is_good b) (list_all is_good bs) good in
    rw (ne_eqb b 10 (good_other b 10 refl parts.0), whole-good bs parts.1) refl

-- no CR ends good bytes
no_cr : (line : List ℕ) → list_all is_good line ≡ true → get_or line (length line - 1) 0 ≢ 13
no_cr [] good cr = cc
no_cr (b ∷ bs) good cr =
    good_other (get_or (b ∷ bs) (length (b ∷ bs) - 1) 0) 13 refl (AllPass-from_list_all is_good (b ∷ bs) good (length (b ∷ bs) - 1) 0 (omega arith)) cr

-- so they are shown as they are
shown-good : (line : List ℕ) → list_all is_good line ≡ true → length line ≤ 4096 → shown (behind line) ≡ line
shown-good line good short = rw (whole-good line good) (sym (shown-without_cr line short (no_cr line good)))

-- the line in front of a newline is the first, and the lines behind it are the others
pub lines-cons : (line rest : List ℕ) → list_all is_good line ≡ true → length line ≤ 4096
    → lines (line ++ 10 ∷ rest) ≡ line ∷ lines rest
lines-cons line rest good short =
    let ended : List ℕ = line ++ 10 ∷ [] in
    let first : lines (whole ended) ≡ line ∷ [] = lines-push_newline line ∙ rw (shown-good line good short, whole-good line good, lines-nil) refl in
    ap lines (sym (append_assoc line (10 ∷ []) rest) ∙ ap (λ l. l ++ rest) (sym (whole-push_newline line)))
    ∙ (lines-whole_append ended rest ∙ ap (λ ls. ls ++ lines rest) first)
