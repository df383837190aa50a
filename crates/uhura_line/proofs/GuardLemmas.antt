-- How a guard is read.
use Rattle.std.proofs.Common.{◌≡◌, Bool, true, false, cond, List, [], ◌∷◌, Option, Some, None, bytes_eq, codes, refl, ap, sym, ◌∙◌}
use Rattle.std.proofs.lemmas.Slice.Eq.{bytes_eq-Decides}
use Rattle.uhura_line.specs.declared.part.pairs.Pairs.{Pairs}
use Rattle.uhura_line.specs.Form.{Word, pair_words, guard_words}
use Rattle.uhura_line.specs.Reader.{pairs_of, guard_of, begins_with}
use Rattle.uhura_line.specs.Pairs.{HoldsPairs, ReadsPairs, ReadsGuard}
use Rattle.uhura_line.proofs.Pairing.{pairs_found, pairs_are}

-- behind `when` a guard is its pairs
guard-pairs : (words more : List Word) (word : Word) → words ≡ word ∷ more → bytes_eq word (codes "when") ≡ true
    → (more ≡ [] → ⊥) → guard_of words ≡ pairs_of more
guard-pairs words [] word e when some = absurd (some refl)
guard-pairs words (a ∷ more) word e when some = rw (e, when) refl

pub guard-none : (words more : List Word) (word : Word) → words ≡ word ∷ more
    → begins_with (codes "when") words ≡ true → (more ≡ [] → ⊥) → pairs_of more ≡ None → guard_of words ≡ None
guard-none words more word e when some none =
    guard-pairs words more word e (ap (begins_with (codes "when")) (sym e) ∙ when) some ∙ none

pub guard-some : (words more : List Word) (word : Word) (pairs : Pairs) → words ≡ word ∷ more
    → begins_with (codes "when") words ≡ true → (more ≡ [] → ⊥) → ReadsPairs more pairs → ReadsGuard words pairs
guard-some words more word pairs e when some r = record {
  pairs = r.pairs;
  reads = guard-pairs words more word e (ap (begins_with (codes "when")) (sym e) ∙ when) some ∙ r.reads;
  holds = r.holds;
}

other-by : (words more : List Word) (word : Word) → words ≡ word ∷ more → bytes_eq word (codes "when") ≡ false
    → guard_of words ≡ None
other-by words [] word e other = ap guard_of e
other-by words (a ∷ more) word e other = rw (e, other) refl

pub guard-other : (words more : List Word) (word : Word) → words ≡ word ∷ more
    → begins_with (codes "when") words ≡ false → guard_of words ≡ None
guard-other words more word e other = other-by words more word e (ap (begins_with (codes "when")) (sym e) ∙ other)

pub guard-bare : (words more : List Word) (word : Word) → words ≡ word ∷ more → more ≡ [] → guard_of words ≡ None
guard-bare words more word e none = ap guard_of (e ∙ ap (λ l. word ∷ l) none)

-- a guard is found wherever it is written
pub guard_found : (pairs : List (Word × Word)) → guard_of (guard_words pairs) ≡ Some pairs
guard_found [] = refl
guard_found (pair ∷ pairs) = pairs_found (pair ∷ pairs)

-- and what is found is written
guard_by : (w x : Word) (more : List Word) (t : Bool) (g : List (Word × Word)) → bytes_eq w (codes "when") ≡ t
    → cond {A = Option (List (Word × Word))} t (pairs_of (x ∷ more)) None ≡ Some g → w ∷ x ∷ more ≡ guard_words g
guard_by w x more false g e h = cc
guard_by w x more true [] e h = let are : x ∷ more ≡ [] = pairs_are (x ∷ more) [] h in cc
guard_by w x more true (pair ∷ g) e h =
    ap (λ l. w ∷ l) (pairs_are (x ∷ more) (pair ∷ g) h) ∙ ap (λ v. v ∷ pair_words (pair ∷ g)) ((bytes_eq-Decides w (codes "when")).0 e)

pub guard_are : (words : List Word) (g : List (Word × Word)) → guard_of words ≡ Some g → words ≡ guard_words g
guard_are [] g h = let none : [] ≡ g = cc in ap guard_words none
guard_are (w ∷ []) g h = cc
guard_are (w ∷ x ∷ more) g h = guard_by w x more (bytes_eq w (codes "when")) g refl h

pub guard-end : (words : List Word) (pairs : Pairs) → words ≡ [] → HoldsPairs pairs [] → ReadsGuard words pairs
guard-end words pairs e h = record { pairs = []; reads = ap guard_of e; holds = h }

pub ruleset guards = (guard-none, guard-some, guard-other, guard-bare, guard-end)
