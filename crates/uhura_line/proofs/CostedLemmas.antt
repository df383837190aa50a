-- How alternatives are read, one behind the other.
use Rattle.std.proofs.Common.{◌≡◌, true, false, List, [], ◌∷◌, ◌++◌, Option, Some, None, option_map, bytes_eq, codes, refl, ap, sym, ◌∙◌, append_assoc, append-nil}
use Rattle.std.proofs.lemmas.List.{map-append}
use Rattle.std.proofs.lemmas.List.Folds.{list_all-append}
use Rattle.uhura_line.specs.declared.part.costed.Costed.{Costed}
use Rattle.uhura_line.specs.Form.{Word}
use Rattle.uhura_line.specs.Reader.{alternatives_of, begins_with}
use Rattle.uhura_line.specs.Costed.{HoldsCosted, ReadsCosted}

pub ruleset costing = (list_all-append, map-append)

-- what is found is put behind what was read before
abbrev pub behind : List (Word × Word) → Option (List (Word × Word) × List Word)
    → Option (List (Word × Word) × List Word)
behind before found = option_map (λ f. (before ++ f.0, f.1)) found

-- what was read of all words is these pairs, and the others are still to come
pub record IsCostedTo (all left : List Word) (read : Costed) : Type 0 where
  pub before : List (Word × Word)
  pub reads : alternatives_of all ≡ behind before (alternatives_of left)
  pub holds : HoldsCosted read before

behind-nil : (found : Option (List (Word × Word) × List Word)) → found ≡ behind [] found
behind-nil None = refl
behind-nil (Some f) = refl

pub costed-start : (all : List Word) (read : Costed) → HoldsCosted read [] → IsCostedTo all all read
costed-start all read h = record { before = []; reads = behind-nil (alternatives_of all); holds = h }

-- one more pair
one_more : (before : List (Word × Word)) (a b : Word) (found : Option (List (Word × Word) × List Word))
    → behind before (option_map (λ f. ((a, b) ∷ f.0, f.1)) found) ≡ behind (before ++ (a, b) ∷ []) found
one_more before a b None = refl
one_more before a b (Some f) = ap (λ p. Some (p, f.1)) (sym (append_assoc before ((a, b) ∷ []) f.0))

found_more : (a b : Word) (more : List Word) → bytes_eq a (codes "when") ≡ false → bytes_eq b (codes "when") ≡ false
    → alternatives_of (a ∷ b ∷ more) ≡ option_map (λ f. ((a, b) ∷ f.0, f.1)) (alternatives_of more)
found_more a b more first second = rw (first, second) refl

pub costed-more : (all left behind_first more : List Word) (a b : Word) (read next : Costed) (h : IsCostedTo all left read)
    → left ≡ a ∷ behind_first → behind_first ≡ b ∷ more
    → begins_with (codes "when") left ≡ false → begins_with (codes "when") behind_first ≡ false
    → ((before : List (Word × Word)) → HoldsCosted read before → HoldsCosted next (before ++ (a, b) ∷ []))
    → IsCostedTo all more next
costed-more all left behind_first more a b read next h e f first second step =
    let words : left ≡ a ∷ b ∷ more = e ∙ ap (λ l. a ∷ l) f in
    let a_other : bytes_eq a (codes "when") ≡ false = ap (begins_with (codes "when")) (sym e) ∙ first in
    let b_other : bytes_eq b (codes "when") ≡ false = ap (begins_with (codes "when")) (sym f) ∙ second in
    record {
      before = h.before ++ (a, b) ∷ [];
      reads = h.reads ∙ ap (λ l. behind h.before (alternatives_of l)) words ∙ ap (behind h.before) (found_more a b more a_other b_other) ∙ one_more h.before a b (alternatives_of more);
      holds = step h.before h.holds;
    }

-- the alternatives end here
pub ended : (left : List Word) → begins_with (codes "when") left ≡ true → alternatives_of left ≡ Some ([], left)
ended [] when = cc
ended (a ∷ []) when = rw when refl
ended (a ∷ b ∷ more) when = rw when refl

stopped : (all left : List Word) (read : Costed) → IsCostedTo all left read → alternatives_of left ≡ Some ([], left)
    → ReadsCosted all left read
stopped all left read h e = record {
  pairs = h.before ++ [];
  reads = h.reads ∙ ap (behind h.before) e;
  holds = rw (append-nil h.before) h.holds;
}

pub costed-end : (all left : List Word) (read : Costed) → IsCostedTo all left read → left ≡ []
    → ReadsCosted all left read
costed-end all left read h e = stopped all left read h (rw e refl)

pub costed-when : (all left : List Word) (read : Costed) → IsCostedTo all left read
    → begins_with (codes "when") left ≡ true → ReadsCosted all left read
costed-when all left read h when = stopped all left read h (ended left when)

-- a pair that isn't whole
bare : (a : Word) → bytes_eq a (codes "when") ≡ false → alternatives_of (a ∷ []) ≡ None
bare a other = rw other refl

cut : (a b : Word) (more : List Word) → bytes_eq a (codes "when") ≡ false → bytes_eq b (codes "when") ≡ true
    → alternatives_of (a ∷ b ∷ more) ≡ None
cut a b more first second = rw (first, second) refl

pub costed-bare : (all left rest : List Word) (a : Word) (read : Costed) → IsCostedTo all left read → left ≡ a ∷ rest
    → begins_with (codes "when") left ≡ false → rest ≡ [] → alternatives_of all ≡ None
costed-bare all left rest a read h e first none =
    let a_other : bytes_eq a (codes "when") ≡ false = ap (begins_with (codes "when")) (sym e) ∙ first in
    h.reads ∙ ap (λ l. behind h.before (alternatives_of l)) (e ∙ ap (λ l. a ∷ l) none) ∙ ap (behind h.before) (bare a a_other)

cut_at : (a : Word) (rest : List Word) → bytes_eq a (codes "when") ≡ false → begins_with (codes "when") rest ≡ true
    → alternatives_of (a ∷ rest) ≡ None
cut_at a [] first second = cc
cut_at a (b ∷ more) first second = cut a b more first second

pub costed-cut : (all left rest : List Word) (a : Word) (read : Costed) → IsCostedTo all left read → left ≡ a ∷ rest
    → begins_with (codes "when") left ≡ false → begins_with (codes "when") rest ≡ true → alternatives_of all ≡ None
costed-cut all left rest a read h e first second =
    let a_other : bytes_eq a (codes "when") ≡ false = ap (begins_with (codes "when")) (sym e) ∙ first in
    h.reads ∙ ap (λ l. behind h.before (alternatives_of l)) e ∙ ap (behind h.before) (cut_at a rest a_other second)

pub ruleset reading = (costed-start, costed-more, costed-end, costed-when, costed-bare, costed-cut)
