-- What fails first among some conditions fails first among more of them.
use Rattle.std.proofs.Common.{◌≡◌, ℕ, zero, suc, ◌+◌, List, [], ◌∷◌, ◌++◌, length, take, Some, refl, sym, ap, ◌∙◌, subst, arith}
use Rattle.std.specs.Prelude.{All, slice_get}
use Rattle.std.proofs.lemmas.Option.{none-some, same_Some}
use Rattle.std.proofs.lemmas.List.Elements.{All-append, All-nil}
use Rattle.uhura_veto.specs.State.{State}
use Rattle.uhura_shows.specs.Shows.{Answer}
use Rattle.uhura_check.specs.declared.refusal.Code.{Code}
use Rattle.uhura_check.specs.Conditions.{Condition, Holds, code_of}
use Rattle.uhura_check.specs.Firsts.{IsFirstNot}
use Rattle.uhura_check.specs.Table.{Asked, each_line, IsKept, FailsFirst}
use Rattle.uhura_check.proofs.Asks.{each-asked}

get-left : {X : Type 0} (xs ys : List X) (i : ℕ) (x : X) → slice_get xs i ≡ Some x → slice_get (xs ++ ys) i ≡ Some x
get-left [] ys i x is = absurd (none-some x is)
get-left (y ∷ xs) ys zero x is = is
get-left (y ∷ xs) ys (suc i) x is = get-left xs ys i x is

take-left : {X : Type 0} (xs ys : List X) (i : ℕ) (x : X) → slice_get xs i ≡ Some x → take i (xs ++ ys) ≡ take i xs
take-left [] ys i x is = absurd (none-some x is)
take-left (y ∷ xs) ys zero x is = refl
take-left (y ∷ xs) ys (suc i) x is = ap (λ l. y ∷ l) (take-left xs ys i x is)

get-right : {X : Type 0} (xs ys : List X) (i : ℕ) → slice_get (xs ++ ys) (length xs + i) ≡ slice_get ys i
get-right [] ys i = let same : 0 + i ≡ i = omega arith in ap (slice_get ys) same
get-right (x ∷ xs) ys i = let same : length (x ∷ xs) + i ≡ suc (length xs + i) = omega arith in ap (λ (n : ℕ). slice_get (x ∷ (xs ++ ys)) n) same ∙ get-right xs ys i

take-right : {X : Type 0} (xs ys : List X) (i : ℕ) → take (length xs + i) (xs ++ ys) ≡ xs ++ take i ys
take-right [] ys i = let same : 0 + i ≡ i = omega arith in ap (λ (n : ℕ). take n ys) same
take-right (x ∷ xs) ys i = let same : length (x ∷ xs) + i ≡ suc (length xs + i) = omega arith in ap (λ (n : ℕ). take n (x ∷ (xs ++ ys))) same ∙ ap (λ l. x ∷ l) (take-right xs ys i)

module _ (state : State) (answer : Answer) where
  -- more behind them
  pub fails-left : (xs ys : List Asked) (code : Code) (line : ℕ) → FailsFirst state answer xs code line → FailsFirst state answer (xs ++ ys) code line
  fails-left xs ys code line first = record {
    place = first.place;
    asked = first.asked;
    there = get-left xs ys first.place first.asked first.there;
    fails = first.fails;
    before = subst (λ l. All (IsKept state answer) l) (sym (take-left xs ys first.place first.asked first.there)) first.before;
    has_code = first.has_code;
    at_line = first.at_line;
  }

  -- others before them, which hold
  pub fails-right : (xs ys : List Asked) (code : Code) (line : ℕ) → All (IsKept state answer) xs → FailsFirst state answer ys code line → FailsFirst state answer (xs ++ ys) code line
  fails-right xs ys code line kept first = record {
    place = length xs + first.place;
    asked = first.asked;
    there = get-right xs ys first.place ∙ first.there;
    fails = first.fails;
    before = subst (λ l. All (IsKept state answer) l) (sym (take-right xs ys first.place)) (All-append (IsKept state answer) xs (take first.place ys) kept first.before);
    has_code = first.has_code;
    at_line = first.at_line;
  }

  -- the first of them
  pub fails-head : (asked : Asked) (rest : List Asked) → (IsKept state answer asked → ⊥) → FailsFirst state answer (asked ∷ rest) (code_of asked.condition) asked.line
  fails-head asked rest fails = record {
    place = 0;
    asked = asked;
    there = refl;
    fails = fails;
    before = All-nil (IsKept state answer);
    has_code = refl;
    at_line = refl;
  }

-- what is asked line by line
each-at : {A : Type 0} (condition : A → Condition) (line : ℕ) (xs : List A) (i : ℕ) (x : A) → slice_get xs i ≡ Some x → slice_get (each_line condition line xs) i ≡ Some (record { condition = condition x; line = line + i })
each-at condition line [] i x is = absurd (none-some x is)
each-at condition line (y ∷ xs) zero x is =
    let same : line ≡ line + 0 = omega arith in
    ap (λ (n : ℕ). Some (record { condition = condition y; line = n })) same ∙ ap (λ z. Some (record { condition = condition z; line = line + 0 })) (same_Some y x is)
each-at condition line (y ∷ xs) (suc i) x is =
    let same : (line + 1) + i ≡ line + suc i = omega arith in
    each-at condition (line + 1) xs i x is ∙ ap (λ (n : ℕ). Some (record { condition = condition x; line = n })) same

each-take : {A : Type 0} (condition : A → Condition) (line : ℕ) (xs : List A) (i : ℕ) → take i (each_line condition line xs) ≡ each_line condition line (take i xs)
each-take condition line [] zero = refl
each-take condition line [] (suc i) = refl
each-take condition line (x ∷ xs) zero = refl
each-take condition line (x ∷ xs) (suc i) = ap (λ l. (record { condition = condition x; line = line }) ∷ l) (each-take condition (line + 1) xs i)

-- the first thing that isn't so fails first line by line
pub each-fails : {A : Type 0} (state : State) (answer : Answer) (condition : A → Condition) (code : Code) (line : ℕ) (xs : List A) (i : ℕ) → ((x : A) → code_of (condition x) ≡ code) → IsFirstNot (λ x. Holds state answer (condition x)) xs i →
    FailsFirst state answer (each_line condition line xs) code (line + i)
each-fails state answer condition code line xs i coded first = record {
  place = i;
  asked = record { condition = condition first.thing; line = line + i };
  there = each-at condition line xs i first.thing first.there;
  fails = first.fails;
  before = subst (λ l. All (IsKept state answer) l) (sym (each-take condition line xs i)) (each-asked state answer condition line (take i xs) first.before);
  has_code = coded first.thing;
  at_line = refl;
}
