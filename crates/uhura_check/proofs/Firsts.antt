-- A thing that isn't so behind things that are is the first that isn't.
use Rattle.std.proofs.Common.{◌≡◌, ℕ, ◌<◌, Bool, false, true≢false, List, length, take, get_or, sym, ◌∙◌}
use Rattle.std.specs.Prelude.{All}
use Rattle.std.specs.Bool.{Decides}
use Rattle.std.proofs.lemmas.Option.{slice_get-get_or}
use Rattle.uhura_check.specs.Firsts.{IsFirstNot}

pub first-not : {A : Type 0} (IsSo : A → Type 0) (xs : List A) (i : ℕ) (d : A) (r : Bool) → i < length xs → Decides r (IsSo (get_or xs i d)) → r ≡ false → All IsSo (take i xs) → IsFirstNot IsSo xs i
first-not IsSo xs i d r below decides unso before = record {
  thing = get_or xs i d;
  there = slice_get-get_or xs i d below;
  fails = λ so. true≢false (sym (decides.1 so) ∙ unso);
  before = before;
}
