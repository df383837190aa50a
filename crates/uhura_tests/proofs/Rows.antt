-- Which places of the first slots are loose.
use Rattle.std.proofs.Common.{◌≡◌, ℕ, ◌<◌, ◌%◌, eqb, ◌||◌, refl, arith}
use Rattle.std.proofs.lemmas.Bool.{lt-ltb, lt-leb}
use Rattle.uhura_net.specs.Place.{is_loose}

pub loose_near : (place : ℕ) → place < 24 → is_loose place ≡ (eqb (place % 4) 0 || eqb (place % 4) 2)
unfolding is_loose
loose_near place near =
    rw (lt-leb 9472 place (omega (arith, near)), lt-ltb place 8192 (omega (arith, near))) refl
