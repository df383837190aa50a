-- Draws one after another.
use Rattle.std.proofs.Common.{◌≡◌, ℕ, zero, suc, ◌+◌, ◌*◌, ap, sym, ◌∙◌, arith}
use Rattle.uhura_gen.specs.Draws.{following, after}

-- draws behind others are draws from where those ended
pub after-+ : (x a b : ℕ) → after x (a + b) ≡ after (after x a) b
after-+ x a zero = ap (after x) (omega arith)
after-+ x a (suc b) = let more : a + suc b ≡ suc (a + b) = omega arith in ap (after x) more ∙ ap following (after-+ x a b)

-- so many draws for each place, and those of the next
pub more_draws : (x y z n place : ℕ) → y ≡ after x (n * place) → z ≡ after y n → z ≡ after x (n * (place + 1))
more_draws x y z n place before next =
    let count : n * place + n ≡ n * (place + 1) = omega arith in
    next ∙ (ap (λ w. after w n) before ∙ (sym (after-+ x (n * place) n) ∙ ap (after x) count))
