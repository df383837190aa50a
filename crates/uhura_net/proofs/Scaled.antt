-- Whole multiples of integers.
use Rattle.std.proofs.Common.{◌≡◌, ℕ, suc, ◌+◌, ◌*◌, ◌≤◌, ℤ, pos, negsuc, ◌+ℤ◌, ◌≤ℤ◌, ap, arith}
use Rattle.std.specs.Prelude.{◌*ℤ◌, neg_ℤ}
use Rattle.std.proofs.lemmas.Int.{ints}
use Rattle.std.proofs.Math.Nat.{mul-le-mul_left}
use borrow.Author.Differences.{up, down}

-- an integer is its upper part less its lower part, and a multiple of it is that of the two parts
pub scaled_parts : (k : ℕ) (z : ℤ) → up (pos k *ℤ z) + k * down z ≡ down (pos k *ℤ z) + k * up z
scaled_parts k (pos n) = omega arith
scaled_parts k (negsuc n) = omega (arith, ints)

-- a multiple of a sum
pub scaled-plus : (k : ℕ) (a b : ℤ) → pos k *ℤ (a +ℤ b) ≡ (pos k *ℤ a) +ℤ (pos k *ℤ b)
scaled-plus k a b =
    let parts : up (a +ℤ b) + down a + down b ≡ down (a +ℤ b) + up a + up b = omega (arith, ints) in
    let multiplied : k * (up (a +ℤ b) + down a + down b) ≡ k * (down (a +ℤ b) + up a + up b) = ap (λ (n : ℕ). k * n) parts in
    omega (arith, ints, multiplied, scaled_parts k (a +ℤ b), scaled_parts k a, scaled_parts k b)

-- a multiple that isn't below 0 is one of an integer that isn't
pub not_below_by_multiple : (k : ℕ) (z : ℤ) → 1 ≤ k → pos 0 ≤ℤ (pos k *ℤ z) → pos 0 ≤ℤ z
not_below_by_multiple k (pos n) some above = omega (arith, ints)
not_below_by_multiple k (negsuc n) some above =
    let more : 1 ≤ k * suc n = omega arith in
    absurd (omega (arith, ints))

-- scale 1 changes nothing
pub once : (z : ℤ) → pos 1 *ℤ z ≡ z
once z = omega (arith, ints, scaled_parts 1 z)

-- multiples of multiples, in either order
pub scaled-twice : (j k : ℕ) (z : ℤ) → pos j *ℤ (pos k *ℤ z) ≡ pos k *ℤ (pos j *ℤ z)
scaled-twice j k z =
    let inside : j * (up (pos k *ℤ z) + k * down z) ≡ j * (down (pos k *ℤ z) + k * up z) = ap (λ (n : ℕ). j * n) (scaled_parts k z) in
    let other : k * (up (pos j *ℤ z) + j * down z) ≡ k * (down (pos j *ℤ z) + j * up z) = ap (λ (n : ℕ). k * n) (scaled_parts j z) in
    omega (arith, ints, inside, other, scaled_parts j (pos k *ℤ z), scaled_parts k (pos j *ℤ z))

-- multiples keep the order
pub scaled-le : (k : ℕ) (a b : ℤ) → a ≤ℤ b → (pos k *ℤ a) ≤ℤ (pos k *ℤ b)
scaled-le k a b less =
    let parts : up a + down b ≤ up b + down a = omega (arith, ints) in
    let multiplied : k * (up a + down b) ≤ k * (up b + down a) = mul-le-mul_left k parts in
    omega (arith, ints, multiplied, scaled_parts k a, scaled_parts k b)

-- no times anything is nothing
pub scaled-zero : (z : ℤ) → pos 0 *ℤ z ≡ pos 0
scaled-zero z = omega (arith, ints, scaled_parts 0 z)

-- a multiple of the opposite
pub scaled-neg : (k : ℕ) (z : ℤ) → pos k *ℤ neg_ℤ z ≡ neg_ℤ (pos k *ℤ z)
scaled-neg k z =
    let parts : up (neg_ℤ z) + up z ≡ down (neg_ℤ z) + down z = omega (arith, ints) in
    let multiplied : k * (up (neg_ℤ z) + up z) ≡ k * (down (neg_ℤ z) + down z) = ap (λ (n : ℕ). k * n) parts in
    omega (arith, ints, multiplied, scaled_parts k z, scaled_parts k (neg_ℤ z))
