-- Lemmas on the lines of bytes: what is shown of a line, and how lines grow with the bytes.
use Rattle.std.proofs.Common.{◌≡◌, ◌≢◌, ℕ, ◌⊎◌, inl, inr, ◌+◌, ◌-◌, ◌<◌, ◌≤◌, List, [], ◌∷◌, ◌++◌, length, take, get_or, set, refl, sym, ap, ◌∙◌, arith, length-append, length-take}
use Rattle.std.proofs.lemmas.Bool.{le-leb, lt-leb, eq-eqb, ne_eqb}
use Rattle.std.proofs.Math.Nat.{le_refl}
use Rattle.std.proofs.lemmas.List.{nil_from_length, take_all, take-append-le, take_more_set}
use Rattle.uhura_text.specs.Lines.{shown}

-- a short line loses the CR at its end
pub shown-with_cr : (l : List ℕ) → length l ≤ 4096 → get_or l (length l - 1) 0 ≡ 13 → take (length l - 1) l ≡ shown l
unfolding shown
shown-with_cr l short cr = rw (le-leb (length l) 4096 short, eq-eqb (get_or l (length l - 1) 0) 13 cr)

-- a short line with no CR at its end is shown as it is
pub shown-without_cr : (l : List ℕ) → length l ≤ 4096 → get_or l (length l - 1) 0 ≢ 13 → l ≡ shown l
unfolding shown
shown-without_cr l short other = rw (le-leb (length l) 4096 short, ne_eqb (get_or l (length l - 1) 0) 13 other)

-- of a longer line the first 4,097 bytes are shown
pub shown-long : (l : List ℕ) → 4096 < length l → take 4097 l ≡ shown l
unfolding shown
shown-long l long = rw (lt-leb (length l) 4096 long)

-- an empty line is shown as it is
pub shown-nil : [] ≡ shown []
unfolding shown
shown-nil = refl

-- a line of at most 4,097 bytes that is long or empty is shown as it is
pub shown-long_or_nil : (l : List ℕ) → length l ≤ 4097 → (4096 < length l) ⊎ (length l ≡ 0) → take (length l) l ≡ shown l
shown-long_or_nil l most (inl long) = take_all (length l) l (le_refl (length l)) ∙ sym (take_all 4097 l most) ∙ shown-long l long
shown-long_or_nil l most (inr none) = rw (nil_from_length l none) shown-nil

-- ---- what a reader holds

-- a byte is written behind the held ones where there is room
pub held-more : (buffer held : List ℕ) (used byte : ℕ) → used ≤ 4096 → length buffer ≡ 4097 → take used buffer ≡ held
    → take (used + 1) (set buffer used byte) ≡ take 4097 (held ++ byte ∷ [])
held-more buffer held used byte room size is =
    let fits : length (held ++ byte ∷ []) ≤ 4097 = omega (arith, length-append held (byte ∷ []), ap length is, length-take used buffer) in
    take_more_set buffer used byte (omega arith) ∙ ap (λ l. l ++ byte ∷ []) is ∙ sym (take_all 4097 (held ++ byte ∷ []) fits)

-- a byte past the first 4,097 is dropped
pub held-full : (buffer held : List ℕ) (used byte : ℕ) → used ≡ 4097 → length buffer ≡ 4097 → take used buffer ≡ held
    → take used buffer ≡ take 4097 (held ++ byte ∷ [])
held-full buffer held used byte full size is =
    let long : 4097 ≤ length held = omega (arith, ap length is, length-take used buffer) in
    let most : length held ≤ 4097 = omega (arith, ap length is, length-take used buffer) in
    is ∙ sym (take_all 4097 held most) ∙ sym (take-append-le 4097 held (byte ∷ []) long)
