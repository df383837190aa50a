-- What a copy of the front of the bytes left makes of them.
use Rattle.std.proofs.Common.{◌≡◌, ℕ, ◌+◌, ◌-◌, ◌<◌, ◌≤◌, List, [], ◌++◌, length, take, drop, min, arith, sym, ◌∙◌, ap}
use Rattle.std.proofs.lemmas.List.{take_rest, drop-drop, take-append-drop, drop_all, length-take-le}
use Rattle.std.proofs.Math.Seq.{take-append_seam}

-- the bytes behind `at` in all: n of them were copied to the front of new, as many as there are, as it has room for and as may be
pub record Copied (all into new : List ℕ) (at most n : ℕ) : Type 0 where
  pub count : n ≡ min (min most (length into)) (length (take (length all - at) (drop at all)))
  pub copied : new ≡ take n (take (length all - at) (drop at all)) ++ drop n into

-- the front of a copy is what was copied
pub take-copy : (from into : List ℕ) (n : ℕ) → n ≤ length from → take n (take n from ++ into) ≡ take n from
take-copy from into n fits =
    let e : length (take n from) ≡ n = length-take-le n from fits in
    ap (λ k. take k (take n from ++ into)) (sym e) ∙ take-append_seam (take n from) into

-- what was copied is gone from the front
pub Copied-split : {all into new : List ℕ} {at most n : ℕ} → Copied all into new at most n
    → drop at all ≡ take n new ++ drop (at + n) all
Copied-split {all} {into} {new} {at} {most} {n} c =
    let count = rw take_rest at c.count in
    let copied = rw take_rest at c.copied in
    let fits : n ≤ length (drop at all) = omega (arith, count) in
    rw (copied, take-copy (drop at all) (drop n into) n fits, ← drop-drop n at all) (sym (take-append-drop n (drop at all)))

-- nothing is copied into room only where nothing is left
pub Copied-end : {all into new : List ℕ} {at most n : ℕ} → Copied all into new at most n
    → 0 < most → n ≡ 0 → 0 < length into → drop (at + n) all ≡ []
Copied-end {all} {into} {new} {at} {most} {n} c some none room =
    let count = rw take_rest at c.count in
    let left : length (drop at all) ≤ n = omega (arith, count) in
    rw (← drop-drop n at all) (drop_all n (drop at all) left)
