-- What was written before, and then the piece that the sink took, is a longer front of the text.
use Rattle.std.proofs.Common.{ℕ, List, length, take, drop, ◌-◌, ◌+◌, ◌∙◌, arith}
use Rattle.std.specs.Prelude.{Option}
use Rattle.std.specs.Io.KnownBytes.{Appends}
use Rattle.std.proofs.KnownBytes.{Appends-trans}
use Rattle.std.proofs.Math.Seq.{take-add}
use Rattle.std.proofs.lemmas.List.{take_rest}
use Rattle.uhura_io.proofs.write.write_all.Goals as goal

Appends-next_piece : (a b c : Option (List ℕ)) (bs : List ℕ) (at n : ℕ) → Appends a b (take at bs)
    → Appends b c (take n (take (length bs - at) (drop at bs))) → Appends a c (take (at + n) bs)
Appends-next_piece a b c bs at n before piece = rw take-add (Appends-trans a b c _ _ before (rw take_rest at piece))

pub loop-at-preserved : goal.loop-at-preserved
loop-at-preserved g c = record {
  in_bounds = omega (arith, c.in-Ok.ensures.bound);
  written = Appends-next_piece _ _ _ _ _ _ c.loop-at.invariant.written c.in-Ok.ensures.bytes;
  faults = c.in-Ok.ensures.cause ∙ c.loop-at.invariant.faults;
}
