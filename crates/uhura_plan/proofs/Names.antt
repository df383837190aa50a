-- What follows from being a name.
use Rattle.std.proofs.Common.{ℕ, ◌≤◌, List, ◌++◌, length, drop, replicate, IsTrue, arith, sym, subst, length-append, length-drop}
use Rattle.std.proofs.Math.Seq.{take-append_seam, drop-append_seam}
use Rattle.std.proofs.lemmas.List.{length-replicate, drop-replicate}
use Rattle.std.proofs.lemmas.Grind.{common_steps}
use Rattle.uhura_plan.specs.declared.limits.TheConstants.{NAME_BYTES}
use Rattle.uhura_plan.specs.Name.{is_name, HoldsName}

-- a name has a byte
pub least_name : (word : List ℕ) → IsTrue (is_name word) → 1 ≤ length word
unfolding is_name
least_name word named = grind (arith, common_steps)

-- a name has at most as many bytes as may be
pub most_name : (word : List ℕ) → IsTrue (is_name word) → length word ≤ NAME_BYTES
unfolding is_name
most_name word named = grind (arith, common_steps)

-- a name in front of zeros is held by its array
pub holds_name : (word : List ℕ) → IsTrue (is_name word) → HoldsName (word ++ drop (length word) (replicate NAME_BYTES 0)) (length word)
holds_name word named =
    let fits : length word ≤ NAME_BYTES = most_name word named in
    record {
      capacity = simp (length-append, length-drop, length-replicate) (omega (arith, fits));
      fits = fits;
      padding = rw drop-append_seam (drop-replicate (length word) NAME_BYTES 0);
      name = subst (λ w. IsTrue (is_name w)) (sym (take-append_seam word (drop (length word) (replicate NAME_BYTES 0)))) named;
    }
