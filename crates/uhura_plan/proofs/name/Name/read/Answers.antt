-- The word passed the test, so it is a name: it fits the array, and zeros follow it there.
use Rattle.std.proofs.Common.{length, length-take-le, replicate, sym, ◌∙◌}
use Rattle.uhura_plan.specs.declared.limits.TheConstants.{NAME_BYTES}
use Rattle.uhura_plan.proofs.Names.{most_name, holds_name}
use Rattle.uhura_plan.proofs.name.Name.read.Goals as goal

pub slice_bounds-bytes-end : goal.slice_bounds-bytes-end
slice_bounds-bytes-end c = most_name c.args.word.now (sym c.is_name.ensures ∙ c.if-not-is_name.false)

pub slice_bounds-copy_from_slice-end : goal.slice_bounds-copy_from_slice-end
slice_bounds-copy_from_slice-end c =
    sym (length-take-le (length c.args.word.now) (replicate NAME_BYTES 0) (most_name c.args.word.now (sym c.is_name.ensures ∙ c.if-not-is_name.false)))

pub copy_from_slice-requires : goal.copy_from_slice-requires
copy_from_slice-requires c =
    length-take-le (length c.args.word.now) (replicate NAME_BYTES 0) (most_name c.args.word.now (sym c.is_name.ensures ∙ c.if-not-is_name.false))

pub invariant_of-result : goal.invariant_of-result
invariant_of-result c = rw c.copy_from_slice.ensures.after (holds_name c.args.word.now (sym c.is_name.ensures ∙ c.if-not-is_name.false))
