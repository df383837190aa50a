use Rattle.std.proofs.lemmas.List.Filters.{FiltersInPlace}
use Rattle.uhura_conflict.specs.Entries.{is_held}
use Rattle.uhura_conflict.proofs.revising.keep_held.Given as goal

-- the first keys that have an entry stand in front
abbrev pub invariant-loop-place : goal.invariant-loop-place
invariant-loop-place l = FiltersInPlace (is_held l.entries) l.initial.order.items l.order.items l.kept l.place
