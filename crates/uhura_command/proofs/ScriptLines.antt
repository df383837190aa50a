-- One more line of a script.
use Rattle.std.proofs.Common.{◌≡◌, ℕ, ◌+◌, List, [], ◌∷◌, ◌++◌, take, map, flat_map, Some, slice_get, sym, ap, ◌∙◌, append_assoc}
use Rattle.std.proofs.lemmas.List.{take_more, map-append, append-nil}
use Rattle.std.proofs.lemmas.Grind.{flat_map-append}
use Rattle.std.proofs.lemmas.Option.{get_or_from_slice_get, slice_get_within}
use Rattle.uhura_line.specs.declared.command.Command.{Command}
use Rattle.uhura_command.specs.Script.{command_line}

-- the lines of the things up to a place, and that of the thing there
pub lines_more : {X : Type 0} (command : X → Command) (xs : List X) (i : ℕ) (x : X) → slice_get xs i ≡ Some x
    → flat_map command_line (map command (take (i + 1) xs)) ≡ flat_map command_line (map command (take i xs)) ++ command_line (command x)
lines_more command xs i x at =
    let front = take i xs in
    let taken : take (i + 1) xs ≡ front ++ x ∷ [] = take_more xs i x (slice_get_within xs i x at) ∙ ap (λ y. front ++ y ∷ []) (get_or_from_slice_get xs i x x at) in
    ap (λ ys. flat_map command_line (map command ys)) taken
    ∙ ap (flat_map command_line) (map-append command front (x ∷ []))
    ∙ flat_map-append command_line (map command front) (command x ∷ [])
    ∙ ap (λ line. flat_map command_line (map command front) ++ line) (append-nil (command_line (command x)))

-- a script extended by the line of the command of one more thing
pub script_more : {X : Type 0} (command : X → Command) (xs : List X) (i : ℕ) (x : X) (made : Command) (old text new : List ℕ) → slice_get xs i ≡ Some x
    → made ≡ command x
    → text ≡ old ++ flat_map command_line (map command (take i xs))
    → new ≡ text ++ command_line made
    → new ≡ old ++ flat_map command_line (map command (take (i + 1) xs))
script_more command xs i x made old text new at is before written =
    let front = flat_map command_line (map command (take i xs)) in
    written
    ∙ ap (λ c. text ++ command_line c) is
    ∙ ap (λ t. t ++ command_line (command x)) before
    ∙ append_assoc old front (command_line (command x))
    ∙ ap (λ t. old ++ t) (sym (lines_more command xs i x at))
