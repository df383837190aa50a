-- Lines that are written one behind the other.
use Rattle.std.proofs.Common.{◌≡◌, ℕ, zero, suc, ◌+◌, ◌<◌, List, [], ◌∷◌, ◌++◌, length, take, map, flat_map, get_or, slice_get, Some, All, refl, sym, ap, subst, ◌∙◌, arith, append_assoc, append-nil}
use Rattle.std.specs.List.{AllByRecursion, zip}
use Rattle.std.proofs.lemmas.List.{take_more, take_all, map-append}
use Rattle.std.proofs.lemmas.Grind.{flat_map-append}
use Rattle.std.proofs.lemmas.List.Elements.{All-cons, All-nil}
use Rattle.uhura_line.specs.declared.command.Command.{Command}
use Rattle.uhura_line.specs.Form.{words_of}
use Rattle.uhura_line.specs.Reads.{form_of}
use Rattle.uhura_line.proofs.Spacing.{line_of-joined}
use Rattle.uhura_command.specs.Script.{command_line}
use Rattle.uhura_item.specs.declared.item.Item.{Item}
use Rattle.uhura_item.specs.declared.item.Item.TheVariants as item
use Rattle.uhura_item.specs.Item.{item_line}
use Rattle.uhura_plan.specs.declared.choice.Choice.{Choice}
use Rattle.uhura_choice.specs.declared.prefix.Pick.{Pick}
use Rattle.uhura_cert.specs.Document.{IsPickOf, ArePicks}
use Rattle.uhura_cert.specs.Items.{time_item, picked_name, picked_names}

-- one line more of things that have a line each
pub line_more : {X : Type 0} (f : X → Item) (xs : List X) (i : ℕ) (x : X) (old text new : List ℕ) → i < length xs → x ≡ get_or xs i x
    → text ≡ old ++ flat_map item_line (map f (take i xs)) → new ≡ text ++ item_line (f x)
    → new ≡ old ++ flat_map item_line (map f (take (i + 1) xs))
line_more f xs i x old text new within is before written =
    let front = take i xs in
    let taken : take (i + 1) xs ≡ front ++ x ∷ [] = take_more xs i x within ∙ ap (λ y. front ++ y ∷ []) (sym is) in
    let whole : flat_map item_line (map f (take (i + 1) xs)) ≡ flat_map item_line (map f front) ++ item_line (f x) =
    ap (λ ys. flat_map item_line (map f ys)) taken
    ∙ ap (flat_map item_line) (map-append f front (x ∷ []))
    ∙ flat_map-append item_line (map f front) (f x ∷ [])
    ∙ ap (λ line. flat_map item_line (map f front) ++ line) (append-nil (item_line (f x))) in
    written ∙ ap (λ t. t ++ item_line (f x)) before ∙ append_assoc old (flat_map item_line (map f front)) (item_line (f x)) ∙ ap (λ t. old ++ t) (sym whole)

-- several lines more of things that have several lines each
pub lines_more : {X : Type 0} (f : X → List Item) (xs : List X) (i : ℕ) (x : X) (old text new : List ℕ) → i < length xs → x ≡ get_or xs i x
    → text ≡ old ++ flat_map item_line (flat_map f (take i xs)) → new ≡ text ++ flat_map item_line (f x)
    → new ≡ old ++ flat_map item_line (flat_map f (take (i + 1) xs))
lines_more f xs i x old text new within is before written =
    let front = take i xs in
    let taken : take (i + 1) xs ≡ front ++ x ∷ [] = take_more xs i x within ∙ ap (λ y. front ++ y ∷ []) (sym is) in
    let whole : flat_map item_line (flat_map f (take (i + 1) xs)) ≡ flat_map item_line (flat_map f front) ++ flat_map item_line (f x) =
    ap (λ ys. flat_map item_line (flat_map f ys)) taken
    ∙ ap (flat_map item_line) (flat_map-append f front (x ∷ []) ∙ ap (λ ys. flat_map f front ++ ys) (append-nil (f x)))
    ∙ flat_map-append item_line (flat_map f front) (f x) in
    written ∙ ap (λ t. t ++ flat_map item_line (f x)) before ∙ append_assoc old (flat_map item_line (flat_map f front)) (flat_map item_line (f x)) ∙ ap (λ t. old ++ t) (sym whole)

-- what holds of each by recursion holds at each place
pub at_each : {X : Type 0} (P : X → Type 0) (xs : List X) → AllByRecursion P xs → All P xs
at_each P [] all = All-nil P
at_each P (x ∷ xs) all = All-cons P x xs all.0 (at_each P xs all.1)

-- the event and the time at a place of both lists
pub zip_at : (names : List (List ℕ)) (times : List ℕ) (i : ℕ) (name : List ℕ) (time : ℕ) → slice_get names i ≡ Some name → i < length times → time ≡ get_or times i 0
    → (i < length (zip names times)) × ((name, time) ≡ get_or (zip names times) i (name, time))
zip_at [] times i name time at within is = let no : ⊥ = cc in absurd no
zip_at (n ∷ names) [] i name time at within is = absurd (omega arith)
zip_at (n ∷ names) (t ∷ times) zero name time at within is =
    let same : n ≡ name = cc in
    (omega arith, ap (λ m. (m, time)) (sym same) ∙ ap (λ u. (n, u)) is)
zip_at (n ∷ names) (t ∷ times) (suc i) name time at within is =
    let more = zip_at names times i name time at (omega arith) is in
    (omega (arith, more.0), more.1)

-- one event's line more
pub time_more : (names : List (List ℕ)) (times : List ℕ) (i : ℕ) (name : List ℕ) (time : ℕ) (old text new : List ℕ) → slice_get names i ≡ Some name → i < length times → time ≡ get_or times i 0
    → text ≡ old ++ flat_map item_line (map time_item (take i (zip names times))) → new ≡ text ++ item_line (time_item (name, time))
    → new ≡ old ++ flat_map item_line (map time_item (take (i + 1) (zip names times)))
time_more names times i name time old text new at within is before written =
    let there = zip_at names times i name time at within is in
    line_more time_item (zip names times) i (name, time) old text new there.0 there.1 before written

pub length-zip_same : (names : List (List ℕ)) (times : List ℕ) → length times ≡ length names → length (zip names times) ≡ length names
length-zip_same [] times same = refl
length-zip_same (n ∷ names) [] same = absurd (omega arith)
length-zip_same (n ∷ names) (t ∷ times) same = omega (arith, length-zip_same names times (omega arith))

-- all events' lines
pub all_times : (names : List (List ℕ)) (times : List ℕ) → length times ≡ length names → map time_item (take (length names) (zip names times)) ≡ map time_item (zip names times)
all_times names times same = ap (map time_item) (take_all (length names) (zip names times) (omega (arith, length-zip_same names times same)))

-- ---- the picks of a leaf

-- the choice and the pick at a place
pub record IsPickedAt (choices : List Choice) (picks : List Pick) (i : ℕ) (pick : Pick) : Type 0 where
  pub choice : Choice
  pub at : slice_get choices i ≡ Some choice
  pub of : IsPickOf choice pick
  pub named : picked_name choice pick ≡ get_or (picked_names choices picks) i (picked_name choice pick)
  pub within : i < length (picked_names choices picks)

pub picked_at : (choices : List Choice) (picks : List Pick) (i : ℕ) (pick : Pick) → ArePicks choices picks → slice_get picks i ≡ Some pick → IsPickedAt choices picks i pick
picked_at choices [] i pick are at = let no : ⊥ = cc in absurd no
picked_at [] (p ∷ picks) i pick are at = absurd are
picked_at (c ∷ choices) (p ∷ picks) zero pick are at =
    let same : p ≡ pick = cc in
    record { choice = c; at = refl; of = subst (IsPickOf c) same are.0; named = ap (picked_name c) (sym same); within = omega arith }
picked_at (c ∷ choices) (p ∷ picks) (suc i) pick are at =
    let more = picked_at choices picks i pick are.1 at in
    record { choice = more.choice; at = more.at; of = more.of; named = more.named; within = omega (arith, more.within) }

pub length-picked : (choices : List Choice) (picks : List Pick) → ArePicks choices picks → length (picked_names choices picks) ≡ length picks
length-picked choices [] are = refl
length-picked [] (p ∷ picks) are = absurd are
length-picked (c ∷ choices) (p ∷ picks) are = omega (arith, length-picked choices picks are.1)

-- ---- parts behind one another

-- a line, several lines, and one more behind what is written
pub line_first : (old new : List ℕ) (i : Item) → new ≡ old ++ item_line i → new ≡ old ++ flat_map item_line (i ∷ [])
line_first old new i written = written ∙ ap (λ t. old ++ t) (sym (append-nil (item_line i)))

pub lines_behind : (old text new : List ℕ) (items more : List Item) → text ≡ old ++ flat_map item_line items → new ≡ text ++ flat_map item_line more → new ≡ old ++ flat_map item_line (items ++ more)
lines_behind old text new items more before written =
    written ∙ ap (λ t. t ++ flat_map item_line more) before ∙ append_assoc old (flat_map item_line items) (flat_map item_line more)
    ∙ ap (λ t. old ++ t) (sym (flat_map-append item_line items more))

pub line_behind : (old text new : List ℕ) (items : List Item) (i : Item) → text ≡ old ++ flat_map item_line items → new ≡ text ++ item_line i → new ≡ old ++ flat_map item_line (items ++ i ∷ [])
line_behind old text new items i before written =
    lines_behind old text new items (i ∷ []) before (line_first text new i written)

-- several lines behind the one that begins them
pub lines_headed : (old text new : List ℕ) (i : Item) (more : List Item) → text ≡ old ++ item_line i → new ≡ text ++ flat_map item_line more → new ≡ old ++ flat_map item_line (i ∷ more)
lines_headed old text new i more before written = lines_behind old text new (i ∷ []) more (line_first old text i before) written

-- the canonical script is the lines of its commands
pub script_lines : (cs : List Command) → flat_map command_line cs ≡ flat_map item_line (map (λ c. item.Command c) cs)
script_lines [] = refl
script_lines (c ∷ cs) =
    ap (λ line. line ++ flat_map command_line cs) (line_of-joined (words_of (form_of c)))
    ∙ ap (λ more. item_line (item.Command c) ++ more) (script_lines cs)
