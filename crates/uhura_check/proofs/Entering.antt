-- Shared entries worked out one after another.
use Rattle.std.proofs.Common.{◌≡◌, ℕ, zero, suc, ◌+◌, ◌≤◌, ◌<◌, List, [], ◌∷◌, ◌++◌, Some, length, take, get_or, flat_map, sym, ap, subst, ◌∙◌, inl, inr, arith}
use Rattle.std.specs.Prelude.{slice_get, min}
use Rattle.std.proofs.lemmas.Bool.{cases_lt}
use Rattle.std.proofs.lemmas.Option.{none-some, same_Some, slice_get_within, slice_get-get_or}
use Rattle.std.proofs.lemmas.List.{length-append, take_all}
use Rattle.uhura_item.specs.declared.item.Item.{Item}
use Rattle.uhura_cert.specs.declared.document.Shared.{Shared}
use Rattle.uhura_cert.specs.Document.{Document}
use Rattle.uhura_cert.specs.Items.{shared_items, to_answer, to_shared}
use Rattle.uhura_cert.proofs.Ordered.{slice_get-kept, slice_get-last}
use Rattle.uhura_check.specs.declared.entries.Entry.{Entry}
use Rattle.uhura_check.specs.declared.entries.Entries.{Entries}
use Rattle.uhura_check.specs.Entries.{IsEntryOf, AreWorkedOf, AreEntriesOf}
use Rattle.uhura_check.specs.Failure.{told}
use Rattle.uhura_check.specs.Table.{line_behind, entry_line}

-- ---- lines

-- so many lines behind a told line, told
told-more : (whole further line behind next edges : ℕ) → line ≡ told whole → behind ≡ min 4294967295 (line + 1) → next ≡ min 4294967295 (behind + edges) → further ≡ whole + (edges + 1) → next ≡ told further
told-more whole further line behind next edges is after then more = omega (arith, is, after, then, more)

-- one more thing gives the items that it has
items-more : {X Y : Type 0} (f : X → List Y) (xs : List X) (place : ℕ) (x : X) → slice_get xs place ≡ Some x → length (flat_map f (take (place + 1) xs)) ≡ length (flat_map f (take place xs)) + length (f x)
items-more f [] place x there = absurd (none-some x there)
items-more f (y ∷ xs) zero x there =
    let same : length (f y) ≡ length (f x) = ap (λ z. length (f z)) (same_Some y x there) in
    omega (arith, same, length-append (f y) [])
items-more f (y ∷ xs) (suc place) x there =
    let next : suc place + 1 ≡ suc (place + 1) = omega arith in
    let whole : length (flat_map f (take (suc place + 1) (y ∷ xs))) ≡ length (f y ++ flat_map f (take (place + 1) xs)) = ap (λ (n : ℕ). length (flat_map f (take n (y ∷ xs)))) next in
    omega (arith, whole, length-append (f y) (flat_map f (take (place + 1) xs)), length-append (f y) (flat_map f (take place xs)), items-more f xs place x there)

module _ (d : Document) where
  unfoldable items-to : ℕ → List Item
  items-to place = flat_map (shared_items d.state.plan) (take place d.shared)

  -- the first entry stands behind the answer, each next one behind the one before, and the leaves behind the last
  pub line-first : entry_line d 0 ≡ line_behind (to_answer d)
  line-first = omega (arith, length-append (to_answer d) [])

  pub line-more : (place : ℕ) (given : Shared) → slice_get d.shared place ≡ Some given → entry_line d (place + 1) ≡ entry_line d place + length (shared_items d.state.plan given)
  unfolding items-to
  line-more place given there =
      omega (arith, length-append (to_answer d) (items-to (place + 1)), length-append (to_answer d) (items-to place), items-more (shared_items d.state.plan) d.shared place given there)

  pub line-last : (place : ℕ) → length d.shared ≤ place → entry_line d place ≡ line_behind (to_shared d)
  line-last place past = ap (λ (l : List Shared). line_behind (to_answer d ++ flat_map (shared_items d.state.plan) l)) (take_all place d.shared past)

  -- ---- entries

  pub worked-none : (entries : List Entry) → entries ≡ [] → AreWorkedOf d 0 entries
  worked-none entries none = record {
    so_many = ap (λ (l : List Entry). length l) none;
    each = λ place given entry there is. absurd (none-some entry (sym (ap (λ (l : List Entry). slice_get l place) none) ∙ is));
  }

  pub worked-more : (entries new : List Entry) (place : ℕ) (given : Shared) (entry : Entry) → AreWorkedOf d place entries → slice_get d.shared place ≡ Some given → IsEntryOf d place given entry → new ≡ entries ++ entry ∷ [] → AreWorkedOf d (place + 1) new
  worked-more entries new place given entry worked there is pushed = record {
    so_many = omega (arith, worked.so_many, ap (λ (l : List Entry). length l) pushed, length-append entries (entry ∷ []));
    each = λ p g e here at. by p g e here (sym (ap (λ (l : List Entry). slice_get l p) pushed) ∙ at);
  }
    where
      last : (g : Shared) (e : Entry) → slice_get d.shared place ≡ Some g → slice_get (entries ++ entry ∷ []) place ≡ Some e → IsEntryOf d place g e
      last g e here at =
          let same : given ≡ g = same_Some given g (sym there ∙ here) in
          let own : slice_get (entries ++ entry ∷ []) place ≡ Some entry = ap (λ (n : ℕ). slice_get (entries ++ entry ∷ []) n) (sym worked.so_many) ∙ slice_get-last entries entry in
          let one : entry ≡ e = same_Some entry e (sym own ∙ at) in
          subst (λ (s : Shared). IsEntryOf d place s e) same (subst (λ (f : Entry). IsEntryOf d place given f) one is)

      by : (p : ℕ) (g : Shared) (e : Entry) → slice_get d.shared p ≡ Some g → slice_get (entries ++ entry ∷ []) p ≡ Some e → IsEntryOf d p g e
      by p g e here at =
          elim (cases_lt p place) [
            | inl less ↦ worked.each p g e here (sym (slice_get-kept entries entry p (omega (arith, less, worked.so_many))) ∙ at)
            | inr more ↦
                let within : p < length (entries ++ entry ∷ []) = slice_get_within (entries ++ entry ∷ []) p e at in
                let same : place ≡ p = omega (arith, more, within, worked.so_many, length-append entries (entry ∷ [])) in
                subst (λ (n : ℕ). slice_get d.shared n ≡ Some g → slice_get (entries ++ entry ∷ []) n ≡ Some e → IsEntryOf d n g e) same (last g e) here at
          ]

-- what is read of the shared entries is there
pub entry-there : (d : Document) (entries : List Shared) (place : ℕ) (given : Shared) → entries ≡ d.shared → place < length entries → given ≡ get_or entries place given → slice_get d.shared place ≡ Some given
entry-there d entries place given same inside is =
    ap (λ (l : List Shared). slice_get l place) (sym same) ∙ slice_get-get_or entries place given inside ∙ ap (λ (s : Shared). Some s) (sym is)

-- the line of the next entry, as it is told
pub line-next : (d : Document) (place : ℕ) (given : Shared) (line behind next edges : ℕ) → slice_get d.shared place ≡ Some given → line ≡ told (entry_line d place) → behind ≡ min 4294967295 (line + 1) → next ≡ min 4294967295 (behind + edges) →
    edges + 1 ≡ length (shared_items d.state.plan given) → next ≡ told (entry_line d (place + 1))
line-next d place given line behind next edges there is after then many = told-more (entry_line d place) (entry_line d (place + 1)) line behind next edges is after then (line-more d place given there ∙ ap (λ (n : ℕ). entry_line d place + n) (sym many))

-- what is read of the entries is the entry in its place
pub entry-used : (d : Document) (entries : Entries) (shared : List Shared) (items : List Entry) (place : ℕ) (given : Shared) (other : Entry) → AreEntriesOf d entries → shared ≡ d.shared → items ≡ entries.entries.items → place < length d.shared →
    given ≡ get_or shared place given → IsEntryOf d place given (get_or items place other)
entry-used d entries shared items place given other are same listed inside is =
    let there : slice_get d.shared place ≡ Some given = entry-there d shared place given same (omega (arith, inside, ap (λ (l : List Shared). length l) same)) is in
    let within : place < length entries.entries.items = omega (arith, inside, are.worked.so_many) in
    are.worked.each place given (get_or items place other) there (slice_get-get_or entries.entries.items place other within ∙ ap (λ (l : List Entry). Some (get_or l place other)) (sym listed))
