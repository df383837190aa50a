-- How edges in cells change.
use Rattle.std.proofs.Common.{◌≡◌, ℕ, zero, suc, ◌+◌, ◌<◌, ◌≤◌, false, cond, ltb, List, [], ◌∷◌, ◌++◌, length, get_or, set, replicate, Option, None, Some, is_some, true≢false, refl, sym, ap, subst, ◌∙◌, inl, inr, arith}
use Rattle.std.proofs.lemmas.Bool.{cases_eq, lt-ltb}
use Rattle.std.proofs.lemmas.List.{length-set, length-map, length-replicate, length_push, ext_get_or, get_or_default, get_or-map, get_or-set_same, get_or-set_other, get_or_append_left, get_or_push}
use Rattle.std.proofs.lemmas.List.Folds.{sum_by-replicate}
use Rattle.std.proofs.lemmas.List.Sums.{sum_by-set, count_by-le-length}
use Rattle.uhura_plan.proofs.Slots.{get_or-replicate_default}
use Rattle.uhura_net.specs.declared.place.TheConstants.{PLACES}
use Rattle.uhura_net.specs.declared.edge.Edge.{Edge}
use Rattle.uhura_net.specs.Sparse.{cell_of, edge_in, edges_in, count_celled, IsSparse}

-- the edge of a place is that in its cell
pub edges_in_at : (numbers : List ℕ) (cells : List (Option Edge)) (place : ℕ) → place < length numbers →
    get_or (edges_in numbers cells) place None ≡ edge_in cells (cell_of numbers place)
edges_in_at numbers cells place inside = get_or-map (edge_in cells) numbers place 0 None inside

-- edges are those that were there but at one place, if each cell has them
edges_set : (before numbers : List ℕ) (old cells : List (Option Edge)) (place : ℕ) (edge : Option Edge) → length numbers ≡ length before → place < length before →
    edge_in cells (cell_of numbers place) ≡ edge →
    ((other : ℕ) → other < length before → (other ≡ place → ⊥) → edge_in cells (cell_of numbers other) ≡ edge_in old (cell_of before other)) →
    edges_in numbers cells ≡ set (edges_in before old) place edge
edges_set before numbers old cells place edge same inside here others =
    let places : length (edges_in numbers cells) ≡ length numbers = length-map numbers (edge_in cells) in
    let placed : length (edges_in before old) ≡ length before = length-map before (edge_in old) in
    ext_get_or None (edges_in numbers cells) (set (edges_in before old) place edge)
    (omega (arith, length-set (edges_in before old) place edge))
    (λ other below.
    elim (cases_eq other place) [
      | inl is ↦
          let holds : ℕ → Type 0 = λ p. get_or (edges_in numbers cells) p None ≡ get_or (set (edges_in before old) place edge) p None in
          subst holds (sym is)
          (edges_in_at numbers cells place (omega arith) ∙ here ∙ sym (get_or-set_same (edges_in before old) place edge None (omega arith)))
      | inr apart ↦
          edges_in_at numbers cells other (omega arith) ∙ others other (omega arith) apart ∙ sym (edges_in_at before old other (omega arith))
          ∙ sym (get_or-set_other (edges_in before old) place other edge None apart)
    ])

-- what is left where an edge, or none, is put at a place
pub record IsPutAt (old : List (Option Edge)) (place : ℕ) (edge : Option Edge) (numbers : List ℕ) (cells : List (Option Edge)) : Type 0 where
  pub sound : IsSparse numbers cells
  pub edges : edges_in numbers cells ≡ set old place edge

-- the number of a place's cell, as it is read
number_read : (numbers : List ℕ) (cells : List (Option Edge)) (place number : ℕ) → IsSparse numbers cells → place < PLACES → number ≡ get_or numbers place number →
    cell_of numbers place ≡ number
number_read numbers cells place number sparse inside read = get_or_default numbers place 0 number (omega (arith, sparse.places)) ∙ sym read

-- into the place's own cell
pub IsPutAt-over : (numbers : List ℕ) (cells old : List (Option Edge)) (place number : ℕ) (edge : Option Edge) → edges_in numbers cells ≡ old → IsSparse numbers cells →
    place < PLACES → number ≡ get_or numbers place number → 1 ≤ number → IsPutAt old place edge numbers (set cells number edge)
IsPutAt-over numbers cells old place number edge shown sparse inside read celled =
    let is : cell_of numbers place ≡ number = number_read numbers cells place number sparse inside read in
    let long : length (set cells number edge) ≡ length cells = length-set cells number edge in
    record {
      sound = record {
        places = sparse.places;
        empty = get_or-set_other cells number 0 edge None (λ same. let no : ⊥ = omega arith in no) ∙ sparse.empty;
        inside = λ other. omega (arith, long, sparse.inside other);
        own = sparse.own;
        count = long ∙ sparse.count;
      };
      edges = edges_set numbers numbers cells (set cells number edge) place edge refl (omega (arith, sparse.places))
          (ap (edge_in (set cells number edge)) is ∙ get_or-set_same cells number edge None (omega (arith, sparse.inside place, is)))
          (λ other below apart. get_or-set_other cells number (cell_of numbers other) edge None (λ same. apart (sparse.own place other (omega (arith, is)) (same ∙ sym is))))
          ∙ ap (λ es. set es place edge) shown;
    }

-- none, where the place has no cell of its own
pub put_none : (numbers : List ℕ) (cells old : List (Option Edge)) (place number : ℕ) (edge : Option Edge) → edges_in numbers cells ≡ old → IsSparse numbers cells →
    place < PLACES → number ≡ get_or numbers place number → number ≡ 0 → is_some edge ≡ false → old ≡ set old place edge
put_none numbers cells old place number None shown sparse inside read blank none =
    let is : cell_of numbers place ≡ 0 = number_read numbers cells place number sparse inside read ∙ blank in
    sym shown
    ∙ edges_set numbers numbers cells cells place None refl (omega (arith, sparse.places)) (ap (edge_in cells) is ∙ sparse.empty) (λ other below apart. refl)
    ∙ ap (λ es. set es place None) shown
put_none numbers cells old place number (Some edge) shown sparse inside read blank none = absurd (true≢false none)

-- where a place gets a cell there is one more that has one
count_more : (numbers : List ℕ) (place cell : ℕ) → place < length numbers → cell_of numbers place ≡ 0 → 1 ≤ cell →
    count_celled (set numbers place cell) ≡ count_celled numbers + 1
count_more numbers place cell inside none some =
    let weigh : ℕ → ℕ = λ number. cond (ltb 0 number) 1 0 in
    let moved = sum_by-set weigh numbers place cell 0 inside in
    let before : weigh (cell_of numbers place) ≡ 0 = ap weigh none in
    let after : weigh cell ≡ 1 = ap (λ b. cond {A = ℕ} b 1 0) (lt-ltb 0 cell some) in
    omega (arith, moved, before, after)

-- so not all others have all cells yet
pub room_left : (numbers : List ℕ) (cells : List (Option Edge)) (place number : ℕ) → IsSparse numbers cells → place < PLACES → number ≡ get_or numbers place number →
    number ≡ 0 → length cells ≤ PLACES
room_left numbers cells place number sparse inside read blank =
    let none : cell_of numbers place ≡ 0 = number_read numbers cells place number sparse inside read ∙ blank in
    let more = count_more numbers place 1 (omega (arith, sparse.places)) none (omega arith) in
    omega (arith, more, count_by-le-length (ltb 0) (set numbers place 1), length-set numbers place 1, sparse.places, sparse.count)

-- into a new cell
pub IsPutAt-new : (numbers : List ℕ) (cells old : List (Option Edge)) (place number new : ℕ) (edge : Option Edge) → edges_in numbers cells ≡ old → IsSparse numbers cells →
    place < PLACES → number ≡ get_or numbers place number → number ≡ 0 → new ≡ length cells → IsPutAt old place edge (set numbers place new) (cells ++ edge ∷ [])
IsPutAt-new numbers cells old place number new edge shown sparse inside read blank last =
    let none : cell_of numbers place ≡ 0 = number_read numbers cells place number sparse inside read ∙ blank in
    let after : List ℕ = set numbers place new in
    let some : 1 ≤ new = omega (arith, sparse.inside place) in
    let within : place < length numbers = omega (arith, sparse.places) in
    let here : cell_of after place ≡ new = get_or-set_same numbers place new 0 within in
    let there : (other : ℕ) → (other ≡ place → ⊥) → cell_of after other ≡ cell_of numbers other = λ other apart. get_or-set_other numbers place other new 0 apart in
    record {
      sound = record {
        places = length-set numbers place new ∙ sparse.places;
        empty = get_or_append_left cells (edge ∷ []) None 0 (omega (arith, sparse.inside place)) ∙ sparse.empty;
        inside = λ other.
            elim (cases_eq other place) [
              | inl is ↦ omega (arith, ap (cell_of after) is, here, length_push cells edge)
              | inr apart ↦ omega (arith, there other apart, sparse.inside other, length_push cells edge)
            ];
        own = λ one other celled same.
            elim (cases_eq one place) [
              | inl is ↦
                  elim (cases_eq other place) [
                    | inl also ↦ also ∙ sym is
                    | inr apart ↦ absurd (let no : ⊥ = omega (arith, ap (cell_of after) is, here, there other apart, sparse.inside other, same) in no)
                  ]
              | inr apart ↦
                  elim (cases_eq other place) [
                    | inl also ↦ absurd (let no : ⊥ = omega (arith, ap (cell_of after) also, here, there one apart, sparse.inside one, same) in no)
                    | inr too ↦ sparse.own one other (omega (arith, there one apart, celled)) (sym (there other too) ∙ same ∙ there one apart)
                  ]
            ];
        count = omega (arith, length_push cells edge, sparse.count, count_more numbers place new within none some);
      };
      edges = edges_set numbers after cells (cells ++ edge ∷ []) place edge (length-set numbers place new) within
          (ap (edge_in (cells ++ edge ∷ [])) here ∙ get_or_push cells edge None new (sym last))
          (λ other below apart. ap (edge_in (cells ++ edge ∷ [])) (there other apart) ∙ get_or_append_left cells (edge ∷ []) None (cell_of numbers other) (sparse.inside other))
          ∙ ap (λ es. set es place edge) shown;
    }

-- cells that are new
pub IsSparse-new : (numbers : List ℕ) (cells : List (Option Edge)) → numbers ≡ replicate PLACES 0 → cells ≡ None ∷ [] → IsSparse numbers cells
IsSparse-new numbers cells no_number one =
    let long : length cells ≡ 1 = ap length one in
    let none : (place : ℕ) → cell_of numbers place ≡ 0 = λ place. ap (λ ns. get_or ns place 0) no_number ∙ get_or-replicate_default PLACES place 0 in
    record {
      places = ap length no_number ∙ length-replicate {A = ℕ} PLACES 0;
      empty = ap (λ cs. edge_in cs 0) one;
      inside = λ place. omega (arith, none place, long);
      own = λ place other celled same. absurd (let no : ⊥ = omega (arith, none place, celled) in no);
      count = omega (arith, long, ap count_celled no_number, sum_by-replicate (λ (n : ℕ). cond {A = ℕ} (ltb 0 n) 1 0) PLACES 0);
    }

pub edges_in-new : (numbers : List ℕ) (cells : List (Option Edge)) → numbers ≡ replicate PLACES 0 → cells ≡ None ∷ [] → edges_in numbers cells ≡ replicate PLACES None
edges_in-new numbers cells no_number one = ap (λ ns. edges_in ns cells) no_number ∙ ap (λ cs. edges_in (replicate PLACES 0) cs) one ∙ none_mapped PLACES
  where
    none_mapped : (n : ℕ) → edges_in (replicate n 0) (None ∷ []) ≡ replicate n None
    none_mapped zero = refl
    none_mapped (suc n) = ap (λ es. None ∷ es) (none_mapped n)
