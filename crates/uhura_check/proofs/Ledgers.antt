-- What nodes are due where units go along edges one after another.
use Rattle.std.proofs.Common.{◌≡◌, ◌≢◌, ℕ, ◌+◌, ◌*◌, ◌<◌, ◌≤◌, ℤ, pos, ◌+ℤ◌, ◌-ℤ◌, Bool, true, false, List, [], ◌∷◌, Option, length, get_or, drop, refl, sym, ap, subst, ◌∙◌, inl, inr, arith, add-one, drop-cons}
use Rattle.std.specs.Prelude.{◌⊎◌, ◌==◌, if◌then◌else◌, slice_set, All}
use Rattle.std.proofs.lemmas.Int.{ints}
use Rattle.std.proofs.lemmas.Bool.{cases_eq, ne_eqb}
use Rattle.std.proofs.lemmas.Bool.Decides.{eqb_tells}
use Rattle.std.proofs.lemmas.List.{get_or-set_same, get_or-set_other, length-set}
use Rattle.std.proofs.lemmas.List.Elements.{All-nil, All-cons, All-head, All-tail}
use Rattle.std.proofs.Math.ListN.{drop_of_length-le}
use Rattle.uhura_plan.specs.declared.key.EdgeKey.{EdgeKey}
use Rattle.uhura_net.specs.declared.edge.TheConstants.{NODES}
use Rattle.uhura_net.specs.declared.edge.Edge.{Edge}
use Rattle.uhura_check.specs.Edges.{edge_in, IsWithin, IsSmallEdge, AreFew, most_edges, greatest_units, sum_of}
use Rattle.uhura_check.specs.Ledger.{due_at, brought, brought_by, IsLedgerOf, IsClear, IsEven}
use Rattle.uhura_check.proofs.Adding.{IsAddedUp, added_up-more}

-- units at a node alone
abbrev pub units_at : ℕ → ℕ → ℕ → ℕ
units_at at units node = if at == node then units else 0

-- where a node is due something else, it is due that, and each other what it was
due-set : (due : List ℤ) (at node : ℕ) (new : ℤ) (units : ℕ) → at < length due → new ≡ due_at due at +ℤ pos units → due_at (slice_set due at new) node ≡ due_at due node +ℤ pos (units_at at units node)
due-set due at node new units inside is =
    elim (eqb_tells at node) [
      | inl same ↦
          let here : due_at (slice_set due at new) node ≡ due_at due node +ℤ pos units = ap (λ (n : ℕ). due_at (slice_set due at new) n) (sym same.1) ∙ get_or-set_same due at new (pos 0) inside ∙ is ∙ ap (λ (n : ℕ). due_at due n +ℤ pos units) same.1 in
          rw same.0 here
      | inr differs ↦ rw differs.0 (omega (arith, ints, get_or-set_other due at node new (pos 0) (λ same. differs.1 (sym same))))
    ]

due-set_less : (due : List ℤ) (at node : ℕ) (new : ℤ) (units : ℕ) → at < length due → new ≡ due_at due at -ℤ pos units → due_at (slice_set due at new) node ≡ due_at due node -ℤ pos (units_at at units node)
due-set_less due at node new units inside is =
    elim (eqb_tells at node) [
      | inl same ↦
          let here : due_at (slice_set due at new) node ≡ due_at due node -ℤ pos units = ap (λ (n : ℕ). due_at (slice_set due at new) n) (sym same.1) ∙ get_or-set_same due at new (pos 0) inside ∙ is ∙ ap (λ (n : ℕ). due_at due n -ℤ pos units) same.1 in
          rw same.0 here
      | inr differs ↦ rw differs.0 (omega (arith, ints, get_or-set_other due at node new (pos 0) (λ same. differs.1 (sym same))))
    ]

pub due-more : (old new : List ℤ) (at node units : ℕ) → at < length old → new ≡ slice_set old at (due_at old at +ℤ pos units) → due_at new node ≡ due_at old node +ℤ pos (units_at at units node)
due-more old new at node units inside is = ap (λ l. due_at l node) is ∙ due-set old at node (due_at old at +ℤ pos units) units inside refl

pub due-less : (old new : List ℤ) (at node units : ℕ) → at < length old → new ≡ slice_set old at (due_at old at -ℤ pos units) → due_at new node ≡ due_at old node -ℤ pos (units_at at units node)
due-less old new at node units inside is = ap (λ l. due_at l node) is ∙ due-set_less old at node (due_at old at -ℤ pos units) units inside refl

-- units at a node alone are no more
pub units_at-few : (at units node : ℕ) → units_at at units node ≤ units
units_at-few at units node = by (at == node)
  where
    by : (b : Bool) → (if b then units else 0) ≤ units
    by true = omega arith
    by false = omega arith

-- units that fit are brought, and so at most so many
pub brought-within : (edge : Edge) (units node : ℕ) → units ≤ greatest_units → IsWithin greatest_units (brought edge units node)
brought-within edge units node few = by (edge.to == node) (edge.from == node)
  where
    by : (a b : Bool) → IsWithin greatest_units (pos (if a then units else 0) -ℤ pos (if b then units else 0))
    by true true = record { below = omega (arith, ints, few); above = omega (arith, ints, few) }
    by true false = record { below = omega (arith, ints, few); above = omega (arith, ints, few) }
    by false true = record { below = omega (arith, ints, few); above = omega (arith, ints, few) }
    by false false = record { below = omega (arith, ints, few); above = omega (arith, ints, few) }

-- the first pairs are entered
abbrev pub AreEntered : List (Option Edge) → List (EdgeKey × ℕ) → ℕ → List ℤ → Type 0
AreEntered table pairs count due = (node : ℕ) → node < NODES → IsAddedUp (brought_by table node) pairs greatest_units count (due_at due node)

pub entered-within : (table : List (Option Edge)) (pairs : List (EdgeKey × ℕ)) (count : ℕ) (due : List ℤ) → AreFew pairs → count ≤ length pairs → AreEntered table pairs count due →
    (node : ℕ) → node < NODES → IsWithin (most_edges * greatest_units) (due_at due node)
entered-within table pairs count due few inside entered node below =
    let small = (entered node below).small in
    record { below = omega (arith, ints, small.below, few.few, inside); above = omega (arith, ints, small.above, few.few, inside) }

pub entered-more : (table : List (Option Edge)) (pairs : List (EdgeKey × ℕ)) (count : ℕ) (old new : List ℤ) (pair : EdgeKey × ℕ) → count < length pairs → (get_or pairs count pair).1 ≤ greatest_units →
    ((node : ℕ) → node < NODES → due_at new node ≡ due_at old node +ℤ brought_by table node (get_or pairs count pair)) → AreEntered table pairs count old → AreEntered table pairs (count + 1) new
entered-more table pairs count old new pair inside few changed entered node below =
    let term : ℤ = brought_by table node (get_or pairs count pair) in
    subst (λ z. IsAddedUp (brought_by table node) pairs greatest_units (count + 1) z) (sym (changed node below))
    (added_up-more (brought_by table node) pairs greatest_units count (due_at old node) pair term inside refl (brought-within (edge_in table (get_or pairs count pair).0) (get_or pairs count pair).1 node few) (entered node below))

-- ---- what no edge brings

-- the pair's edge doesn't end at the node, and doesn't begin there
pub record IsApart (table : List (Option Edge)) (node : ℕ) (pair : EdgeKey × ℕ) : Type 0 where
  pub to : (edge_in table pair.0).to ≢ node
  pub from : (edge_in table pair.0).from ≢ node

-- the pair's edge ends or begins at the node, or it is apart
touches : (table : List (Option Edge)) (node : ℕ) (pair : EdgeKey × ℕ) → (((edge_in table pair.0).to ≡ node) ⊎ ((edge_in table pair.0).from ≡ node)) ⊎ IsApart table node pair
touches table node pair =
    elim (cases_eq (edge_in table pair.0).to node) [
      | inl same ↦ inl (inl same)
      | inr to ↦
          elim (cases_eq (edge_in table pair.0).from node) [
            | inl same ↦ inl (inr same)
            | inr from ↦ inr (record { to = to; from = from })
          ]
    ]

-- nothing is brought where all are apart
apart-brought : (edge : Edge) (units node : ℕ) → edge.to ≢ node → edge.from ≢ node → brought edge units node ≡ pos 0
apart-brought edge units node to from = rw (ne_eqb edge.to node to, ne_eqb edge.from node from) refl

pub apart-due : (table : List (Option Edge)) (node : ℕ) (pairs : List (EdgeKey × ℕ)) → All (IsApart table node) pairs → sum_of (brought_by table node) pairs ≡ pos 0
apart-due table node [] all = refl
apart-due table node (pair ∷ pairs) all =
    let here = All-head (IsApart table node) pair pairs all in
    let first = apart-brought (edge_in table pair.0) pair.1 node here.to here.from in
    let rest = apart-due table node pairs (All-tail (IsApart table node) pair pairs all) in
    omega (arith, ints, first, rest)

-- where no end of any pair is due anything, and each node what all pairs bring, no node is due anything
even-or_apart : (table : List (Option Edge)) (due : List ℤ) (node : ℕ) (pairs : List (EdgeKey × ℕ)) → All (IsEven table due) pairs → (due_at due node ≡ pos 0) ⊎ All (IsApart table node) pairs
even-or_apart table due node [] all = inr (All-nil (IsApart table node))
even-or_apart table due node (pair ∷ pairs) all = by (touches table node pair) (even-or_apart table due node pairs (All-tail (IsEven table due) pair pairs all))
  where
    here : IsEven table due pair
    here = All-head (IsEven table due) pair pairs all

    by : (((edge_in table pair.0).to ≡ node) ⊎ ((edge_in table pair.0).from ≡ node)) ⊎ IsApart table node pair → (due_at due node ≡ pos 0) ⊎ All (IsApart table node) pairs → (due_at due node ≡ pos 0) ⊎ All (IsApart table node) (pair ∷ pairs)
    by (inl (inl same)) rest = inl (ap (due_at due) (sym same) ∙ here.to)
    by (inl (inr same)) rest = inl (ap (due_at due) (sym same) ∙ here.from)
    by (inr apart) (inl none) = inl none
    by (inr apart) (inr others) = inr (All-cons (IsApart table node) pair pairs apart others)

pub even-clear : (table : List (Option Edge)) (pairs : List (EdgeKey × ℕ)) (due : List ℤ) → IsLedgerOf table pairs due → All (IsEven table due) pairs → IsClear due
even-clear table pairs due ledger even node below =
    elim (even-or_apart table due node pairs even) [
      | inl none ↦ none
      | inr apart ↦ ledger node below ∙ apart-due table node pairs apart
    ]

-- ---- clearing

-- the nodes that all of the further pairs are apart from are due nothing
abbrev pub AreCleared : List (Option Edge) → List (EdgeKey × ℕ) → ℕ → List ℤ → Type 0
AreCleared table pairs count due = (node : ℕ) → node < NODES → All (IsApart table node) (drop count pairs) → due_at due node ≡ pos 0

pub cleared-none : (table : List (Option Edge)) (pairs : List (EdgeKey × ℕ)) (due : List ℤ) → IsLedgerOf table pairs due → AreCleared table pairs 0 due
cleared-none table pairs due ledger node below apart = ledger node below ∙ apart-due table node pairs apart

pub cleared-all : (table : List (Option Edge)) (pairs : List (EdgeKey × ℕ)) (count : ℕ) (due : List ℤ) → length pairs ≤ count → AreCleared table pairs count due → IsClear due
cleared-all table pairs count due past cleared node below =
    cleared node below (subst (λ l. All (IsApart table node) l) (sym (drop_of_length-le pairs past)) (All-nil (IsApart table node)))

-- where a node is due nothing, it is due nothing, and each other what it was
due-none : (due : List ℤ) (at node : ℕ) → at < length due → due_at due node ≡ pos 0 → due_at (slice_set due at (pos 0)) node ≡ pos 0
due-none due at node inside none =
    elim (cases_eq at node) [
      | inl same ↦ ap (λ (n : ℕ). due_at (slice_set due at (pos 0)) n) (sym same) ∙ get_or-set_same due at (pos 0) (pos 0) inside
      | inr apart ↦ get_or-set_other due at node (pos 0) (pos 0) (λ same. apart (sym same)) ∙ none
    ]

due-here : (due : List ℤ) (at node : ℕ) → at < length due → at ≡ node → due_at (slice_set due at (pos 0)) node ≡ pos 0
due-here due at node inside same = ap (λ (n : ℕ). due_at (slice_set due at (pos 0)) n) (sym same) ∙ get_or-set_same due at (pos 0) (pos 0) inside

pub cleared-more : (table : List (Option Edge)) (pairs : List (EdgeKey × ℕ)) (count : ℕ) (due : List ℤ) (edge : Edge) (pair : EdgeKey × ℕ) → count < length pairs → edge ≡ edge_in table (get_or pairs count pair).0 → IsSmallEdge edge → length due ≡ NODES →
    AreCleared table pairs count due → AreCleared table pairs (count + 1) (slice_set (slice_set due edge.to (pos 0)) edge.from (pos 0))
cleared-more table pairs count due edge pair inside is small nodes cleared node below further = by (touches table node (get_or pairs count pair))
  where
    to : (edge_in table (get_or pairs count pair).0).to ≡ edge.to
    to = ap (λ (e : Edge). e.to) (sym is)

    from : (edge_in table (get_or pairs count pair).0).from ≡ edge.from
    from = ap (λ (e : Edge). e.from) (sym is)

    to_inside : edge.to < length due
    to_inside = omega (arith, small.to, nodes)

    from_inside : edge.from < length (slice_set due edge.to (pos 0))
    from_inside = omega (arith, small.from, nodes, length-set due edge.to (pos 0))

    next : drop count pairs ≡ (get_or pairs count pair ∷ drop (count + 1) pairs)
    next = rw (add-one, drop-cons pairs count pair)

    by : (((edge_in table (get_or pairs count pair).0).to ≡ node) ⊎ ((edge_in table (get_or pairs count pair).0).from ≡ node)) ⊎ IsApart table node (get_or pairs count pair) → due_at (slice_set (slice_set due edge.to (pos 0)) edge.from (pos 0)) node ≡ pos 0
    by (inl (inl same)) = due-none (slice_set due edge.to (pos 0)) edge.from node from_inside (due-here due edge.to node to_inside (sym to ∙ same))
    by (inl (inr same)) = due-here (slice_set due edge.to (pos 0)) edge.from node from_inside (sym from ∙ same)
    by (inr apart) =
        due-none (slice_set due edge.to (pos 0)) edge.from node from_inside
        (due-none due edge.to node to_inside
        (cleared node below (subst (λ l. All (IsApart table node) l) (sym next) (All-cons (IsApart table node) (get_or pairs count pair) (drop (count + 1) pairs) apart further))))

-- ---- testing

pub even-is : (table : List (Option Edge)) (due : List ℤ) (edge : Edge) (pair : EdgeKey × ℕ) → edge ≡ edge_in table pair.0 → (due_at due edge.to ≡ pos 0) × (due_at due edge.from ≡ pos 0) → IsEven table due pair
even-is table due edge pair is even = record {
  to = ap (λ (e : Edge). due_at due e.to) (sym is) ∙ even.0;
  from = ap (λ (e : Edge). due_at due e.from) (sym is) ∙ even.1;
}
