-- Units balance exactly where no end of an edge is due anything.
use Rattle.std.proofs.Common.{◌≡◌, ℕ, ◌<◌, ◌≤◌, ℤ, pos, ◌-ℤ◌, Bool, List, [], ◌∷◌, Option, get_or, refl, ap, inl, inr, arith}
use Rattle.std.specs.Prelude.{◌==◌, if◌then◌else◌, All, unwrap_or}
use Rattle.std.specs.Bool.{Decides}
use Rattle.std.proofs.lemmas.Int.{ints}
use Rattle.std.proofs.lemmas.Bool.{cases_lt}
use Rattle.std.proofs.lemmas.List.Elements.{All-head, All-tail}
use Rattle.std.proofs.lemmas.List.Sums.{sum_by-cons}
use Rattle.uhura_plan.specs.declared.key.EdgeKey.{EdgeKey}
use Rattle.uhura_net.specs.declared.edge.TheConstants.{NODES}
use Rattle.uhura_net.specs.declared.edge.Edge.{Edge}
use Rattle.uhura_net.specs.Edges.{no_edge}
use Rattle.uhura_net.specs.Place.{HasPlace}
use Rattle.uhura_veto.specs.State.{State}
use Rattle.uhura_worst.specs.Filled.{IsTableOf}
use Rattle.uhura_shows.specs.Carried.{keyed_edge, units_into, units_out_of}
use Rattle.uhura_check.specs.Conditions.{Balances}
use Rattle.uhura_check.specs.Edges.{edge_in, IsSmallEdge, sum_of}
use Rattle.uhura_check.specs.Ledger.{due_at, brought, brought_by, IsLedgerOf, IsEven}
use Rattle.uhura_check.proofs.Ledgers.{IsApart, apart-due, even-clear}

-- a table of a state has its edges
pub edge-keyed : (state : State) (table : List (Option Edge)) (key : EdgeKey) → IsTableOf state table → HasPlace key → edge_in table key ≡ keyed_edge state key
edge-keyed state table key is placed = ap (λ (o : Option Edge). unwrap_or o no_edge) (is key placed)

-- what is brought is what comes in less what goes out
pub due-units : (state : State) (table : List (Option Edge)) (node : ℕ) (pairs : List (EdgeKey × ℕ)) → IsTableOf state table → All (λ (p : EdgeKey × ℕ). HasPlace p.0) pairs →
    sum_of (brought_by table node) pairs ≡ pos (units_into state pairs node) -ℤ pos (units_out_of state pairs node)
due-units state table node [] is placed = refl
due-units state table node (pair ∷ pairs) is placed =
    let into : EdgeKey × ℕ → ℕ = λ p. if (keyed_edge state p.0).to == node then p.1 else 0 in
    let out : EdgeKey × ℕ → ℕ = λ p. if (keyed_edge state p.0).from == node then p.1 else 0 in
    let first : brought_by table node pair ≡ pos (into pair) -ℤ pos (out pair) =
    ap (λ (e : Edge). brought e pair.1 node) (edge-keyed state table pair.0 is (All-head (λ (p : EdgeKey × ℕ). HasPlace p.0) pair pairs placed)) in
    let rest = due-units state table node pairs is (All-tail (λ (p : EdgeKey × ℕ). HasPlace p.0) pair pairs placed) in
    omega (arith, ints, first, rest, sum_by-cons into pair pairs, sum_by-cons out pair pairs)

-- ---- units balance exactly where all ends are even

far-apart : (table : List (Option Edge)) (node : ℕ) (pairs : List (EdgeKey × ℕ)) → NODES ≤ node → All (λ (p : EdgeKey × ℕ). IsSmallEdge (edge_in table p.0)) pairs → All (IsApart table node) pairs
far-apart table node pairs far small = λ k d below.
    let edge = small k d below in
    record { to = λ same. omega (arith, far, edge.to, same); from = λ same. omega (arith, far, edge.from, same) }

module _ (state : State) (table : List (Option Edge)) (pairs : List (EdgeKey × ℕ)) (due : List ℤ) (is : IsTableOf state table) (placed : All (λ (p : EdgeKey × ℕ). HasPlace p.0) pairs)
    (small : All (λ (p : EdgeKey × ℕ). IsSmallEdge (edge_in table p.0)) pairs) (ledger : IsLedgerOf table pairs due) where
  even-balanced : All (IsEven table due) pairs → Balances state pairs
  even-balanced even node =
      let units = due-units state table node pairs is placed in
      elim (cases_lt node NODES) [
        | inl below ↦ let none = even-clear table pairs due ledger even node below in omega (arith, ints, units, none, ledger node below)
        | inr far ↦ let none = apart-due table node pairs (far-apart table node pairs far small) in omega (arith, ints, units, none)
      ]

  none-due : Balances state pairs → (node : ℕ) → node < NODES → due_at due node ≡ pos 0
  none-due balances node below = omega (arith, ints, due-units state table node pairs is placed, ledger node below, balances node)

  balanced-even : Balances state pairs → All (IsEven table due) pairs
  balanced-even balances = λ k d below.
      let edge = small k d below in
      record { to = none-due balances (edge_in table (get_or pairs k d).0).to edge.to; from = none-due balances (edge_in table (get_or pairs k d).0).from edge.from }

  pub even-decides : (test : Bool) → Decides test (All (IsEven table due) pairs) → Decides test (Balances state pairs)
  even-decides test decides = (λ so. even-balanced (decides.0 so), λ balances. decides.1 (balanced-even balances))
