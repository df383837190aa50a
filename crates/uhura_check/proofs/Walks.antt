-- Walks along the edges of keys.
use Rattle.std.proofs.Common.{◌≡◌, ◌≢◌, ℕ, ◌+◌, ◌<◌, ◌≤◌, ℤ, pos, ◌+ℤ◌, Bool, List, [], ◌∷◌, Option, length, map, get_or, drop, refl, sym, ap, subst, ◌∙◌, add-one, drop-cons}
use Rattle.std.specs.Prelude.{All, ◌<ℤ◌}
use Rattle.std.specs.Bool.{Decides}
use Rattle.std.proofs.lemmas.List.Elements.{All-head, All-tail}
use Rattle.std.proofs.Math.ListN.{drop_of_length-le}
use Rattle.uhura_plan.specs.declared.key.EdgeKey.{EdgeKey}
use Rattle.uhura_net.specs.declared.edge.Edge.{Edge}
use Rattle.uhura_net.specs.Place.{HasPlace}
use Rattle.uhura_net.specs.Walk.{Leads, IsClosedWalk, bounds_of}
use Rattle.uhura_veto.specs.State.{State}
use Rattle.uhura_worst.specs.Filled.{IsTableOf}
use Rattle.uhura_shows.specs.Carried.{keyed_edge, IsFirmKey, IsNegativeKeyedWalk}
use Rattle.uhura_check.specs.Edges.{edge_in, sum_of}
use Rattle.uhura_check.proofs.Balances.{edge-keyed}

-- ---- leading on

-- the keys lead from one node to another exactly where those behind the first lead there from this node
pub record IsLedTo (f : EdgeKey → Edge) (from : ℕ) (keys : List EdgeKey) (to count node : ℕ) : Type 0 where
  pub whole : Leads node (map f (drop count keys)) to → Leads from (map f keys) to
  pub rest : Leads from (map f keys) to → Leads node (map f (drop count keys)) to

pub led-none : (f : EdgeKey → Edge) (from : ℕ) (keys : List EdgeKey) (to : ℕ) → IsLedTo f from keys to 0 from
led-none f from keys to = record { whole = λ leads. leads; rest = λ leads. leads }

pub led-more : (f : EdgeKey → Edge) (from : ℕ) (keys : List EdgeKey) (to count node : ℕ) (edge : Edge) (key : EdgeKey) → count < length keys → edge ≡ f (get_or keys count key) → edge.from ≡ node →
    IsLedTo f from keys to count node → IsLedTo f from keys to (count + 1) edge.to
led-more f from keys to count node edge key inside is begins led =
    let next : drop count keys ≡ (get_or keys count key ∷ drop (count + 1) keys) = rw (add-one, drop-cons keys count key) in
    let here : (f (get_or keys count key)).from ≡ node = ap (λ (e : Edge). e.from) (sym is) ∙ begins in
    let there : (f (get_or keys count key)).to ≡ edge.to = ap (λ (e : Edge). e.to) (sym is) in
    record {
      whole = λ leads. led.whole (subst (λ l. Leads node (map f l) to) (sym next) (here, subst (λ (n : ℕ). Leads n (map f (drop (count + 1) keys)) to) (sym there) leads));
      rest = λ leads. subst (λ (n : ℕ). Leads n (map f (drop (count + 1) keys)) to) there (subst (λ l. Leads node (map f l) to) next (led.rest leads)).1;
    }

pub led-not : (f : EdgeKey → Edge) (from : ℕ) (keys : List EdgeKey) (to count node : ℕ) (edge : Edge) (key : EdgeKey) → count < length keys → edge ≡ f (get_or keys count key) → edge.from ≢ node →
    IsLedTo f from keys to count node → Leads from (map f keys) to → ⊥
led-not f from keys to count node edge key inside is differs led leads =
    let next : drop count keys ≡ (get_or keys count key ∷ drop (count + 1) keys) = rw (add-one, drop-cons keys count key) in
    let rest = subst (λ l. Leads node (map f l) to) next (led.rest leads) in
    differs (ap (λ (e : Edge). e.from) is ∙ rest.0)

pub led-whole : (f : EdgeKey → Edge) (from : ℕ) (keys : List EdgeKey) (to count node : ℕ) → length keys ≤ count → IsLedTo f from keys to count node → node ≡ to → Leads from (map f keys) to
led-whole f from keys to count node past led same = led.whole (subst (λ l. Leads node (map f l) to) (sym (drop_of_length-le keys past)) same)

pub led-end : (f : EdgeKey → Edge) (from : ℕ) (keys : List EdgeKey) (to count node : ℕ) → length keys ≤ count → IsLedTo f from keys to count node → Leads from (map f keys) to → node ≡ to
led-end f from keys to count node past led leads = subst (λ l. Leads node (map f l) to) (drop_of_length-le keys past) (led.rest leads)

-- ---- sums

abbrev pub bound_in : List (Option Edge) → EdgeKey → ℤ
bound_in table key = (edge_in table key).bound

pub sum-bounds : (table : List (Option Edge)) (keys : List EdgeKey) → sum_of (bound_in table) keys ≡ bounds_of (map (edge_in table) keys)
sum-bounds table [] = refl
sum-bounds table (key ∷ keys) = ap (λ (z : ℤ). bound_in table key +ℤ z) (sum-bounds table keys)

-- ---- a table of a state

pub edges-keyed : (state : State) (table : List (Option Edge)) (keys : List EdgeKey) → IsTableOf state table → All HasPlace keys → map (edge_in table) keys ≡ map (keyed_edge state) keys
edges-keyed state table [] is placed = refl
edges-keyed state table (key ∷ keys) is placed =
    ap (λ (e : Edge). e ∷ map (edge_in table) keys) (edge-keyed state table key is (All-head HasPlace key keys placed))
    ∙ ap (λ l. keyed_edge state key ∷ l) (edges-keyed state table keys is (All-tail HasPlace key keys placed))

-- a walk that is closed and sums below 0 by a table does so by the state
pub negative-decides : (state : State) (table : List (Option Edge)) (keys : List EdgeKey) (sum : ℤ) (test : Bool) → IsTableOf state table → All HasPlace keys → All (IsFirmKey state) keys → IsClosedWalk (map (edge_in table) keys) →
    sum ≡ bounds_of (map (edge_in table) keys) → Decides test (sum <ℤ pos 0) → Decides test (IsNegativeKeyedWalk state keys)
negative-decides state table keys sum test is placed firm closed sum_is decides =
    let same : map (edge_in table) keys ≡ map (keyed_edge state) keys = edges-keyed state table keys is placed in
    let sum_of : sum ≡ bounds_of (map (keyed_edge state) keys) = sum_is ∙ ap bounds_of same in (
      λ so. record { each = firm; closed = subst IsClosedWalk same closed; below = subst (λ (z : ℤ). z <ℤ pos 0) sum_of (decides.0 so) },
      λ walk. decides.1 (subst (λ (z : ℤ). z <ℤ pos 0) (sym sum_of) walk.below),
    )

-- one that isn't closed isn't such
pub not-closed : (state : State) (table : List (Option Edge)) (keys : List EdgeKey) → IsTableOf state table → All HasPlace keys → (IsClosedWalk (map (edge_in table) keys) → ⊥) → IsNegativeKeyedWalk state keys → ⊥
not-closed state table keys is placed never walk = never (subst IsClosedWalk (sym (edges-keyed state table keys is placed)) walk.closed)
