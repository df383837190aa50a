-- What leaves nothing allowed in the branches that begin with some picks.
use Rattle.std.proofs.Common.{ℤ, ◌≡◌, ℕ, pos, ◌≤ℤ◌, Bool, true, false, List, [], ◌∷◌, None, Some, IsTrue, Contains, refl, sym, ap, subst, ◌∙◌, arith, true≢false}
use Rattle.std.specs.Prelude.{◌<ℤ◌, cond}
use Rattle.std.specs.List.{All}
use Rattle.std.proofs.lemmas.Int.{ints}
use Rattle.std.proofs.lemmas.List.Elements.{All-nil, All-cons, All-head, All-tail}
use Rattle.uhura_plan.specs.declared.guard.Literal.{Literal}
use Rattle.uhura_plan.specs.declared.key.EdgeKey.{EdgeKey}
use Rattle.uhura_plan.specs.Sound.{IsSound}
use Rattle.uhura_choice.specs.declared.prefix.Pick.{Pick}
use Rattle.uhura_choice.specs.Branch.{holds}
use Rattle.uhura_choice.specs.Order.{IsFrontOf}
use Rattle.uhura_net.specs.declared.edge.Edge.{Edge}
use Rattle.uhura_net.specs.declared.place.Place.{Place}
use Rattle.uhura_net.specs.Place.{is_loose}
use Rattle.uhura_net.specs.Edges.{Edges, KeepsAt, AreKeptAt}
use Rattle.uhura_net.specs.Walk.{IsClosedWalk, bounds_of, IsNegativeWalk}
use Rattle.uhura_net.specs.Optimal.{firm_edges}
use Rattle.uhura_net.proofs.Rows.{is_loose-place_number}
use Rattle.uhura_net.proofs.Walks.{closed-not_negative, none_meet_in_parts}
use Rattle.uhura_veto.specs.declared.veto.Veto.TheVariants.{Deny}
use Rattle.uhura_veto.specs.State.{State}
use Rattle.uhura_veto.specs.Denial.{is_denied}
use Rattle.uhura_worst.specs.Edges.{item_of, is_active_edge}
use Rattle.uhura_worst.specs.Proposal.{Proposal}
use Rattle.uhura_worst.specs.Allowed.{Allowed}
use Rattle.uhura_worst.specs.WorstCase.{extreme_times, KeepsFirmEdges}
use Rattle.uhura_worst.proofs.FirmEdges.{allowed-keeps}
use Rattle.uhura_dual.specs.Settled.{IsSettled, AreSettled, IsSettledFirm}
use Rattle.uhura_dual.proofs.Beginnings.{active-more, denied-more, denied-by}

-- an edge that is active with some picks is so in each branch that they begin
pub active-begun : (state : State) (key : EdgeKey) (picks branch : List Pick) → IsFrontOf picks branch → is_active_edge state.plan picks key ≡ true → is_active_edge state.plan branch key ≡ true
active-begun state key picks branch (rest, is) active =
    subst (λ (b : List Pick). is_active_edge state.plan b key ≡ true) (sym is) (active-more state.plan (item_of key) picks rest active)

pub settled-begun : (state : State) (picks branch : List Pick) (edges : Edges) → AreSettled state picks edges → IsFrontOf picks branch → AreSettled state branch edges
settled-begun state picks branch edges settled begins place edge is =
    let s : IsSettled state picks place edge = settled place edge is in
    record { key = s.key; stands = s.stands; there = s.there; active = active-begun state s.key picks branch begins s.active }

-- the extreme times of what is allowed keep a firm edge
firm-kept : (state : State) (picks : List Pick) (k : ℕ) (q : Proposal) (edge : Edge) → IsSound state.plan → Allowed state k q → IsFrontOf picks q.branch → IsSettledFirm state picks edge →
    KeepsAt k (extreme_times state.plan k q) edge
firm-kept state picks k q edge sound allowed begins firm =
    allowed-keeps state k q sound allowed firm.key edge firm.there firm.firm (active-begun state firm.key picks q.branch begins firm.active)

firm-kept_along : (state : State) (picks : List Pick) (k : ℕ) (q : Proposal) (walk : List Edge) → IsSound state.plan → Allowed state k q → IsFrontOf picks q.branch → All (IsSettledFirm state picks) walk →
    All (KeepsAt k (extreme_times state.plan k q)) walk
firm-kept_along state picks k q [] sound allowed begins firm = All-nil (KeepsAt k (extreme_times state.plan k q))
firm-kept_along state picks k q (edge ∷ walk) sound allowed begins firm =
    All-cons (KeepsAt k (extreme_times state.plan k q)) edge walk
    (firm-kept state picks k q edge sound allowed begins (All-head (IsSettledFirm state picks) edge walk firm))
    (firm-kept_along state picks k q walk sound allowed begins (All-tail (IsSettledFirm state picks) edge walk firm))

-- so they have no closed walk below 0
pub walk-bars : (state : State) (picks : List Pick) (walk : List Edge) (k : ℕ) (q : Proposal) → IsSound state.plan → All (IsSettledFirm state picks) walk → IsClosedWalk walk → bounds_of walk <ℤ pos 0 →
    Allowed state k q → IsFrontOf picks q.branch → ⊥
walk-bars state picks walk k q sound firm closed below allowed begins =
    let above : pos 0 ≤ℤ bounds_of walk = closed-not_negative k (extreme_times state.plan k q) walk allowed.scale (firm-kept_along state picks k q walk sound allowed begins firm) closed in
    omega (arith, ints, above, below)

-- a settled edge at a place that isn't loose is firm
pub firm-settled : (state : State) (picks : List Pick) (edges : Edges) (place : ℕ) (edge : Edge) → AreSettled state picks edges → firm_edges edges place ≡ Some edge → IsSettledFirm state picks edge
firm-settled state picks edges place edge settled is = by (is_loose place) refl is
  where
    by : (b : Bool) → is_loose place ≡ b → cond b None (edges place) ≡ Some edge → IsSettledFirm state picks edge
    by true loose is = absurd (let never : ⊥ = cc in never)
    by false firm is =
        let s : IsSettled state picks place edge = settled place edge is in
        record {
          key = s.key;
          there = s.there;
          firm = sym (is_loose-place_number s.key s.stands.0) ∙ ap is_loose s.stands.1 ∙ firm;
          active = s.active;
        }

-- so what keeps the firm edges of the state keeps those
pub settled-kept : (state : State) (picks : List Pick) (edges : Edges) (k : ℕ) (times : ℕ → ℤ) → AreSettled state picks edges → KeepsFirmEdges state k picks times → AreKeptAt k (firm_edges edges) times
settled-kept state picks edges k times settled keeps place edge is =
    let firm : IsSettledFirm state picks edge = firm-settled state picks edges place edge settled is in
    keeps firm.key edge firm.there firm.firm firm.active

pub walk-bars_at : (state : State) (picks : List Pick) (edges : Edges) (places : List Place) (k : ℕ) (q : Proposal) → IsSound state.plan → AreSettled state picks edges → IsNegativeWalk (firm_edges edges) places →
    Allowed state k q → IsFrontOf picks q.branch → ⊥
walk-bars_at state picks edges places k q sound settled walk allowed begins =
    none_meet_in_parts k (firm_edges edges) places (extreme_times state.plan k q) allowed.scale
    (λ place edge is. firm-kept state picks k q edge sound allowed begins (firm-settled state picks edges place edge settled is)) walk

-- nor are they denied
pub denied-bars : (state : State) (picks : List Pick) (k : ℕ) (q : Proposal) → IsTrue (is_denied state.vetoes picks) → Allowed state k q → IsFrontOf picks q.branch → ⊥
denied-bars state picks k q denied allowed (rest, is) =
    true≢false (sym (denied-more state.vetoes picks rest denied) ∙ ap (is_denied state.vetoes) (sym is) ∙ allowed.not_denied)

pub denial-bars : (state : State) (picks : List Pick) (name : List ℕ) (literals : List Literal) (k : ℕ) (q : Proposal) → Contains state.vetoes (Deny name literals) → IsTrue (holds literals picks) →
    Allowed state k q → IsFrontOf picks q.branch → ⊥
denial-bars state picks name literals k q there met allowed begins = denied-bars state picks k q (denied-by state.vetoes (Deny name literals) picks there met) allowed begins
