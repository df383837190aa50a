-- From each good spot of the reader of documents some document goes on.
use Rattle.std.proofs.Common.{◌≡◌, ℕ, zero, suc, ◌+◌, ◌-◌, ◌<◌, ◌≤◌, List, [], ◌∷◌, ◌++◌, length, get_or, refl, sym, ap, subst, ◌∙◌, arith, append_assoc, append-nil, ⊎_elim}
use Rattle.std.proofs.lemmas.Bool.{cases_lt}
use Rattle.std.proofs.lemmas.List.{length_push}
use Rattle.std.proofs.lemmas.Option.{slice_get-get_or}
use Rattle.uhura_plan.specs.declared.key.EdgeKey.{EdgeKey}
use Rattle.uhura_plan.specs.declared.key.SideKey.{SideKey}
use Rattle.uhura_plan.specs.declared.guard.Literal.{Literal}
use Rattle.uhura_choice.specs.declared.prefix.Pick.{Pick}
use Rattle.uhura_veto.specs.State.{State}
use Rattle.uhura_veto.specs.Vetoes.{veto_names}
use Rattle.uhura_command.specs.Script.{name_at}
use Rattle.uhura_item.specs.declared.item.Item.{Item}
use Rattle.uhura_item.specs.declared.item.Item.TheVariants as item
use Rattle.uhura_item.specs.Item.{IsItem}
use Rattle.uhura_cert.specs.declared.document.Proposal.{Proposal}
use Rattle.uhura_cert.specs.declared.document.Shared.TheVariants as shared
use Rattle.uhura_cert.specs.declared.document.Reason.{Reason}
use Rattle.uhura_cert.specs.declared.document.Reason.TheVariants as reason
use Rattle.uhura_cert.specs.Document.{Document, IsReasonOf, MayStand}
use Rattle.uhura_cert.specs.Items.{leaf_items, picked_names, to_shared, to_leaves, to_question, to_picks, items_of}
use Rattle.uhura_cert.specs.Machine.{Spot, script, picks, sides, times, entry_flow, entry_walk, leaf_head, leaf_flow, leaf_walk, in_place, begun, IsPlain, IsPlainFront, IsBegun, Good, shown, with_entry, with_leaf, proposal_of, leaf_of}
use Rattle.uhura_cert.proofs.RunLaws.{GoesOn}
use Rattle.uhura_cert.proofs.MachineSteps.{Follows, leafless, leaf_closed, entry_closed, plain_leaf, plain_entry, no_edges, one_line_leaf, timeless, from_times, from_question}

-- some document goes on from these lines
abbrev pub Goes_on : List Item → Type 0
Goes_on front = GoesOn items_of IsPlain front

-- where one line more leads on
pub back : (front : List Item) (i : Item) → Goes_on (front ++ i ∷ []) → Goes_on front
back front i on = record { document = on.document; rest = i ∷ on.rest; fits = on.fits; goes_on = on.goes_on ∙ append_assoc front (i ∷ []) on.rest }

-- where a line leads on
by_line : (front : List Item) (i : Item) (next : Spot) → Follows front i next → (Good next → Goes_on (shown next)) → Goes_on front
by_line front i next follows on = back front i (subst Goes_on follows.lines (on follows.good))

-- ---- leaves and entries

pub completes_leaves : (d : Document) → IsPlain d → Goes_on (to_leaves d)
completes_leaves d plain = record { document = d; rest = item.End ∷ []; fits = plain; goes_on = refl }

pub completes_entries : (d : Document) → IsPlainFront d → Goes_on (to_shared d)
completes_entries d front = subst Goes_on (leafless d front.no_leaves) (completes_leaves d front.plain)

pub completes_entry_flow : (d : Document) (edges : List (EdgeKey × ℕ)) → Good (entry_flow d edges) → Goes_on (shown (entry_flow d edges))
completes_entry_flow d edges good =
    subst Goes_on (entry_closed d (shared.Flow edges)) (completes_entries (with_entry d (shared.Flow edges)) (plain_entry d (shared.Flow edges) good.0 good.1 good.2))

pub completes_entry_walk : (d : Document) (edges : List EdgeKey) → Good (entry_walk d edges) → Goes_on (shown (entry_walk d edges))
completes_entry_walk d edges good =
    subst Goes_on (entry_closed d (shared.Stuck edges)) (completes_entries (with_entry d (shared.Stuck edges)) (plain_entry d (shared.Stuck edges) good.0 good.1 good.2))

pub completes_leaf_flow : (d : Document) (prefix : List Pick) (edges : List (EdgeKey × ℕ)) → Good (leaf_flow d prefix edges) → Goes_on (shown (leaf_flow d prefix edges))
completes_leaf_flow d prefix edges good =
    let leaf = leaf_of prefix (reason.Flow edges) in
    subst Goes_on (leaf_closed d leaf) (completes_leaves (with_leaf d leaf) (plain_leaf d leaf good.0 (record { prefix = good.1; reason = good.3; stands = good.2 })))

pub completes_leaf_walk : (d : Document) (prefix : List Pick) (edges : List EdgeKey) → Good (leaf_walk d prefix edges) → Goes_on (shown (leaf_walk d prefix edges))
completes_leaf_walk d prefix edges good =
    let leaf = leaf_of prefix (reason.Stuck edges) in
    subst Goes_on (leaf_closed d leaf) (completes_leaves (with_leaf d leaf) (plain_leaf d leaf good.0 (record { prefix = good.1; reason = good.3; stands = good.2 })))

-- a reason of one line
by_reason : (d : Document) (prefix : List Pick) (why : Reason) (i : Item) → Good (leaf_head d prefix)
    → leaf_items d.state (leaf_of prefix why) ≡ item.Leaf (picked_names d.state.plan.choices prefix) ∷ i ∷ [] → IsReasonOf in_place d.state why → MayStand d.version (length d.shared) why
    → Goes_on (shown (leaf_head d prefix))
by_reason d prefix why i good are is stands =
    back (shown (leaf_head d prefix)) i
    (subst Goes_on (one_line_leaf d prefix why i are)
    (completes_leaves (with_leaf d (leaf_of prefix why)) (plain_leaf d (leaf_of prefix why) good.0 (record { prefix = good.1; reason = is; stands = stands }))))

pub completes_leaf_head : (d : Document) (prefix : List Pick) → Good (leaf_head d prefix) → Goes_on (shown (leaf_head d prefix))
completes_leaf_head d prefix good = ⊎_elim denied other (cases_lt 0 (length d.state.vetoes))
  where
    denied : 0 < length d.state.vetoes → Goes_on (shown (leaf_head d prefix))
    denied some = by_reason d prefix (reason.Denied 0) (item.Denied (name_at (veto_names d.state.vetoes) 0)) good refl some tt

    shown_itself : d.version < 2 → Goes_on (shown (leaf_head d prefix))
    shown_itself below = by_reason d prefix (reason.Flow []) item.Flow good refl (no_edges d.state.plan) (omega (arith, below, good.0.parts.version.low))

    entry : length d.state.vetoes ≤ 0 → 2 ≤ d.version → Goes_on (shown (leaf_head d prefix))
    entry none above =
        let two : d.version ≡ 2 = omega (arith, above, good.0.parts.version.high) in
        by_reason d prefix (reason.Entry 0) (item.Use 0) good refl (omega arith) (two, omega (arith, none, good.2 two))

    other : length d.state.vetoes ≤ 0 → Goes_on (shown (leaf_head d prefix))
    other none = ⊎_elim shown_itself (entry none) (cases_lt d.version 2)

-- ---- the answer

-- the events that are left get the time 0
pub completes_times : (left version : ℕ) (state : State) (p : Proposal) → length p.times + left ≡ length state.plan.events → Good (times version state p) → Goes_on (shown (times version state p))
completes_times zero version state p count good =
    by_line (shown (times version state p)) item.End _
    (from_times version state p item.End _ tt good.0 good.1 (record { holds = omega (arith, count); leads = refl }))
    (λ front. completes_entries _ front)
completes_times (suc left) version state p count good =
    let event = get_or state.plan.events (length p.times) [] in
    let within : length p.times < length state.plan.events = omega (arith, count) in
    let fits : IsItem (item.At event 0) = (good.0.sound.plan.events (length p.times) [] within, omega arith) in
    by_line (shown (times version state p)) (item.At event 0) _
    (from_times version state p (item.At event 0) _ fits good.0 good.1 (record { holds = slice_get-get_or state.plan.events (length p.times) [] within; leads = refl }))
    (λ next. completes_times left version state (record p { times = p.times ++ 0 ∷ [] }) (omega (arith, count, length_push p.times 0)) next)

pub completes_sides : (version : ℕ) (state : State) (cost : ℕ) (literals : List Literal) (relaxed : List (SideKey × ℕ)) → Good (sides version state cost literals relaxed)
    → Goes_on (shown (sides version state cost literals relaxed))
completes_sides version state cost literals relaxed good =
    subst Goes_on (timeless version state (proposal_of cost literals relaxed []) refl)
    (completes_times (length state.plan.events) version state (proposal_of cost literals relaxed []) (omega arith) good)

pub completes_picks : (version : ℕ) (state : State) (cost : ℕ) (literals : List Literal) → Good (picks version state cost literals) → Goes_on (shown (picks version state cost literals))
completes_picks version state cost literals good =
    subst Goes_on (ap (λ l. to_question (begun version state) ++ l) (append-nil (to_picks state.plan (proposal_of cost literals [] [])))) (completes_sides version state cost literals [] good)

pub completes_question : (version : ℕ) (state : State) → IsBegun version state → Goes_on (to_question (begun version state))
completes_question version state begins =
    by_line (to_question (begun version state)) item.Nothing _ (from_question version state item.Nothing _ tt begins refl) (λ front. completes_entries _ front)

pub completes_script : (version : ℕ) (state : State) → IsBegun version state → Goes_on (shown (script version state))
completes_script version state begins = back (shown (script version state)) item.Answer (completes_question version state begins)

pub completes_done : (d : Document) → IsPlain d → Goes_on (items_of d)
completes_done d plain = record { document = d; rest = []; fits = plain; goes_on = sym (append-nil (items_of d)) }

-- whatever times are left
pub completes_left : (version : ℕ) (state : State) (p : Proposal) → Good (times version state p) → Goes_on (shown (times version state p))
completes_left version state p good =
    completes_times (length state.plan.events - length p.times) version state p (omega (arith, good.1.times)) good
