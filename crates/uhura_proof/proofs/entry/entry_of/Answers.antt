use Rattle.std.proofs.Common.{ℕ, List, map, sym, ap, subst, ◌∙◌}
use Rattle.std.specs.List.Sorted.{IsPermutation}
use Rattle.uhura_plan.specs.declared.key.EdgeKey.{EdgeKey}
use Rattle.uhura_net.specs.declared.place.Place.{Place}
use Rattle.uhura_dual.specs.Settled.{key_at}
use Rattle.uhura_conflict.specs.Learned.{places_in}
use Rattle.uhura_proof.specs.Entries.{place_by, keyed, AreInOrder}
use Rattle.uhura_proof.proofs.EntryMade.{entry-walk, entry-flow}
use Rattle.uhura_proof.proofs.entry.entry_of.Goals as goal

pub returns-in_ok-walk_edges : goal.returns-in_ok-walk_edges
returns-in_ok-walk_edges c =
    entry-walk (place_by c.args.places.now) c.args.conflict.now c.units-pairs.ensures.sound c.from_vec.result (sym c.is_stuck.ensures ∙ c.if-is_stuck.true)
    (c.from_vec.ensures ∙ c.in_ok-walk_edges.ensures
    ∙ ap (λ (pairs : List (Place × ℕ)). map (λ (place : Place). key_at place.0) (places_in pairs)) c.units-pairs.ensures.pairs)

pub returns-in_ok-flow_edges : goal.returns-in_ok-flow_edges
returns-in_ok-flow_edges c =
    let edges = c.from_vec-else-is_stuck.result in
    let made = c.from_vec-else-is_stuck.ensures in
    entry-flow (place_by c.args.places.now) c.args.conflict.now c.units-pairs.ensures.sound edges (sym c.is_stuck.ensures ∙ c.if-is_stuck.false)
    (subst (λ (es : List (EdgeKey × ℕ)). IsPermutation (keyed c.args.conflict.now.pairs) es) (sym made)
    (subst (λ (pairs : List (Place × ℕ)). IsPermutation (keyed pairs) c.in_ok-flow_edges.field-0.items) c.units-pairs.ensures.pairs c.in_ok-flow_edges.ensures.same))
    (subst (λ (es : List (EdgeKey × ℕ)). AreInOrder (place_by c.args.places.now) es) (sym made) c.in_ok-flow_edges.ensures.in_order)
