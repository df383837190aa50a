use Rattle.std.proofs.Common.{rules}
use Rattle.std.proofs.lemmas.List.Sorted.{IsNonDecreasingBy-from_sort_by_key}
use Rattle.uhura_cert.specs.Order.{edge_place}
use Rattle.uhura_proof.specs.Entries.{place_by}
use Rattle.uhura_proof.proofs.entry.flow_edges.Goals as goal

pub returns-clause-in_order : goal.returns-clause-in_order
returns-clause-in_order c =
    IsNonDecreasingBy-from_sort_by_key (λ e. edge_place (place_by c.args.places.now) e.0) _ c.sort_unstable_by_key.ensures.sorted (λ a r q k. search rules)
