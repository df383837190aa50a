use Rattle.std.proofs.Common.{rules, ◌≡◌, ℕ, set, None, get_or, sym, ap, ◌∙◌, arith}
use Rattle.uhura_search.proofs.Refills.{puts-same, puts-set, lists-set}
use Rattle.uhura_search.proofs.refilling.refill_at.Goals as goal

pub returns-then-eq-clause-edge : goal.returns-then-eq-clause-edge
returns-then-eq-clause-edge c =
    let same : c.get.result ≡ c.args.edge = search rules in
    puts-same c.args.key c.args.edge c.args.table.now (ap (λ (n : ℕ). get_or c.args.table.now n None) (sym c.place_of-place.ensures.place) ∙ (sym c.get.ensures.edge ∙ same))

pub returns-clause-edge : goal.returns-clause-edge
returns-clause-edge c =
    puts-set c.args.key c.args.edge c.args.table.now c.put.new.self (omega (arith, c.get.ensures.places, c.place_of-place.ensures.place, c.place_of-place.ensures.below)) c.requires.placed
    (c.put.ensures.edges ∙ ap (λ (n : ℕ). set c.args.table.now n c.args.edge) c.place_of-place.ensures.place)

pub returns-clause-changed : goal.returns-clause-changed
returns-clause-changed c = lists-set c.args.table.now c.put.new.self c.args.changed.now c.set.new.self c.place_of-place.result.0 c.args.edge c.put.ensures.edges c.set.ensures
