-- The alternative of the name gets the cost at its place.
use Rattle.std.proofs.Common.{◌≡◌, length, map, Some, refl, sym, ap, subst, ◌∙◌, arith}
use Rattle.std.proofs.lemmas.List.{length-map}
use Rattle.std.proofs.lemmas.Option.{slice_get_read}
use Rattle.uhura_plan.specs.Find.{place_of}
use Rattle.uhura_plan.specs.Sound.{AreDistinct}
use Rattle.uhura_plan.specs.Changes.{costs_with}
use Rattle.uhura_plan.proofs.Finds.{place_within}
use Rattle.uhura_plan.proofs.Named.{changed_at, has_name-at}
use Rattle.uhura_plan.proofs.choice.Alternatives.set_cost.Goals as goal

pub returns : goal.returns
returns c =
    let pairs = c.self.inside.pairs.items in
    let place = c.unwrap-place.result in
    let found : place_of (map (λ a. a.0) pairs) c.args.name ≡ Some place =
    ap (λ all. place_of (map (λ a. a.0) all) c.args.name) c.self.view_is ∙ (sym c.find.ensures ∙ c.unwrap-place.ensures) in
    let within = place_within (map (λ a. a.0) pairs) c.args.name place found in
    let at = slice_get_read pairs (length pairs) place c.index_mut.result.now refl (omega (arith, within, length-map pairs (λ a. a.0))) c.index_mut.ensures.value in
    changed_at (λ a. a.0) c.args.name (λ a. (a.0, c.args.cost)) pairs place c.index_mut.result.now
    (subst (λ all. AreDistinct (map (λ a. a.0) all)) (sym c.self.view_is) c.requires.once) at
    (has_name-at (λ a. a.0) c.args.name pairs place c.index_mut.result.now found at)
    ∙ ap (costs_with c.args.name c.args.cost) c.self.view_is
