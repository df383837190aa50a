-- The front of the prefix's length is the prefix.
use Rattle.std.proofs.Common.{◌≡◌, ◌++◌, ◌∷◌, [], ap, sym, ◌∙◌, length, take, Some, arith, cond, List}
use Rattle.std.proofs.lemmas.List.{take_all}
use Rattle.uhura_choice.specs.declared.prefix.Pick.{Pick}
use Rattle.uhura_choice.specs.declared.prefix.Pick.TheVariants.{Alternative, Inactive}
use Rattle.uhura_choice.specs.Branch.{is_active}
use Rattle.uhura_choice.proofs.Extensions.{child-at}
use Rattle.uhura_choice.proofs.extension.child.Goals as goal

pub returns : goal.returns
returns c =
    let choices = c.args.plan.now.choices in
    let picks = c.args.prefix.now in
    let whole : c.front-longer.result ≡ picks =
    c.front-longer.ensures ∙ (ap (λ p. take (length p) picks) c.entries-place.ensures.entries ∙ take_all (length picks) picks (omega arith)) in
    let entry : c.entry.result ≡ cond (is_active choices picks (length picks)) (Alternative c.args.index) Inactive =
    c.entry.ensures.entry ∙ ap (λ p. cond (is_active choices picks (length p)) (Alternative c.args.index) Inactive) c.entries-place.ensures.entries in
    let longer : c.push.new.self ≡ picks ++ c.entry.result ∷ [] = c.push.ensures ∙ ap (λ (p : List Pick). p ++ c.entry.result ∷ []) whole in
    child-at choices picks c.args.index c.entry.result c.requires entry ∙ ap (λ (p : List Pick). Some p) (sym longer)
