use Rattle.std.proofs.Common.{◌≡◌, ◌<◌, ◌++◌, List, Option, Some, length, take, slice_get, get_or, sym, ap, subst, ◌∙◌, arith, ◌+◌, [], ◌∷◌, ℕ}
use Rattle.std.proofs.lemmas.Option.{slice_get-get_or, slice_get_within, same_Some}
use Rattle.std.proofs.lemmas.List.{take_more, take_all}
use Rattle.uhura_plan.specs.declared.choice.Choice.{Choice}
use Rattle.uhura_choice.specs.declared.prefix.Pick.{Pick}
use Rattle.uhura_choice.specs.declared.prefix.Pick.TheVariants.{Alternative}
use Rattle.uhura_cert.specs.Document.{IsPickOf, ArePicks}
use Rattle.uhura_cert.specs.Items.{picked_name, picked_names}
use Rattle.uhura_cert.proofs.Writing.{IsPickedAt, picked_at, length-picked}
use Rattle.uhura_cert.proofs.leaf.picked_names.Goals as goal

-- the choice and the pick at a place
at_place : (choices : List Choice) (picks : List Pick) (i : ℕ) → ArePicks choices picks → i < length picks → IsPickedAt choices picks i (get_or picks i (Alternative 0))
at_place choices picks i are within = picked_at choices picks i (get_or picks i (Alternative 0)) are (slice_get-get_or picks i (Alternative 0) within)

-- one more name
name_more : (choices : List Choice) (picks : List Pick) (i : ℕ) (choice : Choice) (names new : List (Option (List ℕ))) → ArePicks choices picks → i < length picks
    → slice_get choices i ≡ Some choice → names ≡ take i (picked_names choices picks) → new ≡ names ++ picked_name choice (get_or picks i (Alternative 0)) ∷ []
    → new ≡ take (i + 1) (picked_names choices picks)
name_more choices picks i choice names new are within there before pushed =
    let p = at_place choices picks i are within in
    let same : p.choice ≡ choice = same_Some p.choice choice (sym p.at ∙ there) in
    let name = picked_name p.choice (get_or picks i (Alternative 0)) in
    let more : take (i + 1) (picked_names choices picks) ≡ take i (picked_names choices picks) ++ name ∷ [] =
    take_more (picked_names choices picks) i name p.within ∙ ap (λ n. take i (picked_names choices picks) ++ n ∷ []) (sym p.named) in
    pushed ∙ ap (λ ns. ns ++ picked_name choice (get_or picks i (Alternative 0)) ∷ []) before
    ∙ ap (λ c. take i (picked_names choices picks) ++ picked_name c (get_or picks i (Alternative 0)) ∷ []) (sym same) ∙ sym more

pub choice_at-choice-requires : goal.choice_at-choice-requires
choice_at-choice-requires c =
    let p = at_place c.args.plan.now.choices c.args.picks.now c.loop-place.place c.requires.picks c.loop-place-test.true in
    slice_get_within c.args.plan.now.choices c.loop-place.place p.choice p.at

pub picked_name-requires : goal.picked_name-requires
picked_name-requires c =
    let p = at_place c.args.plan.now.choices c.args.picks.now c.loop-place.place c.requires.picks c.loop-place-test.true in
    let same : p.choice ≡ c.choice_at-choice.result.now = same_Some p.choice c.choice_at-choice.result.now (sym p.at ∙ c.choice_at-choice.ensures) in
    subst (λ (x : Choice). IsPickOf x (get_or c.args.picks.now c.loop-place.place (Alternative 0))) same p.of

pub loop-place-preserved : goal.loop-place-preserved
loop-place-preserved c =
    let pushed : c.push.new.self.items ≡ c.loop-place.names.items ++ c.picked_name.result ∷ [] = c.in_ok-push.ensures.items in
    name_more c.args.plan.now.choices c.args.picks.now c.loop-place.place c.choice_at-choice.result.now c.loop-place.names.items c.push.new.self.items c.requires.picks c.loop-place-test.true
    c.choice_at-choice.ensures c.loop-place.invariant (pushed ∙ ap (λ n. c.loop-place.names.items ++ n ∷ []) c.picked_name.ensures)

pub returns : goal.returns
returns c =
    let names = picked_names c.args.plan.now.choices c.args.picks.now in
    let all : length names ≡ length c.args.picks.now = length-picked c.args.plan.now.choices c.args.picks.now c.requires.picks in
    c.from_vec.ensures ∙ c.loop-place.invariant ∙ take_all c.loop-place.place names (omega (arith, all))
