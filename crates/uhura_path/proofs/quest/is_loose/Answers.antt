use Rattle.std.proofs.Common.{◌≡◌, ℕ, sym, ap, ◌∙◌, inl, inr}
use Rattle.uhura_plan.specs.declared.key.EdgeKey.{EdgeKey}
use Rattle.uhura_net.specs.Place.{place_number, HasPlace, is_loose, is_loose_key}
use Rattle.uhura_net.proofs.Rows.{is_loose-place_number}
use Rattle.uhura_path.proofs.quest.is_loose.Goals as goal

loose_as_key : (key : EdgeKey) (place : ℕ) → place_number key ≡ place → HasPlace key → is_loose place ≡ is_loose_key key
loose_as_key key place same has = ap is_loose (sym same) ∙ is_loose-place_number key has

pub returns-in-Loose : goal.returns-in-Loose
returns-in-Loose c =
    let as_key = loose_as_key c.key_of.result c.args.place.0 c.key_of.ensures.place c.key_of.ensures.has_place in
    elim c.in-Loose.is [
      | inl loose ↦ sym (as_key ∙ ap is_loose_key loose.1)
      | inr steep ↦ sym (as_key ∙ ap is_loose_key steep.1)
    ]

pub returns-in-Firm : goal.returns-in-Firm
returns-in-Firm c =
    let as_key = loose_as_key c.key_of.result c.args.place.0 c.key_of.ensures.place c.key_of.ensures.has_place in
    elim c.in-Firm.is [
      | inl firm ↦ sym (as_key ∙ ap is_loose_key firm.1)
      | inr order ↦ sym (as_key ∙ ap is_loose_key order.1)
    ]
