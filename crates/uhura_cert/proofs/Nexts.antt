-- What isn't found by its name, or stands before where others end, can't come next.
use Rattle.std.proofs.Common.{◌≡◌, ◌<◌, ◌≤◌, ℕ, List, Some, None, sym, ◌∙◌, arith, subst}
use Rattle.std.proofs.lemmas.Option.{same_Some}
use Rattle.uhura_plan.specs.declared.key.EdgeKey.{EdgeKey}
use Rattle.uhura_plan.specs.declared.key.Item.{Item as Thing}
use Rattle.uhura_plan.specs.declared.key.Side.{Side}
use Rattle.uhura_plan.specs.declared.key.SideKey.{SideKey}
use Rattle.uhura_plan.specs.declared.guard.Literal.{Literal}
use Rattle.uhura_plan.specs.Find.{literal_named}
use Rattle.uhura_plan.specs.Lists.{Lists}
use Rattle.uhura_veto.specs.Find.{item_named}
use Rattle.uhura_line.specs.declared.command.ItemName.{ItemName}
use Rattle.uhura_line.specs.Reads.{name_of}
use Rattle.uhura_command.specs.Apply.{kind_named}
use Rattle.uhura_item.specs.declared.item.EdgeName.{EdgeName}
use Rattle.uhura_cert.specs.Order.{side_place, edge_place}
use Rattle.uhura_cert.specs.Machine.{in_place, end_of, edge_named, IsNextPick, IsNextSide, IsNextEdge}

pub no_pick : (plan : Lists) (literals : List Literal) (choice alternative : List ℕ) → literal_named plan (choice, alternative) ≡ None → (l : Literal) → IsNextPick plan literals choice alternative l → ⊥
no_pick plan literals choice alternative none l next =
    let is : Some l ≡ None = sym next.found ∙ none in
    cc

pub pick_before : (plan : Lists) (literals : List Literal) (choice alternative : List ℕ) (found : Literal) → literal_named plan (choice, alternative) ≡ Some found
    → found.choice < end_of (λ l. l.choice) 0 literals → (l : Literal) → IsNextPick plan literals choice alternative l → ⊥
pick_before plan literals choice alternative found is before l next =
    let same : found ≡ l = same_Some found l (sym is ∙ next.found) in
    let later : end_of (λ l. l.choice) 0 literals ≤ found.choice = subst (λ l. end_of (λ l. l.choice) 0 literals ≤ l.choice) (sym same) next.later in
    omega (arith, before, later)

pub no_side : (plan : Lists) (sides : List (SideKey × ℕ)) (name : ItemName) (side : Side) → item_named plan (kind_named name) (name_of name) ≡ None → (k : SideKey) → IsNextSide plan sides name side k → ⊥
no_side plan sides name side none k next =
    let is : Some k.item ≡ None = sym next.found ∙ none in
    cc

pub side_before : (plan : Lists) (sides : List (SideKey × ℕ)) (name : ItemName) (side : Side) (found : Thing) → item_named plan (kind_named name) (name_of name) ≡ Some found
    → side_place in_place (record { item = found; side = side }) < end_of (λ s. side_place in_place s.0) 0 sides → (k : SideKey) → IsNextSide plan sides name side k → ⊥
side_before plan sides name side found is before k next =
    let thing : found ≡ k.item = same_Some found k.item (sym is ∙ next.found) in
    let on : side ≡ k.side = sym next.of_side in
    let same : record { item = found; side = side } ≡ k = λ i. record { item = thing i; side = on i } in
    let later : end_of (λ s. side_place in_place s.0) 0 sides ≤ side_place in_place (record { item = found; side = side }) =
    subst (λ (k : SideKey). end_of (λ s. side_place in_place s.0) 0 sides ≤ side_place in_place k) (sym same) next.later in
    omega (arith, before, later)

pub no_edge : (plan : Lists) (edges : List (EdgeKey × ℕ)) (name : EdgeName) → edge_named plan name ≡ None → (e : EdgeKey) → IsNextEdge plan edges name e → ⊥
no_edge plan edges name none e next =
    let is : Some e ≡ None = sym next.found ∙ none in
    cc

pub edge_before : (plan : Lists) (edges : List (EdgeKey × ℕ)) (name : EdgeName) (found : EdgeKey) → edge_named plan name ≡ Some found
    → edge_place in_place found < end_of (λ e. edge_place in_place e.0) 0 edges → (e : EdgeKey) → IsNextEdge plan edges name e → ⊥
edge_before plan edges name found is before e next =
    let same : found ≡ e = same_Some found e (sym is ∙ next.found) in
    let later : end_of (λ e. edge_place in_place e.0) 0 edges ≤ edge_place in_place found = subst (λ (e : EdgeKey). end_of (λ e. edge_place in_place e.0) 0 edges ≤ edge_place in_place e) (sym same) next.later in
    omega (arith, before, later)
