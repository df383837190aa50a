use Rattle.std.proofs.Common.{◌≡◌, ℕ, List, [], ◌∷◌, ◌++◌, Option, Some, ap, sym, subst, ◌∙◌, to_z, of_z, arith}
use mir.Syntax.{w128}
use Rattle.std.proofs.lemmas.Int.{ints}
use Rattle.slab.specs.Slab.{Slab, Updates}
use Rattle.uhura_net.specs.declared.edge.Edge.{Edge}
use Rattle.uhura_net.specs.Circulation.{edges_of}
use Rattle.uhura_conflict.specs.declared.entry.Entry.{Entry}
use Rattle.uhura_conflict.specs.Learned.{IsValid}
use Rattle.uhura_conflict.specs.Store.{Stored, IsStore, Adds}
use Rattle.uhura_conflict.specs.Entries.{shown_as, IsHeldStore}
use Rattle.uhura_conflict.specs.Summaries.{AreSummed}
use Rattle.uhura_conflict.proofs.Keeping.{held-capacity, adds, held-added}
use Rattle.uhura_conflict.proofs.Summing.{summed-capacity}
use Rattle.uhura_conflict.proofs.store.Store.add.Goals as goal

pub invariant_of-self-then-is_err-3 : goal.invariant_of-self-then-is_err-3
invariant_of-self-then-is_err-3 c = (
  let inside = c.self.inside in
      let order = inside.order.items in
      let table = inside.table in
      let reserved : Slab Entry = c.reserve-else-is_err.new.self in
      let before : IsHeldStore reserved order table = subst (λ (entries : Slab Entry). IsHeldStore entries order table) (sym c.reserve-else-is_err.ensures.rest_kept)
      (held-capacity inside.entries reserved.capacity order table c.self.invariant.0) in
      subst (λ (keys : List ℕ). IsHeldStore reserved keys table) (sym c.reserve.ensures.items) before,
  c.self.invariant.1,
  let inside = c.self.inside in
      let reserved : Slab Entry = c.reserve-else-is_err.new.self in
      c.reach.ensures.kept reserved
      (subst (λ (entries : Slab Entry). AreSummed inside.summaries entries) (sym c.reserve-else-is_err.ensures.rest_kept) (summed-capacity inside.summaries inside.entries reserved.capacity c.self.invariant.2)),
)

pub invariant_of-self-2 : goal.invariant_of-self-2
invariant_of-self-2 c = (
  let inside = c.self.inside in
      let order = inside.order.items in
      let table = inside.table in
      let reserved : Slab Entry = c.reserve-else-is_err.new.self in
      let key = c.vacant_key-key.result in
      let value = to_z w128 (of_z w128 c.flow_worth-value.result) in
      let entry : Entry = record { conflict = c.args.conflict; value = value } in
      let same : c.insert_reserved.result ≡ key = c.insert_reserved.ensures.key ∙ sym c.vacant_key-key.ensures.value in
      let updates : Updates reserved c.insert_reserved.new.self key (Some entry) = subst (λ (k : ℕ). Updates reserved c.insert_reserved.new.self k (Some entry)) same c.insert_reserved.ensures.updates in
      let ordered : c.push_reserved.new.self.items ≡ order ++ key ∷ [] = c.push_reserved.ensures.items ∙ ap (λ (keys : List ℕ). keys ++ key ∷ []) c.reserve.ensures.items in
      let before : IsHeldStore reserved order table = subst (λ (entries : Slab Entry). IsHeldStore entries order table) (sym c.reserve-else-is_err.ensures.rest_kept)
      (held-capacity inside.entries reserved.capacity order table c.self.invariant.0) in
      let fits : value ≡ c.flow_worth-value.result = omega (arith, ints) in
      let valid : IsValid (edges_of table) c.args.conflict =
      subst (λ (edges : List (Option Edge)). IsValid (edges_of edges) c.args.conflict) (sym (ap (λ (s : Stored). s.table) c.self.view_is)) c.requires.valid in
      subst (λ (keys : List ℕ). IsHeldStore c.insert_reserved.new.self keys table) (sym ordered)
      (held-added reserved c.insert_reserved.new.self order table key entry c.vacant_key-key.ensures.vacant updates before
      c.flow_worth-value.ensures.learned valid (λ flow. fits ∙ c.flow_worth-value.ensures.worth flow)),
  c.self.invariant.1,
  let inside = c.self.inside in
      let reserved : Slab Entry = c.reserve-else-is_err.new.self in
      let key = c.vacant_key-key.result in
      let value = to_z w128 (of_z w128 c.flow_worth-value.result) in
      let entry : Entry = record { conflict = c.args.conflict; value = value } in
      let same : c.insert_reserved.result ≡ key = c.insert_reserved.ensures.key ∙ sym c.vacant_key-key.ensures.value in
      let updates : Updates reserved c.insert_reserved.new.self key (Some entry) = subst (λ (k : ℕ). Updates reserved c.insert_reserved.new.self k (Some entry)) same c.insert_reserved.ensures.updates in
      c.add.ensures reserved c.insert_reserved.new.self updates
      (c.reach.ensures.kept reserved
      (subst (λ (entries : Slab Entry). AreSummed inside.summaries entries) (sym c.reserve-else-is_err.ensures.rest_kept) (summed-capacity inside.summaries inside.entries reserved.capacity c.self.invariant.2))),
)

pub returns-clause-added : goal.returns-clause-added
returns-clause-added c =
    let inside = c.self.inside in
    let order = inside.order.items in
    let table = inside.table in
    let reserved : Slab Entry = c.reserve-else-is_err.new.self in
    let key = c.vacant_key-key.result in
    let value = to_z w128 (of_z w128 c.flow_worth-value.result) in
    let entry : Entry = record { conflict = c.args.conflict; value = value } in
    let same : c.insert_reserved.result ≡ key = c.insert_reserved.ensures.key ∙ sym c.vacant_key-key.ensures.value in
    let updates : Updates reserved c.insert_reserved.new.self key (Some entry) = subst (λ (k : ℕ). Updates reserved c.insert_reserved.new.self k (Some entry)) same c.insert_reserved.ensures.updates in
    let ordered : c.push_reserved.new.self.items ≡ order ++ key ∷ [] = c.push_reserved.ensures.items ∙ ap (λ (keys : List ℕ). keys ++ key ∷ []) c.reserve.ensures.items in
    let was : shown_as reserved order table ≡ c.args.self.now = ap (λ (entries : Slab Entry). shown_as entries order table) c.reserve-else-is_err.ensures.rest_kept ∙ c.self.view_is in
    subst (λ (keys : List ℕ). Adds c.args.self.now (shown_as c.insert_reserved.new.self keys table) key c.args.conflict) (sym ordered)
    (subst (λ (store : Stored). Adds store (shown_as c.insert_reserved.new.self (order ++ key ∷ []) table) key c.args.conflict) was
    (adds reserved c.insert_reserved.new.self order table key entry c.vacant_key-key.ensures.vacant updates))

pub returns-clause-sound : goal.returns-clause-sound
returns-clause-sound c =
    let inside = c.self.inside in
    let order = inside.order.items in
    let table = inside.table in
    let reserved : Slab Entry = c.reserve-else-is_err.new.self in
    let key = c.vacant_key-key.result in
    let value = to_z w128 (of_z w128 c.flow_worth-value.result) in
    let entry : Entry = record { conflict = c.args.conflict; value = value } in
    let same : c.insert_reserved.result ≡ key = c.insert_reserved.ensures.key ∙ sym c.vacant_key-key.ensures.value in
    let updates : Updates reserved c.insert_reserved.new.self key (Some entry) = subst (λ (k : ℕ). Updates reserved c.insert_reserved.new.self k (Some entry)) same c.insert_reserved.ensures.updates in
    let ordered : c.push_reserved.new.self.items ≡ order ++ key ∷ [] = c.push_reserved.ensures.items ∙ ap (λ (keys : List ℕ). keys ++ key ∷ []) c.reserve.ensures.items in
    let before : IsHeldStore reserved order table = subst (λ (entries : Slab Entry). IsHeldStore entries order table) (sym c.reserve-else-is_err.ensures.rest_kept)
    (held-capacity inside.entries reserved.capacity order table c.self.invariant.0) in
    let fits : value ≡ c.flow_worth-value.result = omega (arith, ints) in
    let valid : IsValid (edges_of table) c.args.conflict =
    subst (λ (edges : List (Option Edge)). IsValid (edges_of edges) c.args.conflict) (sym (ap (λ (s : Stored). s.table) c.self.view_is)) c.requires.valid in
    subst (λ (keys : List ℕ). IsStore (shown_as c.insert_reserved.new.self keys table)) (sym ordered)
    (held-added reserved c.insert_reserved.new.self order table key entry c.vacant_key-key.ensures.vacant updates before
    c.flow_worth-value.ensures.learned valid (λ flow. fits ∙ c.flow_worth-value.ensures.worth flow)).sound
