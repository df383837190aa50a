-- Where a search is over, its distances up to the cap are those of the arcs.
use Rattle.std.proofs.Common.{◌≡◌, ℕ, zero, suc, ◌+◌, ◌<◌, ◌≤◌, min, Bool, true, List, [], ◌∷◌, Some, sym, ap, subst, ◌∙◌, inl, inr, arith}
use Rattle.std.proofs.lemmas.Bool.{cases_eq, cases_lt, cases_Bool}
use Rattle.uhura_net.specs.declared.place.Place.{Place}
use Rattle.uhura_path.specs.declared.ways.Arc.{Arc}
use Rattle.uhura_path.specs.Ways.{Arcs}
use Rattle.uhura_path.specs.Walk.{IsWalk, HasWalk, NoneIsShorter}
use Rattle.uhura_path.specs.Found.{label_at, AreDistances}
use Rattle.uhura_path.specs.Quest.{Aim}
use Rattle.uhura_path.specs.Search.{Spread, has_label, reach, node_at, IsSpread, IsOver}
use Rattle.uhura_path.proofs.Reaching.{reach-free}
use Rattle.uhura_path.proofs.Noting.{few_listed}

-- no walk leads down by more than it costs
pub walk_down : (arcs : Arcs) (root cap : ℕ) (distance : ℕ → ℕ) → AreDistances arcs root cap distance → (from : ℕ) (places : List Place) (backward : List Bool) (to cost : ℕ) →
    IsWalk arcs from places backward to cost → distance from ≤ distance to + cost
walk_down arcs root cap distance are from [] [] to cost walk = let same : distance from ≡ distance to = ap distance walk.0 in omega (arith, walk.1)
walk_down arcs root cap distance are from [] (back ∷ backward) to cost walk = absurd walk
walk_down arcs root cap distance are from (place ∷ places) [] to cost walk = absurd walk
walk_down arcs root cap distance are from (place ∷ places) (back ∷ backward) to cost walk =
    let arc = walk.0 in
    let same : distance arc.from ≡ distance from = ap distance walk.3 in
    omega (arith, same, walk.4, are.kept place.0 back arc walk.2, walk_down arcs root cap distance are arc.to places backward to walk.1 walk.5)

pub NoneIsShorter-distance : (arcs : Arcs) (root cap : ℕ) (distance : ℕ → ℕ) → AreDistances arcs root cap distance → (node : ℕ) → NoneIsShorter arcs node root (distance node)
NoneIsShorter-distance arcs root cap distance are node places backward other walk =
    omega (arith, walk_down arcs root cap distance are node places backward root other walk, are.here)

module _ (aim : Aim) (taken : ℕ) (spread : Spread) (over : IsOver aim taken spread) where
  abbrev was : IsSpread aim taken over.level spread
  was = over.spreads

  -- the distances up to the cap
  abbrev pub capped : ℕ → ℕ
  capped node = min spread.front.cap (reach aim spread node)

  -- a node that isn't done is as far as the cap
  pub beyond : (node : ℕ) → taken ≤ was.place node → spread.front.cap ≤ reach aim spread node
  beyond node behind =
      elim (cases_Bool (has_label aim spread node)) [
        | inl has ↦
            let within = was.listed.within node has in
            let near = over.near (was.place node) behind within in
            let same : reach aim spread (node_at spread (was.place node)) ≡ reach aim spread node = ap (reach aim spread) (was.listed.stands node within) in
            omega (arith, near, same)
        | inr none ↦ let free : reach aim spread node ≡ aim.cap = reach-free aim (label_at spread.labels node) none in omega (arith, was.capped)
      ]

  pub within_done : (node : ℕ) → was.place node < taken → has_label aim spread node ≡ true
  within_done node done =
      elim (cases_Bool (has_label aim spread node)) [
        | inl has ↦ has
        | inr none ↦ absurd (omega (arith, was.listed.out node none, few_listed aim spread was.place was.listed, was.some))
      ]

  capped_kept : (place : ℕ) (backward : Bool) (arc : Arc) → aim.arcs place backward ≡ Some arc → capped arc.from ≤ capped arc.to + arc.cost
  capped_kept place backward arc is =
      elim (cases_lt (was.place arc.to) taken) [
        | inl done ↦
            let here = was.listed.stands arc.to (omega (arith, was.some)) in
            let kept = over.kept (was.place arc.to) done place backward arc is (sym here) in
            omega (arith, kept)
        | inr behind ↦ omega (arith, beyond arc.to behind)
      ]

  -- the steps lead from each done node to the root
  walk_back : (most node : ℕ) → was.place node < most → was.place node < taken → HasWalk aim.arcs node aim.root (reach aim spread node)
  walk_back zero node below done = absurd (omega arith)
  walk_back (suc most) node below done =
      elim (cases_eq node aim.root) [
        | inl root ↦ ([], [], (root, ap (reach aim spread) root ∙ was.root_zero))
        | inr apart ↦
            let step = was.steps node (within_done node done) apart in
            let rest = walk_back most step.arc.to (omega (arith, step.earlier)) step.done in
            let label = (label_at spread.labels node).step in
            (label.place ∷ rest.0, label.backward ∷ rest.1, (step.arc, reach aim spread step.arc.to, step.there, step.starts, omega (arith, step.costs), rest.2))
      ]

  capped_walked : (node : ℕ) → capped node < spread.front.cap → HasWalk aim.arcs node aim.root (capped node)
  capped_walked node less =
      elim (cases_lt (was.place node) taken) [
        | inl done ↦
            let same : reach aim spread node ≡ capped node = omega arith in
            let P : ℕ → Type 0 = HasWalk aim.arcs node aim.root in
            subst P same (walk_back (was.place node + 1) node (omega arith) done)
        | inr behind ↦ absurd (omega (arith, beyond node behind))
      ]

  pub AreDistances-over : AreDistances aim.arcs aim.root spread.front.cap capped
  AreDistances-over = record {
    here = omega (arith, was.root_zero);
    most = λ node. omega arith;
    walked = capped_walked;
    kept = capped_kept;
  }

  pub capped_goal : capped aim.goal ≡ spread.front.cap
  capped_goal =
      let free : reach aim spread aim.goal ≡ aim.cap = reach-free aim (label_at spread.labels aim.goal) was.goal_free in
      omega (arith, was.capped)
