-- The leaves of documents that are the same up to slots are twins.
use Rattle.std.proofs.Common.{◌≡◌, ℕ, zero, suc, List, [], ◌∷◌, length, map, ap, subst}
use Rattle.std.specs.List.{AllZip, AllByRecursion}
use Rattle.uhura_plan.specs.declared.key.EdgeKey.{EdgeKey}
use Rattle.uhura_shows.specs.Leaf.{LeafReason}
use Rattle.uhura_cert.specs.declared.document.Shared.{Shared}
use Rattle.uhura_cert.specs.declared.document.Shared.TheVariants as shared
use Rattle.uhura_cert.specs.declared.document.Reason.{Reason}
use Rattle.uhura_cert.specs.declared.document.Reason.TheVariants as reason
use Rattle.uhura_cert.specs.declared.document.Leaf.{Leaf}
use Rattle.uhura_cert.specs.Document.{Document, IsDocument, AreEdges, IsShared, AreShared, IsReasonOf, IsLeaf}
use Rattle.uhura_cert.specs.Order.{place_in, IsEdgeOf}
use Rattle.uhura_cert.specs.ReadsBack.{placed_edge, placed_units, placed_shared, placed_reason, placed_leaf, IsSameUpToSlots}
use Rattle.uhura_check.specs.Confirmed.{entry_reason, reason_of, leaf_of, leaves_of}
use Rattle.uhura_proof.proofs.Twins.{AreTwinEdges}
use Rattle.uhura_proof.proofs.TwinLeaves.{AreTwinPairs, AreTwinReasons, AreTwinLeaves}

module _ (d e : Document) (is_d : IsDocument d) (is_e : IsDocument e) (same : IsSameUpToSlots d e) where
  abbrev AreTwinKeys : EdgeKey → EdgeKey → Type 0
  AreTwinKeys = AreTwinEdges d.state e.state is_d.state is_e.state same.state

  abbrev AreTwins : LeafReason → LeafReason → Type 0
  AreTwins = AreTwinReasons d.state e.state is_d.state is_e.state same.state

  pairs_twin : (ps qs : List (EdgeKey × ℕ)) → AllByRecursion (λ p. IsEdgeOf d.state.plan p.0) ps → AllByRecursion (λ q. IsEdgeOf e.state.plan q.0) qs → map (placed_units d.state.plan) ps ≡ map (placed_units e.state.plan) qs →
      AllZip (AreTwinPairs d.state e.state is_d.state is_e.state same.state) ps qs
  pairs_twin [] [] here there at = tt
  pairs_twin [] (q ∷ qs) here there at = let no : ⊥ = cc in absurd no
  pairs_twin (p ∷ ps) [] here there at = let no : ⊥ = cc in absurd no
  pairs_twin (p ∷ ps) (q ∷ qs) here there at =
      let first : placed_units d.state.plan p ≡ placed_units e.state.plan q = cc in
      let rest : map (placed_units d.state.plan) ps ≡ map (placed_units e.state.plan) qs = cc in
      ((record { here = here.0; there = there.0; at = ap (λ (x : EdgeKey × ℕ). x.0) first }, ap (λ (x : EdgeKey × ℕ). x.1) first), pairs_twin ps qs here.1 there.1 rest)

  walks_twin : (xs ys : List EdgeKey) → AreEdges d.state.plan xs → AreEdges e.state.plan ys → map (placed_edge d.state.plan) xs ≡ map (placed_edge e.state.plan) ys → AllZip AreTwinKeys xs ys
  walks_twin [] [] here there at = tt
  walks_twin [] (y ∷ ys) here there at = let no : ⊥ = cc in absurd no
  walks_twin (x ∷ xs) [] here there at = let no : ⊥ = cc in absurd no
  walks_twin (x ∷ xs) (y ∷ ys) here there at =
      let first : placed_edge d.state.plan x ≡ placed_edge e.state.plan y = cc in
      let rest : map (placed_edge d.state.plan) xs ≡ map (placed_edge e.state.plan) ys = cc in
      (record { here = here.0; there = there.0; at = first }, walks_twin xs ys here.1 there.1 rest)

  entries_twin : (x y : Shared) → IsShared (place_in d.state.plan) d.state.plan x → IsShared (place_in e.state.plan) e.state.plan y → placed_shared d.state.plan x ≡ placed_shared e.state.plan y → AreTwins (entry_reason x) (entry_reason y)
  entries_twin (shared.Flow ps) (shared.Flow qs) here there at = let pairs : map (placed_units d.state.plan) ps ≡ map (placed_units e.state.plan) qs = cc in pairs_twin ps qs here.among there.among pairs
  entries_twin (shared.Stuck xs) (shared.Stuck ys) here there at = let keys : map (placed_edge d.state.plan) xs ≡ map (placed_edge e.state.plan) ys = cc in walks_twin xs ys here there keys
  entries_twin (shared.Flow ps) (shared.Stuck ys) here there at = let no : ⊥ = cc in absurd no
  entries_twin (shared.Stuck xs) (shared.Flow qs) here there at = let no : ⊥ = cc in absurd no

  -- the entries that are used at one place
  used_twin : (xs ys : List Shared) (place : ℕ) → AreShared (place_in d.state.plan) d.version d.state.plan xs → AreShared (place_in e.state.plan) e.version e.state.plan ys → map (placed_shared d.state.plan) xs ≡ map (placed_shared e.state.plan) ys →
      AreTwins (reason_of xs (reason.Entry place)) (reason_of ys (reason.Entry place))
  used_twin [] [] place here there at = tt
  used_twin [] (y ∷ ys) place here there at = let no : ⊥ = cc in absurd no
  used_twin (x ∷ xs) [] place here there at = let no : ⊥ = cc in absurd no
  used_twin (x ∷ xs) (y ∷ ys) zero here there at = let first : placed_shared d.state.plan x ≡ placed_shared e.state.plan y = cc in entries_twin x y here.0.1 there.0.1 first
  used_twin (x ∷ xs) (y ∷ ys) (suc place) here there at = let rest : map (placed_shared d.state.plan) xs ≡ map (placed_shared e.state.plan) ys = cc in used_twin xs ys place here.1 there.1 rest

  whys_twin : (v w : Reason) → IsReasonOf (place_in d.state.plan) d.state v → IsReasonOf (place_in e.state.plan) e.state w → placed_reason d.state.plan v ≡ placed_reason e.state.plan w → AreTwins (reason_of d.shared v) (reason_of e.shared w)
  whys_twin (reason.Denied v) (reason.Denied w) here there at = cc
  whys_twin (reason.Flow ps) (reason.Flow qs) here there at = let pairs : map (placed_units d.state.plan) ps ≡ map (placed_units e.state.plan) qs = cc in pairs_twin ps qs here.among there.among pairs
  whys_twin (reason.Stuck xs) (reason.Stuck ys) here there at = let keys : map (placed_edge d.state.plan) xs ≡ map (placed_edge e.state.plan) ys = cc in walks_twin xs ys here there keys
  whys_twin (reason.Entry m) (reason.Entry n) here there at =
      let is : m ≡ n = cc in
      subst (λ place. AreTwins (reason_of d.shared (reason.Entry m)) (reason_of e.shared (reason.Entry place))) is (used_twin d.shared e.shared m is_d.parts.shared is_e.parts.shared same.shared)
  whys_twin (reason.Denied v) (reason.Flow qs) here there at = let no : ⊥ = cc in absurd no
  whys_twin (reason.Denied v) (reason.Stuck ys) here there at = let no : ⊥ = cc in absurd no
  whys_twin (reason.Denied v) (reason.Entry n) here there at = let no : ⊥ = cc in absurd no
  whys_twin (reason.Flow ps) (reason.Denied w) here there at = let no : ⊥ = cc in absurd no
  whys_twin (reason.Flow ps) (reason.Stuck ys) here there at = let no : ⊥ = cc in absurd no
  whys_twin (reason.Flow ps) (reason.Entry n) here there at = let no : ⊥ = cc in absurd no
  whys_twin (reason.Stuck xs) (reason.Denied w) here there at = let no : ⊥ = cc in absurd no
  whys_twin (reason.Stuck xs) (reason.Flow qs) here there at = let no : ⊥ = cc in absurd no
  whys_twin (reason.Stuck xs) (reason.Entry n) here there at = let no : ⊥ = cc in absurd no
  whys_twin (reason.Entry m) (reason.Denied w) here there at = let no : ⊥ = cc in absurd no
  whys_twin (reason.Entry m) (reason.Flow qs) here there at = let no : ⊥ = cc in absurd no
  whys_twin (reason.Entry m) (reason.Stuck ys) here there at = let no : ⊥ = cc in absurd no

  all_twin : (ls ms : List Leaf) → AllByRecursion (IsLeaf (place_in d.state.plan) d.version d.state (length d.shared)) ls → AllByRecursion (IsLeaf (place_in e.state.plan) e.version e.state (length e.shared)) ms →
      map (placed_leaf d.state.plan) ls ≡ map (placed_leaf e.state.plan) ms → AllZip (AreTwinLeaves d.state e.state is_d.state is_e.state same.state) (map (leaf_of d.shared) ls) (map (leaf_of e.shared) ms)
  all_twin [] [] here there at = tt
  all_twin [] (m ∷ ms) here there at = let no : ⊥ = cc in absurd no
  all_twin (l ∷ ls) [] here there at = let no : ⊥ = cc in absurd no
  all_twin (l ∷ ls) (m ∷ ms) here there at =
      let first : placed_leaf d.state.plan l ≡ placed_leaf e.state.plan m = cc in
      let rest : map (placed_leaf d.state.plan) ls ≡ map (placed_leaf e.state.plan) ms = cc in
      (record { prefix = ap (λ (x : Leaf). x.prefix) first; reason = whys_twin l.reason m.reason here.0.reason there.0.reason (ap (λ (x : Leaf). x.reason) first) }, all_twin ls ms here.1 there.1 rest)

  pub leaves_twin : AllZip (AreTwinLeaves d.state e.state is_d.state is_e.state same.state) (leaves_of d) (leaves_of e)
  leaves_twin = all_twin d.leaves e.leaves is_d.parts.leaves is_e.parts.leaves same.leaves
