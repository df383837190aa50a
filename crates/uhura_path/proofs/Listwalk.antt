-- A walk along a list of places meets all arcs into its node.
use Rattle.std.proofs.Common.{◌≡◌, ◌≢◌, ℕ, ◌+◌, ◌<◌, ◌≤◌, Bool, Some, ◌⊎◌, sym, ap, subst, ◌∙◌, inl, inr, arith}
use Rattle.std.proofs.lemmas.Bool.{cases_eq, cases_lt}
use Rattle.uhura_net.specs.declared.edge.TheConstants.{NODES}
use Rattle.uhura_net.specs.declared.place.TheConstants.{PLACES}
use Rattle.uhura_net.specs.Lists.{Listing, first_of, next_of, node_of, IsRanked}
use Rattle.uhura_path.specs.declared.ways.Arc.{Arc}
use Rattle.uhura_path.specs.Quest.{Aim}
use Rattle.uhura_path.specs.Search.{Spread, reach, node_at, IsGrown, GoesOn, IsKept}

-- an arc into a done node stays kept while the search goes on
pub IsKept-grown : (aim : Aim) (taken at : ℕ) (old new : Spread) (arc : Arc) → IsGrown aim taken old new → at < taken → arc.to ≡ node_at old at → IsKept aim old arc → IsKept aim new arc
IsKept-grown aim taken at old new arc grown below here kept =
    let same : reach aim new arc.to ≡ reach aim old arc.to = ap (reach aim new) here ∙ grown.done at below ∙ ap (reach aim old) (sym here) in
    omega (arith, same, kept, grown.nearer arc.from, grown.cap)

pub IsGrown-trans : (aim : Aim) (taken : ℕ) (first old new : Spread) → IsGrown aim taken first old → IsGrown aim taken old new → IsGrown aim taken first new
IsGrown-trans aim taken first old new before after = record {
  cap = omega (arith, before.cap, after.cap);
  nearer = λ node. omega (arith, before.nearer node, after.nearer node);
  order = λ at below. after.order at below ∙ before.order at below;
  done = λ at below.
      let same = before.order at below in
      ap (reach aim new) (sym same) ∙ after.done at below ∙ ap (reach aim old) same ∙ before.done at below;
}

pub GoesOn-trans : (aim : Aim) (taken node level : ℕ) (first old new : Spread) → GoesOn aim taken node level first old → GoesOn aim taken node level old new →
    GoesOn aim taken node level first new
GoesOn-trans aim taken node level first old new before after = record {
  stays = after.stays;
  grown = IsGrown-trans aim (taken + 1) first old new before.grown after.grown;
}

-- the arc at a place is kept, if there is one
abbrev pub IsKeptAt : Aim → Bool → Spread → ℕ → Type 0
IsKeptAt aim backward spread place = (arc : Arc) → aim.arcs place backward ≡ Some arc → IsKept aim spread arc

-- a walk along the list of a node has come to a place, or to its end, and met those of higher ranks
pub record HasMet (aim : Aim) (backward : Bool) (listing : Listing) (ranked : IsRanked listing) (node : ℕ) (spread : Spread) (at count : ℕ) : Type 0 where
  pub most : at ≤ PLACES
  pub here : at < PLACES → node_of listing at ≡ node
  pub left : ranked.rank at + count ≤ listing.count
  pub met : (place : ℕ) → node_of listing place ≡ node → (ranked.rank place ≤ ranked.rank at) ⊎ IsKeptAt aim backward spread place

module _ (aim : Aim) (backward : Bool) (listing : Listing) (ranked : IsRanked listing) (node : ℕ) (inside : node < NODES) where
  -- the walk begins with the first place
  pub HasMet-first : (spread : Spread) (at : ℕ) → at ≡ first_of listing node → HasMet aim backward listing ranked node spread at 0
  HasMet-first spread at is =
      let most : at ≤ PLACES = omega (arith, ranked.first node) in
      let here : at < PLACES → node_of listing at ≡ node = λ below. ap (λ p. node_of listing p) is ∙ ranked.first_at node inside (omega arith) in
      record {
        most = most;
        here = here;
        left = elim (cases_lt at PLACES) [
          | inl below ↦ omega (arith, ranked.most at (let same = here below in omega arith))
          | inr behind ↦
              let end : ranked.rank at ≡ 0 = ap ranked.rank (let last : at ≡ PLACES = omega arith in last) ∙ ranked.end in
              omega (arith, end)
        ];
        met = λ place there.
            let newest = ranked.newest place (omega arith) in
            let same : ranked.rank (first_of listing (node_of listing place)) ≡ ranked.rank at = ap ranked.rank (ap (λ n. first_of listing n) there ∙ sym is) in
            inl (omega (arith, newest, same));
      }

  -- it goes on to the place behind, once the arc of this one is kept
  pub HasMet-next : (old new : Spread) (at after count : ℕ) → at < PLACES → after ≡ next_of listing at → HasMet aim backward listing ranked node old at count →
      ((place : ℕ) → node_of listing place ≡ node → IsKeptAt aim backward old place → IsKeptAt aim backward new place) → IsKeptAt aim backward new at →
      HasMet aim backward listing ranked node new after (count + 1)
  HasMet-next old new at after count below is before stays kept =
      let here = before.here below in
      let falls = ranked.falls at (omega arith) in
      let rank_is : ranked.rank after ≡ ranked.rank (next_of listing at) = ap ranked.rank is in
      record {
        most = omega (arith, ranked.next at);
        here = λ more. ap (λ p. node_of listing p) is ∙ ranked.next_at at (omega arith) (omega arith) ∙ here;
        left = omega (arith, before.left, rank_is);
        met = λ place there.
            elim (before.met place there) [
              | inr earlier ↦ inr (stays place there earlier)
              | inl later ↦
                  elim (cases_eq place at) [
                    | inl same ↦ let P : ℕ → Type 0 = IsKeptAt aim backward new in inr (subst P (sym same) kept)
                    | inr other ↦
                        let together : node_of listing place ≡ node_of listing at = there ∙ sym here in
                        let apart : ranked.rank at ≢ ranked.rank place = λ equal. other (sym (ranked.one at place (omega arith) together equal)) in
                        let less : ranked.rank place < ranked.rank at =
                        elim (cases_lt (ranked.rank place) (ranked.rank at)) [
                          | inl below ↦ below
                          | inr above ↦ absurd (apart (let same : ranked.rank at ≡ ranked.rank place = omega (arith, later) in same))
                        ] in
                        inl (omega (arith, ranked.gapless at place (omega arith) together less, rank_is))
                  ]
            ];
      }

  -- and at its end it has met all
  pub AreMet : (spread : Spread) (at count : ℕ) → ranked.rank at ≡ 0 → HasMet aim backward listing ranked node spread at count →
      (place : ℕ) → node_of listing place ≡ node → IsKeptAt aim backward spread place
  AreMet spread at count end walked place there =
      elim (walked.met place there) [
        | inr kept ↦ kept
        | inl later ↦ absurd (omega (arith, later, end, ranked.some place (omega arith)))
      ]
