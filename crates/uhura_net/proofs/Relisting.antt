-- Listing places that have edges.
use Rattle.std.proofs.Common.{◌≡◌, ℕ, ◌+◌, ◌<◌, ◌≤◌, List, length, get_or, set, replicate, pos, Option, None, Some, IfSome, sym, ap, subst, ◌∙◌, inl, inr, arith}
use Rattle.std.proofs.lemmas.Bool.{cases_eq, cases_lt}
use Rattle.std.proofs.lemmas.List.{get_or_past, length-set, get_or-set_same, get_or-set_other}
use Rattle.uhura_net.specs.declared.edge.TheConstants.{NODES}
use Rattle.uhura_net.specs.declared.place.TheConstants.{PLACES}
use Rattle.uhura_net.specs.declared.edge.Edge.{Edge}
use Rattle.uhura_net.specs.declared.edge.End.{End}
use Rattle.uhura_net.specs.declared.edge.End.TheVariants.{From, To}
use Rattle.uhura_net.specs.Circulation.{edges_of}
use Rattle.uhura_net.specs.Edges.{Edges}
use Rattle.uhura_net.specs.Net.{IsNetEdge, IsKeptNet, AreNetEdges}
use Rattle.uhura_net.specs.Lists.{Listing, node_of, end_node, IsListing, IsListedAt, AreListed, AreListedBut, IsLinked, IsUnlisted}
use Rattle.uhura_net.proofs.Empty.{IsNet-empty, value_empty}
use Rattle.uhura_plan.proofs.Slots.{get_or-replicate_default}

-- the edges at the first places are listed, and no other place is
pub record AreListedSoFar (edges : List (Option Edge)) (end : End) (listing : Listing) (places : ℕ) : Type 0 where
  pub sound : IsListing listing
  pub few : listing.count ≤ places
  pub each : (place : ℕ) → place < places → IsListedAt (edges_of edges) end listing place
  pub rest : (place : ℕ) → places ≤ place → node_of listing place ≡ NODES

pub AreListedSoFar-none : (edges : List (Option Edge)) (end : End) (listing : Listing) → IsUnlisted listing → AreListedSoFar edges end listing 0
AreListedSoFar-none edges end listing unlisted = record {
  sound = unlisted.sound;
  few = omega (arith, unlisted.count);
  each = λ place never. absurd (omega arith);
  rest = λ place _. unlisted.none place;
}

-- the nodes of a net's edges
pub end_inside : (end : End) (edge : Edge) → IsNetEdge edge → end_node end edge < NODES
end_inside From edge sound = sound.from
end_inside To edge sound = sound.to

-- a place without an edge is passed
pub AreListedSoFar-passed : (edges : List (Option Edge)) (end : End) (listing : Listing) (places : ℕ) → edges_of edges places ≡ None →
    AreListedSoFar edges end listing places → AreListedSoFar edges end listing (places + 1)
AreListedSoFar-passed edges end listing places none so_far = record {
  sound = so_far.sound;
  few = omega (arith, so_far.few);
  each = λ place below edge is.
      elim (cases_lt place places) [
        | inl earlier ↦ so_far.each place earlier edge is
        | inr later ↦
            let here : place ≡ places = omega arith in
            let never : None ≡ Some edge = sym none ∙ ap (λ p. edges_of edges p) (sym here) ∙ is in
            absurd (let no : ⊥ = cc in no)
      ];
  rest = λ place behind. so_far.rest place (omega arith);
}

-- and one with an edge is listed
pub AreListedSoFar-more : (edges : List (Option Edge)) (end : End) (before after : Listing) (places : ℕ) (edge : Edge) → edges_of edges places ≡ Some edge →
    IsLinked before after places (end_node end edge) → IsListing after → AreListedSoFar edges end before places → AreListedSoFar edges end after (places + 1)
AreListedSoFar-more edges end before after places edge there linked sound so_far = record {
  sound = sound;
  few = omega (arith, so_far.few, linked.count);
  each = λ place below other is.
      elim (cases_eq place places) [
        | inl here ↦
            let both : Some edge ≡ Some other = sym there ∙ ap (λ p. edges_of edges p) (sym here) ∙ is in
            let same : edge ≡ other = cc in
            ap (λ p. node_of after p) here ∙ linked.here ∙ ap (λ e. end_node end e) same
        | inr apart ↦ linked.others place apart ∙ so_far.each place (omega arith) other is
      ];
  rest = λ place behind. linked.others place (λ same. omega arith) ∙ so_far.rest place (omega arith);
}

pub AreListed-done : (edges : List (Option Edge)) (end : End) (listing : Listing) (places : ℕ) → length edges ≤ places → AreListedSoFar edges end listing places →
    AreListed (edges_of edges) end listing
AreListed-done edges end listing places all so_far = record {
  sound = so_far.sound;
  each = λ place edge is.
      elim (cases_lt place places) [
        | inl earlier ↦ so_far.each place earlier edge is
        | inr later ↦
            let none : edges_of edges place ≡ None = get_or_past edges place None (omega arith) in
            let never : None ≡ Some edge = sym none ∙ is in
            absurd (let no : ⊥ = cc in no)
      ];
}

-- one that is listed where it is to be stays
AreListed-stays : (place : ℕ) (edges : Edges) (end : End) (listing : Listing) (edge : Edge) → edges place ≡ Some edge → node_of listing place ≡ end_node end edge →
    AreListedBut place edges end listing → AreListed edges end listing
AreListed-stays place edges end listing edge there stands listed = record {
  sound = listed.sound;
  each = λ other another is.
      elim (cases_eq other place) [
        | inl same ↦
            let both : Some edge ≡ Some another = sym there ∙ ap edges (sym same) ∙ is in
            let one : edge ≡ another = cc in
            ap (λ p. node_of listing p) same ∙ stands ∙ ap (λ e. end_node end e) one
        | inr apart ↦ listed.others other apart another is
      ];
}

-- and one that is linked now
pub AreListed-linked : (place : ℕ) (edges : Edges) (end : End) (before after : Listing) (edge : Edge) → edges place ≡ Some edge → IsLinked before after place (end_node end edge) →
    IsListing after → AreListedBut place edges end before → AreListed edges end after
AreListed-linked place edges end before after edge there linked sound listed =
    AreListed-stays place edges end after edge there linked.here (record {
      sound = sound;
      others = λ other apart another is. linked.others other apart ∙ listed.others other apart another is;
    })

-- a net without an edge has nothing to list
IsListed-empty : (edges : List (Option Edge)) (end : End) (listing : Listing) → edges ≡ replicate PLACES None → IsUnlisted listing → AreListed (edges_of edges) end listing
IsListed-empty edges end listing no_edges unlisted = record {
  sound = unlisted.sound;
  each = λ place edge is.
      let none : get_or edges place None ≡ None = ap (λ es. get_or es place None) no_edges ∙ get_or-replicate_default PLACES place None in
      let never : None ≡ Some edge = sym none ∙ is in
      absurd (let no : ⊥ = cc in no);
}

pub IsKeptNet-empty : (edges : List (Option Edge)) (units : List ℕ) (leaving entering : Listing) → edges ≡ replicate PLACES None → units ≡ replicate PLACES 0 →
    IsUnlisted leaving → IsUnlisted entering → IsKeptNet (record { edges = edges; units = units; pushes = 0 }) (pos 0) leaving entering
IsKeptNet-empty edges units leaving entering no_edges no_units none_leave none_enter = record {
  sound = IsNet-empty edges units no_edges no_units;
  worth = sym (value_empty edges units no_units);
  leaving = IsListed-empty edges From leaving no_edges none_leave;
  entering = IsListed-empty edges To entering no_edges none_enter;
}

-- where an edge is set, all other places are listed as before
pub AreListedBut-set : (edges : List (Option Edge)) (place : ℕ) (edge : Option Edge) (end : End) (listing : Listing) → AreListed (edges_of edges) end listing →
    AreListedBut place (edges_of (set edges place edge)) end listing
AreListedBut-set edges place edge end listing listed = record {
  sound = listed.sound;
  others = λ other apart another is. listed.each other another (sym (get_or-set_other edges place other edge None apart) ∙ is);
}

pub AreNetEdges-set : (edges : List (Option Edge)) (place : ℕ) (edge : Option Edge) → length edges ≡ PLACES → ((p : ℕ) → IfSome (get_or edges p None) IsNetEdge) →
    place < PLACES → IfSome edge IsNetEdge → AreNetEdges (set edges place edge)
AreNetEdges-set edges place edge places each inside sound = record {
  places = length-set edges place edge ∙ places;
  each = λ p.
      let holds : Option Edge → Type 0 = λ e. IfSome e IsNetEdge in
      elim (cases_eq p place) [
        | inl same ↦
            let P : ℕ → Type 0 = λ q. IfSome (get_or (set edges place edge) q None) IsNetEdge in
            subst P (sym same) (subst holds (sym (get_or-set_same edges place edge None (omega arith))) sound)
        | inr other ↦ subst holds (sym (get_or-set_other edges place p edge None other)) (each p)
      ];
}
