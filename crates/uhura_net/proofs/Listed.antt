-- How lists of places change.
use Rattle.std.proofs.Common.{◌≡◌, ℕ, ◌+◌, ◌<◌, ◌≤◌, List, length, get_or, set, replicate, refl, sym, ap, subst, ◌∙◌, arith}
use Rattle.std.proofs.lemmas.List.{get_or_default, length-set, length-replicate, get_or-set_same, get_or-set_other}
use Rattle.uhura_plan.proofs.Slots.{get_or-replicate_default}
use Rattle.uhura_net.specs.declared.edge.TheConstants.{NODES}
use Rattle.uhura_net.specs.declared.place.TheConstants.{PLACES}
use Rattle.uhura_net.specs.Lists.{Listing, first_of, next_of, node_of, IsListing, IsLinked, IsUnlisted}
use Rattle.uhura_net.proofs.Linking.{IsPut, IsRanked-put}

-- a place in front at a node
abbrev put : Listing → ℕ → ℕ → Listing
put before place at = record {
  firsts = set before.firsts at place;
  nexts = set before.nexts place (first_of before at);
  nodes = set before.nodes place at;
  count = before.count + 1;
}

IsPut-put : (before : Listing) (place at : ℕ) → IsListing before → place < PLACES → at < NODES → node_of before place ≡ NODES → IsPut before (put before place at) place at
IsPut-put before place at sound inside there free = record {
  inside = inside;
  there = there;
  free = free;
  first_here = get_or-set_same before.firsts at place PLACES (omega (arith, sound.firsts));
  first_there = λ other apart. get_or-set_other before.firsts at other place PLACES apart;
  next_here = get_or-set_same before.nexts place (first_of before at) PLACES (omega (arith, sound.nexts));
  next_there = λ other apart. get_or-set_other before.nexts place other (first_of before at) PLACES apart;
  node_here = get_or-set_same before.nodes place at NODES (omega (arith, sound.nodes));
  node_there = λ other apart. get_or-set_other before.nodes place other at NODES apart;
  count = refl;
}

IsListing-put : (before : Listing) (place at : ℕ) → IsListing before → place < PLACES → at < NODES → node_of before place ≡ NODES → before.count < PLACES →
    IsListing (put before place at)
IsListing-put before place at sound inside there free room = record {
  firsts = length-set before.firsts at place ∙ sound.firsts;
  nexts = length-set before.nexts place (first_of before at) ∙ sound.nexts;
  nodes = length-set before.nodes place at ∙ sound.nodes;
  few = omega arith;
  ranked = IsRanked-put before (put before place at) place at (IsPut-put before place at sound inside there free) sound.ranked;
}

-- nothing is listed
pub IsUnlisted-none : (listing : Listing) → length listing.firsts ≡ NODES → length listing.nexts ≡ PLACES → length listing.nodes ≡ PLACES →
    ((node : ℕ) → first_of listing node ≡ PLACES) → ((place : ℕ) → next_of listing place ≤ PLACES) → ((place : ℕ) → node_of listing place ≡ NODES) →
    listing.count ≡ 0 → IsUnlisted listing
IsUnlisted-none listing firsts nexts nodes first next none count = record {
  sound = record {
    firsts = firsts;
    nexts = nexts;
    nodes = nodes;
    few = omega (arith, count);
    ranked = record {
      rank = λ p. 0;
      end = refl;
      some = λ p there. absurd (omega (arith, none p));
      most = λ p there. absurd (omega (arith, none p));
      first = λ node. omega (arith, first node);
      first_at = λ node there inside. absurd (omega (arith, first node));
      newest = λ p there. absurd (omega (arith, none p));
      next = next;
      next_at = λ p there inside. absurd (omega (arith, none p));
      falls = λ p there. absurd (omega (arith, none p));
      gapless = λ p q there together less. absurd (omega (arith, none p));
      one = λ p q there together same. absurd (omega (arith, none p));
    };
  };
  none = none;
  count = count;
}

-- what putting a place in front leaves
pub record IsPutIn (before after : Listing) (place at : ℕ) : Type 0 where
  pub sound : IsListing after
  pub linked : IsLinked before after place at

pub IsPutIn-written : (before listing : Listing) (place at first : ℕ) → listing ≡ before → IsListing listing → place < PLACES → at < NODES →
    node_of before place ≡ NODES → before.count < PLACES → first ≡ get_or listing.firsts at first →
    IsPutIn before (record { firsts = set listing.firsts at place; nexts = set listing.nexts place first; nodes = set listing.nodes place at; count = listing.count + 1 }) place at
IsPutIn-written before listing place at first same sound inside there free room read =
    let free' : node_of listing place ≡ NODES = ap (λ l. node_of l place) same ∙ free in
    let room' : listing.count < PLACES = omega (arith, ap (λ (l : Listing). l.count) same) in
    let first_is : first_of listing at ≡ first = get_or_default listing.firsts at PLACES first (omega (arith, sound.firsts)) ∙ sym read in
    let written : ℕ → Listing = λ n. record { firsts = set listing.firsts at place; nexts = set listing.nexts place n; nodes = set listing.nodes place at; count = listing.count + 1 } in
    let Sound : ℕ → Type 0 = λ n. IsListing (written n) in
    let Linked : Listing → Type 0 = λ l. IsLinked l (written first) place at in
    record {
      sound = subst Sound first_is (IsListing-put listing place at sound inside there free' room');
      linked = subst Linked same (record {
        here = get_or-set_same listing.nodes place at NODES (omega (arith, sound.nodes));
        others = λ other apart. get_or-set_other listing.nodes place other at NODES apart;
        count = refl;
      });
    }

-- lists that are new
pub IsUnlisted-new : (firsts nexts nodes : List ℕ) → firsts ≡ replicate NODES PLACES → nexts ≡ replicate PLACES PLACES → nodes ≡ replicate PLACES NODES →
    IsUnlisted (record { firsts = firsts; nexts = nexts; nodes = nodes; count = 0 })
IsUnlisted-new firsts nexts nodes no_first no_next no_node =
    IsUnlisted-none (record { firsts = firsts; nexts = nexts; nodes = nodes; count = 0 })
    (ap length no_first ∙ length-replicate {A = ℕ} NODES PLACES)
    (ap length no_next ∙ length-replicate {A = ℕ} PLACES PLACES)
    (ap length no_node ∙ length-replicate {A = ℕ} PLACES NODES)
    (λ node. ap (λ ns. get_or ns node PLACES) no_first ∙ get_or-replicate_default NODES node PLACES)
    (λ place. let none : get_or nexts place PLACES ≡ PLACES = ap (λ ns. get_or ns place PLACES) no_next ∙ get_or-replicate_default PLACES place PLACES in omega (arith, none))
    (λ place. ap (λ ns. get_or ns place NODES) no_node ∙ get_or-replicate_default PLACES place NODES)
    refl
