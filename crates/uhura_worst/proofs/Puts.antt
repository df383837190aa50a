-- Tables into which edges are put.
use Rattle.std.proofs.Common.{rules, ◌≡◌, ℕ, ◌<◌, Bool, true, false, true≢false, List, length, get_or, set, Option, None, refl, sym, ap, ◌∙◌, arith, get_or-set_same, get_or-set_other}
use Rattle.std.specs.Prelude.{if◌then◌else◌, nat_eq, ◌&&◌}
use Rattle.std.proofs.lemmas.Bool.Decides.{Decides-eqb}
use Rattle.uhura_plan.specs.declared.key.Side.{Side}
use Rattle.uhura_plan.specs.declared.key.Side.TheVariants.{Lower, Upper}
use Rattle.uhura_plan.specs.declared.key.Item.{Item}
use Rattle.uhura_plan.specs.declared.key.Item.TheVariants.{Requirement, Uncertain}
use Rattle.uhura_plan.specs.declared.key.SideKey.{SideKey}
use Rattle.uhura_plan.specs.declared.key.EdgeKey.{EdgeKey}
use Rattle.uhura_plan.specs.declared.key.EdgeKey.TheVariants.{Loose, Firm, Order, Steep}
use Rattle.uhura_plan.specs.Keys.{is_same_side, is_same_item, is_same_key}
use Rattle.uhura_net.specs.declared.place.TheConstants.{PLACES}
use Rattle.uhura_net.specs.declared.edge.Edge.{Edge}
use Rattle.uhura_net.specs.Place.{place_number, HasPlace}
use Rattle.uhura_worst.specs.Edges.{item_of}
use Rattle.uhura_worst.specs.Filled.{entry_at, is_same_edge, Puts, PutsItem}

-- different edges stand at different places
one_to_one : (a b : EdgeKey) → HasPlace a → HasPlace b → place_number a ≡ place_number b → a ≡ b
one_to_one a b placed other same = search rules

-- two keys that are tested to be one are one
same_side : (a b : Side) → is_same_side a b ≡ true → a ≡ b
same_side Lower Lower same = refl
same_side Upper Upper same = refl
same_side Lower Upper same = absurd (true≢false (sym same))
same_side Upper Lower same = absurd (true≢false (sym same))

same_item : (a b : Item) → is_same_item a b ≡ true → a ≡ b
same_item (Requirement a) (Requirement b) same = ap (λ (n : ℕ). Requirement n) ((Decides-eqb a b).0 same)
same_item (Uncertain a) (Uncertain b) same = ap (λ (n : ℕ). Uncertain n) ((Decides-eqb a b).0 same)
same_item (Requirement a) (Uncertain b) same = absurd (true≢false (sym same))
same_item (Uncertain a) (Requirement b) same = absurd (true≢false (sym same))

both : (p q : Bool) → (p && q) ≡ true → (p ≡ true) × (q ≡ true)
both true q same = (refl, same)
both false q same = absurd (true≢false (sym same))

same_key : (a b : SideKey) → is_same_key a b ≡ true → a ≡ b
same_key a b same =
    let parts : (is_same_item a.item b.item ≡ true) × (is_same_side a.side b.side ≡ true) = both (is_same_item a.item b.item) (is_same_side a.side b.side) same in
    let item : a.item ≡ b.item = same_item a.item b.item parts.0 in
    let side : a.side ≡ b.side = same_side a.side b.side parts.1 in
    let with_item : Item → SideKey = λ i. record { item = i; side = a.side } in
    let with_side : Side → SideKey = λ s. record { item = b.item; side = s } in
    ap with_item item ∙ ap with_side side

same_edge : (a b : EdgeKey) → is_same_edge a b ≡ true → a ≡ b
same_edge (Loose a) (Loose b) same = ap (λ (k : SideKey). Loose k) (same_key a b same)
same_edge (Firm a) (Firm b) same = ap (λ (k : SideKey). Firm k) (same_key a b same)
same_edge (Steep a) (Steep b) same = ap (λ (k : SideKey). Steep k) (same_key a b same)
same_edge (Order d) (Order e) same = ap (λ (n : ℕ). Order n) ((Decides-eqb d e).0 same)
same_edge a b same = absurd (true≢false (sym same))

-- and a key is tested to be itself
itself_side : (a : Side) → is_same_side a a ≡ true
itself_side Lower = refl
itself_side Upper = refl

itself_item : (a : Item) → is_same_item a a ≡ true
itself_item (Requirement a) = (Decides-eqb a a).1 refl
itself_item (Uncertain a) = (Decides-eqb a a).1 refl

pub itself_key : (a : SideKey) → is_same_key a a ≡ true
itself_key a = rw (itself_item a.item, itself_side a.side) refl

itself_edge : (a : EdgeKey) → is_same_edge a a ≡ true
itself_edge (Loose a) = itself_key a
itself_edge (Firm a) = itself_key a
itself_edge (Steep a) = itself_key a
itself_edge (Order d) = (Decides-eqb d d).1 refl

-- a write puts an edge
pub Puts-set : (key : EdgeKey) (edge : Option Edge) (old new : List (Option Edge)) → length old ≡ PLACES → place_number key < PLACES → HasPlace key → new ≡ set old (place_number key) edge → Puts key edge old new
Puts-set key edge old new places below placed is other other_placed = by (is_same_edge key other) refl
  where
    by : (b : Bool) → is_same_edge key other ≡ b → entry_at new other ≡ (if b then edge else entry_at old other)
    by true same =
        ap (λ (table : List (Option Edge)). get_or table (place_number other) None) is
        ∙ ap (λ (k : EdgeKey). get_or (set old (place_number key) edge) (place_number k) None) (sym (same_edge key other same))
        ∙ get_or-set_same old (place_number key) edge None (omega (arith, places, below))
    by false differs =
        ap (λ (table : List (Option Edge)). get_or table (place_number other) None) is
        ∙ get_or-set_other old (place_number key) (place_number other) edge None
        (λ same. true≢false (sym (itself_edge key) ∙ ap (λ (k : EdgeKey). is_same_edge key k) (one_to_one key other placed other_placed (sym same)) ∙ differs))

-- what a key has where the edges of its kind were put for the lower and then for the upper side of an item
abbrev pub side_of : Item → Side → SideKey
side_of item side = record { item = item; side = side }

kind-put : (item : Item) (edges : SideKey → Option Edge) (key : SideKey) (h h0 h1 h2 h3 : Option Edge) →
    h0 ≡ h → h1 ≡ (if is_same_key (side_of item Lower) key then edges (side_of item Lower) else h0) →
    h2 ≡ h1 → h3 ≡ (if is_same_key (side_of item Upper) key then edges (side_of item Upper) else h2) →
    h3 ≡ (if is_same_item item key.item then edges key else h)
kind-put item edges key h h0 h1 h2 h3 before low between up = by (is_same_item item key.item) refl key.side refl low up
  where
    own : (side : Side) → is_same_item item key.item ≡ true → key.side ≡ side → edges (side_of item side) ≡ edges key
    own side same is = ap edges (same_key (side_of item side) key (rw (same, is, itself_side side) refl))

    by : (b : Bool) → is_same_item item key.item ≡ b → (side : Side) → key.side ≡ side →
        h1 ≡ (if b && is_same_side Lower side then edges (side_of item Lower) else h0) →
        h3 ≡ (if b && is_same_side Upper side then edges (side_of item Upper) else h2) → h3 ≡ (if b then edges key else h)
    by true same Lower is low up = let there : edges (side_of item Lower) ≡ edges key = own Lower same is in cc
    by true same Upper is low up = let there : edges (side_of item Upper) ≡ edges key = own Upper same is in cc
    by false other side is low up = cc

-- the two sides of a duration
abbrev pub lower : ℕ → SideKey
lower d = side_of (Uncertain d) Lower

abbrev pub upper : ℕ → SideKey
upper d = side_of (Uncertain d) Upper

-- so the edges of a duration, put one after the other
pub PutsItem-duration : (d : ℕ) (edges : EdgeKey → Option Edge) (t0 t1 t2 t3 t4 t5 t6 t7 : List (Option Edge)) →
    Puts (Loose (lower d)) (edges (Loose (lower d))) t0 t1 → Puts (Firm (lower d)) (edges (Firm (lower d))) t1 t2 → Puts (Steep (lower d)) (edges (Steep (lower d))) t2 t3 →
    Puts (Loose (upper d)) (edges (Loose (upper d))) t3 t4 → Puts (Firm (upper d)) (edges (Firm (upper d))) t4 t5 → Puts (Steep (upper d)) (edges (Steep (upper d))) t5 t6 →
    Puts (Order d) (edges (Order d)) t6 t7 → PutsItem (Uncertain d) edges t0 t7
PutsItem-duration d edges t0 t1 t2 t3 t4 t5 t6 t7 p1 p2 p3 p4 p5 p6 p7 key placed = by key placed
  where
    by : (key : EdgeKey) → HasPlace key → entry_at t7 key ≡ (if is_same_item (Uncertain d) (item_of key) then edges key else entry_at t0 key)
    by (Loose k) placed =
        p7 (Loose k) placed ∙ p6 (Loose k) placed ∙ p5 (Loose k) placed
        ∙ kind-put (Uncertain d) (λ s. edges (Loose s)) k (entry_at t0 (Loose k)) _ _ _ _ refl (p1 (Loose k) placed) (p3 (Loose k) placed ∙ p2 (Loose k) placed) (p4 (Loose k) placed)
    by (Firm k) placed =
        p7 (Firm k) placed ∙ p6 (Firm k) placed
        ∙ kind-put (Uncertain d) (λ s. edges (Firm s)) k (entry_at t0 (Firm k)) _ _ _ _ (p1 (Firm k) placed) (p2 (Firm k) placed) (p4 (Firm k) placed ∙ p3 (Firm k) placed) (p5 (Firm k) placed)
    by (Steep k) placed =
        p7 (Steep k) placed
        ∙ kind-put (Uncertain d) (λ s. edges (Steep s)) k (entry_at t0 (Steep k)) _ _ _ _ (p2 (Steep k) placed ∙ p1 (Steep k) placed) (p3 (Steep k) placed) (p5 (Steep k) placed ∙ p4 (Steep k) placed) (p6 (Steep k) placed)
    by (Order e) placed =
        p7 (Order e) placed
        ∙ order (nat_eq d e) refl (p6 (Order e) placed ∙ p5 (Order e) placed ∙ p4 (Order e) placed ∙ p3 (Order e) placed ∙ p2 (Order e) placed ∙ p1 (Order e) placed)
      where
        order : (b : Bool) → nat_eq d e ≡ b → entry_at t6 (Order e) ≡ entry_at t0 (Order e) → (if b then edges (Order d) else entry_at t6 (Order e)) ≡ (if b then edges (Order e) else entry_at t0 (Order e))
        order true same rest = ap (λ n. edges (Order n)) ((Decides-eqb d e).0 same)
        order false differs rest = rest
