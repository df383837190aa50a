-- Leaves that are put behind others: what they cover together.
use Rattle.std.proofs.Common.{◌≡◌, ℕ, ◌<◌, ◌+◌, ◌-◌, List, [], ◌∷◌, ◌++◌, length, get_or, take, sym, ap, ◌∙◌, subst, refl, Some, arith, append_assoc, append-nil, length-append}
use Rattle.std.specs.Prelude.{All, AllPairs, slice_get}
use Rattle.std.proofs.lemmas.List.{map-append, get_or-take, take_more, length-take}
use Rattle.std.proofs.lemmas.List.Elements.{All-nil, All-cons, All-append}
use Rattle.std.proofs.lemmas.Option.{get_or_from_slice_get, slice_get_within}
use Rattle.uhura_plan.specs.declared.choice.Choice.{Choice}
use Rattle.uhura_choice.specs.declared.prefix.Pick.{Pick}
use Rattle.uhura_choice.specs.Branch.{IsBranch, IsPrefix, IsEarlier}
use Rattle.uhura_choice.specs.Order.{IsFrontOf}
use Rattle.uhura_choice.specs.Children.{children, IsOneLonger}
use Rattle.uhura_choice.proofs.Prefixes.{HaveAlternatives, prefix-few}
use Rattle.uhura_choice.proofs.Extensions.{are-children}
use Rattle.uhura_worst.proofs.SoundItems.{Contains-at}
use Rattle.uhura_shows.specs.Cover.{Covers}
use Rattle.uhura_shows.proofs.Covering.{covers-nothing, covers-itself, covers-push, covers-up}
use Rattle.uhura_search.specs.declared.leaf.LeafNote.{LeafNote}
use Rattle.uhura_search.specs.Closed.{Prefixes, HasFront, AreAllShut, NoneAbove}
use Rattle.uhura_search.specs.Appended.{prefixes_of, AppendsCover}

-- no leaf covers no top
pub appends-nothing : (cs : List Choice) (Holds : LeafNote → Type 0) (old : List LeafNote) → AppendsCover cs Holds [] old old
appends-nothing cs Holds old = record { more = []; shape = sym (append-nil old); covers = covers-nothing cs; each = All-nil Holds }

-- one leaf covers its prefix
pub appends-one : (cs : List Choice) (Holds : LeafNote → Type 0) (note : LeafNote) (old new : List LeafNote) → new ≡ old ++ note ∷ [] → IsPrefix cs note.prefix → Holds note →
    AppendsCover cs Holds (note.prefix ∷ []) old new
appends-one cs Holds note old new shape is holds =
    record { more = note ∷ []; shape = shape; covers = covers-itself cs note.prefix is; each = All-cons Holds note [] holds (All-nil Holds) }

-- those of a later top behind those of others
pub appends-more : (cs : List Choice) (Holds : LeafNote → Type 0) (tops : List (List Pick)) (top : List Pick) (old mid new : List LeafNote) → AppendsCover cs Holds tops old mid →
    AppendsCover cs Holds (top ∷ []) mid new → All (λ other. IsEarlier other top) tops → AppendsCover cs Holds (tops ++ top ∷ []) old new
appends-more cs Holds tops top old mid new one two before = record {
  more = one.more ++ two.more;
  shape = two.shape ∙ (ap (λ (l : List LeafNote). l ++ two.more) one.shape ∙ append_assoc old one.more two.more);
  covers = subst (λ l. Covers cs (tops ++ top ∷ []) l) (sym (map-append (λ (leaf : LeafNote). leaf.prefix) one.more two.more))
      (covers-push cs tops top (prefixes_of one.more) (prefixes_of two.more) one.covers two.covers before);
  each = All-append Holds one.more two.more one.each two.each;
}

-- what comes before one of some in order is earlier
pub before-place : {X : Type 0} (R : X → X → Type 0) (xs : List X) (i : ℕ) (x : X) → AllPairs R xs → slice_get xs i ≡ Some x → All (λ y. R y x) (take i xs)
before-place R xs i x pairs there k d below =
    let inside : i < length xs = slice_get_within xs i x there in
    let less : k < i = omega (arith, length-take i xs) in
    subst (λ y. R y x) (sym (get_or-take i xs k d less)) (subst (λ y. R (get_or xs k d) y) (get_or_from_slice_get xs i x d there) (pairs k i d less inside))

pub taken-more : {X : Type 0} (xs : List X) (i : ℕ) (x : X) → slice_get xs i ≡ Some x → take (i + 1) xs ≡ take i xs ++ x ∷ []
taken-more xs i x there = take_more xs i x (slice_get_within xs i x there) ∙ ap (λ y. take i xs ++ y ∷ []) (get_or_from_slice_get xs i x x there)

-- the next child's leaves behind those of the children before it
pub appends-child : (cs : List Choice) (Holds : LeafNote → Type 0) (prefix child : List Pick) (index : ℕ) (old mid new : List LeafNote) → HaveAlternatives cs → IsPrefix cs prefix →
    slice_get (children cs prefix) index ≡ Some child → AppendsCover cs Holds (take index (children cs prefix)) old mid → AppendsCover cs Holds (child ∷ []) mid new →
    AppendsCover cs Holds (take (index + 1) (children cs prefix)) old new
appends-child cs Holds prefix child index old mid new have is there one two =
    subst (λ tops. AppendsCover cs Holds tops old new) (sym (taken-more (children cs prefix) index child there))
    (appends-more cs Holds (take index (children cs prefix)) child old mid new one two
    (before-place IsEarlier (children cs prefix) index child (are-children cs prefix have is).order there))

-- a prefix that isn't shut, and above which none is, is no branch where all are shut
pub longer-where_not_shut : (cs : List Choice) (Shut : Prefixes) (prefix : List Pick) → NoneAbove Shut prefix → AreAllShut cs Shut → (Shut prefix → ⊥) → IsBranch cs prefix → ⊥
longer-where_not_shut cs Shut prefix above closed not_shut is_branch =
    let front : HasFront Shut prefix = closed prefix is_branch in
    not_shut (subst Shut (above front.prefix front.begins front.shut) front.shut)

-- what covers its children covers it
pub appends-up : (cs : List Choice) (Shut : Prefixes) (Holds : LeafNote → Type 0) (prefix : List Pick) (old new : List LeafNote) → HaveAlternatives cs → IsPrefix cs prefix →
    NoneAbove Shut prefix → AreAllShut cs Shut → (Shut prefix → ⊥) → AppendsCover cs Holds (children cs prefix) old new → AppendsCover cs Holds (prefix ∷ []) old new
appends-up cs Shut Holds prefix old new have is above closed not_shut all = record {
  more = all.more;
  shape = all.shape;
  covers = covers-up cs prefix (prefixes_of all.more) have is (longer-where_not_shut cs Shut prefix above closed not_shut) all.covers;
  each = all.each;
}

-- what begins a list by fewer than all begins it without its last
shorter : (front prefix : List Pick) (x y : Pick) (ys : List Pick) → prefix ++ x ∷ [] ≡ front ++ y ∷ ys → IsFrontOf front prefix
shorter [] prefix x y ys same = (prefix, refl)
shorter (f ∷ front) [] x y ys same =
    let long : length (x ∷ []) ≡ length (f ∷ (front ++ y ∷ ys)) = ap length same in
    absurd (omega (arith, long, length-append front (y ∷ ys)))
shorter (f ∷ front) (p ∷ prefix) x y ys same =
    let tails : prefix ++ x ∷ [] ≡ front ++ y ∷ ys = cc in
    let rest = shorter front prefix x y ys tails in
    let head : p ≡ f = cc in
    let shape : prefix ≡ front ++ rest.0 = rest.1 in
    (rest.0, cc)

-- none above a child is shut, where none above its prefix is, nor the prefix
pub none-above_child : (Shut : Prefixes) (prefix child : List Pick) → NoneAbove Shut prefix → (Shut prefix → ⊥) → IsOneLonger prefix child → NoneAbove Shut child
none-above_child Shut prefix child above not_shut longer front begins shut = by_rest begins.0 begins.1
  where
    by_rest : (rest : List Pick) → child ≡ front ++ rest → front ≡ child
    by_rest [] is = sym (is ∙ append-nil front)
    by_rest (y ∷ ys) is = absurd (not_shut (subst Shut (above front (shorter front prefix longer.0 y ys (sym longer.1 ∙ is)) shut) shut))

-- a child is a prefix, and one longer
pub child-longer : (cs : List Choice) (prefix child : List Pick) (index : ℕ) → HaveAlternatives cs → IsPrefix cs prefix → slice_get (children cs prefix) index ≡ Some child → IsOneLonger prefix child
child-longer cs prefix child index have is there = ((are-children cs prefix have is).only child (Contains-at (children cs prefix) index child there)).1

pub child-prefix : (cs : List Choice) (prefix child : List Pick) (index : ℕ) → HaveAlternatives cs → IsPrefix cs prefix → slice_get (children cs prefix) index ≡ Some child → IsPrefix cs child
child-prefix cs prefix child index have is there = ((are-children cs prefix have is).only child (Contains-at (children cs prefix) index child there)).0

-- a child has fewer choices left
pub child-smaller : (cs : List Choice) (prefix child : List Pick) (index : ℕ) → HaveAlternatives cs → IsPrefix cs prefix → slice_get (children cs prefix) index ≡ Some child →
    (length cs - length child) < (length cs - length prefix)
child-smaller cs prefix child index have is there =
    let longer = child-longer cs prefix child index have is there in
    let long : length child ≡ length prefix + 1 = ap length longer.1 ∙ length-append prefix (longer.0 ∷ []) in
    let few = prefix-few cs child (child-prefix cs prefix child index have is there) in
    omega (arith, long, few)

-- nothing begins the empty prefix but itself
pub none-above_empty : (Shut : Prefixes) → NoneAbove Shut []
none-above_empty Shut [] begins shut = refl
none-above_empty Shut (x ∷ front) (rest, is) shut = absurd (let never : ⊥ = cc in never)
