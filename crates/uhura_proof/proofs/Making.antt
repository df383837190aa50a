-- Leaves that are made one by one, with their entries.
use Rattle.std.proofs.Common.{◌≡◌, ◌≢◌, ℕ, zero, suc, ◌+◌, ◌<◌, ◌≤◌, Bool, true, false, List, [], ◌∷◌, ◌++◌, map, length, get_or, cond, Option, Some, Contains, refl, sym, ap, subst, ◌∙◌, inl, inr, arith}
use Rattle.std.specs.Prelude.{All, AllPairs, slice_get}
use Rattle.std.specs.List.{AllZip, position_or_len}
use Rattle.std.specs.Option.{option_map_or}
use Rattle.std.proofs.lemmas.Bool.{cases_lt, ne_eqb, eq-eqb}
use Rattle.std.proofs.lemmas.List.{map-append, length-append}
use Rattle.std.proofs.lemmas.List.Elements.{All-nil, All-head, All-tail, All-push, All-weaker}
use Rattle.std.proofs.lemmas.List.Folds.{position_or_len_push, list_any_none}
use Rattle.std.proofs.lemmas.List.Quantifiers.{all_pairs_push}
use Rattle.std.proofs.lemmas.List.Sorted.{IsPermutation-refl}
use Rattle.std.proofs.lemmas.Option.{slice_get_within}
use Rattle.uhura_plan.specs.declared.choice.Choice.{Choice}
use Rattle.uhura_plan.specs.Sound.{IsSound}
use Rattle.uhura_plan.proofs.Literals.{position_or_len_none}
use Rattle.uhura_choice.specs.declared.prefix.Pick.{Pick}
use Rattle.uhura_choice.specs.declared.prefix.Pick.TheVariants.{Alternative, Inactive}
use Rattle.uhura_choice.specs.Branch.{IsEntry, Follows, IsPrefix}
use Rattle.uhura_veto.specs.State.{State}
use Rattle.uhura_conflict.specs.Learned.{Learned}
use Rattle.uhura_search.specs.declared.leaf.LeafReason as found
use Rattle.uhura_search.specs.declared.leaf.LeafReason.TheVariants.{Empty, Learned as LearnedOf}
use Rattle.uhura_search.specs.Answer.{shown_reason}
use Rattle.uhura_shows.specs.Leaf as shows
use Rattle.uhura_shows.specs.Leaf.{LeafReason, LeafShown}
use Rattle.uhura_cert.specs.declared.document.Shared.{Shared}
use Rattle.uhura_cert.specs.declared.document.Shared.TheVariants.{Flow}
use Rattle.uhura_cert.specs.declared.document.Reason.{Reason}
use Rattle.uhura_cert.specs.declared.document.Reason.TheVariants as reason
use Rattle.uhura_cert.specs.declared.document.Leaf.{Leaf}
use Rattle.uhura_cert.specs.Document.{IsShared, IsLeaf, MayStand, IsPickOf, ArePicks}
use Rattle.uhura_cert.specs.Order.{place_in}
use Rattle.uhura_cert.proofs.Ordered.{slice_get-last, slice_get-kept}
use Rattle.uhura_check.specs.Confirmed.{entry_reason, reason_of, leaf_of}
use Rattle.uhura_proof.specs.Entries.{place_by, ArePlaces, HasUnitsInOrder, IsEntryFor, IsPut}
use Rattle.uhura_proof.specs.Made.{IsSameReason, IsSameLeaf, IsThere, AreOfPlan, AreMade}
use Rattle.uhura_proof.specs.Proof.{is_use_of, first_use}
use Rattle.uhura_proof.specs.Using.{IsUseOf, AreEntriesFor, IsReasonMade, IsLeafMade}
use Rattle.uhura_proof.proofs.Fits.{entry_fits}

-- ---- reasons

-- an entry that was put stands at its place
put_at : (old new : List Shared) (entry : Shared) (place : ℕ) → IsPut old entry place new → slice_get new place ≡ Some entry
put_at old new entry place put = elim put [
  | inl there ↦ ap (λ (es : List Shared). slice_get es place) there.same ∙ there.at
  | inr added ↦ (λ i. slice_get (added.more i) (added.last i)) ∙ slice_get-last old entry
]

module _ (state : State) (places : List ℕ) (sound : IsSound state.plan) (are : ArePlaces state.plan places) (old new : List Shared) where
  -- the use of an entry that shows a reason
  made_use : (shown : LeafReason) (entry : Shared) (why : Reason) → IsThere state shown → IsSameReason shown (entry_reason entry) → HasUnitsInOrder (place_by places) entry → IsUseOf old entry new why →
      IsReasonMade state shown old new why
  made_use shown entry (reason.Denied veto) there same in_order uses = absurd uses
  made_use shown entry (reason.Flow edges) there same in_order uses = absurd uses
  made_use shown entry (reason.Stuck edges) there same in_order uses = absurd uses
  made_use shown entry (reason.Entry place) there same in_order uses = record {
    same = subst (λ (o : Option Shared). IsSameReason shown (option_map_or entry_reason o (shows.Stuck []))) (sym (put_at old new entry place uses.put)) same;
    fits = uses.small;
    entries = (entry, uses.put);
    of_plan = λ before. elim uses.put [
      | inl there_already ↦ subst (AreOfPlan state) (sym there_already.same) before
      | inr added ↦
          subst (AreOfPlan state) (sym added.more)
          (All-push (IsShared (place_in state.plan) state.plan) old entry before (entry_fits state places sound are shown entry there same in_order))
    ];
  }

  pub made_empty : (of : found.LeafReason) (edges : List _) (why : Reason) → of ≡ Empty → edges ≡ [] → IsThere state (shown_reason state of) → IsUseOf old (Flow edges) new why → IsReasonMade state (shown_reason state of) old new why
  made_empty of edges why is none there uses =
      made_use (shown_reason state of) (Flow edges) why there
      (subst (λ (o : found.LeafReason). IsSameReason (shown_reason state o) (shows.Flow edges)) (sym is) (subst (λ es. IsSameReason (shows.Flow []) (shows.Flow es)) (sym none) (IsPermutation-refl [])))
      (subst (λ es. HasUnitsInOrder (place_by places) (Flow es)) (sym none) (All-nil (λ e. 1 ≤ e.1), λ i j d before below. absurd (omega (arith, below))))
      uses

  pub made_learned : (of : found.LeafReason) (conflict : Learned) (entry : Shared) (why : Reason) → of ≡ LearnedOf conflict → IsEntryFor (place_by places) conflict entry → IsThere state (shown_reason state of) →
      IsUseOf old entry new why → IsReasonMade state (shown_reason state of) old new why
  made_learned of conflict entry why is made there uses =
      made_use (shown_reason state of) entry why there
      (subst (λ (o : found.LeafReason). IsSameReason (shown_reason state o) (entry_reason entry)) (sym is) made.same) made.in_order uses

-- ---- prefixes

pick_of_entry : (c : Choice) (before : List Pick) (pick : Pick) → IsEntry c before pick → IsPickOf c pick
pick_of_entry c before (Alternative a) is = is.1
pick_of_entry c before Inactive is = tt

picks_follow : (choices : List Choice) (before picks rest : List Pick) → Follows choices before (picks ++ rest) → ArePicks choices picks
picks_follow choices before [] rest follow = tt
picks_follow [] before (pick ∷ picks) rest follow = absurd follow
picks_follow (c ∷ choices) before (pick ∷ picks) rest follow = (pick_of_entry c before pick follow.0, picks_follow choices (before ++ pick ∷ []) picks rest follow.1)

pub prefix_picks : (choices : List Choice) (picks : List Pick) → IsPrefix choices picks → ArePicks choices picks
prefix_picks choices picks is = picks_follow choices [] picks is.0 is.1

-- ---- leaves

zip_more : {A B : Type 0} (R : A → B → Type 0) (xs : List A) (ys : List B) (x : A) (y : B) → AllZip R xs ys → R x y → AllZip R (xs ++ x ∷ []) (ys ++ y ∷ [])
zip_more R [] [] x y same own = (own, tt)
zip_more R [] (b ∷ ys) x y same own = absurd same
zip_more R (a ∷ xs) [] x y same own = absurd same
zip_more R (a ∷ xs) (b ∷ ys) x y same own = (same.0, zip_more R xs ys x y same.1 own)

-- what is shown with entries is shown with one more
reason_kept : (entries : List Shared) (entry : Shared) (why : Reason) → MayStand 2 (length entries) why → reason_of (entries ++ entry ∷ []) why ≡ reason_of entries why
reason_kept entries entry (reason.Denied veto) stands = refl
reason_kept entries entry (reason.Flow edges) stands = refl
reason_kept entries entry (reason.Stuck edges) stands = refl
reason_kept entries entry (reason.Entry place) stands = ap (λ (o : Option Shared). option_map_or entry_reason o (shows.Stuck [])) (slice_get-kept entries entry place stands.1)

leaves_kept : (entries : List Shared) (entry : Shared) (leaves : List Leaf) → All (λ leaf. MayStand 2 (length entries) leaf.reason) leaves → map (leaf_of (entries ++ entry ∷ [])) leaves ≡ map (leaf_of entries) leaves
leaves_kept entries entry [] stand = refl
leaves_kept entries entry (leaf ∷ leaves) stand =
    let P : Leaf → Type 0 = λ leaf. MayStand 2 (length entries) leaf.reason in
    let here = reason_kept entries entry leaf.reason (All-head P leaf leaves stand) in
    let rest = leaves_kept entries entry leaves (All-tail P leaf leaves stand) in
    λ i. record { prefix = leaf.prefix; reason = here i } ∷ rest i

stands_more : (entries more : ℕ) (why : Reason) → entries ≤ more → MayStand 2 entries why → MayStand 2 more why
stands_more entries more (reason.Denied veto) le stands = tt
stands_more entries more (reason.Flow edges) le stands = stands
stands_more entries more (reason.Stuck edges) le stands = stands
stands_more entries more (reason.Entry place) le stands = (stands.0, omega (arith, le, stands.1))

unused : (entry : ℕ) (why : Reason) → MayStand 2 entry why → is_use_of entry why ≡ false
unused entry (reason.Denied veto) stands = refl
unused entry (reason.Flow edges) stands = refl
unused entry (reason.Stuck edges) stands = refl
unused entry (reason.Entry place) stands = ne_eqb place entry (λ same. omega (arith, same, stands.1))

-- the first use of an entry stays where one leaf more follows, and a new one is used there first
first_kept : (leaves : List Leaf) (leaf : Leaf) (entry : ℕ) → first_use leaves entry < length leaves → first_use (leaves ++ leaf ∷ []) entry ≡ first_use leaves entry
first_kept leaves leaf entry used =
    let test : Leaf → Bool = λ l. is_use_of entry l.reason in
    position_or_len_push test leaves leaf
    ∙ ap (λ b. cond b (length leaves + cond (test leaf) 0 1) (position_or_len test leaves)) (ne_eqb (position_or_len test leaves) (length leaves) (λ same. omega (arith, same, used)))

first_new : (leaves : List Leaf) (leaf : Leaf) (entry : ℕ) → All (λ leaf. MayStand 2 entry leaf.reason) leaves → leaf.reason ≡ reason.Entry entry → first_use (leaves ++ leaf ∷ []) entry ≡ length leaves
first_new leaves leaf entry stand is =
    let test : Leaf → Bool = λ l. is_use_of entry l.reason in
    let end : position_or_len test leaves ≡ length leaves =
    position_or_len_none test leaves (list_any_none test leaves (All-weaker (λ (l : Leaf). MayStand 2 entry l.reason) (λ (l : Leaf). test l ≡ false) (λ l. unused entry l.reason) leaves stand)) in
    let uses : test leaf ≡ true = ap (is_use_of entry) is ∙ eq-eqb entry entry refl in
    position_or_len_push test leaves leaf
    ∙ ap (λ b. cond b (length leaves + cond (test leaf) 0 1) (position_or_len test leaves)) (eq-eqb (position_or_len test leaves) (length leaves) end)
    ∙ ap (λ b. length leaves + cond b 0 1) uses ∙ omega arith

one_more : {X : Type 0} (xs : List X) (x : X) → length (xs ++ x ∷ []) ≡ length xs + 1
one_more xs x = length-append xs (x ∷ [])

module _ (state : State) (shown : List LeafShown) (own : LeafShown) (old : List Shared) (leaves : List Leaf) (leaf : Leaf) (made : AreMade state shown old leaves) where
  stand : All (λ leaf. MayStand 2 (length old) leaf.reason) leaves
  stand k d below = (made.fits k d below).stands

  -- a leaf that uses what is there
  made_same : (new : List Shared) → new ≡ old → IsLeafMade state own old new leaf → MayStand 2 (length old) leaf.reason → AreMade state (shown ++ own ∷ []) new (leaves ++ leaf ∷ [])
  made_same new same is stands = subst (λ (entries : List Shared). AreMade state (shown ++ own ∷ []) entries (leaves ++ leaf ∷ [])) (sym same) (record {
    same =
        subst (λ ls. AllZip IsSameLeaf (shown ++ own ∷ []) ls) (sym (map-append (leaf_of old) leaves (leaf ∷ [])))
        (zip_more IsSameLeaf shown (map (leaf_of old) leaves) own (leaf_of old leaf) made.same
        (record { prefix = is.same; reason = subst (λ (entries : List Shared). IsSameReason own.reason (reason_of entries leaf.reason)) same is.reason.same }));
    fits = All-push (IsLeaf (place_in state.plan) 2 state (length old)) leaves leaf made.fits (record { prefix = is.picks; reason = is.reason.fits; stands = stands });
    of_plan = made.of_plan;
    used = record {
      distinct = made.used.distinct;
      used = λ entry below. omega (arith, made.used.used entry below, first_kept leaves leaf entry (made.used.used entry below), one_more leaves leaf);
      in_order = λ one other before below.
          let first = first_kept leaves leaf one (made.used.used one (omega (arith, before, below))) in
          let second = first_kept leaves leaf other (made.used.used other below) in
          omega (arith, first, second, made.used.in_order one other before below);
    };
  })

  -- a leaf that uses one entry more
  made_added : (new : List Shared) (entry : Shared) → new ≡ old ++ entry ∷ [] → (Contains old entry → ⊥) → leaf.reason ≡ reason.Entry (length old) → IsLeafMade state own old new leaf →
      AreMade state (shown ++ own ∷ []) new (leaves ++ leaf ∷ [])
  made_added new entry more first uses is =
      let longer : length new ≡ length old + 1 = ap length more ∙ one_more old entry in
      record {
        same =
            subst (λ ls. AllZip IsSameLeaf (shown ++ own ∷ []) ls) (sym (map-append (leaf_of new) leaves (leaf ∷ [])))
            (zip_more IsSameLeaf shown (map (leaf_of new) leaves) own (leaf_of new leaf)
            (subst (λ ls. AllZip IsSameLeaf shown ls) (sym (ap (λ (entries : List Shared). map (leaf_of entries) leaves) more ∙ leaves_kept old entry leaves stand)) made.same)
            (record { prefix = is.same; reason = is.reason.same }));
        fits =
            All-push (IsLeaf (place_in state.plan) 2 state (length new)) leaves leaf
            (All-weaker (IsLeaf (place_in state.plan) 2 state (length old)) (IsLeaf (place_in state.plan) 2 state (length new))
            (λ l fits. record { prefix = fits.prefix; reason = fits.reason; stands = stands_more (length old) (length new) l.reason (omega (arith, longer)) fits.stands }) leaves made.fits)
            (record { prefix = is.picks; reason = is.reason.fits; stands = subst (MayStand 2 (length new)) (sym uses) (refl, omega (arith, longer)) });
        of_plan = is.reason.of_plan made.of_plan;
        used = record {
          distinct =
              subst (AllPairs ◌≢◌) (sym more)
              (all_pairs_push ◌≢◌ old entry made.used.distinct (λ k d below equal. first (k, below, get_or_any old k entry d below ∙ equal)));
          used = λ e below. elim (cases_lt e (length old)) [
            | inl less ↦ omega (arith, made.used.used e less, first_kept leaves leaf e (made.used.used e less), one_more leaves leaf)
            | inr last ↦ omega (arith, place e below last, one_more leaves leaf)
          ];
          in_order = λ one other before below.
              let less : one < length old = omega (arith, before, below, longer) in
              let first_one = first_kept leaves leaf one (made.used.used one less) in
              elim (cases_lt other (length old)) [
                | inl within ↦ omega (arith, first_one, first_kept leaves leaf other (made.used.used other within), made.used.in_order one other before within)
                | inr last ↦ omega (arith, first_one, made.used.used one less, place other below last)
              ];
        };
      }
    where
      get_or_any : (xs : List Shared) (k : ℕ) (c d : Shared) → k < length xs → get_or xs k c ≡ get_or xs k d
      get_or_any [] k c d below = absurd (omega (arith, below))
      get_or_any (x ∷ xs) zero c d below = refl
      get_or_any (x ∷ xs) (suc k) c d below = get_or_any xs k c d (omega (arith, below))

      place : (e : ℕ) → e < length new → length old ≤ e → first_use (leaves ++ leaf ∷ []) e ≡ length leaves
      place e below last =
          let is_last : length old ≡ e = omega (arith, below, last, ap length more, one_more old entry) in
          subst (λ n. first_use (leaves ++ leaf ∷ []) n ≡ length leaves) is_last (first_new leaves leaf (length old) stand uses)

  by_reason : (new : List Shared) (why : Reason) → leaf.reason ≡ why → AreEntriesFor old new why → IsLeafMade state own old new leaf → AreMade state (shown ++ own ∷ []) new (leaves ++ leaf ∷ [])
  by_reason new (reason.Denied veto) why same is = made_same new same is (subst (MayStand 2 (length old)) (sym why) tt)
  by_reason new (reason.Flow edges) why none is = absurd none
  by_reason new (reason.Stuck edges) why none is = absurd none
  by_reason new (reason.Entry place) why put is = elim put.1 [
    | inl there ↦ made_same new there.same is (subst (MayStand 2 (length old)) (sym why) (refl, slice_get_within old place put.0 there.at))
    | inr added ↦ made_added new put.0 added.more added.first (why ∙ ap (λ n. reason.Entry n) added.last) is
  ]

  pub made_more : (new : List Shared) → IsLeafMade state own old new leaf → AreMade state (shown ++ own ∷ []) new (leaves ++ leaf ∷ [])
  made_more new is = by_reason new leaf.reason refl is.reason.entries is

-- at first there are none
pub made_none : (state : State) → AreMade state [] [] []
made_none state = record {
  same = tt;
  fits = All-nil (IsLeaf (place_in state.plan) 2 state 0);
  of_plan = All-nil (IsShared (place_in state.plan) state.plan);
  used = record {
    distinct = λ i j d before below. absurd (omega (arith, below));
    used = λ entry below. absurd (omega (arith, below));
    in_order = λ one other before below. absurd (omega (arith, below));
  };
}
