-- The children of a prefix: where they stand in their list, and that they are the prefixes one entry longer.
use Rattle.std.proofs.Common.{◌≡◌, ℕ, ◌<◌, ◌≤◌, List, [], ◌∷◌, ◌++◌, ap, sym, subst, refl, ◌∙◌, arith, suc, zero, length, Some, None, Option, Bool, true, false, append_assoc, append-nil, inl, inr, get_or, map, cond}
use Rattle.std.proofs.lemmas.Option.{none-some, slice_get_within, slice_get-get_or, slice_get_cases}
use Rattle.std.proofs.lemmas.Bool.{cases_Bool, cond-true, cond-false, both_ways}
use Rattle.std.proofs.lemmas.List.{length-map, get_or-map, length_push, append_cancel_left}
use Rattle.std.proofs.lemmas.List.FromFn.{length-map-range_with_len, get_or-map-range_with_len}
use Rattle.std.specs.Prelude.{slice_get, Contains, IsTrue, IsFalse}
use Rattle.std.specs.Option.{option_map_or}
use Rattle.std.specs.List.{range_with_len}
use Rattle.uhura_plan.specs.declared.choice.Choice.{Choice}
use Rattle.uhura_choice.specs.declared.prefix.Pick.{Pick}
use Rattle.uhura_choice.specs.declared.prefix.Pick.TheVariants.{Alternative, Inactive}
use Rattle.uhura_choice.specs.Branch.{holds, is_active, IsEntry, IsBranch, IsPrefix, IsEarlier}
use Rattle.uhura_choice.specs.Order.{IsFrontOf}
use Rattle.uhura_choice.specs.Children.{possible_entries, next_entries, children, IsOneLonger, AreChildren, HasOneChild}
use Rattle.uhura_choice.proofs.Earlier.{earlier-behind}
use Rattle.uhura_choice.proofs.Prefixes.{HaveAlternatives, prefix-push, prefix-entry, prefix-few, prefix-front, branch-prefix, prefix-whole, length-follows}

-- the first so many alternatives behind a prefix
abbrev pub with_alternatives : List Pick → ℕ → List (List Pick)
with_alternatives picks n = map (λ (x : Pick). picks ++ x ∷ []) (map (λ a. Alternative a) (range_with_len 0 n))

-- behind the last choice there is none
pub children-ended : (cs : List Choice) (picks : List Pick) → slice_get cs (length picks) ≡ None → children cs picks ≡ []
children-ended cs picks ended = ap (λ (o : Option Choice). map (λ (x : Pick). picks ++ x ∷ []) (option_map_or (λ c. possible_entries c picks) o [])) ended

children-there : (cs : List Choice) (picks : List Pick) (c : Choice) → slice_get cs (length picks) ≡ Some c →
    children cs picks ≡ map (λ (x : Pick). picks ++ x ∷ []) (possible_entries c picks)
children-there cs picks c there = ap (λ (o : Option Choice). map (λ (x : Pick). picks ++ x ∷ []) (option_map_or (λ c. possible_entries c picks) o [])) there

-- where the next choice is active, they are its alternatives
pub children-active : (cs : List Choice) (picks : List Pick) (c : Choice) → slice_get cs (length picks) ≡ Some c → IsTrue (holds c.guard picks) →
    children cs picks ≡ with_alternatives picks (length c.alternatives)
children-active cs picks c there met =
    children-there cs picks c there
    ∙ ap (λ (xs : List Pick). map (λ (x : Pick). picks ++ x ∷ []) xs)
    (cond-true (holds c.guard picks) (map (λ a. Alternative a) (range_with_len 0 (length c.alternatives))) (Inactive ∷ []) met)

-- and else it is the one without a pick
pub children-inactive : (cs : List Choice) (picks : List Pick) (c : Choice) → slice_get cs (length picks) ≡ Some c → IsFalse (holds c.guard picks) →
    children cs picks ≡ (picks ++ Inactive ∷ []) ∷ []
children-inactive cs picks c there unmet =
    children-there cs picks c there
    ∙ ap (λ (xs : List Pick). map (λ (x : Pick). picks ++ x ∷ []) xs)
    (cond-false (holds c.guard picks) (map (λ a. Alternative a) (range_with_len 0 (length c.alternatives))) (Inactive ∷ []) unmet)

pub length-with_alternatives : (picks : List Pick) (n : ℕ) → length (with_alternatives picks n) ≡ n
length-with_alternatives picks n =
    length-map (map (λ a. Alternative a) (range_with_len 0 n)) (λ (x : Pick). picks ++ x ∷ []) ∙ length-map-range_with_len (λ a. Alternative a) 0 n

get_or-with_alternatives : (picks : List Pick) (n i : ℕ) (d : List Pick) → i < n → get_or (with_alternatives picks n) i d ≡ picks ++ Alternative i ∷ []
get_or-with_alternatives picks n i d below =
    get_or-map (λ (x : Pick). picks ++ x ∷ []) (map (λ a. Alternative a) (range_with_len 0 n)) i Inactive d (omega (arith, length-map-range_with_len (λ a. Alternative a) 0 n))
    ∙ ap (λ (x : Pick). picks ++ x ∷ []) (get_or-map-range_with_len (λ a. Alternative a) 0 n i i Inactive below (omega arith))

pub slice_get-with_alternatives : (picks : List Pick) (n i : ℕ) → i < n → slice_get (with_alternatives picks n) i ≡ Some (picks ++ Alternative i ∷ [])
slice_get-with_alternatives picks n i below =
    slice_get-get_or (with_alternatives picks n) i [] (omega (arith, length-with_alternatives picks n)) ∙ ap (λ p. Some p) (get_or-with_alternatives picks n i [] below)

-- a child has one more entry
child-longer : (cs : List Choice) (picks longer : List Pick) → Contains (children cs picks) longer → IsOneLonger picks longer
child-longer cs picks longer (k, below, is) =
    let few = length-map (next_entries cs picks) (λ (x : Pick). picks ++ x ∷ []) in
    (get_or (next_entries cs picks) k Inactive, sym is ∙ get_or-map (λ (x : Pick). picks ++ x ∷ []) (next_entries cs picks) k Inactive longer (omega (arith, few)))

-- the next choice, where something longer is a prefix
next-choice : (cs : List Choice) (picks longer : List Pick) → IsPrefix cs longer → IsOneLonger picks longer → length picks < length cs
next-choice cs picks longer prefix (x, is) = omega (arith, prefix-few cs longer prefix, ap (λ (p : List Pick). length p) is, length_push picks x)

-- past the last choice there is none
none-past : (cs : List Choice) (n : ℕ) → slice_get cs n ≡ None → length cs ≤ n
none-past cs n ended = elim (slice_get_cases cs n).1 [ inl found ↦ absurd (none-some found.0 (sym ended ∙ found.2)) | inr past ↦ past.0 ]

module _ (cs : List Choice) (picks : List Pick) (have : HaveAlternatives cs) (prefix : IsPrefix cs picks) where
  -- where there is a next choice, the prefix is no whole branch
  not-whole : (c : Choice) → slice_get cs (length picks) ≡ Some c → IsBranch cs picks → ⊥
  not-whole c there whole = absurd (omega (arith, slice_get_within cs (length picks) c there, length-follows picks cs [] whole))

  -- the entry by which a longer prefix goes on is one of the next choice
  next-entry : (c : Choice) → slice_get cs (length picks) ≡ Some c → (longer : List Pick) (x : Pick) → IsPrefix cs longer → longer ≡ picks ++ x ∷ [] → IsEntry c picks x
  next-entry c there longer x is_prefix is = prefix-entry cs picks x [] c (subst (λ p. IsPrefix cs p) is is_prefix) there

  behind-last : slice_get cs (length picks) ≡ None → AreChildren cs picks []
  behind-last ended = record {
    only = λ longer contained. absurd (omega (arith, contained.1));
    all = λ longer is_prefix is_longer. absurd (omega (arith, next-choice cs picks longer is_prefix is_longer, none-past cs (length picks) ended));
    order = λ i j d lower below. absurd (omega arith);
    none = (
      (λ empty. prefix-whole cs picks prefix (omega (arith, prefix-few cs picks prefix, none-past cs (length picks) ended))),
      (λ whole. refl),
    );
  }

  module _ (c : Choice) (there : slice_get cs (length picks) ≡ Some c) where
    inactive-one : IsFalse (holds c.guard picks) → AreChildren cs picks ((picks ++ Inactive ∷ []) ∷ [])
    inactive-one unmet = record {
      only = only;
      all = λ longer is_prefix is_longer. all longer is_longer.0 is_longer.1 (next-entry c there longer is_longer.0 is_prefix is_longer.1);
      order = λ i j d lower below. absurd (omega arith);
      none = ((λ empty. absurd (omega arith)), (λ whole. absurd (not-whole c there whole)));
    }
      where
        only-child : (longer : List Pick) → (picks ++ Inactive ∷ []) ≡ longer → IsPrefix cs longer × IsOneLonger picks longer
        only-child longer is = (subst (λ p. IsPrefix cs p) is (prefix-push cs picks c Inactive have prefix there unmet), (Inactive, sym is))

        only : (longer : List Pick) → Contains ((picks ++ Inactive ∷ []) ∷ []) longer → IsPrefix cs longer × IsOneLonger picks longer
        only longer (zero, below, is) = only-child longer is
        only longer (suc k, below, is) = absurd (omega arith)

        all : (longer : List Pick) (x : Pick) → longer ≡ picks ++ x ∷ [] → IsEntry c picks x → Contains ((picks ++ Inactive ∷ []) ∷ []) longer
        all longer Inactive is entry = (0, omega arith, sym is)
        all longer (Alternative a) is entry = absurd (both_ways (holds c.guard picks) unmet entry.0)

    active-each : IsTrue (holds c.guard picks) → AreChildren cs picks (with_alternatives picks (length c.alternatives))
    active-each met = record {
      only = only;
      all = λ longer is_prefix is_longer. all longer is_longer.0 is_longer.1 (next-entry c there longer is_longer.0 is_prefix is_longer.1);
      order = λ i j d lower below. order i j d lower (omega (arith, few));
      none = ((λ empty. absurd (omega (arith, few, have.some (length picks) c there))), (λ whole. absurd (not-whole c there whole)));
    }
      where
        few : length (with_alternatives picks (length c.alternatives)) ≡ length c.alternatives
        few = length-with_alternatives picks (length c.alternatives)

        child-prefix : (longer : List Pick) (k : ℕ) → k < length c.alternatives → picks ++ Alternative k ∷ [] ≡ longer → IsPrefix cs longer × IsOneLonger picks longer
        child-prefix longer k below is = (subst (λ p. IsPrefix cs p) is (prefix-push cs picks c (Alternative k) have prefix there (met, below)), (Alternative k, sym is))

        only : (longer : List Pick) → Contains (with_alternatives picks (length c.alternatives)) longer → IsPrefix cs longer × IsOneLonger picks longer
        only longer (k, below, is) =
            let less : k < length c.alternatives = omega (arith, few) in
            child-prefix longer k less (sym (get_or-with_alternatives picks (length c.alternatives) k longer less) ∙ is)

        all : (longer : List Pick) (x : Pick) → longer ≡ picks ++ x ∷ [] → IsEntry c picks x → Contains (with_alternatives picks (length c.alternatives)) longer
        all longer Inactive is entry = absurd (both_ways (holds c.guard picks) entry met)
        all longer (Alternative a) is entry =
            (a, omega (arith, few, entry.1), get_or-with_alternatives picks (length c.alternatives) a longer entry.1 ∙ sym is)

        order : (i j : ℕ) (d : List Pick) → i < j → j < length c.alternatives →
            IsEarlier (get_or (with_alternatives picks (length c.alternatives)) i d) (get_or (with_alternatives picks (length c.alternatives)) j d)
        order i j d lower below =
            let less : i < length c.alternatives = omega arith in
            subst (λ p. IsEarlier p (get_or (with_alternatives picks (length c.alternatives)) j d)) (sym (get_or-with_alternatives picks (length c.alternatives) i d less))
            (subst (λ p. IsEarlier (picks ++ Alternative i ∷ []) p) (sym (get_or-with_alternatives picks (length c.alternatives) j d below))
            (earlier-behind picks (Alternative i ∷ []) (Alternative j ∷ []) (inl lower)))

  -- the children are the prefixes one entry longer, in order
  children-from : (o : Option Choice) → slice_get cs (length picks) ≡ o → AreChildren cs picks (children cs picks)
  children-from None ended = subst (λ list. AreChildren cs picks list) (sym (children-ended cs picks ended)) (behind-last ended)
  children-from (Some c) there =
      elim (cases_Bool (holds c.guard picks)) [
        | inl met ↦ subst (λ list. AreChildren cs picks list) (sym (children-active cs picks c there met)) (active-each c there met)
        | inr unmet ↦ subst (λ list. AreChildren cs picks list) (sym (children-inactive cs picks c there unmet)) (inactive-one c there unmet)
      ]

  pub are-children : AreChildren cs picks (children cs picks)
  are-children = children-from (slice_get cs (length picks)) refl

-- a longer branch begins with one child, and no other
pub one-child : (cs : List Choice) (picks branch : List Pick) → HaveAlternatives cs → IsBranch cs branch → IsFrontOf picks branch → (IsBranch cs picks → ⊥) →
    HasOneChild cs picks branch
one-child cs picks branch have is_branch ([], is) longer =
    absurd (longer (subst (λ p. IsBranch cs p) (is ∙ append-nil picks) is_branch))
one-child cs picks branch have is_branch (x ∷ rest, is) longer = record {
  child = picks ++ x ∷ [];
  is_child = (are-children cs picks have (prefix-front cs picks (x ∷ [] ++ rest) whole)).all (picks ++ x ∷ []) (prefix-front cs (picks ++ x ∷ []) rest (subst (λ p. IsPrefix cs p) (sym (append_assoc picks (x ∷ []) rest)) whole)) (x, refl);
  begins = (rest, is ∙ sym (append_assoc picks (x ∷ []) rest));
  only = λ other contained begins. same other (child-longer cs picks other contained) begins;
}
  where
    whole : IsPrefix cs (picks ++ x ∷ rest)
    whole = branch-prefix cs (picks ++ x ∷ rest) (subst (λ p. IsBranch cs p) is is_branch)

    same : (other : List Pick) → IsOneLonger picks other → IsFrontOf other branch → other ≡ picks ++ x ∷ []
    same other (y, longer_by) (more, begun) =
        let begun' : branch ≡ (picks ++ y ∷ []) ++ more = begun ∙ ap (λ (p : List Pick). p ++ more) longer_by in
        let tails : x ∷ rest ≡ y ∷ more = append_cancel_left picks (x ∷ rest) (y ∷ more) (sym is ∙ (begun' ∙ append_assoc picks (y ∷ []) more)) in
        let head : x ≡ y = cc in
        longer_by ∙ ap (λ (z : Pick). picks ++ z ∷ []) (sym head)

-- a child's entry is the alternative of its number where the next choice is active, and else nothing
child-from : (cs : List Choice) (picks : List Pick) (index : ℕ) (x : Pick) (o : Option Choice) → slice_get cs (length picks) ≡ o → index < length (children cs picks) →
    x ≡ cond (is_active cs picks (length picks)) (Alternative index) Inactive → slice_get (children cs picks) index ≡ Some (picks ++ x ∷ [])
child-from cs picks index x None ended below is = absurd (omega (arith, ap (λ (l : List (List Pick)). length l) (children-ended cs picks ended)))
child-from cs picks index x (Some c) there below is = elim (cases_Bool (holds c.guard picks)) [ inl met ↦ active met | inr unmet ↦ inactive unmet ]
  where
    entry : (b : Bool) → holds c.guard picks ≡ b → x ≡ cond b (Alternative index) Inactive
    entry b same = is ∙ ap (λ (t : Bool). cond t (Alternative index) Inactive) (ap (λ (o : Option Choice). option_map_or (λ c. holds c.guard picks) o false) there ∙ same)

    active : IsTrue (holds c.guard picks) → slice_get (children cs picks) index ≡ Some (picks ++ x ∷ [])
    active met =
        let list = children-active cs picks c there met in
        let less : index < length c.alternatives =
        omega (arith, ap (λ (l : List (List Pick)). length l) list, length-with_alternatives picks (length c.alternatives)) in
        ap (λ (l : List (List Pick)). slice_get l index) list
        ∙ (slice_get-with_alternatives picks (length c.alternatives) index less ∙ ap (λ (y : Pick). Some (picks ++ y ∷ [])) (sym (entry true met)))

    inactive : IsFalse (holds c.guard picks) → slice_get (children cs picks) index ≡ Some (picks ++ x ∷ [])
    inactive unmet =
        let list = children-inactive cs picks c there unmet in
        let first : index ≡ 0 = omega (arith, ap (λ (l : List (List Pick)). length l) list) in
        ap (λ (l : List (List Pick)). slice_get l index) list
        ∙ (ap (λ (i : ℕ). slice_get ((picks ++ Inactive ∷ []) ∷ []) i) first ∙ ap (λ (y : Pick). Some (picks ++ y ∷ [])) (sym (entry false unmet)))

pub child-at : (cs : List Choice) (picks : List Pick) (index : ℕ) (x : Pick) → index < length (children cs picks) →
    x ≡ cond (is_active cs picks (length picks)) (Alternative index) Inactive → slice_get (children cs picks) index ≡ Some (picks ++ x ∷ [])
child-at cs picks index x below is = child-from cs picks index x (slice_get cs (length picks)) refl below is
