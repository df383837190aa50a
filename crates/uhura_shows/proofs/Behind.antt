-- The branches behind a prefix, one entry after another.
use Rattle.std.proofs.Common.{◌≡◌, ℕ, ◌+◌, ◌<◌, ◌≤◌, List, [], ◌∷◌, ◌++◌, None, Some, Option, ap, sym, subst, refl, ◌∙◌, arith, length, take, drop, take-append-drop, get_or, append_assoc, append-nil, inl, inr, cond}
use Rattle.std.specs.Prelude.{◌⊎◌, slice_get}
use Rattle.std.proofs.Math.Seq.{take-append_seam}
use Rattle.std.proofs.lemmas.Option.{same_Some, slice_get_within, get_or_from_slice_get}
use Rattle.std.proofs.lemmas.Bool.{cases_eq, cases_lt}
use Rattle.std.proofs.lemmas.List.{length_push, take_more}
use Rattle.uhura_plan.specs.declared.choice.Choice.{Choice}
use Rattle.uhura_choice.specs.declared.prefix.Pick.{Pick}
use Rattle.uhura_choice.specs.declared.prefix.Pick.TheVariants.{Alternative, Inactive}
use Rattle.uhura_choice.specs.Branch.{is_active, IsEntry, IsBranch, IsPrefix, IsEarlier}
use Rattle.uhura_choice.specs.Order.{IsFrontOf}
use Rattle.uhura_choice.specs.Children.{children}
use Rattle.uhura_choice.specs.Walk.{IsFirstFrom}
use Rattle.uhura_choice.proofs.Earlier.{Compare, compare, earlier-behind, earlier-from_behind}
use Rattle.uhura_choice.proofs.Prefixes.{HaveAlternatives, choice-there, prefix-entry, prefix-few, prefix-front, prefix-take, branch-prefix, length-follows}
use Rattle.uhura_choice.proofs.Fillings.{IsFilledTo, filled-next}
use Rattle.uhura_choice.proofs.Extensions.{children-active, children-inactive, length-with_alternatives, slice_get-with_alternatives, are-children, child-at}
use Rattle.uhura_shows.specs.Behind.{child_index, IsNextBehind, IsLeadBehind, LeadsBehind}

-- where a prefix begins something that is earlier than a branch, it is earlier itself, or begins the branch
pub earlier-begun : (prefix rest branch : List Pick) → IsEarlier (prefix ++ rest) branch → IsFrontOf prefix branch ⊎ IsEarlier prefix branch
earlier-begun [] rest branch before = inl (branch, refl)
earlier-begun (x ∷ prefix) rest [] before = absurd before
earlier-begun (Inactive ∷ prefix) rest (Inactive ∷ branch) before = by (earlier-begun prefix rest branch before)
  where
    by : IsFrontOf prefix branch ⊎ IsEarlier prefix branch → IsFrontOf (Inactive ∷ prefix) (Inactive ∷ branch) ⊎ IsEarlier (Inactive ∷ prefix) (Inactive ∷ branch)
    by (inl front) = inl (front.0, ap (λ l. Inactive ∷ l) front.1)
    by (inr earlier) = inr earlier
earlier-begun (Inactive ∷ prefix) rest (Alternative b ∷ branch) before = absurd before
earlier-begun (Alternative a ∷ prefix) rest (Inactive ∷ branch) before = absurd before
earlier-begun (Alternative a ∷ prefix) rest (Alternative b ∷ branch) (inl less) = inr (inl less)
earlier-begun (Alternative a ∷ prefix) rest (Alternative b ∷ branch) (inr same) = by (earlier-begun prefix rest branch same.1)
  where
    by : IsFrontOf prefix branch ⊎ IsEarlier prefix branch → IsFrontOf (Alternative a ∷ prefix) (Alternative b ∷ branch) ⊎ IsEarlier (Alternative a ∷ prefix) (Alternative b ∷ branch)
    by (inl (more, is)) = let equal : a ≡ b = same.0 in inl (more, cc)
    by (inr earlier) = inr (inr (same.0, earlier))

-- and where it is earlier, all that it begins is
pub earlier-more : (one rest other more : List Pick) → IsEarlier one other → IsEarlier (one ++ rest) (other ++ more)
earlier-more [] rest other more before = absurd before
earlier-more (x ∷ one) rest [] more before = absurd before
earlier-more (Inactive ∷ one) rest (Inactive ∷ other) more before = earlier-more one rest other more before
earlier-more (Inactive ∷ one) rest (Alternative b ∷ other) more before = absurd before
earlier-more (Alternative a ∷ one) rest (Inactive ∷ other) more before = absurd before
earlier-more (Alternative a ∷ one) rest (Alternative b ∷ other) more (inl less) = inl less
earlier-more (Alternative a ∷ one) rest (Alternative b ∷ other) more (inr same) = inr (same.0, earlier-more one rest other more same.1)

-- what begins something earlier than a list is earlier than the list, where it isn't a beginning of both
pub earlier-than_begun : (one other more : List Pick) → IsEarlier one other → IsEarlier one (other ++ more)
earlier-than_begun one other more before = subst (λ l. IsEarlier l (other ++ more)) (append-nil one) (earlier-more one [] other more before)

pub begun-earlier : (one rest other : List Pick) → IsEarlier one other → IsEarlier (one ++ rest) other
begun-earlier one rest other before = subst (λ l. IsEarlier (one ++ rest) l) (append-nil other) (earlier-more one rest other [] before)

module _ (cs : List Choice) (front : List Pick) (x : Pick) (prefix : IsPrefix cs (front ++ x ∷ [])) where
  -- there is a choice behind the front
  pub choice-behind : (c : Choice) × (slice_get cs (length front) ≡ Some c)
  choice-behind = choice-there cs (length front) (omega (arith, prefix-few cs (front ++ x ∷ []) prefix, length_push front x))

  -- the child with an entry stands at its place
  pub child-there : slice_get (children cs front) (child_index x) ≡ Some (front ++ x ∷ [])
  child-there = by choice-behind.0 choice-behind.1 x (prefix-entry cs front x [] choice-behind.0 prefix choice-behind.1)
    where
      by : (c : Choice) → slice_get cs (length front) ≡ Some c → (y : Pick) → IsEntry c front y → slice_get (children cs front) (child_index y) ≡ Some (front ++ y ∷ [])
      by c there (Alternative a) entry =
          ap (λ (l : List (List Pick)). slice_get l a) (children-active cs front c there entry.0) ∙ slice_get-with_alternatives front (length c.alternatives) a entry.1
      by c there Inactive entry = ap (λ (l : List (List Pick)). slice_get l 0) (children-inactive cs front c there entry)

  -- so it is one of so many
  pub child-within : child_index x < length (children cs front)
  child-within = slice_get_within (children cs front) (child_index x) (front ++ x ∷ []) child-there

  -- what is behind it is behind the front, or has a later alternative in its place
  pub data IsPastEntry (branch : List Pick) : Type 0 where
    past : IsEarlier front branch → IsPastEntry branch
    beside : (a b : ℕ) (more : List Pick) → x ≡ Alternative a → a < b → branch ≡ front ++ Alternative b ∷ more → IsPastEntry branch

  pub past-entry : (branch : List Pick) → IsEarlier (front ++ x ∷ []) branch → IsPastEntry branch
  past-entry branch behind = by (earlier-begun front (x ∷ []) branch behind)
    where
      entry : (y : Pick) (rest : List Pick) → x ≡ y → IsEarlier (y ∷ []) rest → branch ≡ front ++ rest → IsPastEntry branch
      entry y [] same before is = absurd before
      entry Inactive (Inactive ∷ rest) same before is = absurd (before-nothing rest before)
        where
          before-nothing : (rest : List Pick) → IsEarlier [] rest → ⊥
          before-nothing rest before = before
      entry Inactive (Alternative b ∷ rest) same before is = absurd before
      entry (Alternative a) (Inactive ∷ rest) same before is = absurd before
      entry (Alternative a) (Alternative b ∷ rest) same (inl less) is = beside a b rest same less is
      entry (Alternative a) (Alternative b ∷ rest) same (inr both) is = absurd both.1

      by : IsFrontOf front branch ⊎ IsEarlier front branch → IsPastEntry branch
      by (inr before) = past before
      by (inl (rest, is)) = entry x rest refl (earlier-from_behind front (x ∷ []) rest (subst (λ b. IsEarlier (front ++ x ∷ []) b) is behind)) is

  -- an alternative in its place is one of the children
  beside-within : (a b : ℕ) (branch more : List Pick) → x ≡ Alternative a → IsBranch cs branch → branch ≡ front ++ Alternative b ∷ more → b < length (children cs front)
  beside-within a b branch more same is_branch is = within choice-behind.0 choice-behind.1
    where
      within : (c : Choice) → slice_get cs (length front) ≡ Some c → b < length (children cs front)
      within c there =
          let entry : IsEntry c front (Alternative b) =
          prefix-entry cs front (Alternative b) more c (subst (λ l. IsPrefix cs l) is (branch-prefix cs branch is_branch)) there in
          omega (arith, entry.1, ap length (children-active cs front c there entry.0), length-with_alternatives front (length c.alternatives))

  -- where it is the last child, nothing else comes to lie behind
  pub leads-on : (later : Option (List Pick)) → length (children cs front) ≤ child_index x + 1 → LeadsBehind cs front later → LeadsBehind cs (front ++ x ∷ []) later
  leads-on later last leads = by later leads
    where
      behind-front : (branch : List Pick) → IsBranch cs branch → IsPastEntry branch → IsEarlier front branch
      behind-front branch is_branch (past before) = before
      behind-front branch is_branch (beside a b more same less is) =
          absurd (omega (arith, ap child_index same, less, beside-within a b branch more same is_branch is))

      by : (later : Option (List Pick)) → LeadsBehind cs front later → LeadsBehind cs (front ++ x ∷ []) later
      by None none = λ branch is_branch behind. none branch is_branch (behind-front branch is_branch (past-entry branch behind))
      by (Some lead) leads = record {
        is_prefix = leads.is_prefix;
        behind = begun-earlier front (x ∷ []) lead leads.behind;
        first = λ branch is_branch behind. leads.first branch is_branch (behind-front branch is_branch (past-entry branch behind));
      }

  -- and else the next child leads
  pub leads-anew : (lead : List Pick) → HaveAlternatives cs → slice_get (children cs front) (child_index x + 1) ≡ Some lead → IsLeadBehind cs (front ++ x ∷ []) lead
  leads-anew lead have there = by choice-behind.0 choice-behind.1 x refl (prefix-entry cs front x [] choice-behind.0 prefix choice-behind.1)
    where
      is_prefix : IsPrefix cs lead
      is_prefix =
          ((are-children cs front have (prefix-front cs front (x ∷ []) prefix)).only lead
          (child_index x + 1, slice_get_within (children cs front) (child_index x + 1) lead there, get_or_from_slice_get (children cs front) (child_index x + 1) lead lead there)).0

      leads : (a : ℕ) → x ≡ Alternative a → lead ≡ front ++ Alternative (a + 1) ∷ [] → IsLeadBehind cs (front ++ x ∷ []) lead
      leads a same is = record {
        is_prefix = is_prefix;
        behind = subst (λ (y : Pick). IsEarlier (front ++ y ∷ []) lead) (sym same) (subst (λ l. IsEarlier (front ++ Alternative a ∷ []) l) (sym is) (earlier-behind front (Alternative a ∷ []) (Alternative (a + 1) ∷ []) (inl (omega arith))));
        first = λ branch is_branch behind. first branch (past-entry branch behind);
      }
        where
          first : (branch : List Pick) → IsPastEntry branch → IsFrontOf lead branch ⊎ IsEarlier lead branch
          first branch (past before) = inr (subst (λ l. IsEarlier l branch) (sym is) (begun-earlier front (Alternative (a + 1) ∷ []) branch before))
          first branch (beside own b more again less shape) =
              let equal : a ≡ own = ap child_index (sym same ∙ again) in
              elim (cases_eq b (a + 1)) [
                | inl next ↦ inl (more, shape ∙ (ap (λ (n : ℕ). front ++ Alternative n ∷ more) next ∙ (sym (append_assoc front (Alternative (a + 1) ∷ []) more) ∙ ap (λ (l : List Pick). l ++ more) (sym is))))
                | inr further ↦
                    inr (subst (λ l. IsEarlier l branch) (sym is) (subst (λ l. IsEarlier (front ++ Alternative (a + 1) ∷ []) l) (sym shape)
                    (earlier-behind front (Alternative (a + 1) ∷ []) (Alternative b ∷ more) (inl (omega (arith, equal, less))))))
              ]

      by : (c : Choice) → slice_get cs (length front) ≡ Some c → (y : Pick) → x ≡ y → IsEntry c front y → IsLeadBehind cs (front ++ x ∷ []) lead
      by c is (Alternative a) same entry =
          let list = children-active cs front c is entry.0 in
          let index : child_index x ≡ a = ap child_index same in
          let found : slice_get (children cs front) (a + 1) ≡ Some lead = subst (λ n. slice_get (children cs front) (n + 1) ≡ Some lead) index there in
          let below : a + 1 < length c.alternatives = omega (arith, slice_get_within (children cs front) (a + 1) lead found, ap length list, length-with_alternatives front (length c.alternatives)) in
          leads a same
          (same_Some lead (front ++ Alternative (a + 1) ∷ [])
          (sym found ∙ (ap (λ (l : List (List Pick)). slice_get l (a + 1)) list ∙ slice_get-with_alternatives front (length c.alternatives) (a + 1) below)))
      by c is Inactive same entry =
          let list = children-inactive cs front c is entry in
          absurd (omega (arith, slice_get_within (children cs front) (child_index x + 1) lead there, ap length list))

-- the first branch that leads behind a prefix is the next one
pub next-behind : (cs : List Choice) (prefix lead next : List Pick) → IsLeadBehind cs prefix lead → IsFirstFrom cs lead next → IsNextBehind cs prefix next
next-behind cs prefix lead next leads from = record {
  is_branch = from.is_branch;
  behind = subst (λ l. IsEarlier prefix l) (sym from.begins.1) (earlier-than_begun prefix lead from.begins.0 leads.behind);
  first = λ branch is_branch behind. by branch is_branch (leads.first branch is_branch behind);
}
  where
    by : (branch : List Pick) → IsBranch cs branch → IsFrontOf lead branch ⊎ IsEarlier lead branch → (branch ≡ next) ⊎ IsEarlier next branch
    by branch is_branch (inr later) = inr (subst (λ l. IsEarlier l branch) (sym from.begins.1) (begun-earlier lead from.begins.0 branch later))
    by branch is_branch (inl (rest, is)) = compared (compare cs branch next is_branch from.is_branch)
      where
        compared : Compare branch next → (branch ≡ next) ⊎ IsEarlier next branch
        compared (inl same) = inl same
        compared (inr (inr later)) = inr later
        compared (inr (inl before)) =
            absurd (from.none_earlier rest (subst (λ b. IsBranch cs b) is is_branch) (subst (λ b. IsEarlier b next) is before))

-- a prefix that isn't a branch yet has a child
pub some-child : (cs : List Choice) (picks : List Pick) → HaveAlternatives cs → IsPrefix cs picks → length picks < length cs → 0 < length (children cs picks)
some-child cs picks have prefix short =
    elim (cases_lt 0 (length (children cs picks))) [
      | inl some ↦ some
      | inr none ↦
          absurd (omega (arith, length-follows picks cs [] ((are-children cs picks have prefix).none.0 (omega arith))))
    ]

-- and its first child fills it further
pub filled-by_child : (cs : List Choice) (picks filled next : List Pick) (place : ℕ) → HaveAlternatives cs → IsFilledTo cs picks place filled → place < length cs →
    slice_get (children cs filled) 0 ≡ Some next → IsFilledTo cs picks (place + 1) next
filled-by_child cs picks filled next place have so_far below there =
    let x : Pick = cond (is_active cs filled place) (Alternative 0) Inactive in
    let some : 0 < length (children cs filled) = some-child cs filled have so_far.prefix (omega (arith, so_far.reached)) in
    let same : x ≡ cond (is_active cs filled (length filled)) (Alternative 0) Inactive = ap (λ (n : ℕ). cond (is_active cs filled n) (Alternative 0) Inactive) (sym so_far.reached) in
    let at : filled ++ x ∷ [] ≡ next = same_Some (filled ++ x ∷ []) next (sym (child-at cs filled 0 x some same) ∙ there) in
    subst (λ l. IsFilledTo cs picks (place + 1) l) at (filled-next cs picks filled place x have so_far below refl)

-- an entry of a prefix, behind its front
pub record IsAtEntry (cs : List Choice) (picks : List Pick) (place : ℕ) (front : List Pick) (index : ℕ) : Type 0 where
  pub entry : Pick
  pub is_prefix : IsPrefix cs (front ++ entry ∷ [])
  pub further : take (place + 1) picks ≡ front ++ entry ∷ []
  pub at : index ≡ child_index entry

pub at-entry : (cs : List Choice) (picks items : List Pick) (place : ℕ) (front : List Pick) (index : ℕ) → IsPrefix cs picks → items ≡ picks → place < length items →
    front ≡ take place picks → index ≡ child_index (get_or items place (Alternative 0)) → IsAtEntry cs picks place front index
at-entry cs picks items place front index prefix same below so_far at =
    let x : Pick = get_or picks place (Alternative 0) in
    let inside : place < length picks = omega (arith, below, ap length same) in
    let further : take (place + 1) picks ≡ front ++ x ∷ [] = take_more picks place (Alternative 0) inside ∙ ap (λ (l : List Pick). l ++ x ∷ []) (sym so_far) in
    record {
      entry = x;
      is_prefix = subst (λ l. IsPrefix cs l) further (prefix-take cs (place + 1) picks prefix);
      further = further;
      at = at ∙ ap (λ (l : List Pick). child_index (get_or l place (Alternative 0))) same;
    }

pub entry-within : (cs : List Choice) (picks : List Pick) (place : ℕ) (front : List Pick) (index : ℕ) → IsAtEntry cs picks place front index → index < length (children cs front)
entry-within cs picks place front index at = omega (arith, at.at, child-within cs front at.entry at.is_prefix)

-- the child at its place is the longer front
pub entry-further : (cs : List Choice) (picks : List Pick) (place : ℕ) (front next : List Pick) (index : ℕ) → IsAtEntry cs picks place front index → slice_get (children cs front) index ≡ Some next →
    next ≡ take (place + 1) picks
entry-further cs picks place front next index at there =
    same_Some next (take (place + 1) picks)
    (sym there ∙ (ap (λ (n : ℕ). slice_get (children cs front) n) at.at ∙ (child-there cs front at.entry at.is_prefix ∙ ap (λ (l : List Pick). Some l) (sym at.further))))

-- and what leads behind it
pub entry-last : (cs : List Choice) (picks : List Pick) (place : ℕ) (front next : List Pick) (index : ℕ) (later : Option (List Pick)) → IsAtEntry cs picks place front index →
    next ≡ take (place + 1) picks → length (children cs front) ≤ index + 1 → LeadsBehind cs front later → LeadsBehind cs next later
entry-last cs picks place front next index later at is last leads =
    subst (λ l. LeadsBehind cs l later) (sym (is ∙ at.further)) (leads-on cs front at.entry at.is_prefix later (omega (arith, last, at.at)) leads)

pub entry-later : (cs : List Choice) (picks : List Pick) (place : ℕ) (front next lead : List Pick) (index : ℕ) → HaveAlternatives cs → IsAtEntry cs picks place front index →
    next ≡ take (place + 1) picks → slice_get (children cs front) (index + 1) ≡ Some lead → LeadsBehind cs next (Some lead)
entry-later cs picks place front next lead index have at is there =
    subst (λ l. LeadsBehind cs l (Some lead)) (sym (is ∙ at.further))
    (leads-anew cs front at.entry at.is_prefix lead have (subst (λ n. slice_get (children cs front) (n + 1) ≡ Some lead) at.at there))

-- the first branch of a prefix is the only one
pub first-unique : (cs : List Choice) (prefix one other : List Pick) → IsFirstFrom cs prefix one → IsFirstFrom cs prefix other → one ≡ other
first-unique cs prefix one other first second = by (compare cs one other first.is_branch second.is_branch)
  where
    by : Compare one other → one ≡ other
    by (inl same) = same
    by (inr (inl before)) =
        absurd (second.none_earlier first.begins.0 (subst (λ b. IsBranch cs b) first.begins.1 first.is_branch) (subst (λ b. IsEarlier b other) first.begins.1 before))
    by (inr (inr after)) =
        absurd (first.none_earlier second.begins.0 (subst (λ b. IsBranch cs b) second.begins.1 second.is_branch) (subst (λ b. IsEarlier b one) second.begins.1 after))

-- what begins picks are so many of them
pub front-take : (front picks : List Pick) → IsFrontOf front picks → take (length front) picks ≡ front
front-take front picks (rest, is) = ap (take (length front)) is ∙ take-append_seam front rest

pub take-front : (front picks : List Pick) → take (length front) picks ≡ front → IsFrontOf front picks
take-front front picks is =
    (drop (length front) picks, sym (take-append-drop (length front) picks) ∙ ap (λ (l : List Pick). l ++ drop (length front) picks) is)
