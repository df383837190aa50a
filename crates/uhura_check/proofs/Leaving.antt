-- How a check goes on from leaf to leaf.
use Rattle.std.proofs.Common.{◌≡◌, ℕ, suc, ◌+◌, ◌<◌, List, [], ◌∷◌, ◌++◌, map, length, drop, get_or, None, Some, Option, true, true≢false, refl, sym, ap, ◌∙◌, subst, arith, append_assoc, append-nil}
use Rattle.std.specs.Prelude.{flat_map, IsSome, IfSome, MatchOption}
use Rattle.std.specs.Ordering.{is_ne}
use Rattle.std.specs.declared.cmp.Ordering.{Ordering}
use Rattle.std.specs.declared.cmp.Ordering.TheVariants.{Less, Equal, Greater}
use Rattle.std.proofs.Math.Seq.{drop-cons}
use Rattle.std.proofs.lemmas.Option.{same_Some}
use Rattle.std.proofs.lemmas.List.{length-append}
use Rattle.std.proofs.lemmas.List.Elements.{All-nil, All-cons}
use Rattle.uhura_plan.specs.Lists.{Lists}
use Rattle.uhura_plan.specs.Sound.{IsSound}
use Rattle.uhura_plan.specs.declared.choice.Choice.{Choice}
use Rattle.uhura_choice.specs.declared.prefix.Pick.{Pick}
use Rattle.uhura_choice.specs.Branch.{IsPrefix, IsEarlier}
use Rattle.uhura_choice.specs.Order.{IsFrontOf, Compares}
use Rattle.uhura_choice.proofs.Earlier.{begins-not_earlier, begun-not_earlier}
use Rattle.uhura_choice.specs.Walk.{IsFirstFrom, IsFirstBranch}
use Rattle.uhura_shows.specs.Leaf.{prefixes_of}
use Rattle.uhura_shows.specs.Shows.{Answer}
use Rattle.uhura_shows.specs.Behind.{IsBehind, CoversUpTo}
use Rattle.uhura_shows.proofs.Going.{going-begins, next-not_begun}
use Rattle.uhura_cert.specs.declared.document.Leaf.{Leaf}
use Rattle.uhura_cert.specs.Document.{Document}
use Rattle.uhura_cert.specs.Items.{leaf_items, to_shared, to_leaves}
use Rattle.uhura_check.specs.declared.refusal.Code.TheVariants as code
use Rattle.uhura_check.specs.declared.failure.Failure.{Failure}
use Rattle.uhura_check.specs.declared.leaves.Reached.{Reached}
use Rattle.uhura_check.specs.Confirmed.{leaf_of, reason_of}
use Rattle.uhura_check.specs.Conditions.{ComesNext, CoversAll}
use Rattle.uhura_check.specs.Conditions as ask
use Rattle.uhura_check.specs.Table.{Asked, line_behind, reason_asks, head_line, leaf_asks, leaves_asks, document_prefixes, IsKept}
use Rattle.uhura_check.specs.Failure.{told, IsToldFirst, Tells}
use Rattle.uhura_check.specs.Walked.{IsNextPrefix, IsPassed, IsMissingAt, all_asked, rest_asks}
use Rattle.uhura_check.proofs.Telling.{tells-stays, tells-behind, tells-next, tells-head}
use Rattle.uhura_check.proofs.Turns.{uncovered-next, next-uncovered, next-step}

-- nothing dropped
drop-zero : {X : Type 0} (xs : List X) → drop 0 xs ≡ xs
drop-zero [] = refl
drop-zero (x ∷ xs) = refl

-- what is so of a plan and some picks is so of the same ones
pub moved : (P : Lists → List Pick → Type 0) (plan same : Lists) (picks own : List Pick) → plan ≡ same → picks ≡ own → P plan picks → P same own
moved P plan same picks own is are holding = subst (λ (p : Lists). P p own) is (subst (λ (ps : List Pick). P plan ps) are holding)

-- ---- what comes next

-- of two that differ where both have an alternative neither begins the other
pub no-front : (order : Ordering) (prefix branch : List Pick) → Compares order prefix branch → is_ne order ≡ true → IsFrontOf prefix branch → ⊥
no-front Less prefix branch earlier differs begins = begins-not_earlier prefix begins.0 (subst (λ (b : List Pick). IsEarlier prefix b) begins.1 earlier)
no-front Equal prefix branch one differs begins = true≢false (sym differs)
no-front Greater prefix branch later differs begins = begun-not_earlier prefix begins.0 (subst (λ (b : List Pick). IsEarlier b prefix) begins.1 later)

module _ (cs : List Choice) (answer : Answer) (before : List (List Pick)) (picks : List Pick) where
  -- with no branch left nothing comes next
  pub ended-none : CoversUpTo cs before None → ComesNext cs answer before picks → ⊥
  ended-none covers comes =
      let never : None ≡ Some comes.branch = uncovered-next cs before None comes.branch covers comes.uncovered in
      cc

  -- what comes next begins with the first branch that is left
  pub next-first : (next : Option (List Pick)) (branch : List Pick) → next ≡ Some branch → CoversUpTo cs before next → ComesNext cs answer before picks → IsFirstFrom cs picks branch
  next-first next branch is covers comes =
      let same : branch ≡ comes.branch = same_Some branch comes.branch (sym is ∙ uncovered-next cs before next comes.branch covers comes.uncovered) in
      subst (λ (b : List Pick). IsFirstFrom cs picks b) (sym same) comes.first

  pub next-comes : (next : Option (List Pick)) (branch prefix : List Pick) → next ≡ Some branch → CoversUpTo cs before next → prefix ≡ picks → IsPrefix cs picks → IsFirstFrom cs picks branch → IfSome answer (λ a. IsFrontOf prefix a.0 → prefix ≡ a.0) → IsNextPrefix cs answer before picks prefix
  next-comes next branch prefix is covers same is_prefix first whole = record {
    picked = same;
    is_prefix = is_prefix;
    next = record {
      branch = branch;
      uncovered = next-uncovered cs before branch (subst (λ (n : Option (List Pick)). CoversUpTo cs before n) is covers);
      first = first;
      whole = subst (λ (p : List Pick). IfSome answer (λ a. IsFrontOf p a.0 → p ≡ a.0)) same whole;
    };
  }

-- ---- one leaf

module _ (d : Document) (answer : Answer) (before : List (List Pick)) (line : ℕ) (leaf : Leaf) where
  abbrev next-asked : Asked
  next-asked = record { condition = ask.Next before leaf.prefix; line = line }

  abbrev reason-asked : List Asked
  reason-asked = reason_asks leaf.prefix (line + 1) (head_line d (line + 1) leaf.reason) (reason_of d.shared leaf.reason)

  pub order-told : (f : Failure) → (ComesNext d.state.plan.choices answer before leaf.prefix → ⊥) → f.code ≡ code.LeafOrder → f.line ≡ told line → IsToldFirst d.state answer (leaf_asks d before line leaf) f
  order-told f never is_code is_told = tells-head d.state answer next-asked reason-asked f never is_code is_told

  pub reason-told : (f : Failure) → ComesNext d.state.plan.choices answer before leaf.prefix → Tells d.state answer reason-asked (Some f) → IsToldFirst d.state answer (leaf_asks d before line leaf) f
  reason-told f comes tells = tells-next d.state answer next-asked reason-asked (Some f) comes tells

  pub leaf-passed : (reached : Reached) (next : Option (List Pick)) → IsSound d.state.plan → CoversUpTo d.state.plan.choices before next → ComesNext d.state.plan.choices answer before leaf.prefix → Tells d.state answer reason-asked None →
      IsBehind d.state.plan.choices leaf.prefix reached.next → reached.line ≡ told (line + length (leaf_items d.state leaf)) → IsPassed d answer before line leaf reached
  leaf-passed reached next sound covers comes tells behind is_told = record {
    kept = All-cons (IsKept d.state answer) next-asked reason-asked comes tells;
    covers = next-step d.state.plan sound answer before next leaf.prefix covers comes reached.next behind;
    come_to = is_told;
  }

-- ---- all leaves

-- what has been found of the leaves so far, and what is left to be found
pub record IsUnderWay (d : Document) (answer : Answer) (place : ℕ) (reached : Reached) : Type 0 where
  pub before : List (List Pick)
  pub line : ℕ
  pub covers : CoversUpTo d.state.plan.choices before reached.next
  pub is_told : reached.line ≡ told line
  pub prefixes : before ++ prefixes_of (map (leaf_of d.shared) (drop place d.leaves)) ≡ document_prefixes d
  pub ends : line + length (flat_map (leaf_items d.state) (drop place d.leaves)) ≡ line_behind (to_leaves d)
  pub tells : (found : Option Failure) → Tells d.state answer (rest_asks d before line (drop place d.leaves)) found → Tells d.state answer (rest_asks d [] (line_behind (to_shared d)) d.leaves) found

module _ (d : Document) (answer : Answer) where
  -- it begins with the first branch
  pub begins-way : (place : ℕ) (reached : Reached) (first : List Pick) → place ≡ 0 → IsFirstBranch d.state.plan.choices first → reached.next ≡ Some first → reached.line ≡ told (line_behind (to_shared d)) → IsUnderWay d answer place reached
  begins-way place reached first start is_first next is_told =
      let all : drop place d.leaves ≡ d.leaves = ap (λ (n : ℕ). drop n d.leaves) start ∙ drop-zero d.leaves in
      record {
        before = [];
        line = line_behind (to_shared d);
        covers = subst (λ (n : Option (List Pick)). CoversUpTo d.state.plan.choices [] n) (sym next) (going-begins d.state.plan.choices first is_first);
        is_told = is_told;
        prefixes = ap (λ (ls : List Leaf). prefixes_of (map (leaf_of d.shared) ls)) all;
        ends = omega (arith, length-append (to_shared d) (flat_map (leaf_items d.state) d.leaves), ap (λ (ls : List Leaf). length (flat_map (leaf_items d.state) ls)) all);
        tells = λ found told. subst (λ (ls : List Leaf). Tells d.state answer (rest_asks d [] (line_behind (to_shared d)) ls) found) all told;
      }

  module _ (place : ℕ) (reached : Reached) (under : IsUnderWay d answer place reached) where
    module _ (leaf : Leaf) (rest : List Leaf) (here : drop place d.leaves ≡ leaf ∷ rest) where
      parted : (found : Option Failure) → Tells d.state answer (leaf_asks d under.before under.line leaf ++ rest_asks d (under.before ++ leaf.prefix ∷ []) (under.line + length (leaf_items d.state leaf)) rest) found →
          Tells d.state answer (rest_asks d [] (line_behind (to_shared d)) d.leaves) found
      parted found tells =
          under.tells found
          (subst (λ (ls : List Leaf). Tells d.state answer (rest_asks d under.before under.line ls) found) (sym here)
          (subst (λ (asks : List Asked). Tells d.state answer asks found)
          (sym (append_assoc (leaf_asks d under.before under.line leaf) (leaves_asks d (under.before ++ leaf.prefix ∷ []) (under.line + length (leaf_items d.state leaf)) rest) (all_asked d))) tells))

      -- a leaf that fails fails first of all
      pub stops-here : (f : Failure) → IsToldFirst d.state answer (leaf_asks d under.before under.line leaf) f → IsToldFirst d.state answer (rest_asks d [] (line_behind (to_shared d)) d.leaves) f
      stops-here f first = parted (Some f) (tells-stays d.state answer (leaf_asks d under.before under.line leaf) (rest_asks d (under.before ++ leaf.prefix ∷ []) (under.line + length (leaf_items d.state leaf)) rest) f first)

      -- and behind one that is passed it goes on
      pub goes-on : (place' : ℕ) (further : Reached) → drop place' d.leaves ≡ rest → IsPassed d answer under.before under.line leaf further → IsUnderWay d answer place' further
      goes-on place' further left passed = record {
        before = under.before ++ leaf.prefix ∷ [];
        line = under.line + length (leaf_items d.state leaf);
        covers = passed.covers;
        is_told = passed.come_to;
        prefixes =
            append_assoc under.before (leaf.prefix ∷ []) (prefixes_of (map (leaf_of d.shared) (drop place' d.leaves)))
            ∙ ap (λ (ls : List Leaf). under.before ++ (leaf.prefix ∷ prefixes_of (map (leaf_of d.shared) ls))) left
            ∙ ap (λ (ls : List Leaf). under.before ++ prefixes_of (map (leaf_of d.shared) ls)) (sym here)
            ∙ under.prefixes;
        ends = omega (
          arith,
          under.ends,
          ap (λ (ls : List Leaf). length (flat_map (leaf_items d.state) ls)) here,
          ap (λ (ls : List Leaf). length (flat_map (leaf_items d.state) ls)) left,
          lines-more,
        );
        tells = λ found tells.
            parted found
            (tells-behind d.state answer (leaf_asks d under.before under.line leaf) (rest_asks d (under.before ++ leaf.prefix ∷ []) (under.line + length (leaf_items d.state leaf)) rest) found passed.kept
            (subst (λ (ls : List Leaf). Tells d.state answer (rest_asks d (under.before ++ leaf.prefix ∷ []) (under.line + length (leaf_items d.state leaf)) ls) found) left tells));
      }
        where
          lines-more : length (flat_map (leaf_items d.state) (leaf ∷ rest)) ≡ length (leaf_items d.state leaf) + length (flat_map (leaf_items d.state) rest)
          lines-more = length-append (leaf_items d.state leaf) (flat_map (leaf_items d.state) rest)

    -- behind the last leaf
    module _ (none : drop place d.leaves ≡ []) where
      last : (found : Option Failure) → Tells d.state answer (all_asked d) found → Tells d.state answer (rest_asks d [] (line_behind (to_shared d)) d.leaves) found
      last found tells = under.tells found (subst (λ (ls : List Leaf). Tells d.state answer (rest_asks d under.before under.line ls) found) (sym none) tells)

      whole : under.before ≡ document_prefixes d
      whole = sym (append-nil under.before) ∙ ap (λ (ls : List Leaf). under.before ++ prefixes_of (map (leaf_of d.shared) ls)) (sym none) ∙ under.prefixes

      last_line : under.line ≡ line_behind (to_leaves d)
      last_line = omega (arith, under.ends, ap (λ (ls : List Leaf). length (flat_map (leaf_items d.state) ls)) none)

      pub misses-none : reached.next ≡ None → Tells d.state answer (rest_asks d [] (line_behind (to_shared d)) d.leaves) None
      misses-none ended =
          let covers : CoversUpTo d.state.plan.choices under.before None = subst (λ (n : Option (List Pick)). CoversUpTo d.state.plan.choices under.before n) ended under.covers in
          let all : CoversAll d.state.plan.choices (document_prefixes d) = subst (λ (ps : List (List Pick)). CoversAll d.state.plan.choices ps) whole (λ branch is. covers.every branch is tt) in
          last None (All-cons (IsKept d.state answer) (record { condition = ask.All (document_prefixes d); line = line_behind (to_leaves d) }) [] all (All-nil (IsKept d.state answer)))

      pub misses-one : (f : Failure) → IsMissingAt reached f → IsToldFirst d.state answer (rest_asks d [] (line_behind (to_shared d)) d.leaves) f
      misses-one f missing =
          last (Some f)
          (tells-head d.state answer (record { condition = ask.All (document_prefixes d); line = line_behind (to_leaves d) }) [] f (by reached.next missing.left under.covers) missing.has_code
          (missing.at_line ∙ under.is_told ∙ ap told last_line))
        where
          by : (next : Option (List Pick)) → IsSome next → CoversUpTo d.state.plan.choices under.before next → CoversAll d.state.plan.choices (document_prefixes d) → ⊥
          by None some covers all = absurd (true≢false (sym some))
          by (Some branch) some covers all =
              next-not_begun d.state.plan.choices under.before branch covers (subst (λ (ps : List (List Pick)). CoversAll d.state.plan.choices ps) (sym whole) all branch covers.next_branch)

      pub misses : (found : Option Failure) → MatchOption found (reached.next ≡ None) (IsMissingAt reached) → Tells d.state answer (rest_asks d [] (line_behind (to_shared d)) d.leaves) found
      misses None ended = misses-none ended
      misses (Some f) missing = misses-one f missing

-- what is dropped from a place on begins with what stands there
pub drop-there : {X : Type 0} (xs given : List X) (place : ℕ) (x : X) → given ≡ xs → place < length given → x ≡ get_or given place x → drop place xs ≡ x ∷ drop (place + 1) xs
drop-there xs given place x same below is =
    let next : suc place ≡ place + 1 = omega arith in
    drop-cons xs place x (omega (arith, below, ap length same)) ∙ ap (λ y. y ∷ drop (suc place) xs) (sym (is ∙ ap (λ l. get_or l place x) same)) ∙ ap (λ (n : ℕ). x ∷ drop n xs) next
