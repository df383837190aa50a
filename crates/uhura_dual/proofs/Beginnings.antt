-- What holds where some first picks are made holds with more of them.
use Rattle.std.proofs.Common.{◌≡◌, ℕ, zero, suc, ◌≤◌, Bool, true, false, true≢false, List, [], ◌∷◌, ◌++◌, Option, None, Some, slice_get, Contains, refl, sym, ap, ◌∙◌, arith}
use Rattle.std.specs.Prelude.{◌&&◌, ◌||◌}
use Rattle.std.specs.List.{list_all, list_any}
use Rattle.std.specs.Option.{option_map_or}
use Rattle.std.proofs.lemmas.List.Folds.{list_any_at}
use Rattle.uhura_plan.specs.declared.guard.Literal.{Literal}
use Rattle.uhura_plan.specs.declared.choice.Choice.{Choice}
use Rattle.uhura_plan.specs.declared.key.Item.{Item}
use Rattle.uhura_plan.specs.declared.key.Item.TheVariants as item
use Rattle.uhura_plan.specs.declared.requirement.Requirement.{Requirement}
use Rattle.uhura_plan.specs.Lists.{Lists}
use Rattle.uhura_plan.specs.Find.{requirement_in}
use Rattle.uhura_choice.specs.declared.prefix.Pick.{Pick}
use Rattle.uhura_choice.specs.Branch.{is_alternative, is_picked, holds, picked_cost}
use Rattle.uhura_veto.specs.declared.veto.Veto.{Veto}
use Rattle.uhura_veto.specs.declared.veto.Veto.TheVariants.{Deny, Cap}
use Rattle.uhura_veto.specs.Denial.{denies, is_denied}
use Rattle.uhura_worst.specs.Edges.{is_active_item}

-- what is picked at a place stays
alternative-more : (a i : ℕ) (picks rest : List Pick) → is_alternative a (slice_get picks i) ≡ true → is_alternative a (slice_get (picks ++ rest) i) ≡ true
alternative-more a i [] rest is = absurd (true≢false (sym is))
alternative-more a zero (x ∷ picks) rest is = is
alternative-more a (suc i) (x ∷ picks) rest is = alternative-more a i picks rest is

-- both of two tests, and one of them
both-more : (a b a' b' : Bool) → (a ≡ true → a' ≡ true) → (b ≡ true → b' ≡ true) → (a && b) ≡ true → (a' && b') ≡ true
both-more true b a' b' one other met = rw (one refl) (other met)
both-more false b a' b' one other met = absurd (true≢false (sym met))

one-more : (a b a' b' : Bool) → (a ≡ true → a' ≡ true) → (b ≡ true → b' ≡ true) → (a || b) ≡ true → (a' || b') ≡ true
one-more true b a' b' one other met = rw (one refl) refl
one-more false b true b' one other met = refl
one-more false b false b' one other met = other met

-- so a guard that holds goes on to hold
pub holds-more : (guard : List Literal) (picks rest : List Pick) → holds guard picks ≡ true → holds guard (picks ++ rest) ≡ true
holds-more [] picks rest met = refl
holds-more (l ∷ guard) picks rest met =
    both-more (is_picked picks l) (list_all (is_picked picks) guard) (is_picked (picks ++ rest) l) (list_all (is_picked (picks ++ rest)) guard)
    (alternative-more l.alternative l.choice picks rest) (holds-more guard picks rest) met

pub active-more : (plan : Lists) (of : Item) (picks rest : List Pick) → is_active_item plan picks of ≡ true → is_active_item plan (picks ++ rest) of ≡ true
active-more plan (item.Requirement slot) picks rest met = by (requirement_in plan slot) met
  where
    by : (o : Option Requirement) → option_map_or (λ (r : Requirement). holds r.guard picks) o false ≡ true → option_map_or (λ (r : Requirement). holds r.guard (picks ++ rest)) o false ≡ true
    by None met = met
    by (Some r) met = holds-more r.guard picks rest met
active-more plan (item.Uncertain d) picks rest met = refl

-- and a denial denies
denies-more : (v : Veto) (picks rest : List Pick) → denies picks v ≡ true → denies (picks ++ rest) v ≡ true
denies-more (Deny name literals) picks rest met = holds-more literals picks rest met
denies-more (Cap name key units) picks rest met = met

pub denied-more : (vetoes : List Veto) (picks rest : List Pick) → is_denied vetoes picks ≡ true → is_denied vetoes (picks ++ rest) ≡ true
denied-more [] picks rest met = met
denied-more (v ∷ vetoes) picks rest met =
    one-more (denies picks v) (list_any (denies picks) vetoes) (denies (picks ++ rest) v) (list_any (denies (picks ++ rest)) vetoes)
    (denies-more v picks rest) (denied-more vetoes picks rest) met

-- a denial that is there denies
pub denied-by : (vetoes : List Veto) (v : Veto) (picks : List Pick) → Contains vetoes v → denies picks v ≡ true → is_denied vetoes picks ≡ true
denied-by vetoes v picks there met =
    list_any_at (denies picks) vetoes there.0 v there.1 (ap (denies picks) there.2 ∙ met)

-- the first picks cost no more than all
pub picked-begins : (choices : List Choice) (picks rest : List Pick) → picked_cost choices picks ≤ picked_cost choices (picks ++ rest)
picked-begins [] picks rest = omega arith
picked-begins (c ∷ cs) [] rest = omega arith
picked-begins (c ∷ cs) (x ∷ picks) rest = omega (arith, picked-begins cs picks rest)
