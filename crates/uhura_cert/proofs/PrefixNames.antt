-- How the words of a leaf name a prefix, word by word.
use Rattle.std.proofs.Common.{◌≡◌, ℕ, zero, suc, ◌<◌, List, [], ◌∷◌, ◌++◌, length, get_or, Option, Some, None, option_and_then, slice_get, refl, sym, ap, subst, ◌∙◌, arith}
use Rattle.std.proofs.lemmas.Option.{same_Some, slice_get-get_or}
use Rattle.uhura_plan.specs.declared.choice.Choice.{Choice}
use Rattle.uhura_plan.specs.Find.{place_of, alternative_named}
use Rattle.uhura_plan.specs.Lists.{Lists, alternative_names}
use Rattle.uhura_choice.specs.declared.prefix.Pick.{Pick}
use Rattle.uhura_choice.specs.declared.prefix.Pick.TheVariants.{Alternative, Inactive}
use Rattle.uhura_cert.specs.Machine.{IsPickNamed, ArePicksNamed}
use Rattle.uhura_cert.specs.Taking.{IsPickAt}

-- a place in a list holds something
there_at : (choices : List Choice) (place : ℕ) → place < length choices → (c : Choice) × (slice_get choices place ≡ Some c)
there_at [] place within = absurd (omega (arith, within))
there_at (c ∷ choices) place within = (get_or (c ∷ choices) place c, slice_get-get_or (c ∷ choices) place c within)

pub inactive_at : (choices : List Choice) (place : ℕ) → place < length choices → IsPickAt choices place None Inactive
inactive_at choices place within = let c = there_at choices place within in record { choice = c.0; at = c.1; named = refl }

pub alternative_at : (plan : Lists) (place : ℕ) (name : List ℕ) (a : ℕ) → place < length plan.choices → alternative_named plan place name ≡ Some a → IsPickAt plan.choices place (Some name) (Alternative a)
alternative_at plan place name a within found =
    let c = there_at plan.choices place within in
    record { choice = c.0; at = c.1; named = sym (ap (option_and_then (λ c. place_of (alternative_names c) name)) c.1) ∙ found }

pub no_alternative : (plan : Lists) (place : ℕ) (name : List ℕ) → alternative_named plan place name ≡ None → (pick : Pick) → IsPickAt plan.choices place (Some name) pick → ⊥
no_alternative plan place name none Inactive is = is.named
no_alternative plan place name none (Alternative a) is =
    let no : Some a ≡ None = sym is.named ∙ (sym (ap (option_and_then (λ c. place_of (alternative_names c) name)) is.at) ∙ none) in
    cc

-- one word more
pub named_next : (choices : List Choice) (names : List (Option (List ℕ))) (picks : List Pick) (name : Option (List ℕ)) (pick : Pick) → ArePicksNamed choices names picks
    → IsPickAt choices (length names) name pick → ArePicksNamed choices (names ++ name ∷ []) (picks ++ pick ∷ [])
named_next [] [] picks name pick are is = let no : None ≡ Some is.choice = is.at in let never : ⊥ = cc in absurd never
named_next (c ∷ choices) [] picks name pick are is =
    let same : c ≡ is.choice = same_Some c is.choice is.at in
    subst (λ ps. ArePicksNamed (c ∷ choices) (name ∷ []) (ps ++ pick ∷ [])) (sym are) (subst (λ d. IsPickNamed d name pick) (sym same) is.named, refl)
named_next [] (n ∷ names) picks name pick are is = absurd are
named_next (c ∷ choices) (n ∷ names) [] name pick are is = absurd are
named_next (c ∷ choices) (n ∷ names) (p ∷ picks) name pick are is =
    (are.0, named_next choices names picks name pick are.1 (record { choice = is.choice; at = is.at; named = is.named }))

-- more names than choices name nothing
pub too_many : (choices : List Choice) (names : List (Option (List ℕ))) (prefix : List Pick) → length choices < length names → ArePicksNamed choices names prefix → ⊥
too_many choices [] prefix more are = omega (arith, more)
too_many [] (n ∷ names) prefix more are = are
too_many (c ∷ choices) (n ∷ names) [] more are = are
too_many (c ∷ choices) (n ∷ names) (p ∷ prefix) more are = too_many choices names prefix (omega (arith, more)) are.1

-- where a name names nothing, the names don't
pub none_at : (choices : List Choice) (names : List (Option (List ℕ))) (place : ℕ) (name : Option (List ℕ)) → slice_get names place ≡ Some name
    → ((pick : Pick) → IsPickAt choices place name pick → ⊥) → (prefix : List Pick) → ArePicksNamed choices names prefix → ⊥
none_at choices [] place name at none prefix are = let no : ⊥ = cc in absurd no
none_at [] (n ∷ names) place name at none prefix are = are
none_at (c ∷ choices) (n ∷ names) place name at none [] are = are
none_at (c ∷ choices) (n ∷ names) zero name at none (p ∷ prefix) are =
    let same : n ≡ name = same_Some n name at in
    none p (record { choice = c; at = refl; named = subst (λ m. IsPickNamed c m p) same are.0 })
none_at (c ∷ choices) (n ∷ names) (suc place) name at none (p ∷ prefix) are =
    none_at choices names place name at (λ pick is. none pick (record { choice = is.choice; at = is.at; named = is.named })) prefix are.1
