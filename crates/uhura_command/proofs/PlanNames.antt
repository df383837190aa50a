-- The names that the commands of a sound plan hold are names.
use Rattle.std.proofs.Common.{◌≡◌, ◌≢◌, ℕ, ◌<◌, true, false, ◌&&◌, List, [], ◌∷◌, length, take, Option, Some, None, slice_get, All, IsSomeAnd, codes, refl, sym, ap, ◌∙◌, arith, true≢false}
use Rattle.std.specs.Option.{option_map_or}
use Rattle.std.proofs.lemmas.Option.{slice_get-get_or}
use Rattle.std.proofs.lemmas.List.{length-map}
use Rattle.std.proofs.lemmas.List.Elements.{All-map, All-head, All-tail, All-weaker}
use Rattle.uhura_plan.specs.declared.key.EventRef.{EventRef}
use Rattle.uhura_plan.specs.declared.key.EventRef.TheVariants.{Controllable, End}
use Rattle.uhura_plan.specs.declared.guard.Literal.{Literal}
use Rattle.uhura_plan.specs.declared.choice.Choice.{Choice}
use Rattle.uhura_plan.specs.Name.{is_name, is_fixed_word, is_letter, is_name_byte}
use Rattle.uhura_plan.specs.Lists.{Lists, end_names, alternative_names}
use Rattle.uhura_plan.specs.Sound.{IsName, IsSound, IsSoundChoice, IsSoundUncertain, IsEventAmong, IsLiteralAmong}
use Rattle.uhura_line.specs.Reads.{are_names}
use Rattle.uhura_command.proofs.Beginnings.{slice_get-take}
use Rattle.uhura_command.specs.Script.{name_at, event_name, literal_names, guard_names}

-- the name at a place of names is a name
pub place_named : (names : List (List ℕ)) (place : ℕ) → All IsName names → place < length names → IsName (name_at names place)
place_named names place named within = rw (slice_get-get_or names place [] within) (named place [] within)

-- the name of an event of a sound plan is a name
pub event_named : (plan : Lists) (event : EventRef) → IsSound plan → IsEventAmong (length plan.events) (length plan.uncertains) event → IsName (event_name plan event)
event_named plan (Controllable event) sound among = place_named plan.events event sound.events among
event_named plan (End duration) sound among =
    let ends : All IsName (end_names plan.uncertains) =
    All-map IsName (λ u. u.end) plan.uncertains (All-weaker (IsSoundUncertain (length plan.events)) (λ u. IsName u.end) (λ u s. s.end) plan.uncertains sound.uncertains) in
    place_named (end_names plan.uncertains) duration ends (omega (arith, among, length-map plan.uncertains (λ u. u.end)))

-- both names of a literal are names
abbrev AreNamed : List ℕ × List ℕ → Type 0
AreNamed names = (is_name names.0 && is_name names.1) ≡ true

-- each choice is sound
abbrev AreSoundChoices : List Choice → Type 0
AreSoundChoices choices = (place : ℕ) (choice : Choice) → slice_get choices place ≡ Some choice → IsSoundChoice (take place choices) choice

literal_named : (choices : List Choice) (literal : Literal) → AreSoundChoices choices → IsLiteralAmong choices literal → AreNamed (literal_names choices literal)
literal_named choices literal sound among = by (slice_get choices literal.choice) refl among
  where
    by : (found : Option Choice) → slice_get choices literal.choice ≡ found → IsSomeAnd found (λ c. literal.alternative < length c.alternatives)
        → AreNamed (option_map_or (λ c. (c.name, name_at (alternative_names c) literal.alternative)) found ([], []))
    by None at there = absurd there
    by (Some c) at there =
        let s = sound literal.choice c at in
        let named = place_named (alternative_names c) literal.alternative s.names (omega (arith, there, length-map c.alternatives (λ a. a.0))) in
        rw (s.name, named) refl

-- so are the names of a guard
pub guard_named : (choices : List Choice) (guard : List Literal) → AreSoundChoices choices → All (IsLiteralAmong choices) guard → are_names (guard_names choices guard) ≡ true
guard_named choices [] sound among = refl
guard_named choices (literal ∷ guard) sound among =
    rw (literal_named choices literal sound (All-head (IsLiteralAmong choices) literal guard among)) (guard_named choices guard sound (All-tail (IsLiteralAmong choices) literal guard among))

-- ---- a choice's guard is about earlier choices, which are choices of the plan

among_all : (choices : List Choice) (place : ℕ) (literal : Literal) → IsLiteralAmong (take place choices) literal → IsLiteralAmong choices literal
among_all choices place literal among = by (slice_get (take place choices) literal.choice) refl among
  where
    by : (found : Option Choice) → slice_get (take place choices) literal.choice ≡ found → IsSomeAnd found (λ c. literal.alternative < length c.alternatives) → IsLiteralAmong choices literal
    by None at there = absurd there
    by (Some c) at there = rw (slice_get-take choices place literal.choice c at) there

-- so is a guard of literals
pub literals_among_all : (choices : List Choice) (place : ℕ) (guard : List Literal) → All (IsLiteralAmong (take place choices)) guard → All (IsLiteralAmong choices) guard
literals_among_all choices place guard among = All-weaker (IsLiteralAmong (take place choices)) (IsLiteralAmong choices) (among_all choices place) guard among

-- ---- a name is not `when`

pub name_not_when : (word : List ℕ) → IsName word → word ≢ codes "when"
unfolding is_name is_fixed_word is_letter is_name_byte
name_not_when word named same =
    let no : is_name (codes "when") ≡ false = refl in
    true≢false (sym named ∙ (ap is_name same ∙ no))
