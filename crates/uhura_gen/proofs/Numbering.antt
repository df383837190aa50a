-- What stands where in a plan whose names are numbered, and that one more item keeps them so.
use Rattle.std.proofs.Common.{◌≡◌, ℕ, zero, suc, ◌+◌, ◌<◌, ◌≤◌, List, [], ◌∷◌, ◌++◌, length, map, get_or, None, Some, option_map, option_and_then, refl, ap, sym, ◌∙◌, arith, Contains}
use Rattle.std.specs.List.{range_with_len}
use Rattle.std.proofs.lemmas.List.{length_push, map_push}
use Rattle.std.proofs.lemmas.List.Elements.{All-push}
use Rattle.std.proofs.lemmas.List.FromFn.{length-map-range_with_len, map-range_with_len_more, length-range_with_len, get_or-range_with_len}
use Rattle.std.proofs.lemmas.Option.{slice_get-get_or}
use Rattle.uhura_plan.specs.declared.key.EventRef.TheVariants.{Controllable, End}
use Rattle.uhura_plan.specs.declared.requirement.Requirement.{Requirement}
use Rattle.uhura_plan.specs.Lists.{Lists, alternative_names, slots}
use Rattle.uhura_plan.specs.Find.{place_of, find_event, uncertain_named, choice_named, alternative_named, literal_named}
use Rattle.uhura_plan.specs.Edits.{IsLeastFree, with_uncertain, with_choice, with_requirement}
use Rattle.uhura_gen.specs.Names.{up_to, event_name, duration_name, end_name, choice_name, alternative_name, first_names}
use Rattle.uhura_gen.specs.Items.{duration, choice}
use Rattle.uhura_gen.specs.Generator.{plan_of_events}
use Rattle.uhura_gen.specs.Numbered.{IsNumbered}
use Rattle.uhura_gen.proofs.Adding.{event_unknown, event_at, end_at}
use Rattle.uhura_gen.proofs.Naming.{event_family, duration_family, end_family, choice_family, alternative_family, other_letter, place_of-first, no_first, no_next, no_place}

-- one more name, where the names are the first ones
pub first_names_more : (name : ℕ → List ℕ) (n : ℕ) → first_names name (n + 1) ≡ first_names name n ++ name n ∷ []
first_names_more name n = map-range_with_len_more name 0 n n (omega arith)

-- one more item, named by its place
pub numbered_push : {X : Type 0} (name : ℕ → List ℕ) (name_of : X → List ℕ) (items : List X) (item : X) → map name_of items ≡ first_names name (length items) → name_of item ≡ name (length items)
    → map name_of (items ++ item ∷ []) ≡ first_names name (length (items ++ item ∷ []))
numbered_push name name_of items item before is =
    map_push name_of items item
    ∙ (ap (λ names. names ++ name_of item ∷ []) before
    ∙ (ap (λ n. first_names name (length items) ++ n ∷ []) is
    ∙ (sym (first_names_more name (length items))
    ∙ ap (first_names name) (sym (length_push items item)))))

-- one more number
range_more : (a n : ℕ) → range_with_len a (suc n) ≡ range_with_len a n ++ (a + n) ∷ []
range_more a zero = ap (λ k. k ∷ []) (omega arith)
range_more a (suc n) = let same : a + 1 + n ≡ a + suc n = omega arith in ap (λ l. a ∷ l) (range_more (a + 1) n) ∙ ap (λ k. a ∷ (range_with_len (a + 1) n ++ k ∷ [])) same

pub up_to_more : (n : ℕ) → up_to (n + 1) ≡ up_to n ++ n ∷ []
up_to_more n = let next : n + 1 ≡ suc n = omega arith in ap up_to next ∙ (range_more 0 n ∙ ap (λ k. up_to n ++ k ∷ []) (omega arith))

-- the least free slot behind the first ones is the next
pub least_slot : (requirements : List Requirement) (n slot : ℕ) → slots requirements ≡ up_to n → IsLeastFree requirements slot → slot ≡ n
least_slot requirements n slot are free =
    let count : length (slots requirements) ≡ n = ap length are ∙ length-range_with_len 0 n in
    let not_below : slot < n → ⊥ =
    λ below. free.free (slot, omega (arith, count, below), ap (λ l. get_or l slot slot) are ∙ (get_or-range_with_len 0 n slot slot below ∙ omega arith)) in
    let not_above : n < slot → ⊥ = λ above. passed (free.least n above) in
    omega (arith, not_below, not_above)
  where
    passed : Contains (slots requirements) n → ⊥
    passed there =
        let below : there.0 < n = omega (arith, ap length are, length-range_with_len 0 n, there.1) in
        let value : 0 + there.0 ≡ n = sym (get_or-range_with_len 0 n there.0 n below) ∙ (ap (λ l. get_or l there.0 n) (sym are) ∙ there.2) in
        omega (arith, value, below)

-- the plan of events alone is numbered
pub numbered_events : (count : ℕ) → IsNumbered (plan_of_events count)
numbered_events count = record {
  events = ap (first_names event_name) (sym (length-map-range_with_len event_name 0 count));
  durations = refl;
  ends = refl;
  choices = refl;
  alternatives = λ k d within. absurd (omega (arith, within));
  slots = refl;
}

-- one more duration
pub numbered_duration : (plan : Lists) (x place : ℕ) → IsNumbered plan → length plan.uncertains ≡ place → IsNumbered (with_uncertain plan (duration x place))
numbered_duration plan x place numbered is = record {
  events = numbered.events;
  durations = numbered_push duration_name (λ u. u.name) plan.uncertains (duration x place) numbered.durations (ap duration_name (sym is));
  ends = numbered_push end_name (λ u. u.end) plan.uncertains (duration x place) numbered.ends (ap end_name (sym is));
  choices = numbered.choices;
  alternatives = numbered.alternatives;
  slots = numbered.slots;
}

-- one more choice
pub numbered_choice : (plan : Lists) (x place : ℕ) → IsNumbered plan → length plan.choices ≡ place → IsNumbered (with_choice plan (choice x place))
numbered_choice plan x place numbered is = record {
  events = numbered.events;
  durations = numbered.durations;
  ends = numbered.ends;
  choices = numbered_push choice_name (λ c. c.name) plan.choices (choice x place) numbered.choices (ap choice_name (sym is));
  alternatives = All-push (λ c. alternative_names c ≡ first_names alternative_name 3) plan.choices (choice x place) numbered.alternatives refl;
  slots = numbered.slots;
}

-- one more requirement, in the next slot
pub numbered_requirement : (plan : Lists) (made : Requirement) → IsNumbered plan → made.slot ≡ length plan.requirements → IsNumbered (with_requirement plan made)
numbered_requirement plan made numbered is = record {
  events = numbered.events;
  durations = numbered.durations;
  ends = numbered.ends;
  choices = numbered.choices;
  alternatives = numbered.alternatives;
  slots =
      map_push (λ r. r.slot) plan.requirements made
      ∙ (ap (λ l. l ++ made.slot ∷ []) numbered.slots
      ∙ (ap (λ k. up_to (length plan.requirements) ++ k ∷ []) is
      ∙ (sym (up_to_more (length plan.requirements))
      ∙ ap up_to (sym (length_push plan.requirements made)))));
}

-- where the controllable events stand
pub find_numbered_event : (plan : Lists) (place : ℕ) → IsNumbered plan → place < length plan.events → length plan.events ≤ 256 → find_event plan (event_name place) ≡ Some (Controllable place)
find_numbered_event plan place numbered below few =
    event_at plan (event_name place) place
    (ap (λ names. place_of names (event_name place)) numbered.events ∙ place_of-first event_name place (length plan.events) event_family below (omega (arith, few)))

-- no controllable event is named as an end
no_event_of_end : (plan : Lists) (place : ℕ) → IsNumbered plan → place_of plan.events (end_name place) ≡ None
no_event_of_end plan place numbered =
    ap (λ names. place_of names (end_name place)) numbered.events
    ∙ no_place (first_names event_name (length plan.events)) (end_name place) (no_first event_name (length plan.events) (end_name place) (λ k below. other_letter (end_name place) (event_name k) (λ same. let one : 102 ≡ 101 = same in omega (arith, one))))

-- where the ends stand
pub find_numbered_end : (plan : Lists) (place : ℕ) → IsNumbered plan → place < length plan.uncertains → length plan.uncertains ≤ 256 → find_event plan (end_name place) ≡ Some (End place)
find_numbered_end plan place numbered below few =
    end_at plan (end_name place) place (no_event_of_end plan place numbered)
    (ap (λ names. place_of names (end_name place)) numbered.ends ∙ place_of-first end_name place (length plan.uncertains) end_family below (omega (arith, few)))

-- the next end is new
pub next_end_unknown : (plan : Lists) (place : ℕ) → IsNumbered plan → length plan.uncertains ≡ place → place < 256 → find_event plan (end_name place) ≡ None
next_end_unknown plan place numbered is few =
    event_unknown plan (end_name place) (no_event_of_end plan place numbered)
    (ap (λ names. place_of names (end_name place)) (numbered.ends ∙ ap (first_names end_name) is) ∙ no_place (first_names end_name place) (end_name place) (no_next end_name place end_family (omega (arith, few))))

-- so are the next controllable event, the next duration and the next choice
pub next_event_unknown : (place : ℕ) → place < 256 → find_event (plan_of_events place) (event_name place) ≡ None
next_event_unknown place few =
    event_unknown (plan_of_events place) (event_name place) (no_place (first_names event_name place) (event_name place) (no_next event_name place event_family (omega (arith, few)))) refl

pub next_duration_unknown : (plan : Lists) (place : ℕ) → IsNumbered plan → length plan.uncertains ≡ place → place < 256 → uncertain_named plan (duration_name place) ≡ None
next_duration_unknown plan place numbered is few =
    ap (λ names. place_of names (duration_name place)) (numbered.durations ∙ ap (first_names duration_name) is) ∙ no_place (first_names duration_name place) (duration_name place) (no_next duration_name place duration_family (omega (arith, few)))

pub next_choice_unknown : (plan : Lists) (place : ℕ) → IsNumbered plan → length plan.choices ≡ place → place < 256 → choice_named plan (choice_name place) ≡ None
next_choice_unknown plan place numbered is few =
    ap (λ names. place_of names (choice_name place)) (numbered.choices ∙ ap (first_names choice_name) is) ∙ no_place (first_names choice_name place) (choice_name place) (no_next choice_name place choice_family (omega (arith, few)))

-- where the choices stand
pub find_numbered_choice : (plan : Lists) (place : ℕ) → IsNumbered plan → place < length plan.choices → length plan.choices ≤ 256 → choice_named plan (choice_name place) ≡ Some place
find_numbered_choice plan place numbered below few =
    ap (λ names. place_of names (choice_name place)) numbered.choices ∙ place_of-first choice_name place (length plan.choices) choice_family below (omega (arith, few))

-- and their alternatives
pub find_numbered_literal : (plan : Lists) (place pick : ℕ) → IsNumbered plan → place < length plan.choices → length plan.choices ≤ 256 → pick < 3
    → literal_named plan (choice_name place, alternative_name pick) ≡ Some (record { choice = place; alternative = pick })
find_numbered_literal plan place pick numbered below few small =
    let there : alternative_named plan place (alternative_name pick) ≡ Some pick =
    ap (option_and_then (λ c. place_of (alternative_names c) (alternative_name pick))) (slice_get-get_or plan.choices place (choice 0 0) below)
    ∙ (ap (λ names. place_of names (alternative_name pick)) (numbered.alternatives place (choice 0 0) below)
    ∙ place_of-first alternative_name pick 3 alternative_family small (omega arith)) in
    ap (option_and_then (λ c. option_map (λ a. record { choice = c; alternative = a }) (alternative_named plan c (alternative_name pick)))) (find_numbered_choice plan place numbered below few)
    ∙ ap (option_map (λ a. record { choice = place; alternative = a })) there
