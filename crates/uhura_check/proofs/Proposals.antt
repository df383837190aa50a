-- What a proposal fails first.
use Rattle.std.proofs.Common.{◌≡◌, ℕ, ◌+◌, ◌<◌, List, ◌∷◌, ◌++◌, length, None, Some, Option, refl, sym, ap, ◌∙◌, subst, arith}
use Rattle.std.specs.Prelude.{ℤ, All, min, ◌^◌, IfSome, option_map}
use Rattle.std.proofs.lemmas.List.Elements.{All-head}
use Rattle.std.proofs.lemmas.Option.{slice_get_within}
use Rattle.uhura_plan.specs.Sound.{IsSound}
use Rattle.uhura_plan.specs.declared.key.SideKey.{SideKey}
use Rattle.uhura_plan.specs.declared.guard.Literal.{Literal}
use Rattle.uhura_choice.specs.declared.prefix.Pick.{Pick}
use Rattle.uhura_choice.specs.Branch.{IsBranch}
use Rattle.uhura_veto.specs.State.{State}
use Rattle.uhura_command.specs.Script.{commands_of}
use Rattle.uhura_worst.specs.Proposal.{Proposal}
use Rattle.uhura_worst.specs.Cost.{cost}
use Rattle.uhura_worst.specs.WorstCase.{LeavesRanges}
use Rattle.uhura_relax.specs.Schedule.{proposal_with, scheduled_time}
use Rattle.uhura_shows.specs.Shows.{Answer}
use Rattle.uhura_cert.specs.declared.document.Proposal.{Proposal as Stated}
use Rattle.uhura_cert.specs.Document.{Document}
use Rattle.uhura_cert.specs.Items.{to_question, to_picks}
use Rattle.uhura_check.specs.declared.refusal.Code.TheVariants as code
use Rattle.uhura_check.specs.declared.failure.Failure.{Failure}
use Rattle.uhura_check.specs.Confirmed.{proposal_of, answer_of, picks_of}
use Rattle.uhura_check.specs.Conditions.{IsPicked, HasRoom, IsMet}
use Rattle.uhura_check.specs.Conditions as ask
use Rattle.uhura_check.specs.Firsts.{IsFirstNot}
use Rattle.uhura_check.specs.Picks.{IsPickedBy}
use Rattle.uhura_check.specs.Table.{Asked, line_behind, requirements_line, proposal_asks, answer_asks, IsKept}
use Rattle.uhura_check.specs.Failure.{told, IsToldFirst, Tells}
use Rattle.uhura_check.specs.Walked.{IsAnswered}
use Rattle.uhura_check.proofs.Asks.{each-asked}
use Rattle.uhura_check.proofs.Allowances.{side-leaves}
use Rattle.uhura_check.proofs.Confirming.{picks-asked, sides-asked, cost-asked, met-asked}
use Rattle.uhura_check.proofs.Lengths.{question-line, sides-line}
use Rattle.uhura_check.proofs.Telling.{tells-stays, tells-behind, tells-next, tells-head, tells-each}

-- where each side has room, no range left is empty
pub rooms-leave : (state inside : State) (branch : List Pick) (pairs : List (SideKey × ℕ)) (times : ℕ → ℤ) → state ≡ inside → IsSound inside.plan → All (HasRoom state (proposal_with branch pairs times)) pairs → LeavesRanges inside.plan 1 (proposal_with branch pairs times)
rooms-leave state inside branch pairs times view sound rooms d u is =
    side-leaves inside branch pairs times sound (subst (λ (s : State). All (HasRoom s (proposal_with branch pairs times)) pairs) view rooms) d u is

module _ (d : Document) (p : Stated) where
  abbrev q : Proposal
  q = proposal_of d.state.plan p

  abbrev Kept : Asked → Type 0
  Kept = IsKept d.state (answer_of d)

  -- the picks
  pub picks-told : (f : Failure) → (IsPicked d.state q.branch → ⊥) → f.code ≡ code.Pick → f.line ≡ told (line_behind (to_question d)) → IsToldFirst d.state (answer_of d) (proposal_asks d p) f
  unfolding picks-asked sides-asked cost-asked met-asked
  picks-told f never is_code is_told =
      tells-head d.state (answer_of d) (picks-asked d (answer_of d) p) (sides-asked d (answer_of d) p ++ cost-asked d (answer_of d) p ∷ met-asked d (answer_of d) p) f never is_code is_told

  module _ (picked : IsPicked d.state q.branch) where
    -- the sides
    pub room-told : (f : Failure) (i : ℕ) → IsFirstNot (HasRoom d.state q) p.loosening i → f.code ≡ code.Room → f.line ≡ told (line_behind (to_question d ++ to_picks d.state.plan p) + i) → IsToldFirst d.state (answer_of d) (proposal_asks d p) f
    unfolding picks-asked sides-asked cost-asked met-asked
    room-told f i first is_code is_told =
        tells-next d.state (answer_of d) (picks-asked d (answer_of d) p) (sides-asked d (answer_of d) p ++ cost-asked d (answer_of d) p ∷ met-asked d (answer_of d) p) (Some f) picked
        (tells-stays d.state (answer_of d) (sides-asked d (answer_of d) p) (cost-asked d (answer_of d) p ∷ met-asked d (answer_of d) p) f
        (tells-each d.state (answer_of d) (ask.Loosens q) code.Room (line_behind (to_question d ++ to_picks d.state.plan p)) p.loosening i f (λ x. refl) first is_code is_told))

    module _ (rooms : All (HasRoom d.state q) p.loosening) where
      behind-sides : (found : Option Failure) → Tells d.state (answer_of d) (cost-asked d (answer_of d) p ∷ met-asked d (answer_of d) p) found → Tells d.state (answer_of d) (proposal_asks d p) found
      unfolding picks-asked sides-asked cost-asked met-asked
      behind-sides found tells =
          tells-next d.state (answer_of d) (picks-asked d (answer_of d) p) (sides-asked d (answer_of d) p ++ cost-asked d (answer_of d) p ∷ met-asked d (answer_of d) p) found picked
          (tells-behind d.state (answer_of d) (sides-asked d (answer_of d) p) (cost-asked d (answer_of d) p ∷ met-asked d (answer_of d) p) found
          (each-asked d.state (answer_of d) (ask.Loosens q) (line_behind (to_question d ++ to_picks d.state.plan p)) p.loosening rooms) tells)

      -- the cost
      pub cost-told : (f : Failure) → (cost d.state.plan 1 q ≡ p.cost → ⊥) → f.code ≡ code.Cost → f.line ≡ told (line_behind (to_question d)) → IsToldFirst d.state (answer_of d) (proposal_asks d p) f
      unfolding cost-asked
      cost-told f never is_code is_told = behind-sides (Some f) (tells-head d.state (answer_of d) (cost-asked d (answer_of d) p) (met-asked d (answer_of d) p) f never is_code is_told)

      module _ (costs : cost d.state.plan 1 q ≡ p.cost) where
        -- the requirements
        pub met-told : (f : Failure) (i : ℕ) → IsFirstNot (IsMet d.state.plan q) d.state.plan.requirements i → f.code ≡ code.Broken → f.line ≡ told (requirements_line d + i) → IsToldFirst d.state (answer_of d) (proposal_asks d p) f
        unfolding cost-asked met-asked
        met-told f i first is_code is_told =
            behind-sides (Some f)
            (tells-next d.state (answer_of d) (cost-asked d (answer_of d) p) (met-asked d (answer_of d) p) (Some f) costs
            (tells-each d.state (answer_of d) (ask.Meets q) code.Broken (requirements_line d) d.state.plan.requirements i f (λ x. refl) first is_code is_told))

        pub none-told : All (IsMet d.state.plan q) d.state.plan.requirements → Tells d.state (answer_of d) (proposal_asks d p) None
        unfolding cost-asked met-asked
        none-told met =
            behind-sides None
            (tells-next d.state (answer_of d) (cost-asked d (answer_of d) p) (met-asked d (answer_of d) p) None costs
            (each-asked d.state (answer_of d) (ask.Meets q) (requirements_line d) d.state.plan.requirements met))

-- what is so of a state and the branch that literals pick there is so of a document with that state
pub with-state : (d : Document) (p : Stated) (state : State) (branch : List Pick) (C : State → List Pick → Type 0) → d.state ≡ state → branch ≡ picks_of p.picks (length state.plan.choices) → C state branch → C d.state (picks_of p.picks (length d.state.plan.choices))
with-state d p state branch C is picked holding =
    subst (λ (s : State). C s (picks_of p.picks (length s.plan.choices))) (sym is) (subst (λ (b : List Pick). C state b) picked holding)

-- the line of the proposal
pub question-told : (d : Document) (state : State) (line : ℕ) → d.state ≡ state → line ≡ length (commands_of state) + 3 → line < 2 ^ 32 → line ≡ told (line_behind (to_question d))
question-told d state line is same below = omega (arith, same, below, question-line d, ap (λ (s : State). length (commands_of s)) is)

-- a proposal that fails nothing is the answer
pub answered-by : (d : Document) (p : Stated) (state : State) (branch : List Pick) → d.answer ≡ Some p → d.state ≡ state → (given : List Literal) → given ≡ p.picks → IsPickedBy state given branch → Tells d.state (answer_of d) (proposal_asks d p) None →
    IsAnswered d (Some (branch, p.cost))
answered-by d p state branch stated is given listed picked tells =
    let own : branch ≡ (q d p).branch =
    picked.picks_are ∙ ap (λ (ls : List Literal). picks_of ls (length state.plan.choices)) listed ∙ ap (λ (s : State). picks_of p.picks (length s.plan.choices)) (sym is) in
    record {
      is_stated = ap (λ (b : List Pick). Some (b, p.cost)) own ∙ ap (λ (a : Option Stated). option_map (λ (s : Stated). ((proposal_of d.state.plan s).branch, s.cost)) a) (sym stated);
      kept = subst (λ (a : Option Stated). All (IsKept d.state (answer_of d)) (answer_asks d a)) (sym stated) tells;
    }

-- what has been found of a state, which shows what is inside, and of a branch is so of the document
module _ (d : Document) (p : Stated) (state inside : State) (branch : List Pick) (is : d.state ≡ state) (view : state ≡ inside) (picked : IsPickedBy state p.picks branch) where
  inside-picks : branch ≡ picks_of p.picks (length inside.plan.choices)
  inside-picks = picked.picks_are ∙ ap (λ (s : State). picks_of p.picks (length s.plan.choices)) view

  pub picked-of : IsPicked d.state (q d p).branch
  picked-of = with-state d p state branch (λ s b. IsPicked s b) is picked.picks_are picked.picked

  pub room-of : (i : ℕ) → ((times : ℕ → ℤ) → IsFirstNot (HasRoom state (proposal_with branch p.loosening times)) p.loosening i) → IsFirstNot (HasRoom d.state (q d p)) p.loosening i
  room-of i first = with-state d p state branch (λ s b. IsFirstNot (HasRoom s (proposal_with b p.loosening (scheduled_time p.times))) p.loosening i) is picked.picks_are (first (scheduled_time p.times))

  pub rooms-of : ((times : ℕ → ℤ) → All (HasRoom state (proposal_with branch p.loosening times)) p.loosening) → All (HasRoom d.state (q d p)) p.loosening
  rooms-of rooms = with-state d p state branch (λ s b. All (HasRoom s (proposal_with b p.loosening (scheduled_time p.times))) p.loosening) is picked.picks_are (rooms (scheduled_time p.times))

  pub cost-of : (found : ℕ) → ((times : ℕ → ℤ) → found ≡ cost inside.plan 1 (proposal_with branch p.loosening times)) → found ≡ cost d.state.plan 1 (q d p)
  cost-of found costs = with-state d p inside branch (λ s b. found ≡ cost s.plan 1 (proposal_with b p.loosening (scheduled_time p.times))) (is ∙ view) inside-picks (costs (scheduled_time p.times))

  module _ (times : List ℕ) (listed : times ≡ p.times) where
    pub first-of : (i : ℕ) → IsFirstNot (IsMet inside.plan (proposal_with branch p.loosening (scheduled_time times))) inside.plan.requirements i → IsFirstNot (IsMet d.state.plan (q d p)) d.state.plan.requirements i
    first-of i first =
        with-state d p inside branch (λ s b. IsFirstNot (IsMet s.plan (proposal_with b p.loosening (scheduled_time p.times))) s.plan.requirements i) (is ∙ view) inside-picks
        (subst (λ (ts : List ℕ). IsFirstNot (IsMet inside.plan (proposal_with branch p.loosening (scheduled_time ts))) inside.plan.requirements i) listed first)

    pub met-of : All (IsMet inside.plan (proposal_with branch p.loosening (scheduled_time times))) inside.plan.requirements → All (IsMet d.state.plan (q d p)) d.state.plan.requirements
    met-of met =
        with-state d p inside branch (λ s b. All (IsMet s.plan (proposal_with b p.loosening (scheduled_time p.times))) s.plan.requirements) (is ∙ view) inside-picks
        (subst (λ (ts : List ℕ). All (IsMet inside.plan (proposal_with branch p.loosening (scheduled_time ts))) inside.plan.requirements) listed met)

  -- the lines
  pub side-line : (line picks place : ℕ) → line ≡ min 4294967295 (length (commands_of state) + 3 + 1 + picks + place) → picks ≡ length p.picks → line ≡ told (line_behind (to_question d ++ to_picks d.state.plan p) + place)
  side-line line picks place same long = omega (arith, same, long, sides-line d p, ap (λ (s : State). length (commands_of s)) is)

  pub requirement-line : (line place : ℕ) → line ≡ 2 + length inside.plan.events + length inside.plan.uncertains + length inside.plan.choices + place → line < 2 ^ 32 → line ≡ told (requirements_line d + place)
  requirement-line line place same below = omega (
    arith,
    same,
    below,
    ap (λ (s : State). length s.plan.events) (is ∙ view),
    ap (λ (s : State). length s.plan.uncertains) (is ∙ view),
    ap (λ (s : State). length s.plan.choices) (is ∙ view),
  )

-- the place of what fails first is one of the list
pub first-within : {A : Type 0} (IsSo : A → Type 0) (xs : List A) (i : ℕ) → IsFirstNot IsSo xs i → i < length xs
first-within IsSo xs i first = slice_get_within xs i first.thing first.there

-- the picks of a proposal that fails nothing are those of a branch
picked-first : (d : Document) (p : Stated) → All (IsKept d.state (answer_of d)) (proposal_asks d p) → IsPicked d.state (q d p).branch
unfolding picks-asked sides-asked cost-asked met-asked
picked-first d p kept = All-head (IsKept d.state (answer_of d)) (picks-asked d (answer_of d) p) (sides-asked d (answer_of d) p ++ cost-asked d (answer_of d) p ∷ met-asked d (answer_of d) p) kept

-- the branch of an answer is one
abbrev HasBranch : Document → Answer → Type 0
HasBranch d answer = IfSome answer (λ a. IsBranch d.state.plan.choices a.0)

pub answered-branch : (d : Document) (answer : Answer) → IsAnswered d answer → HasBranch d answer
answered-branch d answer is = subst (λ (a : Answer). HasBranch d a) (sym is.is_stated) (by d.answer is.kept)
  where
    by : (given : Option Stated) → All (IsKept d.state (answer_of d)) (answer_asks d given) → HasBranch d (option_map (λ (s : Stated). ((proposal_of d.state.plan s).branch, s.cost)) given)
    by None kept = tt
    by (Some p) kept = (picked-first d p kept).branch
