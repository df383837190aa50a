-- A document is confirmed exactly where none of its conditions fails.
use Rattle.std.proofs.Common.{◌≢◌, ℕ, zero, suc, length, List, [], ◌∷◌, ◌++◌, None, Some, Option}
use Rattle.std.specs.Prelude.{All, AllPairs, IfSome, slice_get}
use Rattle.std.specs.Option.{option_map_or}
use Rattle.std.specs.List.{AllByRecursion}
use Rattle.std.proofs.lemmas.List.Elements.{All-nil, All-cons, All-head, All-tail, All-append}
use Rattle.uhura_plan.specs.declared.key.EdgeKey.{EdgeKey}
use Rattle.uhura_plan.specs.Lists.{Lists}
use Rattle.uhura_plan.specs.Sound.{IsSound}
use Rattle.uhura_worst.specs.Proposal.{Proposal}
use Rattle.uhura_shows.specs.Leaf.{Stuck}
use Rattle.uhura_shows.specs.Shows.{Answer}
use Rattle.uhura_shows.proofs.Lists.{All-left, All-right}
use Rattle.uhura_cert.specs.declared.document.Proposal.{Proposal as Stated}
use Rattle.uhura_cert.specs.declared.document.Shared.{Shared}
use Rattle.uhura_cert.specs.declared.document.Shared.TheVariants as shared
use Rattle.uhura_cert.specs.declared.document.Reason.{Reason}
use Rattle.uhura_cert.specs.declared.document.Reason.TheVariants as reason
use Rattle.uhura_cert.specs.declared.document.Leaf.{Leaf}
use Rattle.uhura_cert.specs.Order.{place_in, edge_place}
use Rattle.uhura_cert.specs.Document.{Document, IsDocument, FitsPlan, IsReasonOf, IsLeaf, IsShared, AreShared, AreEdgeUnits}
use Rattle.uhura_cert.specs.Items.{to_question, to_picks, to_shared, to_leaves}
use Rattle.uhura_check.specs.Confirmed.{proposal_of, answer_of, entry_reason, reason_of, IsGood, Confirmed}
use Rattle.uhura_check.specs.Conditions.{HasRoom, IsMet, CoversAll}
use Rattle.uhura_check.specs.Conditions as ask
use Rattle.uhura_check.specs.Table.{Asked, each_line, line_behind, requirements_line, proposal_asks, answer_asks, leaves_asks, document_prefixes, IsKept, NoneFails}
use Rattle.uhura_check.proofs.Asks.{HasOnce, each-kept, each-asked}
use Rattle.uhura_check.proofs.LeafAsks.{HasOnceIn, leaves-turn, leaves-shown, leaves-asked, turn-whole, whole-of_each, each-of_whole}
use Rattle.uhura_check.proofs.Turns.{AreInTurn, turns-cover, cover-turns, cover-all}
use Rattle.uhura_check.proofs.Sides.{rises-once}
use Rattle.uhura_check.proofs.Allowances.{asked-allowed, allowed-met, allowed-rooms}

-- ---- what a document shows has units on each edge at most once

units-once : (plan : Lists) (edges : List (EdgeKey × ℕ)) → AreEdgeUnits (place_in plan) plan edges → AllPairs (λ a b. a.0 ≢ b.0) edges
units-once plan edges units = rises-once (λ (e : EdgeKey × ℕ). e.0) (edge_place (place_in plan)) 0 edges units.in_order

entry-once : (plan : Lists) (entry : Shared) → IsShared (place_in plan) plan entry → HasOnce (entry_reason entry)
entry-once plan (shared.Flow edges) is = units-once plan edges is
entry-once plan (shared.Stuck edges) is = tt

used-once : (plan : Lists) (version : ℕ) (entries : List Shared) (entry : ℕ) → AreShared (place_in plan) version plan entries → HasOnce (option_map_or entry_reason (slice_get entries entry) (Stuck []))
used-once plan version [] entry are = tt
used-once plan version (e ∷ entries) zero are = entry-once plan e are.0.1
used-once plan version (e ∷ entries) (suc entry) are = used-once plan version entries entry are.1

reason-once : (d : Document) (given : Reason) → AreShared (place_in d.state.plan) d.version d.state.plan d.shared → IsReasonOf (place_in d.state.plan) d.state given → HasOnce (reason_of d.shared given)
reason-once d (reason.Denied veto) are is = tt
reason-once d (reason.Flow edges) are is = units-once d.state.plan edges is
reason-once d (reason.Stuck edges) are is = tt
reason-once d (reason.Entry entry) are is = used-once d.state.plan d.version d.shared entry are

pub leaves-once : (d : Document) (leaves : List Leaf) → AreShared (place_in d.state.plan) d.version d.state.plan d.shared → AllByRecursion (IsLeaf (place_in d.state.plan) d.version d.state (length d.shared)) leaves → All (HasOnceIn d) leaves
leaves-once d [] are fit = All-nil (HasOnceIn d)
leaves-once d (leaf ∷ leaves) are fit = All-cons (HasOnceIn d) leaf leaves (reason-once d leaf.reason are fit.0.reason) (leaves-once d leaves are fit.1)

-- ---- the proposal

module _ (d : Document) (answer : Answer) (p : Stated) where
  unfoldable pub picks-asked : Asked
  picks-asked = record { condition = ask.Picks (proposal_of d.state.plan p); line = line_behind (to_question d) }

  unfoldable pub sides-asked : List Asked
  sides-asked = each_line (ask.Loosens (proposal_of d.state.plan p)) (line_behind (to_question d ++ to_picks d.state.plan p)) p.loosening

  unfoldable pub cost-asked : Asked
  cost-asked = record { condition = ask.Cost (proposal_of d.state.plan p) p.cost; line = line_behind (to_question d) }

  unfoldable pub met-asked : List Asked
  met-asked = each_line (ask.Meets (proposal_of d.state.plan p)) (requirements_line d) d.state.plan.requirements

  pub asked-good : IsSound d.state.plan → All (IsKept d.state answer) (proposal_asks d p) → IsGood d p
  unfolding picks-asked sides-asked cost-asked met-asked
  asked-good sound all =
      let Kept : Asked → Type 0 = IsKept d.state answer in
      let behind : All Kept (sides-asked ++ cost-asked ∷ met-asked) = All-tail Kept picks-asked (sides-asked ++ cost-asked ∷ met-asked) all in
      let sides : All (HasRoom d.state (proposal_of d.state.plan p)) p.loosening =
      each-kept d.state answer (ask.Loosens (proposal_of d.state.plan p)) (line_behind (to_question d ++ to_picks d.state.plan p)) p.loosening (All-left Kept sides-asked (cost-asked ∷ met-asked) behind) in
      let rest : All Kept (cost-asked ∷ met-asked) = All-right Kept sides-asked (cost-asked ∷ met-asked) behind in
      let met : All (IsMet d.state.plan (proposal_of d.state.plan p)) d.state.plan.requirements =
      each-kept d.state answer (ask.Meets (proposal_of d.state.plan p)) (requirements_line d) d.state.plan.requirements (All-tail Kept cost-asked met-asked rest) in
      record {
        allowed =
            asked-allowed d.state (proposal_of d.state.plan p).branch p.loosening (proposal_of d.state.plan p).times sound
            (All-head Kept picks-asked (sides-asked ++ cost-asked ∷ met-asked) all) sides met;
        cost = All-head Kept cost-asked met-asked rest;
      }

  -- and the other way
  pub good-asked : FitsPlan (place_in d.state.plan) d.state.plan p → IsGood d p → All (IsKept d.state answer) (proposal_asks d p)
  unfolding picks-asked sides-asked cost-asked met-asked
  good-asked fits good =
      let Kept : Asked → Type 0 = IsKept d.state answer in
      let q : Proposal = proposal_of d.state.plan p in
      All-cons Kept picks-asked (sides-asked ++ cost-asked ∷ met-asked) (record { branch = good.allowed.branch; not_denied = good.allowed.not_denied })
      (All-append Kept sides-asked (cost-asked ∷ met-asked)
      (each-asked d.state answer (ask.Loosens q) (line_behind (to_question d ++ to_picks d.state.plan p)) p.loosening (allowed-rooms d.state q.branch p.loosening q.times good.allowed fits.sides))
      (All-cons Kept cost-asked met-asked good.cost
      (each-asked d.state answer (ask.Meets q) (requirements_line d) d.state.plan.requirements (allowed-met d.state q.branch p.loosening q.times good.allowed))))

-- ---- the whole

module _ (d : Document) where
  unfoldable pub last-asked : Asked
  last-asked = record { condition = ask.All (document_prefixes d); line = line_behind (to_leaves d) }

  unfoldable pub leaves-all : List Asked
  leaves-all = leaves_asks d [] (line_behind (to_shared d)) d.leaves

  good-of : IsSound d.state.plan → (answer : Option Stated) → All (IsKept d.state (answer_of d)) (answer_asks d answer) → IfSome answer (IsGood d)
  good-of sound None all = tt
  good-of sound (Some p) all = asked-good d (answer_of d) p sound all

  pub none-confirmed : IsDocument d → NoneFails d → Confirmed d
  unfolding last-asked leaves-all
  none-confirmed document all =
      let Kept : Asked → Type 0 = IsKept d.state (answer_of d) in
      let behind : All Kept (leaves-all ++ last-asked ∷ []) = All-right Kept (answer_asks d d.answer) (leaves-all ++ last-asked ∷ []) all in
      let leaves : All Kept leaves-all = All-left Kept leaves-all (last-asked ∷ []) behind in
      let turn : AreInTurn d.state.plan.choices (answer_of d) [] (document_prefixes d) = leaves-turn d (answer_of d) [] (line_behind (to_shared d)) d.leaves leaves in
      record {
        shows = record {
          cover = turns-cover d.state.plan document.state.plan (answer_of d) (document_prefixes d) turn (All-head Kept last-asked [] (All-right Kept leaves-all (last-asked ∷ []) behind));
          reasons = leaves-shown d (answer_of d) [] (line_behind (to_shared d)) d.leaves (leaves-once d d.leaves document.parts.shared document.parts.leaves) leaves;
          whole = whole-of_each (answer_of d) (document_prefixes d) (turn-whole d.state.plan (answer_of d) [] (document_prefixes d) turn);
        };
        good = good-of document.state.plan d.answer (All-left Kept (answer_asks d d.answer) (leaves-all ++ last-asked ∷ []) all);
      }

  asked-of : (answer : Option Stated) → IfSome answer (FitsPlan (place_in d.state.plan) d.state.plan) → IfSome answer (IsGood d) → All (IsKept d.state (answer_of d)) (answer_asks d answer)
  asked-of None fits good = All-nil (IsKept d.state (answer_of d))
  asked-of (Some p) fits good = good-asked d (answer_of d) p fits good

  pub confirmed-none_fails : IsDocument d → Confirmed d → NoneFails d
  unfolding last-asked leaves-all
  confirmed-none_fails document confirmed =
      let Kept : Asked → Type 0 = IsKept d.state (answer_of d) in
      let turn : AreInTurn d.state.plan.choices (answer_of d) [] (document_prefixes d) =
      cover-turns d.state.plan document.state.plan (answer_of d) (document_prefixes d) confirmed.shows.cover (each-of_whole (answer_of d) (document_prefixes d) confirmed.shows.whole) in
      All-append Kept (answer_asks d d.answer) (leaves-all ++ last-asked ∷ []) (asked-of d.answer document.parts.answer confirmed.good)
      (All-append Kept leaves-all (last-asked ∷ []) (leaves-asked d (answer_of d) [] (line_behind (to_shared d)) d.leaves turn confirmed.shows.reasons)
      (All-cons Kept last-asked [] (cover-all d.state.plan.choices (document_prefixes d) confirmed.shows.cover) (All-nil Kept)))
