-- A leaf that uses an entry, which is put behind those before it where it is none of them.
use Rattle.std.specs.Prelude.{◌≡◌, ◌≤◌, ℕ, List}
use Rattle.uhura_veto.specs.State.{State}
use Rattle.uhura_item.specs.declared.limits.TheConstants.{ENTRY}
use Rattle.uhura_shows.specs.Leaf.{LeafReason, LeafShown}
use Rattle.uhura_cert.specs.declared.document.Shared.{Shared}
use Rattle.uhura_cert.specs.declared.document.Reason.{Reason}
use Rattle.uhura_cert.specs.declared.document.Reason.TheVariants as reason
use Rattle.uhura_cert.specs.declared.document.Leaf.{Leaf}
use Rattle.uhura_cert.specs.Document.{IsReasonOf, ArePicks}
use Rattle.uhura_cert.specs.Order.{place_in}
use Rattle.uhura_check.specs.Confirmed.{reason_of}
use Rattle.uhura_proof.specs.Entries.{IsPut}
use Rattle.uhura_proof.specs.Made.{IsSameReason, AreOfPlan}

-- the use of this entry
pub record IsPutFor (old : List Shared) (entry : Shared) (new : List Shared) (place : ℕ)
    : Type 0 where
  pub put : IsPut old entry place new
  pub small : place ≤ ENTRY

abbrev pub IsUseOf : List Shared → Shared → List Shared → Reason → Type 0
IsUseOf old entry new (reason.Denied veto) = ⊥
IsUseOf old entry new (reason.Flow edges) = ⊥
IsUseOf old entry new (reason.Stuck edges) = ⊥
IsUseOf old entry new (reason.Entry place) = IsPutFor old entry new place

-- entries stay for a denial, and one may be put for a use
abbrev pub AreEntriesFor : List Shared → List Shared → Reason → Type 0
AreEntriesFor old new (reason.Denied veto) = new ≡ old
AreEntriesFor old new (reason.Flow edges) = ⊥
AreEntriesFor old new (reason.Stuck edges) = ⊥
AreEntriesFor old new (reason.Entry place) = (entry : Shared) × IsPut old entry place new

-- a reason that shows the same, with its entry
pub record IsReasonMade (state : State) (shown : LeafReason) (old new : List Shared)
    (why : Reason) : Type 0 where
  pub same : IsSameReason shown (reason_of new why)
  pub fits : IsReasonOf (place_in state.plan) state why
  pub entries : AreEntriesFor old new why
  pub of_plan : AreOfPlan state old → AreOfPlan state new

-- a leaf that shows the same, with its entry
pub record IsLeafMade (state : State) (shown : LeafShown) (old new : List Shared)
    (leaf : Leaf) : Type 0 where
  pub same : leaf.prefix ≡ shown.prefix
  pub picks : ArePicks state.plan.choices leaf.prefix
  pub reason : IsReasonMade state shown.reason old new leaf.reason
