-- What the entries of a block of keys have in common.
use Rattle.std.specs.Prelude.{ℕ, ◌/◌, ◌<◌, ◌≤ℤ◌, IsTrue, IsFalse, IfSome, List, length, Option, None, Some, slice_index_or}
use Rattle.slab.specs.Slab.{Slab, get, Updates}
use Rattle.uhura_plan.specs.declared.guard.Literal.{Literal}
use Rattle.uhura_choice.specs.declared.prefix.Pick.{Pick}
use Rattle.uhura_conflict.specs.declared.entry.Entry.{Entry}
use Rattle.uhura_conflict.specs.declared.summary.Summary.{Summary}
use Rattle.uhura_conflict.specs.declared.summaries.Summaries.{Summaries}
use Rattle.uhura_conflict.specs.declared.summaries.TheConstants.{BLOCK, GROUP}
use Rattle.uhura_conflict.specs.declared.sought.Sought.{Sought}
use Rattle.uhura_conflict.specs.Literals.{Asks, Applies}
use Rattle.uhura_conflict.specs.Entries.{is_sought}

-- an entry is one of those that a summary tells of: it has all its literals, is a firm cycle only where one may be, and
-- is worth no more than the greatest
pub record Covers (summary : Summary) (entry : Entry) : Type 0 where
  pub literals : (literal : Literal) → Asks summary.literals literal →
      Asks entry.conflict.literals literal
  pub stuck : IsTrue entry.conflict.stuck → IsTrue summary.stuck
  pub greatest : entry.value ≤ℤ summary.greatest

-- a block without a summary has no entry
abbrev pub IsCoveredBy : Option Summary → Entry → Type 0
IsCoveredBy None entry = ⊥
IsCoveredBy (Some summary) entry = Covers summary entry

-- each entry is covered by the summary of its block, of so many keys
abbrev pub AreCovered : ℕ → List (Option Summary) → Slab Entry → Type 0
AreCovered size blocks entries = (key : ℕ) →
    IfSome (get entries key) (IsCoveredBy (slice_index_or blocks (key / size) None))

-- the summaries cover the entries, by groups and by blocks
pub record AreSummed (summaries : Summaries) (entries : Slab Entry) : Type 0 where
  pub groups : AreCovered GROUP summaries.groups.items entries
  pub blocks : AreCovered BLOCK summaries.blocks.items entries

-- what the one covers, the other covers
abbrev pub CoverNoFewer : Summaries → Summaries → Type 0
CoverNoFewer old new = (entries : Slab Entry) → AreSummed old entries → AreSummed new entries

-- the other covers it also once this entry comes under the key
abbrev pub TakeIn : Summaries → Summaries → ℕ → Entry → Type 0
TakeIn old new key entry = (before after : Slab Entry) → Updates before after key (Some entry) →
    AreSummed old before → AreSummed new after

-- the key has its block among so many, of so many keys
abbrev pub IsInRange : ℕ → List (Option Summary) → ℕ → Type 0
IsInRange size blocks key = key / size < length blocks

-- the key has its group and its block
pub record IsReached (summaries : Summaries) (key : ℕ) : Type 0 where
  pub group : IsInRange GROUP summaries.groups.items key
  pub block : IsInRange BLOCK summaries.blocks.items key

-- no entry that such a summary covers, and that applies to these picks, is looked for
abbrev pub CannotMatter : Option Summary → List Pick → Sought → Type 0
CannotMatter summary picks sought = (entry : Entry) → IsCoveredBy summary entry →
    Applies picks entry.conflict → IsFalse (is_sought sought entry)
