-- Why a command isn't taken, and what a word of a leaf picks.
use Rattle.std.specs.Prelude.{◌≡◌, ℕ, List, Option, Some, Result, Ok, Err, ⊤, slice_get}
use Rattle.std.specs.declared.alloc.AllocError.{AllocError}
use Rattle.uhura_command.specs.declared.state.refusal.StateRefusal.{StateRefusal}
use Rattle.uhura_command.specs.declared.state.refusal.StateRefusal.TheVariants.{Memory}
use Rattle.uhura_plan.specs.declared.choice.Choice.{Choice}
use Rattle.uhura_choice.specs.declared.prefix.Pick.{Pick}
use Rattle.uhura_cert.specs.Machine.{IsPickNamed}

-- an edit is refused, and not for want of memory
abbrev pub IsRefusedBy : Result ⊤ StateRefusal → Type 0
IsRefusedBy (Ok done) = ⊥
IsRefusedBy (Err refusal) = (error : AllocError) → refusal ≡ Memory error → ⊥

-- of the choice at this place this is picked by the name
pub record IsPickAt (choices : List Choice) (place : ℕ) (name : Option (List ℕ))
    (pick : Pick) : Type 0 where
  pub choice : Choice
  pub at : slice_get choices place ≡ Some choice
  pub named : IsPickNamed choice name pick
