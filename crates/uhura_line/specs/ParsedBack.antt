-- A command that is written and parsed again.
use Rattle.std.specs.Prelude.{◌≡◌, ◌⊎◌, Option, Some, Result, Ok, Err}
use Rattle.std.specs.declared.alloc.AllocError.{AllocError}
use Rattle.uhura_line.specs.declared.command.Command.{Command}
use Rattle.uhura_line.specs.declared.refusal.LineRefusal.{LineRefusal}
use Rattle.uhura_line.specs.declared.refusal.LineRefusal.TheVariants.{Memory}

-- the command was given, or memory ran out
abbrev pub IsGiven : Command → Result (Option Command) LineRefusal → Type 0
IsGiven c result =
    (result ≡ Ok (Some c)) ⊎ ((error : AllocError) × (result ≡ Err (Memory error)))
