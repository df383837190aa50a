-- Why a line is refused, as it is answered.
use Rattle.std.specs.Prelude.{◌≡◌, ℕ, nat_eq, Bool, List, [], ◌∷◌, codes}
use Rattle.std.specs.List.{starts_with}
use Rattle.uhura_line.specs.declared.refusal.LineRefusal.{LineRefusal}
use Rattle.uhura_line.specs.declared.refusal.LineRefusal.TheVariants as line
use Rattle.uhura_line.specs.Written.{line_of}
use Rattle.uhura_command.specs.declared.state.refusal.StateRefusal.{StateRefusal}
use Rattle.uhura_command.specs.declared.state.refusal.StateRefusal.TheVariants as state

-- a refused line is answered by the code and the name of its cause
abbrev pub error_text : List ℕ → List ℕ → List ℕ
error_text code name = line_of (codes "error" ∷ code ∷ name ∷ [])

-- the text says why a line is no command. Want of memory is no answer
abbrev pub IsLineError : LineRefusal → List ℕ → Type 0
IsLineError line.Long text = text ≡ error_text (codes "1") (codes "Long")
IsLineError (line.Byte at) text = text ≡ error_text (codes "2") (codes "Byte")
IsLineError line.Verb text = text ≡ error_text (codes "3") (codes "Verb")
IsLineError line.Form text = text ≡ error_text (codes "4") (codes "Form")
IsLineError line.Number text = text ≡ error_text (codes "5") (codes "Number")
IsLineError line.Name text = text ≡ error_text (codes "6") (codes "Name")
IsLineError (line.Memory error) text = ⊥

-- the text says why a command is refused in a state. Want of memory is no answer
abbrev pub IsStateError : StateRefusal → List ℕ → Type 0
IsStateError state.Taken text = text ≡ error_text (codes "7") (codes "Taken")
IsStateError state.Unknown text = text ≡ error_text (codes "8") (codes "Unknown")
IsStateError state.Kind text = text ≡ error_text (codes "9") (codes "Kind")
IsStateError (state.Empty lower upper) text = text ≡ error_text (codes "10") (codes "Empty")
IsStateError (state.Guard at) text = text ≡ error_text (codes "11") (codes "Guard")
IsStateError (state.Full limit has) text = text ≡ error_text (codes "12") (codes "Full")
IsStateError (state.Held slot) text = text ≡ error_text (codes "13") (codes "Held")
IsStateError (state.Memory error) text = ⊥

-- the text begins as the line of an error
abbrev pub begins_as_error : List ℕ → Bool
begins_as_error text = starts_with nat_eq text (codes "error ")
