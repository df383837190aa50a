-- The line of a command is parsed as the command, and is no longer than a line that gives it.
use Rattle.std.proofs.Common.{◌≡◌, ℕ, ◌+◌, ◌-◌, ◌^◌, ◌≤◌, min, Bool, true, false, cond, List, [], ◌∷◌, ◌++◌, length, filter, ltb, Option, Some, None, option_map, inl, inr, Result, Ok, Err, codes, ap, subst, arith, length-append}
use Rattle.std.specs.List.{slice_split, onto_first}
use Rattle.std.proofs.lemmas.List.Splits.{length-slice_split}
use Rattle.uhura_text.specs.Words.{is_blank, words, first_bad}
use Rattle.uhura_line.specs.declared.command.Command.{Command}
use Rattle.uhura_line.specs.declared.refusal.LineRefusal.{LineRefusal}
use Rattle.uhura_line.specs.declared.refusal.LineRefusal.TheVariants.{Long, Byte, Verb, Form, Number, Name, Memory}
use Rattle.uhura_line.specs.Form.{Word, words_of, IsForm}
use Rattle.uhura_line.specs.Reads.{form_of, IsCommand}
use Rattle.uhura_line.specs.Parses.{Parses, ParsesWords}
use Rattle.uhura_line.specs.ParsedBack.{IsGiven}
use Rattle.uhura_line.specs.Written.{line_of, ReadsAs}
use Rattle.uhura_line.proofs.OneCommand.{one_command_of_line}
use Rattle.uhura_line.proofs.Settled.{accepted}

-- ---- a line of the command's words gives the command

-- its words are of the command's form
is_form : (line : List ℕ) (c : Command) → IsCommand c → ReadsAs line (words_of (form_of c))
    → IsForm (words line) (form_of c)
is_form line c is reads = record { words_are = reads.words_are; taken = is.taken }

given : (line : List ℕ) (c d : Command) → IsCommand c → ReadsAs line (words_of (form_of c))
    → ParsesWords (words line) (Ok d) → IsGiven c (Ok (Some d))
given line c d is reads h =
    inl (ap (λ x. Ok (Some x)) (one_command_of_line (words line) d c h.0 (is_form line c is reads) h.1 is))

refused : (line : List ℕ) (c : Command) (r : LineRefusal) → IsCommand c → ReadsAs line (words_of (form_of c))
    → ParsesWords (words line) (Err r) → IsGiven c (Err r)
refused line c r is reads h =
    let memory = accepted (words line) c r (is_form line c is reads, is) h in
    inr (memory.0, ap (λ x. Err x) memory.1)

pub parsed_back : (line : List ℕ) (c : Command) (result : Result (Option Command) LineRefusal) → IsCommand c
    → ReadsAs line (words_of (form_of c)) → length line ≤ 4096 → Parses line result → IsGiven c result
parsed_back line c (Ok None) is reads short h = let asks = reads.asks in let quiet = h.1 in cc
parsed_back line c (Ok (Some d)) is reads short h = given line c d is reads h.1
parsed_back line c (Err Long) is reads short h = absurd (omega (arith, h))
parsed_back line c (Err (Byte at)) is reads short h =
    let none : option_map (min (2 ^ 32 - 1)) (first_bad line) ≡ None = ap (option_map (min (2 ^ 32 - 1))) reads.no_bad_byte in
    let some = h.2 in
    cc
parsed_back line c (Err Verb) is reads short h = refused line c Verb is reads h.1
parsed_back line c (Err Form) is reads short h = refused line c Form is reads h.1
parsed_back line c (Err Number) is reads short h = refused line c Number is reads h.1
parsed_back line c (Err Name) is reads short h = refused line c Name is reads h.1
parsed_back line c (Err (Memory error)) is reads short h = refused line c (Memory error) is reads h.1

-- ---- the line that is written has no more bytes than one that gives the command

-- the bytes of pieces, and one behind each
stretch : List Word → ℕ
stretch [] = 0
stretch (piece ∷ pieces) = length piece + 1 + stretch pieces

stretch-onto_first : (b : ℕ) (pieces : List Word) → 1 ≤ length pieces
    → stretch (onto_first b pieces) ≡ stretch pieces + 1
unfolding stretch
stretch-onto_first b [] some = absurd (omega arith)
stretch-onto_first b (piece ∷ pieces) some = omega arith

one_piece : (line : List ℕ) → 1 ≤ length (slice_split is_blank line)
one_piece line = let count = length-slice_split is_blank line in omega arith

stretch-split : (line : List ℕ) → stretch (slice_split is_blank line) ≡ length line + 1
unfolding stretch
stretch-split [] = omega arith
stretch-split (b ∷ bs) = by_test (is_blank b) (stretch-split bs)
  where
    by_test : (t : Bool) → stretch (slice_split is_blank bs) ≡ length bs + 1
        → stretch (cond {A = List Word} t ([] ∷ slice_split is_blank bs) (onto_first b (slice_split is_blank bs))) ≡ length (b ∷ bs) + 1
    by_test true rest = omega arith
    by_test false rest = let more = stretch-onto_first b (slice_split is_blank bs) (one_piece bs) in omega arith

stretch-filter : (test : Word → Bool) (pieces : List Word) → stretch (filter test pieces) ≤ stretch pieces
unfolding stretch
stretch-filter test [] = omega arith
stretch-filter test (piece ∷ pieces) = by_test (test piece) (stretch-filter test pieces)
  where
    by_test : (t : Bool) → stretch (filter test pieces) ≤ stretch pieces
        → stretch (cond {A = List Word} t (piece ∷ filter test pieces) (filter test pieces)) ≤ length piece + 1 + stretch pieces
    by_test true rest = omega arith
    by_test false rest = omega arith

stretch-words : (line : List ℕ) → stretch (words line) ≤ length line + 1
unfolding words
stretch-words line =
    let kept = stretch-filter (λ piece. ltb 0 (length piece)) (slice_split is_blank line) in
    let split = stretch-split line in
    omega arith

length-line_of : (w : Word) (ws : List Word) → length (line_of (w ∷ ws)) ≡ stretch (w ∷ ws)
unfolding stretch
length-line_of w [] = omega (arith, length-append w (codes "\n"))
length-line_of w (v ∷ vs) =
    let rest = length-line_of v vs in
    omega (arith, length-append w (codes " "), length-append (w ++ codes " ") (line_of (v ∷ vs)))

-- the empty line has its newline
at_most : (ws : List Word) (n : ℕ) → stretch ws ≤ n + 1 → length (line_of ws) ≤ n + 1
at_most [] n h = omega arith
at_most (w ∷ ws) n h = let e = length-line_of w ws in omega arith

pub no_longer : (line : List ℕ) (c : Command) → Parses line (Ok (Some c))
    → length (line_of (words_of (form_of c))) ≤ length line + 1
no_longer line c h =
    at_most (words_of (form_of c)) (length line) (subst (λ (ws : List Word). stretch ws ≤ length line + 1) h.1.0.words_are (stretch-words line))
