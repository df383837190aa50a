-- How lines that are taken go on: by one more line, by a byte, and at the end of the bytes.
use Rattle.std.proofs.Common.{◌≡◌, ◌≢◌, ℕ, ◌+◌, ◌-◌, ◌^◌, ◌<◌, min, ◌⊎◌, inl, inr, List, [], ◌∷◌, ◌++◌, length, take, drop, get_or, Some, Result, Ok, Err, refl, sym, ap, ◌∙◌, subst, arith, append_assoc, append-nil, length-append}
use Rattle.std.specs.Prelude.{IfErr}
use Rattle.std.proofs.lemmas.List.{take_at, take_more, take-append-drop}
use Rattle.uhura_text.specs.Lines.{lines, whole, behind, shown}
use Rattle.uhura_text.specs.Reading.{Reading, HandsOver, Feeds, Finishes}
use Rattle.uhura_text.specs.declared.lines.Fed.{Fed}
use Rattle.uhura_text.specs.declared.lines.Fed.TheVariants.{More, Line, Long}
use Rattle.uhura_text.proofs.Growing.{lines-nil, lines-whole_append, whole-push_newline, whole-push_other, behind-push_newline, behind-push_other, lines-push_newline, lines-finished, lines-unfinished, shown-take, take-take_push, nil-from_take}
use Rattle.uhura_cert.specs.declared.document.DocumentRefusal.{DocumentRefusal}
use Rattle.uhura_cert.specs.declared.document.DocumentRefusal.TheVariants.{Malformed}
use Rattle.uhura_cert.specs.declared.document.Leaf.{Leaf}
use Rattle.uhura_cert.specs.declared.document.Shared.{Shared}
use Rattle.uhura_cert.specs.declared.progress.Progress.{Progress}
use Rattle.uhura_cert.specs.Document.{Document}
use Rattle.uhura_cert.specs.Text.{IsFirstMalformed, IsRead, Reads}
use Rattle.uhura_cert.specs.Run.{Run}
use Rattle.uhura_cert.specs.Machine.{Spot, start, done, Takes}
use Rattle.uhura_cert.specs.OneByOne.{RefusedLinesAreMalformed, LinesEndTooEarly, TakenLinesAreRead}
use Rattle.uhura_cert.specs.Reading.{document_of, spot_of, HasTaken, Advances, Stands, AdvancesOver}
use Rattle.uhura_cert.proofs.RunLaws.{run-append}

-- ---- one line

-- before the first line none is taken
pub none_taken : (p : Progress) → spot_of p.reader ≡ start → p.count ≡ 0 → HasTaken [] p
none_taken p at none = record { run = at; count = none ∙ omega arith }

-- one line more
pub one_more : (taken : List (List ℕ)) (line : List ℕ) (old new : Progress) → HasTaken taken old → Takes (spot_of old.reader) line (spot_of new.reader) → new.count ≡ min (old.count + 1) (2 ^ 32 - 1)
    → HasTaken (taken ++ line ∷ []) new
one_more taken line old new has takes count = record {
  run = run-append Takes start taken (line ∷ []) (spot_of old.reader) (spot_of new.reader) has.run (record { next = spot_of new.reader; step = takes; rest = refl });
  count = omega (arith, count, has.count, length-append taken (line ∷ []));
}

-- a line that isn't taken, whatever follows
pub refused_next : RefusedLinesAreMalformed → (taken : List (List ℕ)) (line : List ℕ) (p : Progress) (told : ℕ) → HasTaken taken p → ((next : Spot) → Takes (spot_of p.reader) line next → ⊥)
    → told ≡ min (p.count + 1) (2 ^ 32 - 1) → (more : List (List ℕ)) → Reads ((taken ++ line ∷ []) ++ more) (Err (Malformed told))
refused_next law taken line p told has refused count more =
    let all : List (List ℕ) = taken ++ line ∷ more in
    let parts : (taken ++ line ∷ []) ++ more ≡ all = append_assoc taken (line ∷ []) more in
    let within : length taken < length all = omega (arith, length-append taken (line ∷ more)) in
    let at : get_or all (length taken) [] ≡ line = get_or-at taken line more in
    let first : IsFirstMalformed all (length taken + 1) =
    law all (length taken) (spot_of p.reader) within (subst (λ ls. Run Takes start ls (spot_of p.reader)) (sym (take_at taken (line ∷ more) (length taken) refl)) has.run)
    (subst (λ l. (next : Spot) → Takes (spot_of p.reader) l next → ⊥) (sym at) refused) in
    subst (λ ls. Reads ls (Err (Malformed told))) (sym parts) (length taken + 1, first, omega (arith, count, has.count))
  where
    get_or-at : (xs : List (List ℕ)) (y : List ℕ) (ys : List (List ℕ)) → get_or (xs ++ y ∷ ys) (length xs) [] ≡ y
    get_or-at [] y ys = refl
    get_or-at (x ∷ xs) y ys = get_or-at xs y ys

-- lines that end before a document does
pub ended_early : LinesEndTooEarly → (taken : List (List ℕ)) (p : Progress) (told : ℕ) → HasTaken taken p → ((d : Document) → spot_of p.reader ≡ done d → ⊥)
    → told ≡ min (p.count + 1) (2 ^ 32 - 1) → Reads taken (Err (Malformed told))
ended_early law taken p told has unfinished count = (length taken + 1, law taken (spot_of p.reader) has.run unfinished, omega (arith, count, has.count))

-- lines that end with a document, in whatever lists its entries and leaves are
pub all_read : TakenLinesAreRead → (taken : List (List ℕ)) (p : Progress) (entries : List Shared) (ends : List Leaf) → entries ≡ p.reader.shared.items → ends ≡ p.reader.leaves.items
    → spot_of p.reader ≡ done (document_of p.reader) → HasTaken taken p
    → IsRead taken (record { version = p.reader.version; state = p.reader.state; answer = p.reader.answer; shared = entries; leaves = ends })
all_read law taken p entries ends first second at has = rw (first, second) (law taken (document_of p.reader) (subst (λ s. Run Takes start taken s) at has.run))

-- ---- bytes

-- before the first byte nothing stands
pub nothing_stands : (reading : Reading) (p : Progress) → reading.held ≡ [] → HasTaken [] p → Stands [] reading p
nothing_stands reading p fresh has = record { held = fresh; taken = rw lines-nil has }

-- another byte than a newline is held
pub byte_held : (bytes : List ℕ) (old new : Reading) (p : Progress) (byte : ℕ) → Feeds old byte More new → Stands bytes old p → AdvancesOver (bytes ++ byte ∷ []) (Ok tt) new p
byte_held bytes old new p byte feeds s = record {
  held = feeds.1 ∙ ap (λ l. take 4097 (l ++ byte ∷ [])) s.held ∙ take-take_push (behind bytes) byte ∙ ap (take 4097) (sym (behind-push_other bytes byte feeds.0));
  taken = rw (whole-push_other bytes byte feeds.0) s.taken;
}

-- the line that is lent is the one behind the bytes so far
lent_line : (bytes : List ℕ) (old new : Reading) (p : Progress) (line : List ℕ) → HandsOver old new → new.line ≡ Some line → Stands bytes old p → line ≡ shown (behind bytes)
lent_line bytes old new p line over lent s =
    let e : Some line ≡ Some (shown old.held) = sym lent ∙ over.1 in
    let same : line ≡ shown old.held = cc in
    same ∙ ap shown s.held ∙ shown-take (behind bytes)

-- a byte that ended a line is a newline, and handed the line over
fed_line : (old new : Reading) (byte : ℕ) (fed : Fed) → (fed ≡ Line) ⊎ (fed ≡ Long) → Feeds old byte fed new → (byte ≡ 10) × HandsOver old new
fed_line old new byte More (inl h) f = absurd (cc)
fed_line old new byte More (inr h) f = absurd (cc)
fed_line old new byte Line h f = (f.0, f.1.1)
fed_line old new byte Long h f = (f.0, f.1.1)

-- the lines of bytes behind a newline follow those in front of it
lines_behind : (bytes more : List ℕ) → (lines (whole bytes) ++ shown (behind bytes) ∷ []) ++ lines more ≡ lines ((bytes ++ 10 ∷ []) ++ more)
lines_behind bytes more =
    let front : List ℕ = bytes ++ 10 ∷ [] in
    ap (λ ls. ls ++ lines more) (sym (lines-push_newline bytes))
    ∙ (sym (lines-whole_append front more) ∙ ap (λ l. lines (l ++ more)) (whole-push_newline bytes))

newline_fed : (bytes : List ℕ) (new : Reading) (p : Progress) (result : Result (Unit {0}) DocumentRefusal) → new.held ≡ [] → Advances (lines (whole bytes) ++ shown (behind bytes) ∷ []) result p
    → AdvancesOver (bytes ++ 10 ∷ []) result new p
newline_fed bytes new p (Ok _) empty goes = record {
  held = empty ∙ ap (take 4097) (sym (behind-push_newline bytes));
  taken = rw (lines-push_newline bytes) goes;
}
newline_fed bytes new p (Err refusal) empty goes = λ more. subst (λ ls. Reads ls (Err refusal)) (lines_behind bytes more) (goes (lines more))

-- a byte ended a line, which was taken or refused
pub line_fed : (bytes : List ℕ) (old new : Reading) (before after : Progress) (byte : ℕ) (fed : Fed) (line : List ℕ) (result : Result (Unit {0}) DocumentRefusal)
    → (fed ≡ Line) ⊎ (fed ≡ Long) → Feeds old byte fed new → new.line ≡ Some line
    → ((taken : List (List ℕ)) → HasTaken taken before → Advances (taken ++ line ∷ []) result after) → Stands bytes old before
    → AdvancesOver (bytes ++ byte ∷ []) result new after
line_fed bytes old new before after byte fed line result ended feeds lent goes s =
    let h = fed_line old new byte fed ended feeds in
    let is : line ≡ shown (behind bytes) = lent_line bytes old new before line h.1 lent s in
    subst (λ b. AdvancesOver (bytes ++ b ∷ []) result new after) (sym h.0)
    (newline_fed bytes new after result h.1.0 (subst (λ l. Advances (lines (whole bytes) ++ l ∷ []) result after) is (goes (lines (whole bytes)) s.taken)))

-- ---- the end of the bytes

-- no byte is behind the last newline
pub none_behind : (bytes : List ℕ) (old new : Reading) (p : Progress) → Finishes old More new → Stands bytes old p → Advances (lines bytes) (Ok tt) p
none_behind bytes old new p finishes s = rw (lines-finished bytes (nil-from_take (behind bytes) (sym s.held ∙ finishes.0))) s.taken

finished_line : (old new : Reading) (fed : Fed) → (fed ≡ Line) ⊎ (fed ≡ Long) → Finishes old fed new → (old.held ≢ []) × HandsOver old new
finished_line old new More (inl h) f = absurd (cc)
finished_line old new More (inr h) f = absurd (cc)
finished_line old new Line h f = (f.0, f.1.1)
finished_line old new Long h f = (f.0, f.1.1)

-- the last line has no newline, and was taken or refused
pub last_line : (bytes : List ℕ) (old new : Reading) (before after : Progress) (fed : Fed) (line : List ℕ) (result : Result (Unit {0}) DocumentRefusal)
    → (fed ≡ Line) ⊎ (fed ≡ Long) → Finishes old fed new → new.line ≡ Some line
    → ((taken : List (List ℕ)) → HasTaken taken before → Advances (taken ++ line ∷ []) result after) → Stands bytes old before
    → Advances (lines bytes) result after
last_line bytes old new before after fed line result ended finishes lent goes s =
    let h = finished_line old new fed ended finishes in
    let is : line ≡ shown (behind bytes) = lent_line bytes old new before line h.1 lent s in
    let some : behind bytes ≢ [] = λ none. h.0 (s.held ∙ ap (take 4097) none) in
    let all : lines bytes ≡ lines (whole bytes) ++ line ∷ [] = lines-unfinished bytes some ∙ ap (λ l. lines (whole bytes) ++ l ∷ []) (sym is) in
    subst (λ ls. Advances ls result after) (sym all) (goes (lines (whole bytes)) s.taken)

-- ---- bytes one after another

-- one byte more
pub byte_taken : (bytes : List ℕ) (i : ℕ) (reading : Reading) (p : Progress) → i < length bytes → AdvancesOver (take i bytes ++ get_or bytes i 0 ∷ []) (Ok tt) reading p → Stands (take (i + 1) bytes) reading p
byte_taken bytes i reading p within s = subst (λ l. Stands l reading p) (sym (take_more bytes i 0 within)) s

-- a byte at which a line was refused
pub byte_refused : (bytes : List ℕ) (i : ℕ) (reading : Reading) (p : Progress) (refusal : DocumentRefusal) → i < length bytes
    → AdvancesOver (take i bytes ++ get_or bytes i 0 ∷ []) (Err refusal) reading p → Reads (lines bytes) (Err refusal)
byte_refused bytes i reading p refusal within refused =
    let all : take i bytes ++ get_or bytes i 0 ∷ [] ++ drop (i + 1) bytes ≡ bytes = ap (λ l. l ++ drop (i + 1) bytes) (sym (take_more bytes i 0 within)) ∙ take-append-drop (i + 1) bytes in
    subst (λ l. Reads (lines l) (Err refusal)) all (refused (drop (i + 1) bytes))

-- the end, where a line may be refused
pub end_refused : (bytes : List ℕ) (p : Progress) (result : Result (Unit {0}) DocumentRefusal) → Advances (lines bytes) result p → IfErr result (λ refusal. Reads (lines bytes) (Err refusal))
end_refused bytes p (Ok _) goes = tt
end_refused bytes p (Err refusal) goes = subst (λ ls. Reads ls (Err refusal)) (append-nil (lines bytes)) (goes [])
