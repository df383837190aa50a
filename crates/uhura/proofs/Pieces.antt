-- The reading of a script piece by piece: what stands between two reads, and how a run ends.
use Rattle.std.proofs.Common.{◌≡◌, ℕ, ◌+◌, ◌-◌, ◌^◌, ◌<◌, ◌≤◌, min, Bool, false, ◌||◌, List, [], ◌++◌, length, take, Option, Ok, Err, refl, sym, ap, ◌∙◌, subst, inl, inr, arith, append-nil, length-append}
use Rattle.std.proofs.Math.Seq.{take-append-add}
use Rattle.std.proofs.KnownBytes.{Appends-nil, Appends-trans, Consumes-nil, Consumes-trans, Consumes-kept}
use Rattle.std.proofs.lemmas.Bool.{cases_lt}
use Rattle.std.proofs.lemmas.List.{take_all, take-take, length-take-le}
use Rattle.std.specs.Io.KnownBytes.{Appends, Consumes, IsAtEnd, Keeps}
use Rattle.uhura_io.specs.Streams.{last_count}
use Rattle.uhura_text.specs.Lines.{lines, whole}
use Rattle.uhura_text.specs.Reading.{IsFresh}
use Rattle.uhura_command.specs.State.{empty_state}
use Rattle.uhura_session.specs.Transcript.{Transcript}
use Rattle.uhura_session.proofs.Conversing.{Conversation-nil}
use Rattle.uhura.specs.declared.bytes.TheConstants.{INPUT_LIMIT}
use Rattle.uhura.specs.Run.{Ends, AreRead, Leaves, RunsScript}
use Rattle.uhura.specs.Script.{Point, Stops, Stands, AnswersBytes, EndsRun, CompletesAs, status_of}
use Rattle.uhura.specs.declared.script.Stop.{Stop}
use Rattle.uhura.specs.declared.script.Stop.TheVariants as stop
use Rattle.uhura.specs.declared.status.Status.{Status}
use Rattle.uhura.specs.declared.status.Status.TheVariants.{Done, Refused, Usage, TooLong, ReadFault, WriteFault, NoMemory}
use Rattle.uhura.proofs.Standing.{Stands-nil}

-- between two reads: these bytes were taken, this text was added, and there is room for the bytes that a script may still
-- have
pub record Going (begin : Ends) (left : Option (List ℕ)) (given given' room : ℕ) (refused : Bool) (point : Point) : Type 0 where
  pub bytes : List ℕ
  pub text : List ℕ
  pub taken : Consumes begin.left left bytes
  pub added : Appends begin.written point.told.written text
  pub size : length bytes + room ≡ INPUT_LIMIT
  pub stands : Stands bytes text refused point
  pub count : given < 2 ^ 63 → given' ≡ given + length bytes

-- before the first read
pub Going-start : (left : Option (List ℕ)) (given : ℕ) (point : Point) → IsFresh point.reading → point.state ≡ empty_state
    → Going (record { left = left; written = point.told.written }) left given given INPUT_LIMIT false point
Going-start left given point fresh begins = record {
  bytes = [];
  text = [];
  taken = Consumes-nil left;
  added = Appends-nil point.told.written;
  size = refl;
  stands = Stands-nil point fresh.0 begins;
  count = λ _. omega arith;
}

-- a run that stopped at the lines that it may answer leaves what its status says
leaves-stopped : (why : Stop) (bytes text : List ℕ) (left : Option (List ℕ)) (ls : List (List ℕ)) → AreRead ls bytes left → Stops why ls text
    → Leaves (status_of why) bytes text left
leaves-stopped stop.WriteFault bytes text left ls read s = (ls, read, s)
leaves-stopped stop.NoMemory bytes text left ls read s = (ls, read, s)

-- at the end of the input the run leaves what its status says
leaves-completed : (result : Status) (bytes text : List ℕ) (left : Option (List ℕ)) → IsAtEnd left → length bytes ≤ INPUT_LIMIT
    → CompletesAs bytes text result → Leaves result bytes text left
leaves-completed Done bytes text left end within c = record { end = end; within = within; transcript = c }
leaves-completed Refused bytes text left end within c = record { end = end; within = within; transcript = c }
leaves-completed Usage bytes text left end within c = absurd c
leaves-completed TooLong bytes text left end within c = absurd c
leaves-completed ReadFault bytes text left end within c = absurd c
leaves-completed WriteFault bytes text left end within c = (lines bytes, inr (end, within, refl), c)
leaves-completed NoMemory bytes text left end within c = (lines bytes, inr (end, within, refl), c)

-- the bytes within the limit: those so far, and of a piece those for which there is room
within-limit : (bytes buffer : List ℕ) (room n k : ℕ) → length bytes + room ≡ INPUT_LIMIT → n ≤ length buffer → k ≡ min n room
    → take INPUT_LIMIT (bytes ++ take n buffer) ≡ bytes ++ take k buffer
within-limit bytes buffer room n k size bound is =
    ap (λ m. take m (bytes ++ take n buffer)) (sym size) ∙ take-append-add bytes (take n buffer) room ∙ ap (λ l. bytes ++ l) cut
  where
    cut : take room (take n buffer) ≡ take k buffer
    cut = elim (cases_lt room n) [
      | inl over ↦ take-take room n buffer (omega arith) ∙ ap (λ m. take m buffer) (omega arith)
      | inr fits ↦ take_all room (take n buffer) (omega (arith, length-take-le n buffer bound)) ∙ ap (λ m. take m buffer) (omega arith)
    ]

-- a piece that is within the limit was answered
pub Going-more : {begin : Ends} {left left' : Option (List ℕ)} {given given' given'' room : ℕ} {refused some : Bool} {point point' : Point}
    → Going begin left given given' room refused point
    → (buffer : List ℕ) (n k : ℕ) → n ≤ length buffer → n ≤ room → k ≡ n → Consumes left left' (take n buffer)
    → given'' ≡ min (given' + n) last_count → AnswersBytes (take k buffer) point point' (Ok some)
    → Going begin left' given given'' (room - n) (refused || some) point'
Going-more {refused = refused} {some = some} {point' = point'} g buffer n k bound fits is taken count a = record {
  bytes = g.bytes ++ take n buffer;
  text = g.text ++ a.text;
  taken = Consumes-trans _ _ _ g.bytes (take n buffer) g.taken taken;
  added = Appends-trans _ _ _ g.text a.text g.added a.added;
  size = omega (arith, length-append g.bytes (take n buffer), length-take-le n buffer bound, g.size);
  stands = subst (λ m. Stands (g.bytes ++ take m buffer) (g.text ++ a.text) (refused || some) point') is (a.advances g.bytes g.text refused g.stands);
  count = λ small. omega (arith, length-append g.bytes (take n buffer), length-take-le n buffer bound, g.size, g.count small, count);
}

-- a read failed
pub Runs-read_fault : {begin : Ends} {left left' : Option (List ℕ)} {given given' room : ℕ} {refused : Bool} {point : Point}
    → Going begin left given given' room refused point → Keeps left left'
    → RunsScript begin (record { left = left'; written = point.told.written }) ReadFault
Runs-read_fault g kept = record {
  bytes = g.bytes;
  text = g.text;
  taken = Consumes-kept _ _ _ g.bytes g.taken kept;
  added = g.added;
  leaves = (omega (arith, g.size), (_, record { last = _; conversation = g.stands.conversation }));
}

-- the run stopped in a piece, all of which was taken
pub Runs-stopped : {begin : Ends} {left left' : Option (List ℕ)} {given given' room : ℕ} {refused : Bool} {point point' : Point}
    → Going begin left given given' room refused point
    → (buffer : List ℕ) (n k : ℕ) (why : Stop) → n ≤ length buffer → k ≡ min n room → Consumes left left' (take n buffer)
    → AnswersBytes (take k buffer) point point' (Err why)
    → RunsScript begin (record { left = left'; written = point'.told.written }) (status_of why)
Runs-stopped {left' = left'} {room = room} {refused = refused} g buffer n k why bound is taken a =
    let s : Stops why (lines (whole (g.bytes ++ take k buffer))) (g.text ++ a.text) = a.advances g.bytes g.text refused g.stands in
    record {
      bytes = g.bytes ++ take n buffer;
      text = g.text ++ a.text;
      taken = Consumes-trans _ _ _ g.bytes (take n buffer) g.taken taken;
      added = Appends-trans _ _ _ g.text a.text g.added a.added;
      leaves =
          leaves-stopped why (g.bytes ++ take n buffer) (g.text ++ a.text) left' (lines (whole (g.bytes ++ take k buffer)))
          (inl (ap (λ l. lines (whole l)) (sym (within-limit g.bytes buffer room n k g.size bound is)))) s;
    }

-- a piece passed the limit: its bytes within the limit were answered
pub Runs-too_long : {begin : Ends} {left left' : Option (List ℕ)} {given given' room : ℕ} {refused some : Bool} {point point' : Point}
    → Going begin left given given' room refused point
    → (buffer : List ℕ) (n k : ℕ) → n ≤ length buffer → room < n → k ≡ min n room → Consumes left left' (take n buffer)
    → AnswersBytes (take k buffer) point point' (Ok some)
    → RunsScript begin (record { left = left'; written = point'.told.written }) TooLong
Runs-too_long {room = room} {refused = refused} {some = some} g buffer n k bound over is taken a =
    let s = a.advances g.bytes g.text refused g.stands in
    record {
      bytes = g.bytes ++ take n buffer;
      text = g.text ++ a.text;
      taken = Consumes-trans _ _ _ g.bytes (take n buffer) g.taken taken;
      added = Appends-trans _ _ _ g.text a.text g.added a.added;
      leaves = (
        omega (arith, length-append g.bytes (take n buffer), length-take-le n buffer bound, g.size),
        (
          refused || some,
          subst (λ l. Transcript (whole l) (g.text ++ a.text) (refused || some))
              (sym (within-limit g.bytes buffer room n k g.size bound is)) (record { last = _; conversation = s.conversation }),
        ),
      );
    }

-- the end of the input was answered
pub Runs-ended : {begin : Ends} {left left' written : Option (List ℕ)} {given given' room : ℕ} {refused : Bool} {point : Point}
    → Going begin left given given' room refused point
    → (result : Status) → Consumes left left' [] → IsAtEnd left' → EndsRun point written refused result
    → RunsScript begin (record { left = left'; written = written }) result
Runs-ended {begin = begin} {left' = left'} g result taken end e = record {
  bytes = g.bytes;
  text = g.text ++ e.text;
  taken = subst (Consumes begin.left left') (append-nil g.bytes) (Consumes-trans _ _ _ g.bytes [] g.taken taken);
  added = Appends-trans _ _ _ g.text e.text g.added e.added;
  leaves = leaves-completed result g.bytes (g.text ++ e.text) left' end (omega (arith, g.size)) (e.completes g.bytes g.text g.stands);
}

-- no memory before the first read
pub Runs-no_memory : (ends : Ends) → RunsScript ends ends NoMemory
Runs-no_memory ends = record {
  bytes = [];
  text = [];
  taken = Consumes-nil ends.left;
  added = Appends-nil ends.written;
  leaves = (
    lines (whole (take INPUT_LIMIT [])),
    inl refl,
    record {
      count = 0;
      refused = false;
      last = empty_state;
      conversation = Conversation-nil empty_state;
    },
  );
}
