-- What a session leaves when it has answered a line and its answer was read.
use Rattle.std.specs.Prelude.{◌≡◌, ℕ, Bool, List, Result, Ok, Err}
use Rattle.std.specs.declared.alloc.AllocError.{AllocError}
use Rattle.std.specs.Borrow.{MutBor, Fml}
use Rattle.std.specs.Io.BufRead.{Rests}
use Rattle.uhura_session.specs.declared.answer.Answer.{Answer}
use Rattle.uhura_session.specs.contracts.session.Session.{the_row}
use Rattle.uhura_session.specs.Session.{Dialogue}
use Rattle.uhura_session.specs.Answers.{Answers}
use Rattle.uhura_session.specs.Searching.{Searches, IsAskedAtMost}

-- a line was answered by this text, and the searcher is left as the line has it
pub record HasAnswered (old : Dialogue) (line text : List ℕ) (refused : Bool) (new : Dialogue)
    : Type 0 where
  pub answers : Answers old.state line text refused new.state
  pub searches : Searches old.state line old.searcher new.searcher

-- after want of memory the state is as before, and the searcher too, or it was asked
pub record HasStopped (old new : Dialogue) : Type 0 where
  pub state : new.state ≡ old.state
  pub searcher : IsAskedAtMost old.searcher new.searcher old.state.plan

-- the answer that was lent is that of the line
abbrev pub Answered : Dialogue → List ℕ → Result Answer AllocError → Dialogue → Type 0
Answered old line (Ok answer) new = HasAnswered old line answer.text.now answer.refused new
Answered old line (Err error) new = HasStopped old new

-- so it is once the answer was read
abbrev pub LeavesAnswer : MutBor Dialogue → List ℕ → Result Answer AllocError → Fml
LeavesAnswer session line result = Rests the_row session (Answered session.now line result)
