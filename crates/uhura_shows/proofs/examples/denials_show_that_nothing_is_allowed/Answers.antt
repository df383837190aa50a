use Rattle.std.proofs.Common.{rules, true≢false, sym, lit<}
use Rattle.uhura_shows.specs.Examples.{denied, left}
use Rattle.uhura_shows.proofs.Sides.{sides-cover}
use Rattle.uhura_shows.proofs.examples.denials_show_that_nothing_is_allowed.Goals as goal

pub returns-clause-shown : goal.returns-clause-shown
returns-clause-shown c = record { cover = sides-cover; reasons = search rules; whole = tt }

pub returns-clause-other : goal.returns-clause-other
returns-clause-other c = λ shows. true≢false (sym (shows.reasons 1 (denied left 0) (lit< tt)))

pub returns-clause-cap : goal.returns-clause-cap
returns-clause-cap c = λ shows. true≢false (sym (shows.reasons 1 (denied left 0) (lit< tt)))

pub returns-clause-missing : goal.returns-clause-missing
returns-clause-missing c = λ shows. true≢false (sym (shows.reasons 1 (denied left 0) (lit< tt)))
