use Rattle.uhura_shows.proofs.Going.{going-begins, going-on, going-ends, cover-not_going, cover-next, cover-not_ended}
use Rattle.uhura_shows.proofs.laws.covers_are_walked.Goals as goal

pub returns-clause-begins : goal.returns-clause-begins
returns-clause-begins c = going-begins

pub returns-clause-goes_on : goal.returns-clause-goes_on
returns-clause-goes_on c = going-on

pub returns-clause-ends : goal.returns-clause-ends
returns-clause-ends c = going-ends

pub returns-clause-not_yet : goal.returns-clause-not_yet
returns-clause-not_yet c = cover-not_going

pub returns-clause-only_so : goal.returns-clause-only_so
returns-clause-only_so c = λ choices so_far rest prefix next cover covers. cover-next choices so_far prefix rest cover next covers

pub returns-clause-no_more : goal.returns-clause-no_more
returns-clause-no_more c = λ choices so_far rest prefix cover covers. cover-not_ended choices so_far prefix rest cover covers
