use Rattle.uhura_search.proofs.learning.Learning.new.Goals as goal

pub returns-clause-table : goal.returns-clause-table
returns-clause-table c = c.in_ok-new-2.ensures
