use Rattle.uhura_session.specs.Session.{Dialogue}
use Rattle.uhura_session.proofs.Asking.{stopped_line}
use Rattle.uhura_session.proofs.session.Session.answer.Goals as goal

pub returns-in-Ok-Some-clause-searcher : goal.returns-in-Ok-Some-clause-searcher
returns-in-Ok-Some-clause-searcher c =
    let before : Dialogue = record { state = c.self.inside.state; searcher = c.self.inside.searcher; text = c.self.inside.text.items } in
    stopped_line before c.args.self.now c.answer_command.new.self.searcher c.self.view_is c.answer_command.result c.answer_command.ensures.searcher
