use Rattle.uhura_shows.proofs.Behind.{front-take, take-front}
use Rattle.uhura_shows.proofs.front.begins.Goals as goal

pub returns-then-front-picks : goal.returns-then-front-picks
returns-then-front-picks c = (
  λ same. take-front c.args.front.now c.args.picks.now (c.is_same.ensures.0 same),
  λ begins. c.is_same.ensures.1 (front-take c.args.front.now c.args.picks.now begins),
)
