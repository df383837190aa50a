use Rattle.std.proofs.Common.{refl, replicate, false}
use Rattle.uhura_plan.specs.declared.limits.TheConstants.{REQUIREMENTS}
use Rattle.uhura_search.proofs.Reguarding.{filled-whole, none-marked}
use Rattle.uhura_search.proofs.taking.put_back.Goals as goal

pub returns-then-any : goal.returns-then-any
returns-then-any c =
    let taken = c.take_table.ensures in
    record {
      filled = filled-whole (replicate REQUIREMENTS false) c.args.vetoes.now c.args.plan.now c.take_table.new.learning.table (none-marked (replicate REQUIREMENTS false) refl) taken.filled;
      over = taken.over;
      revised = taken.revised;
      sound = taken.sound;
      flow = taken.flow;
      added = taken.added;
    }
