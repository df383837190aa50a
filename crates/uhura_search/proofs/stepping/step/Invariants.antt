use Rattle.std.specs.Prelude.{◌≡◌, take}
use Rattle.uhura_search.specs.Moving.{HasMoved, active_edges}
use Rattle.uhura_search.proofs.stepping.step.Given as goal

-- the flow stands at so many first picks
abbrev pub invariant-loop-len : goal.invariant-loop-len
invariant-loop-len l = record {
  stands : l.stands ≡ take l.len l.branch;
  moved : HasMoved l.fn.flow l.flow (active_edges l.table l.plan l.stands);
}
