use Rattle.std.proofs.Common.{ℕ}
use Rattle.uhura_path.specs.Quest.{aim_of}
use Rattle.uhura_path.specs.Search.{IsSpread, AreKept}
use Rattle.uhura_path.proofs.spreading.spread.Given as goal

-- so many nodes are done, and all arcs into them are kept
abbrev pub invariant-loop-taken : goal.invariant-loop-taken
invariant-loop-taken l = record {
  level : ℕ;
  spreads : IsSpread (aim_of l.quest) l.taken level (record { labels = l.labels; order = l.order; front = l.front });
  kept : AreKept (aim_of l.quest) l.taken (record { labels = l.labels; order = l.order; front = l.front });
}
