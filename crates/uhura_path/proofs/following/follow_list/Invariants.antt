use Rattle.std.proofs.Common.{ℕ, ◌<◌, IfSome}
use Rattle.uhura_net.specs.declared.place.TheConstants.{PLACES}
use Rattle.uhura_net.specs.Lists.{number_of, IsRanked}
use Rattle.uhura_path.specs.Quest.{aim_of}
use Rattle.uhura_path.specs.Search.{IsAtNode, GoesOn}
use Rattle.uhura_path.proofs.Listwalk.{HasMet}
use Rattle.uhura_path.proofs.following.follow_list.Given as goal

-- the search went on, and kept the arcs of the list so far
abbrev pub invariant-loop-count : goal.invariant-loop-count
invariant-loop-count l = record {
  inside : IfSome l.at (λ place. place.0 < PLACES);
  on : (taken : ℕ) → IsAtNode (aim_of l.quest) taken l.fn.node l.fn.distance (record { labels = l.initial.labels; order = l.initial.order; front = l.initial.front }) →
      GoesOn (aim_of l.quest) taken l.fn.node l.fn.distance (record { labels = l.initial.labels; order = l.initial.order; front = l.initial.front })
      (record { labels = l.labels; order = l.order; front = l.front });
  met : (ranked : IsRanked l.lists) → HasMet (aim_of l.quest) l.fn.backward l.lists ranked l.fn.node (record { labels = l.labels; order = l.order; front = l.front })
      (number_of l.at) l._count;
}
