-- The nodes of the worst case: the controllable events, and two ends of each duration.
use Rattle.std.specs.Prelude.{ℕ, ◌≢◌, ◌+◌, ◌*◌, ◌<◌}
use Rattle.uhura_plan.specs.declared.key.EventRef.{EventRef}
use Rattle.uhura_plan.specs.declared.key.EventRef.TheVariants.{Controllable, End}
use Rattle.uhura_plan.specs.declared.requirement.Requirement.{Requirement}
use Rattle.uhura_plan.specs.Limits.{AreWithinLimits}
use Rattle.uhura_plan.specs.declared.key.Item.TheVariants.{Uncertain}
use Rattle.uhura_net.specs.Place.{IsPlacedItem}
use Rattle.uhura_worst.specs.declared.node.TheConstants.{FIRST_OF_ENDS}

-- the nodes of the least and of the greatest end of the duration in place d
abbrev pub least_end : ℕ → ℕ
least_end d = FIRST_OF_ENDS + 2 * d

abbrev pub greatest_end : ℕ → ℕ
greatest_end d = least_end d + 1

-- a controllable event is a node itself, and the end of a duration is read at its least or at its greatest
abbrev pub least_node : EventRef → ℕ
least_node (Controllable e) = e
least_node (End d) = least_end d

abbrev pub greatest_node : EventRef → ℕ
greatest_node (Controllable e) = e
greatest_node (End d) = greatest_end d

-- a controllable event has a node before the ends, and a duration with places in the table of edges has two ends
abbrev pub HasNode : EventRef → Type 0
HasNode (Controllable e) = e < FIRST_OF_ENDS
HasNode (End d) = IsPlacedItem (Uncertain d)

-- what the edges of a requirement ask of it, as each requirement of a sound plan has it
pub record HasNodes (r : Requirement) : Type 0 where
  pub from : HasNode r.from
  pub to : HasNode r.to
  pub two_events : r.from ≢ r.to
  pub lower : AreWithinLimits r.lower
  pub upper : AreWithinLimits r.upper
