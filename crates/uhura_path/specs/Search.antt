-- How a search spreads from its root against the arcs.
use Rattle.std.specs.Prelude.{ℕ, ◌+◌, ◌<◌, ◌≤◌, ◌≡◌, ◌≢◌, ◌==◌, ◌⊎◌, min, Bool, true, false, if◌then◌else◌, List, length, count_by, Some, MatchOption, slice_index_or, slice_set}
use Rattle.uhura_net.specs.declared.edge.TheConstants.{NODES}
use Rattle.uhura_net.specs.declared.place.TheConstants.{PLACES}
use Rattle.uhura_path.specs.declared.ways.Arc.{Arc}
use Rattle.uhura_path.specs.declared.label.Step.{Step}
use Rattle.uhura_path.specs.declared.label.Label.{Label}
use Rattle.uhura_path.specs.declared.front.Front.{Front}
use Rattle.uhura_path.specs.Found.{label_at}
use Rattle.uhura_path.specs.Scratch.{AreMarkedTo}
use Rattle.uhura_path.specs.Quest.{Aim}

-- The labels; the nodes that have one, first those that are done and then the open ones; and how many they are, with
-- the cap and the step that begins the best path so far.
pub record Spread : Type 0 where
  pub labels : List Label
  pub order : List ℕ
  pub front : Front

-- the node that stands somewhere among the ones with a label
abbrev pub node_at : Spread → ℕ → ℕ
node_at spread at = slice_index_or spread.order at 0

-- a label is one of this search
abbrev pub is_own : ℕ → Label → Bool
is_own mark label = label.mark == mark

abbrev pub has_label : Aim → Spread → ℕ → Bool
has_label aim spread node = is_own aim.mark (label_at spread.labels node)

-- how far a node is from the root as far as is known, and the cap without a label
abbrev pub reach : Aim → Spread → ℕ → ℕ
reach aim spread node =
    if has_label aim spread node then (label_at spread.labels node).distance else aim.cap

-- each node with a label stands at one place in the order
pub record IsListed (aim : Aim) (spread : Spread) (place : ℕ → ℕ) : Type 0 where
  pub labelled : length spread.labels ≡ NODES
  pub ordered : length spread.order ≡ NODES
  pub all : count_by (is_own aim.mark) spread.labels ≡ spread.front.count
  pub out : (node : ℕ) → has_label aim spread node ≡ false → NODES ≤ place node
  pub within : (node : ℕ) → has_label aim spread node ≡ true → place node < spread.front.count
  pub stands : (node : ℕ) → place node < spread.front.count → node_at spread (place node) ≡ node
  pub placed : (at : ℕ) → at < spread.front.count → place (node_at spread at) ≡ at

-- the step of a node goes along an arc to a node that was done before it
pub record IsStep (aim : Aim) (taken : ℕ) (spread : Spread) (place : ℕ → ℕ) (node : ℕ) (step : Step)
    (cost : ℕ) : Type 0 where
  pub inside : step.place.0 < PLACES
  pub arc : Arc
  pub there : aim.arcs step.place.0 step.backward ≡ Some arc
  pub starts : arc.from ≡ node
  pub done : place arc.to < taken
  pub earlier : place arc.to < place node
  pub costs : cost ≡ reach aim spread arc.to + arc.cost

-- and the step with which the best path so far begins
pub record IsClosing (aim : Aim) (taken : ℕ) (spread : Spread) (place : ℕ → ℕ) (step : Step) :
    Type 0 where
  pub below : spread.front.cap < aim.cap
  pub goal_step : IsStep aim taken spread place aim.goal step spread.front.cap

-- The first nodes are done: none of the others is nearer to the root than they are.
pub record IsSpread (aim : Aim) (taken level : ℕ) (spread : Spread) : Type 0 where
  pub place : ℕ → ℕ
  pub listed : IsListed aim spread place
  pub marked : AreMarkedTo aim.mark spread.labels
  pub some : taken ≤ spread.front.count
  pub capped : spread.front.cap ≤ aim.cap
  pub reached : level ≤ spread.front.cap
  pub lower : (node : ℕ) → place node < taken → reach aim spread node ≤ level
  pub upper : (node : ℕ) → taken ≤ place node → level ≤ reach aim spread node
  pub under : (node : ℕ) → reach aim spread node ≤ aim.cap
  pub root_here : has_label aim spread aim.root ≡ true
  pub root_zero : reach aim spread aim.root ≡ 0
  pub goal_free : has_label aim spread aim.goal ≡ false
  pub steps : (node : ℕ) → has_label aim spread node ≡ true → node ≢ aim.root →
      IsStep aim taken spread place node (label_at spread.labels node).step (reach aim spread node)
  pub closing : MatchOption spread.front.closing (spread.front.cap ≡ aim.cap)
      (IsClosing aim taken spread place)

-- a label of this search with a distance is noted at a node: where the node had one of no greater distance, nothing
-- changes; where it had another, that one gives way; and else the node comes behind the others
pub record IsStill (node : ℕ) (label : Label) (old new : Spread) : Type 0 where
  pub own : (label_at old.labels node).mark ≡ label.mark
  pub nearer : (label_at old.labels node).distance ≤ label.distance
  pub same : new ≡ old

pub record IsLowered (node : ℕ) (label : Label) (old new : Spread) : Type 0 where
  pub own : (label_at old.labels node).mark ≡ label.mark
  pub farther : label.distance < (label_at old.labels node).distance
  pub lowered : new ≡ record old { labels = slice_set old.labels node label }

pub record IsAdded (node : ℕ) (label : Label) (old new : Spread) : Type 0 where
  pub free : (label_at old.labels node).mark ≢ label.mark
  pub added : new ≡ record {
    labels = slice_set old.labels node label;
    order = slice_set old.order old.front.count node;
    front = record old.front { count = old.front.count + 1 };
  }

abbrev pub IsNoted : ℕ → Label → Spread → Spread → Type 0
IsNoted node label old new =
    IsStill node label old new ⊎ IsLowered node label old new ⊎ IsAdded node label old new

-- an arc leads down by no more than its cost, up to the cap
abbrev pub IsKept : Aim → Spread → Arc → Type 0
IsKept aim spread arc =
    min spread.front.cap (reach aim spread arc.from) ≤ reach aim spread arc.to + arc.cost

-- and so does each arc into a node that is done
abbrev pub AreKept : Aim → ℕ → Spread → Type 0
AreKept aim taken spread = (at : ℕ) → at < taken → (place : ℕ) (backward : Bool) (arc : Arc) →
    aim.arcs place backward ≡ Some arc → arc.to ≡ node_at spread at → IsKept aim spread arc

-- the last done node is this one, so far from the root
pub record IsAtNode (aim : Aim) (taken node level : ℕ) (spread : Spread) : Type 0 where
  pub spreads : IsSpread aim (taken + 1) level spread
  pub here : node_at spread taken ≡ node
  pub far : reach aim spread node ≡ level

-- the cap and the distances only fall, and those of done nodes stay
pub record IsGrown (aim : Aim) (taken : ℕ) (old new : Spread) : Type 0 where
  pub cap : new.front.cap ≤ old.front.cap
  pub nearer : (node : ℕ) → reach aim new node ≤ reach aim old node
  pub order : (at : ℕ) → at < taken → node_at new at ≡ node_at old at
  pub done : (at : ℕ) → at < taken →
      reach aim new (node_at old at) ≡ reach aim old (node_at old at)

-- the search went on at a node that is done
pub record GoesOn (aim : Aim) (taken node level : ℕ) (old new : Spread) : Type 0 where
  pub stays : IsAtNode aim taken node level new
  pub grown : IsGrown aim (taken + 1) old new

-- The nearest open node comes to the front of the open ones, in the place of another.
pub record IsChosen (taken count : ℕ) (labels : List Label) (old new : List ℕ) (node : ℕ) :
    Type 0 where
  pub best : ℕ
  pub from : taken ≤ best
  pub within : best < count
  pub chosen : node ≡ slice_index_or old best 0
  pub swapped : new ≡ slice_set (slice_set old best (slice_index_or old taken 0)) taken node
  pub least : (at : ℕ) → taken ≤ at → at < count →
      (label_at labels node).distance ≤ (label_at labels (slice_index_or old at 0)).distance

-- the search is over: no open node is nearer than the cap
pub record IsOver (aim : Aim) (taken : ℕ) (spread : Spread) : Type 0 where
  pub level : ℕ
  pub spreads : IsSpread aim taken level spread
  pub kept : AreKept aim taken spread
  pub near : (at : ℕ) → taken ≤ at → at < spread.front.count →
      spread.front.cap ≤ reach aim spread (node_at spread at)

-- and it found a path that begins with a step of the goal
pub record IsClosed (aim : Aim) (taken : ℕ) (labels : List Label) (order : List ℕ) (front : Front)
    (closing : Step) : Type 0 where
  pub over : IsOver aim taken (record { labels = labels; order = order; front = front })
  pub first : front.closing ≡ Some closing
