-- Leaves that are put behind others.
use Rattle.std.specs.Prelude.{◌≡◌, List, ◌++◌, map, All}
use Rattle.uhura_plan.specs.declared.choice.Choice.{Choice}
use Rattle.uhura_choice.specs.declared.prefix.Pick.{Pick}
use Rattle.uhura_shows.specs.Cover.{Covers}
use Rattle.uhura_search.specs.declared.leaf.LeafNote.{LeafNote}

-- the prefixes of leaves, in their order
abbrev pub prefixes_of : List LeafNote → List (List Pick)
prefixes_of leaves = map (λ leaf. leaf.prefix) leaves

-- leaves were appended that cover the branches of the tops, and of each this holds
pub record AppendsCover (choices : List Choice) (Holds : LeafNote → Type 0)
    (tops : List (List Pick)) (old new : List LeafNote) : Type 0 where
  pub more : List LeafNote
  pub shape : new ≡ old ++ more
  pub covers : Covers choices tops (prefixes_of more)
  pub each : All Holds more
