-- The kinds of things in code and in forms.
use Rattle.uhura_line.specs.declared.part.item.ItemKind.{ItemKind}
use Rattle.uhura_line.specs.declared.part.item.ItemKind.TheVariants as code
use Rattle.uhura_line.specs.Form.{Kind, requirement, duration}

-- the kind in a form that a kind in code says
abbrev pub kind_said : ItemKind → Kind
kind_said code.Require = requirement
kind_said code.Uncertain = duration
