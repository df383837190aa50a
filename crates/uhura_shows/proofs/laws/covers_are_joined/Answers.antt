use Rattle.uhura_choice.proofs.Prefixes.{sound-have_alternatives}
use Rattle.uhura_shows.proofs.Covering.{covers-nothing, covers-itself, covers-append, covers-up, covers-refine, covers-all, cover-covers}
use Rattle.uhura_shows.proofs.Merging.{covers-merge}
use Rattle.uhura_shows.proofs.laws.covers_are_joined.Goals as goal

pub returns-clause-nothing : goal.returns-clause-nothing
returns-clause-nothing c = covers-nothing

pub returns-clause-itself : goal.returns-clause-itself
returns-clause-itself c = covers-itself

pub returns-clause-appended : goal.returns-clause-appended
returns-clause-appended c = covers-append

pub returns-clause-up : goal.returns-clause-up
returns-clause-up c =
    λ plan prefix prefixes sound is_prefix longer covers.
    covers-up plan.choices prefix prefixes (sound-have_alternatives plan sound) is_prefix longer covers

pub returns-clause-refined : goal.returns-clause-refined
returns-clause-refined c =
    λ choices tops before after prefix prefixes all covers.
    covers-refine choices tops before prefix after prefixes all covers

pub returns-clause-merged : goal.returns-clause-merged
returns-clause-merged c =
    λ choices before prefixes after prefix cover covers is_prefix.
    covers-merge choices before prefix prefixes after cover covers is_prefix

pub returns-clause-all : goal.returns-clause-all
returns-clause-all c = λ choices prefixes. (covers-all choices prefixes, cover-covers choices prefixes)
