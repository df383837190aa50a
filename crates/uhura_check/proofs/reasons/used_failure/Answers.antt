use Rattle.std.proofs.Common.{◌≡◌, ◌<◌, Option, Some, slice_get, length, [], get_or, sym, ap, subst, arith, List}
use Rattle.std.specs.Option.{option_map_or}
use Rattle.uhura_veto.specs.State.{State}
use Rattle.uhura_shows.specs.Leaf as leaf
use Rattle.uhura_cert.specs.declared.document.Shared.{Shared}
use Rattle.uhura_check.specs.Confirmed.{entry_reason}
use Rattle.uhura_check.specs.Entries.{IsWorkedOf, IsEntryOf}
use Rattle.uhura_check.specs.Failure.{Tells}
use Rattle.uhura_check.specs.Table.{entry_line, reason_asks}
use Rattle.uhura_check.proofs.Things.{some_entry}
use Rattle.uhura_check.proofs.Entering.{entry-there, entry-used}
use Rattle.uhura_check.proofs.reasons.used_failure.Goals as goal

pub entry_failure-requires-clause-worked : goal.entry_failure-requires-clause-worked
entry_failure-requires-clause-worked c =
    let given = c.index-shared_of-place.result in
    let entry : IsEntryOf c.args.document.now c.args.entry given (get_or c.as_slice.result.now c.args.entry some_entry) =
    entry-used c.args.document.now c.args.entries.now c.shared_of.result.now c.as_slice.result.now c.args.entry given some_entry c.requires.entries c.shared_of.ensures.shared c.as_slice.ensures.value c.requires.there
    c.index-shared_of-place.is in
    subst (λ (s : State). IsWorkedOf s given (get_or c.as_slice.result.now c.args.entry some_entry).worked) (sym c.state_of.ensures.state) entry.worked

pub returns : goal.returns
returns c = λ line own.
    let d = c.args.document.now in
    let given = c.index-shared_of-place.result in
    let entry : IsEntryOf d c.args.entry given (get_or c.as_slice.result.now c.args.entry some_entry) =
    entry-used d c.args.entries.now c.shared_of.result.now c.as_slice.result.now c.args.entry given some_entry c.requires.entries c.shared_of.ensures.shared c.as_slice.ensures.value c.requires.there c.index-shared_of-place.is in
    let inside : c.args.entry < length c.shared_of.result.now = omega (arith, c.requires.there, ap (λ (l : List Shared). length l) c.shared_of.ensures.shared) in
    let there : slice_get d.shared c.args.entry ≡ Some given = entry-there d c.shared_of.result.now c.args.entry given c.shared_of.ensures.shared inside c.index-shared_of-place.is in
    subst (λ (o : Option Shared). Tells d.state c.args.answer.now (reason_asks c.args.prefix.now line (entry_line d c.args.entry) (option_map_or entry_reason o (leaf.Stuck []))) c.entry_failure.result) (sym there)
    (subst (λ (s : State). Tells s c.args.answer.now (reason_asks c.args.prefix.now line (entry_line d c.args.entry) (entry_reason given)) c.entry_failure.result) c.state_of.ensures.state
    (c.entry_failure.ensures line (entry_line d c.args.entry) own entry.line))
