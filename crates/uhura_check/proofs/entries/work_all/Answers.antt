use Rattle.std.proofs.Common.{◌≡◌, ◌≤◌, ℕ, List, Some, length, slice_get, sym, ap, subst, ◌∙◌, arith}
use Rattle.uhura_cert.specs.declared.document.Shared.{Shared}
use Rattle.uhura_check.specs.declared.entries.Entry.{Entry}
use Rattle.uhura_check.specs.Entries.{AreWorkedOf}
use Rattle.uhura_check.specs.Failure.{told}
use Rattle.uhura_check.proofs.Placed.{document-places}
use Rattle.uhura_check.proofs.Entering.{line-first, line-last, line-next, worked-none, worked-more, entry-there}
use Rattle.uhura_check.proofs.entries.work_all.Goals as goal

pub loop-place-init : goal.loop-place-init
loop-place-init c = record {
  worked = worked-none c.args.document.now c.new-entries.result.items c.new-entries.ensures.items;
  line = c.shared_line-line.ensures ∙ sym (ap told (line-first c.args.document.now));
}

pub work-worked-requires : goal.work-worked-requires
work-worked-requires c =
    document-places c.args.document.now c.loop-place.place c.index-shared-place.result c.shared_of-shared.ensures.fits
    (entry-there c.args.document.now c.shared_of-shared.result.now c.loop-place.place c.index-shared-place.result c.shared_of-shared.ensures.shared c.loop-place-test.true c.index-shared-place.is)

pub loop-place-preserved : goal.loop-place-preserved
loop-place-preserved c =
    let d = c.args.document.now in
    let place = c.loop-place.place in
    let given = c.index-shared-place.result in
    let other = c.index-shared-place-in-loop-place.result in
    let there : slice_get d.shared place ≡ Some given = entry-there d c.shared_of-shared.result.now place given c.shared_of-shared.ensures.shared c.loop-place-test.true c.index-shared-place.is in
    let again : slice_get d.shared place ≡ Some other = entry-there d c.shared_of-shared.result.now place other c.shared_of-shared.ensures.shared c.loop-place-test.true c.index-shared-place-in-loop-place.is in
    let entry : Entry = record { line = c.loop-place.line; worked = c.work-worked.result } in
    record {
      worked =
          worked-more d c.loop-place.entries.items c.push.new.self.items place given entry c.loop-place.invariant.worked there (record { line = c.loop-place.invariant.line; worked = c.work-worked.ensures d.state c.requires })
          c.in_ok-push.ensures.items;
      line = line-next d place other c.loop-place.line c.line_after.result c.line_after-line.result c.edge_lines.result again c.loop-place.invariant.line c.line_after.ensures c.line_after-line.ensures (c.edge_lines.ensures d.state.plan);
    }

pub returns-clause-entries : goal.returns-clause-entries
returns-clause-entries c =
    let d = c.args.document.now in
    let all : c.loop-place.place ≡ length d.shared = omega (arith, c.loop-place-test.false, c.loop-place.auto.place-end, ap (λ (l : List Shared). length l) c.shared_of-shared.ensures.shared) in
    subst (λ (n : ℕ). AreWorkedOf d n c.loop-place.entries.items) all c.loop-place.invariant.worked

pub returns-clause-line : goal.returns-clause-line
returns-clause-line c =
    let d = c.args.document.now in
    let past : length d.shared ≤ c.loop-place.place = omega (arith, c.loop-place-test.false, ap (λ (l : List Shared). length l) c.shared_of-shared.ensures.shared) in
    c.loop-place.invariant.line ∙ ap told (line-last d c.loop-place.place past)
