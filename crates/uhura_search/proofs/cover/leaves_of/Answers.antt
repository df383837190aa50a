use Rattle.std.proofs.Common.{List, [], ◌∷◌, sym, subst}
use Rattle.uhura_choice.specs.declared.prefix.Pick.{Pick}
use Rattle.uhura_veto.specs.State.{State}
use Rattle.uhura_choice.proofs.Prefixes.{sound-have_alternatives, starts-prefix}
use Rattle.uhura_choice.specs.Branch.{IsPrefix}
use Rattle.uhura_search.specs.declared.leaf.LeafNote.{LeafNote}
use Rattle.uhura_search.specs.Closed.{NoneAbove}
use Rattle.uhura_search.specs.Shut.{IsShut, IsNoted}
use Rattle.uhura_search.specs.Appended.{AppendsCover}
use Rattle.uhura_search.proofs.Answering.{leaves-show, leaves-entered}
use Rattle.uhura_search.proofs.Appending.{none-above_empty}
use Rattle.uhura_search.proofs.Denials.{denials-named}
use Rattle.uhura_search.proofs.cover.leaves_of.Goals as goal

pub put_leaves-requires : goal.put_leaves-requires
put_leaves-requires c =
    let state : State = record { plan = c.args.plan.now; vetoes = c.args.vetoes.now } in
    let choices = c.args.plan.now.choices in
    record {
      prefix = subst (λ p. IsPrefix choices p) (sym c.empty.ensures) (starts-prefix choices [] (sound-have_alternatives c.args.plan.now c.choices.ensures.sound) tt);
      branch = c.requires.branch;
      small = c.requires.small;
      above = subst (λ p. NoneAbove (IsShut state c.args.store.now c.args.best.now) p) (sym c.empty.ensures) (none-above_empty (IsShut state c.args.store.now c.args.best.now));
      closed = c.requires.closed;
    }

pub returns-clause-shows : goal.returns-clause-shows
returns-clause-shows c =
    let state : State = record { plan = c.args.plan.now; vetoes = c.args.vetoes.now } in
    let Holds = IsNoted state c.args.store.now c.args.best.now in
    let made = c.put_leaves.new.leaves.items in
    leaves-show state c.args.store.now c.args.best.now made c.choices.ensures.sound (denials-named state c.count.ensures.sound) c.requires.store c.requires.reached
    (subst (λ (p : List Pick). AppendsCover c.args.plan.now.choices Holds (p ∷ []) [] made) c.empty.ensures
    (subst (λ (l : List LeafNote). AppendsCover c.args.plan.now.choices Holds (c.empty.result ∷ []) l made) c.new-leaves.ensures.items c.in_ok-put_leaves.ensures))

pub returns-clause-entered : goal.returns-clause-entered
returns-clause-entered c =
    let state : State = record { plan = c.args.plan.now; vetoes = c.args.vetoes.now } in
    let Holds = IsNoted state c.args.store.now c.args.best.now in
    let made = c.put_leaves.new.leaves.items in
    leaves-entered state c.args.store.now c.args.best.now made
    (subst (λ (p : List Pick). AppendsCover c.args.plan.now.choices Holds (p ∷ []) [] made) c.empty.ensures
    (subst (λ (l : List LeafNote). AppendsCover c.args.plan.now.choices Holds (c.empty.result ∷ []) l made) c.new-leaves.ensures.items c.in_ok-put_leaves.ensures))
