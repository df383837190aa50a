use Rattle.std.proofs.Common.{◌≡◌, List, Option, to_z, of_z, sym, subst, arith}
use Rattle.std.proofs.lemmas.Int.{ints}
use mir.Syntax.{w128}
use Rattle.uhura_net.specs.declared.edge.Edge.{Edge}
use Rattle.uhura_net.specs.declared.edge.End.TheVariants.{From, To}
use Rattle.uhura_net.specs.Circulation.{edges_of}
use Rattle.uhura_net.specs.Lists.{AreListed, AreListedBut}
use Rattle.uhura_net.specs.Net.{NetState, MayBeSet, AreNetEdges}
use Rattle.uhura_net.proofs.Relisting.{AreListedBut-set, AreNetEdges-set}
use Rattle.uhura_net.proofs.Worths.{small_value, value_changed}
use Rattle.uhura_net.proofs.Setting.{IsNet-set}
use Rattle.uhura_net.proofs.net.Net.set.Goals as goal

pub change_value-self-inside-requires-clause-value : goal.change_value-self-inside-requires-clause-value
change_value-self-inside-requires-clause-value c =
    let small = small_value _ c.self.invariant.sound in
    (omega (arith, ints, small.0, c.self.invariant.worth), omega (arith, ints, small.1, c.self.invariant.worth))

pub list-requires-clause-edges : goal.list-requires-clause-edges
list-requires-clause-edges c =
    subst AreNetEdges (sym c.put.ensures)
    (AreNetEdges-set c.self.inside.edges c.args.place.0 c.args.edge c.self.invariant.sound.places c.self.invariant.sound.each c.requires.place c.requires.edge)

pub list-requires-clause-others : goal.list-requires-clause-others
list-requires-clause-others c =
    let listed : List (Option Edge) → Type 0 = λ edges. AreListedBut c.args.place.0 (edges_of edges) From c.self.inside.leaving in
    subst listed (sym c.put.ensures) (AreListedBut-set c.self.inside.edges c.args.place.0 c.args.edge From c.self.inside.leaving c.self.invariant.leaving)

pub list-requires-2-clause-edges : goal.list-requires-2-clause-edges
list-requires-2-clause-edges c =
    subst AreNetEdges (sym c.put.ensures)
    (AreNetEdges-set c.self.inside.edges c.args.place.0 c.args.edge c.self.invariant.sound.places c.self.invariant.sound.each c.requires.place c.requires.edge)

pub list-requires-2-clause-others : goal.list-requires-2-clause-others
list-requires-2-clause-others c =
    let listed : List (Option Edge) → Type 0 = λ edges. AreListedBut c.args.place.0 (edges_of edges) To c.self.inside.entering in
    subst listed (sym c.put.ensures) (AreListedBut-set c.self.inside.edges c.args.place.0 c.args.edge To c.self.inside.entering c.self.invariant.entering)

pub invariant_of-self : goal.invariant_of-self
invariant_of-self c =
    let may : NetState → Type 0 = λ net. MayBeSet net c.args.place.0 c.args.edge in
    let leaves : List (Option Edge) → Type 0 = λ edges. AreListed (edges_of edges) From c.list.new.self in
    let enters : List (Option Edge) → Type 0 = λ edges. AreListed (edges_of edges) To c.list-2.new.self in
    let sound = IsNet-set _ c.args.place.0 c.args.edge c.requires.place c.requires.edge (subst may (sym c.self.view_is) c.requires.units) c.self.invariant.sound in
    let small = small_value _ sound in
    let before = small_value _ c.self.invariant.sound in
    let value : to_z w128 (of_z w128 c.self.inside.value) ≡ c.self.inside.value = omega (arith, ints, before.0, before.1, c.self.invariant.worth) in
    let worth = value_changed _ c.args.place.0 c.get.result c.args.edge c.index-units.result.now c.self.inside.value c.change_value-self-inside.result
    c.self.invariant.sound c.requires.place c.get.ensures c.index-units.ensures c.self.invariant.worth (rw value at c.change_value-self-inside.ensures) in
    rw c.put.ensures (record {
      sound = sound;
      worth = omega (arith, ints, worth, small.0, small.1);
      leaving = subst leaves c.put.ensures c.list.ensures;
      entering = subst enters c.put.ensures c.list-2.ensures;
    })

pub returns-clause-sound : goal.returns-clause-sound
returns-clause-sound c =
    let may : NetState → Type 0 = λ net. MayBeSet net c.args.place.0 c.args.edge in
    rw c.put.ensures (IsNet-set _ c.args.place.0 c.args.edge c.requires.place c.requires.edge (subst may (sym c.self.view_is) c.requires.units) c.self.invariant.sound)
