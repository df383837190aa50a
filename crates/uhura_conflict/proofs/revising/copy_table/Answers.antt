use Rattle.std.proofs.Common.{◌≡◌, ◌<◌, length, get_or, set, Option, None, inl, inr, ap, sym, subst, ◌∙◌, arith}
use Rattle.std.specs.Prelude.{IfSome}
use Rattle.std.proofs.lemmas.Bool.{cases_eq, cases_lt}
use Rattle.std.proofs.lemmas.List.{get_or-set_same, get_or-set_other, get_or_default, get_or_past, length-set, same_lists}
use Rattle.uhura_net.specs.declared.edge.Edge.{Edge}
use Rattle.uhura_net.specs.declared.place.TheConstants.{PLACES}
use Rattle.uhura_net.specs.Table.{IsEdgeFor}
use Rattle.uhura_conflict.proofs.revising.copy_table.Goals as goal

pub loop-number-preserved : goal.loop-number-preserved
loop-number-preserved c =
    let now = c.loop-number.to in
    let at = c.loop-number.number in
    let edge = c.get.result in
    let inside : at < length now = omega (arith, c.put.ensures.places, c.loop-number-test.true) in (
      λ some. ap length c.put.ensures.edges ∙ (length-set now at edge ∙ (c.put.ensures.places ∙ sym c.get.ensures.places)),
      λ place below.
          ap (λ list. get_or list place None) c.put.ensures.edges
          ∙ elim (cases_eq place at) [
            | inl same ↦ subst (λ n. get_or (set now at edge) n None ≡ get_or c.args.from.now n None) (sym same) (get_or-set_same now at edge None inside ∙ c.get.ensures.edge)
            | inr differs ↦ get_or-set_other now at place edge None differs ∙ c.loop-number.invariant.1 place (omega arith)
          ],
      λ some. c.get.ensures.places,
      λ place below. elim (cases_eq place at) [
        | inl same ↦
            subst (λ n. IfSome (get_or c.args.from.now n None) (IsEdgeFor n)) (sym same)
            (subst (λ (found : Option Edge). IfSome found (IsEdgeFor at)) c.get.ensures.edge c.get.ensures.sound)
        | inr differs ↦ c.loop-number.invariant.3 place (omega arith)
      ],
    )

pub returns : goal.returns
returns c =
    let from = c.args.from.now in
    let same : length c.loop-number.to ≡ length from = c.loop-number.invariant.0 (omega arith) in
    let many : length from ≡ PLACES = c.loop-number.invariant.2 (omega arith) in
    record {
      copied = same_lists c.loop-number.to from same
          (λ k d below. get_or_default c.loop-number.to k d None below ∙ (c.loop-number.invariant.1 k (omega arith) ∙ get_or_default from k None d (omega arith)));
      sound = record {
        places = many;
        each = λ place. elim (cases_lt place PLACES) [
          | inl below ↦ c.loop-number.invariant.3 place (omega arith)
          | inr behind ↦ subst (λ (found : Option Edge). IfSome found (IsEdgeFor place)) (sym (get_or_past from place None (omega arith))) tt
        ];
      };
    }
