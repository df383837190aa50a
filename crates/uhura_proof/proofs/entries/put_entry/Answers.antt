use Rattle.std.proofs.Common.{rules, ◌≡◌, Bool, ◌∷◌, ◌++◌, [], Some, slice_get, sym, ap, subst, ◌∙◌, inl, inr, true, false, bytes_eq}
use Rattle.std.specs.Prelude.{if◌then◌else◌}
use Rattle.std.specs.List.{list_any}
use Rattle.std.proofs.lemmas.Slice.Eq.{bytes_eq-Decides}
use Rattle.uhura_proof.proofs.Contents.{entry_at, entry_first, key_last, not_true, not_false}
use Rattle.uhura_proof.proofs.entries.put_entry.Goals as goal
use Rattle.uhura_proof.proofs.entries.put_entry.Goals.{then-is_new+in_ok-push, else-is_new}

pub returns-in-Ok-try_from-clause-put : goal.returns-in-Ok-try_from-clause-put
returns-in-Ok-try_from-clause-put c =
    let keys = c.args.contents.now.keys in
    let own = c.in_ok-content.content in
    let entries = c.args.entries.now.items in
    let has : Bool = list_any (λ v. bytes_eq own.items v.items) keys in
    let place : c.in-Ok-try_from.place ≡ c.in-Ok.found.0 = search rules in
    elim c.if-is_new.branch [
      | then-is_new+in_ok-push w ↦
          let none : has ≡ false = not_true has c.in-Ok.found.1 c.in-Ok.ensures.added w.if-is_new.true in
          inr (record {
            more = ap (λ v. v.items) w.entries-is ∙ w.in_ok-push.ensures.items;
            last = place ∙ c.in-Ok.ensures.index ∙ key_last (λ v. v.items) _ (λ a b. bytes_eq-Decides a.items b.items) keys own entries c.args.entry c.requires.contents.are c.requires.contents.placed c.requires.placed c.in_ok-content.ensures none;
            first = entry_first (λ v. v.items) _ (λ a b. bytes_eq-Decides a.items b.items) keys own entries c.args.entry c.requires.contents.are c.requires.contents.placed c.requires.placed c.in_ok-content.ensures none;
          })
      | else-is_new w ↦
          let some : has ≡ true = not_false has c.in-Ok.found.1 c.in-Ok.ensures.added w.if-is_new.false in
          let stored = c.in-Ok.ensures.stored in
          let kept : c.insert_full.new.self.keys ≡ keys = c.in-Ok.ensures.keys ∙ ap (λ (b : Bool). if b then keys else keys ++ own ∷ []) some in
          inl (record {
            same = ap (λ v. v.items) w.entries-is;
            at = subst (λ i. slice_get entries i ≡ Some c.args.entry) (sym place)
                (entry_at (λ v. v.items) _ (λ a b. bytes_eq-Decides a.items b.items) keys own entries c.args.entry c.requires.contents.are c.requires.contents.placed c.requires.placed c.in_ok-content.ensures c.in-Ok.found.0 stored.0
                (ap (λ ks. slice_get ks c.in-Ok.found.0) (sym kept) ∙ stored.1) stored.2);
          })
    ]
