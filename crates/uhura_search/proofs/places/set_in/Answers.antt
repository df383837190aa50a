use Rattle.std.proofs.Common.{rules, ◌≡◌, ℕ, ◌<◌, Bool, true, false, List, length, ap, subst, ◌∙◌, arith}
use Rattle.std.specs.Prelude.{if◌then◌else◌, is_ok, Ok, Err}
use Rattle.std.specs.List.{insert}
use Rattle.std.specs.List.Sorted.{IsBinarySearchResult}
use Rattle.std.specs.Ordering.{nat_cmp}
use Rattle.std.proofs.lemmas.List.Sorted.{searched}
use Rattle.uhura_search.proofs.Placing.{rises-weakly, inserted-places, inserted-room, inserted-set, passed-set, removed-places, removed-set}
use Rattle.uhura_search.proofs.places.set_in.Goals as goal

pub returns-then-not-there-clause-set : goal.returns-then-not-there-clause-set
returns-then-not-there-clause-set c =
    let xs = c.args.listed.now.items in
    let found = searched xs c.args.place (Ok c.in-Ok.at) (subst (λ (l : List ℕ). IsBinarySearchResult (λ y. nat_cmp y c.args.place) l (Ok c.in-Ok.at)) c.as_slice.ensures.value c.in-Ok.ensures.position) (rises-weakly xs c.requires.places.rising) in
    let no : c.args.there ≡ false = search rules in
    rw (no, c.remove.ensures.items) (removed-set xs c.in-Ok.at c.args.place c.requires.places found.0 found.1)

pub returns-then-not-there-clause-places : goal.returns-then-not-there-clause-places
returns-then-not-there-clause-places c =
    let xs = c.args.listed.now.items in
    let found = searched xs c.args.place (Ok c.in-Ok.at) (subst (λ (l : List ℕ). IsBinarySearchResult (λ y. nat_cmp y c.args.place) l (Ok c.in-Ok.at)) c.as_slice.ensures.value c.in-Ok.ensures.position) (rises-weakly xs c.requires.places.rising) in
    rw c.remove.ensures.items (removed-places xs c.in-Ok.at c.args.place c.requires.places found.0 found.1)

pub returns-then-there-clause-set : goal.returns-then-there-clause-set
returns-then-there-clause-set c =
    let xs = c.args.listed.now.items in
    let at = c.in-Err.at in
    let place = c.args.place in
    let found = searched xs place (Err at) (subst (λ (l : List ℕ). IsBinarySearchResult (λ y. nat_cmp y place) l (Err at)) c.as_slice.ensures.value c.in-Err.ensures.position) (rises-weakly xs c.requires.places.rising) in
    let room : length xs < 14080 = inserted-room xs at place c.requires.places found.0 found.1 found.2 c.requires.place in
    let ok : is_ok c.insert.result ≡ true = c.insert.ensures.succeeds (omega (arith, room, c.requires.room, c.as_slice.ensures.len, ap length c.as_slice.ensures.value)) in
    let items = c.insert.ensures.items ∙ ap (λ (b : Bool). if b then insert xs at place else xs) ok in
    rw (c.if-there.true, items) (inserted-set xs at place c.requires.places found.0 found.1 found.2 c.requires.place)

pub returns-then-there-clause-places : goal.returns-then-there-clause-places
returns-then-there-clause-places c =
    let xs = c.args.listed.now.items in
    let at = c.in-Err.at in
    let place = c.args.place in
    let found = searched xs place (Err at) (subst (λ (l : List ℕ). IsBinarySearchResult (λ y. nat_cmp y place) l (Err at)) c.as_slice.ensures.value c.in-Err.ensures.position) (rises-weakly xs c.requires.places.rising) in
    let room : length xs < 14080 = inserted-room xs at place c.requires.places found.0 found.1 found.2 c.requires.place in
    let ok : is_ok c.insert.result ≡ true = c.insert.ensures.succeeds (omega (arith, room, c.requires.room, c.as_slice.ensures.len, ap length c.as_slice.ensures.value)) in
    let items = c.insert.ensures.items ∙ ap (λ (b : Bool). if b then insert xs at place else xs) ok in
    rw items (inserted-places xs at place c.requires.places found.0 found.1 found.2 c.requires.place)

pub returns-else-there-clause-set : goal.returns-else-there-clause-set
returns-else-there-clause-set c =
    let xs = c.args.listed.now.items in
    let at = c.in-Err.at in
    let place = c.args.place in
    let found = searched xs place (Err at) (subst (λ (l : List ℕ). IsBinarySearchResult (λ y. nat_cmp y place) l (Err at)) c.as_slice.ensures.value c.in-Err.ensures.position) (rises-weakly xs c.requires.places.rising) in
    rw c.if-there.false (passed-set xs at place c.requires.places found.0 found.1 found.2 c.requires.place)
