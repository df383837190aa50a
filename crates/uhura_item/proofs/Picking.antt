-- How the words of a leaf are read and written, one behind the other.
use Rattle.std.proofs.Common.{◌≡◌, ℕ, ◌+◌, ◌<◌, List, [], ◌∷◌, ◌++◌, take, map, length, get_or, Option, Some, None, option_map, IfSome, refl, ap, sym, ◌∙◌, append_assoc, append-nil}
use Rattle.std.specs.List.{AllByRecursion}
use Rattle.std.proofs.lemmas.List.{take_more, map-append}
use Rattle.uhura_plan.specs.Sound.{IsName}
use Rattle.uhura_line.specs.Form.{Word}
use Rattle.uhura_line.specs.Written.{spaced}
use Rattle.uhura_line.proofs.Spacing.{spaced-append}
use Rattle.uhura_item.specs.Item.{pick_word}
use Rattle.uhura_item.specs.Reader.{picked_in, picks_in}

-- what is picked by the words before those that are left
pub record ArePickedTo (all left : List Word) (picks : List (Option (List ℕ))) : Type 0 where
  pub reads : picks_in all ≡ option_map (λ rest. picks ++ rest) (picks_in left)
  pub named : AllByRecursion (λ p. IfSome p IsName) picks

same_none : (picks : Option (List (Option (List ℕ)))) → picks ≡ option_map (λ rest. [] ++ rest) picks
same_none None = refl
same_none (Some picks) = refl

pub picks_begun : (all : List Word) → ArePickedTo all all []
picks_begun all = record { reads = same_none (picks_in all); named = tt }

-- what holds of each and of one more holds of all
pub all_push : {X : Type 0} (P : X → Type 0) (xs : List X) (x : X) → AllByRecursion P xs → P x → AllByRecursion P (xs ++ x ∷ [])
all_push P [] x all one = (one, tt)
all_push P (y ∷ ys) x all one = (all.0, all_push P ys x all.1 one)

one_more : (picks : List (Option (List ℕ))) (pick : Option (List ℕ)) (rest : Option (List (Option (List ℕ))))
    → option_map (λ rest. picks ++ rest) (option_map (λ rest. pick ∷ rest) rest) ≡ option_map (λ rest. (picks ++ pick ∷ []) ++ rest) rest
one_more picks pick None = refl
one_more picks pick (Some rest) = ap (λ p. Some p) (sym (append_assoc picks (pick ∷ []) rest))

step : (word : Word) (more : List Word) (pick : Option (List ℕ)) → picked_in word ≡ Some pick → picks_in (word ∷ more) ≡ option_map (λ rest. pick ∷ rest) (picks_in more)
step word more pick e = rw e refl

stop : (word : Word) (more : List Word) → picked_in word ≡ None → picks_in (word ∷ more) ≡ None
stop word more e = rw e refl

pub picks_more : (all left more : List Word) (picks : List (Option (List ℕ))) (word : Word) (pick : Option (List ℕ)) → ArePickedTo all left picks → left ≡ word ∷ more
    → Some pick ≡ picked_in word → IfSome pick IsName → ArePickedTo all more (picks ++ pick ∷ [])
picks_more all left more picks word pick h e picked named = record {
  reads =
      h.reads
      ∙ ap (λ l. option_map (λ rest. picks ++ rest) (picks_in l)) e
      ∙ ap (option_map (λ rest. picks ++ rest)) (step word more pick (sym picked))
      ∙ one_more picks pick (picks_in more);
  named = all_push (λ p. IfSome p IsName) picks pick h.named named;
}

pub picks_all : (all left : List Word) (picks : List (Option (List ℕ))) → ArePickedTo all left picks → left ≡ [] → Some picks ≡ picks_in all
picks_all all left picks h e =
    sym (h.reads ∙ ap (λ l. option_map (λ rest. picks ++ rest) (picks_in l)) e ∙ ap (λ p. Some p) (append-nil picks))

pub picks_none : (all left more : List Word) (picks : List (Option (List ℕ))) (word : Word) → ArePickedTo all left picks → left ≡ word ∷ more → None ≡ picked_in word → None ≡ picks_in all
picks_none all left more picks word h e none =
    sym (h.reads ∙ ap (λ l. option_map (λ rest. picks ++ rest) (picks_in l)) e ∙ ap (option_map (λ rest. picks ++ rest)) (stop word more (sym none)))

pub ruleset picked = (picks_begun, picks_more, picks_all, picks_none)

-- one more pick is written
pub put_more : (picks : List (Option (List ℕ))) (i : ℕ) (pick : Option (List ℕ)) → i < length picks → pick ≡ get_or picks i pick
    → spaced (map pick_word (take (i + 1) picks)) ≡ spaced (map pick_word (take i picks)) ++ spaced (pick_word pick ∷ [])
put_more picks i pick within is =
    let front = take i picks in
    let taken : take (i + 1) picks ≡ front ++ pick ∷ [] = take_more picks i pick within ∙ ap (λ p. front ++ p ∷ []) (sym is) in
    ap (λ ps. spaced (map pick_word ps)) taken ∙ ap spaced (map-append pick_word front (pick ∷ [])) ∙ spaced-append (map pick_word front) (pick_word pick ∷ [])
