-- The caps of a list of vetoes, one veto after another.
use Rattle.std.proofs.Common.{◌≡◌, ℕ, ◌+◌, ◌<◌, Bool, true, false, List, [], ◌∷◌, ◌++◌, take, length, get_or, refl, ap, sym, ◌∙◌}
use Rattle.std.specs.Prelude.{if◌then◌else◌, min}
use Rattle.std.proofs.lemmas.List.{take_more}
use Rattle.std.proofs.lemmas.List.Sums.{fold-append}
use Rattle.uhura_plan.specs.declared.key.SideKey.{SideKey}
use Rattle.uhura_plan.specs.Keys.{is_same_key}
use Rattle.uhura_veto.specs.declared.veto.Veto.{Veto}
use Rattle.uhura_veto.specs.declared.veto.Veto.TheVariants.{Deny, Cap}
use Rattle.uhura_veto.specs.declared.room.Room.{Room}
use Rattle.uhura_veto.specs.declared.room.Room.TheVariants.{Units, Unlimited}
use Rattle.uhura_veto.specs.Room.{caps_on, least_with}

-- the caps of two lists together
caps_on-append : (key : SideKey) (xs ys : List Veto) → caps_on key (xs ++ ys) ≡ caps_on key xs ++ caps_on key ys
caps_on-append key [] ys = refl
caps_on-append key (Deny name literals ∷ xs) ys = caps_on-append key xs ys
caps_on-append key (Cap name capped units ∷ xs) ys = by (is_same_key key capped) (caps_on-append key xs ys)
  where
    by : (b : Bool) → caps_on key (xs ++ ys) ≡ caps_on key xs ++ caps_on key ys → (if b then units ∷ caps_on key (xs ++ ys) else caps_on key (xs ++ ys)) ≡ (if b then units ∷ caps_on key xs else caps_on key xs) ++ caps_on key ys
    by true same = ap (λ (ns : List ℕ). units ∷ ns) same
    by false same = same

-- the least with the numbers of two lists, one list after the other
least_with-append : (room : Room) (xs ys : List ℕ) → least_with room (xs ++ ys) ≡ least_with (least_with room xs) ys
least_with-append Unlimited [] ys = refl
least_with-append Unlimited (x ∷ xs) ys = ap (λ (n : ℕ). Units n) (fold-append min x xs ys)
least_with-append (Units most) xs ys = ap (λ (n : ℕ). Units n) (fold-append min most xs ys)

-- one veto more
pub least_with-next : (limit room : Room) (key : SideKey) (vetoes : List Veto) (i : ℕ) (next : Veto) → i < length vetoes → next ≡ get_or vetoes i next → room ≡ least_with limit (caps_on key (take i vetoes)) →
    least_with room (caps_on key (next ∷ [])) ≡ least_with limit (caps_on key (take (i + 1) vetoes))
least_with-next limit room key vetoes i next below is before =
    ap (λ (r : Room). least_with r (caps_on key (next ∷ []))) before
    ∙ sym (least_with-append limit (caps_on key (take i vetoes)) (caps_on key (next ∷ [])))
    ∙ ap (λ (caps : List ℕ). least_with limit caps) (sym (caps_on-append key (take i vetoes) (next ∷ [])))
    ∙ ap (λ (some : List Veto). least_with limit (caps_on key some)) (ap (λ (v : Veto). take i vetoes ++ v ∷ []) is ∙ sym (take_more vetoes i next below))
