-- A line is taken by its item.
use Rattle.std.proofs.Common.{◌≡◌, ℕ, Bool, true, false, List, Result, Ok, Err, sym, ◌∙◌, subst}
use Rattle.std.specs.declared.alloc.AllocError.{AllocError}
use Rattle.uhura_item.specs.declared.item.Item.{Item}
use Rattle.uhura_item.specs.Item.{spell, IsItem}
use Rattle.uhura_item.proofs.OneItem.{one_item}
use Rattle.uhura_cert.specs.Machine.{Spot, Step, Takes}
use Rattle.uhura_cert.specs.Reading.{StepsTo}

-- a line of no item leads nowhere
pub no_item : (line : List ℕ) (s : Spot) → ((i : Item) → IsItem i → spell i ≡ line → ⊥) → (next : Spot) → Takes s line next → ⊥
no_item line s none next takes = none takes.item takes.moves.fits takes.spelled

-- what follows by its item follows by the line
pub stepped : (line : List ℕ) (i : Item) (s new : Spot) (result : Result Bool AllocError) → IsItem i → spell i ≡ line → StepsTo result (Step s i) new → StepsTo result (Takes s line) new
stepped line i s new (Ok true) fits spelled steps = record { item = i; moves = record { fits = fits; step = steps }; spelled = spelled }
stepped line i s new (Ok false) fits spelled steps = λ next takes.
    let same : takes.item ≡ i = one_item takes.item i takes.moves.fits fits (takes.spelled ∙ sym spelled) in
    steps next (subst (λ (i : Item). Step s i next) same takes.moves.step)
stepped line i s new (Err error) fits spelled steps = tt
