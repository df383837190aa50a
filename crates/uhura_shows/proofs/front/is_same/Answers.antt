use Rattle.std.proofs.Common.{◌≡◌, ℕ, true≢false, refl, sym, ap}
use Rattle.std.specs.Bool.{Decides}
use Rattle.std.proofs.lemmas.Bool.Decides.{Decides-eqb}
use Rattle.std.proofs.lemmas.Slice.Eq.{slice_eq-Decides}
use Rattle.uhura_choice.specs.declared.prefix.Pick.{Pick}
use Rattle.uhura_choice.specs.declared.prefix.Pick.TheVariants.{Alternative, Inactive}
use Rattle.uhura_choice.specs.contracts.prefix.PickPartialEq.TheImpl.{eq-value}
use Rattle.uhura_shows.proofs.front.is_same.Goals as goal

-- two picks are the same where they are alternatives of one number, or both none
pick-decides : (a b : Pick) → Decides (eq-value.it a b) (a ≡ b)
pick-decides (Alternative a) (Alternative b) = (λ same. ap (λ (n : ℕ). Alternative n) ((Decides-eqb a b).0 same), λ same. (Decides-eqb a b).1 cc)
pick-decides (Alternative a) Inactive = (λ same. absurd (true≢false (sym same)), λ same. absurd (let never : ⊥ = cc in never))
pick-decides Inactive (Alternative b) = (λ same. absurd (true≢false (sym same)), λ same. absurd (let never : ⊥ = cc in never))
pick-decides Inactive Inactive = (λ same. refl, λ same. refl)

pub returns : goal.returns
returns c = slice_eq-Decides pick-decides c.args.one.now c.args.other.now c.eq.result c.eq.ensures
