-- Units around the drive.
use Rattle.std.proofs.Common.{◌≡◌, ◌≢◌, ℕ, zero, suc, ◌+◌, ◌*◌, ◌<◌, ◌≤◌, Bool, true, false, true≢false, cond, eqb, ℤ, pos, negsuc, ◌+ℤ◌, [], ◌∷◌, Some, slice_get, Contains, lit≤, refl, sym, ap, subst, ◌∙◌, arith, inl, inr}
use Rattle.std.specs.Prelude.{◌*ℤ◌, ◌-ℤ◌, ◌≤ℤ◌}
use Rattle.std.proofs.lemmas.Option.{none-some, same_Some}
use Rattle.uhura_plan.specs.declared.key.Side.{Side}
use Rattle.uhura_plan.specs.declared.key.Side.TheVariants.{Lower, Upper}
use Rattle.uhura_plan.specs.declared.requirement.Requirement.{Requirement}
use Rattle.uhura_choice.specs.Branch.{holds}
use Rattle.uhura_veto.specs.Room.{requirement_room, duration_room, IsWithinRoom}
use Rattle.uhura_worst.specs.Examples.{dinner, drive, priced, flat, later_and_cut}
use Rattle.std.proofs.lemmas.Int.{ints}
use Rattle.std.proofs.lemmas.Bool.{cases_eq, eq-eqb, ne_eqb, eqb-true}
use Rattle.uhura_plan.specs.Sound.{IsSound}
use Rattle.uhura_net.specs.declared.place.TheConstants.{PLACES}
use Rattle.uhura_net.specs.Sums.{sum_below, int_sum_below}
use Rattle.uhura_net.specs.Edges.{Edges, edge_at}
use Rattle.uhura_net.specs.Circulation.{units_entering, units_leaving, IsCirculation, weighed_sum}
use Rattle.uhura_net.proofs.Scaled.{scaled-zero}
use Rattle.uhura_net.proofs.Sums.{sum_below-same, sum_below-plus, sum_below-single, int_sum_below-same, int_sum_below-plus}
use Rattle.uhura_worst.specs.Proposal.{Proposal, loosened, narrowed, least_left, greatest_left, time_of, IsWithin}
use Rattle.uhura_worst.specs.Allowed.{Allowed}
use Rattle.uhura_worst.specs.Cost.{cost}
use Rattle.uhura_dual.specs.Settled.{settled_edges, worth_with}
use Rattle.uhura_dual.specs.Examples.{even_drive, around_drive}
use Rattle.uhura_dual.proofs.KeysAt.{settled_edges-are}
use Rattle.uhura_dual.proofs.Settling.{all-settled}
use Rattle.uhura_dual.proofs.Duality.{dual-bound}

-- a term at two numbers alone
at_two : (n a b x y : ℕ) (f : ℕ → ℕ) → a < n → b < n → ((i : ℕ) → f i ≡ cond (eqb a i) x 0 + cond (eqb b i) y 0) → sum_below n f ≡ x + y
at_two n a b x y f first second terms =
    omega (
      arith,
      sum_below-same n f (λ i. cond (eqb a i) x 0 + cond (eqb b i) y 0) (λ i _. terms i),
      sum_below-plus n (λ i. cond (eqb a i) x 0) (λ i. cond (eqb b i) y 0),
      sum_below-single n a (λ i. x) first,
      sum_below-single n b (λ i. y) second,
    )

-- and so of integers
int_absent : (n at : ℕ) (z : ℤ) → n ≤ at → int_sum_below n (λ i. cond (eqb at i) z (pos 0)) ≡ pos 0
unfolding int_sum_below
int_absent zero at z before = refl
int_absent (suc n) at z before =
    let apart : eqb at n ≡ false = ne_eqb at n (omega arith) in
    rw apart (omega (arith, ints, int_absent n at z (omega arith)))

int_single : (n at : ℕ) (z : ℤ) → at < n → int_sum_below n (λ i. cond (eqb at i) z (pos 0)) ≡ z
unfolding int_sum_below
int_single zero at z inside = absurd (omega arith)
int_single (suc n) at z inside =
    elim (cases_eq at n) [
      | inl same ↦
          let here : eqb at n ≡ true = eq-eqb at n same in
          rw here (omega (arith, ints, int_absent n at z (omega arith)))
      | inr apart ↦
          let elsewhere : eqb at n ≡ false = ne_eqb at n apart in
          rw elsewhere (omega (arith, ints, int_single n at z (omega arith)))
    ]

int_at_two : (n a b : ℕ) (x y : ℤ) (f : ℕ → ℤ) → a < n → b < n → ((i : ℕ) → f i ≡ cond (eqb a i) x (pos 0) +ℤ cond (eqb b i) y (pos 0)) → int_sum_below n f ≡ x +ℤ y
int_at_two n a b x y f first second terms =
    omega (
      arith,
      ints,
      int_sum_below-same n f (λ i. cond (eqb a i) x (pos 0) +ℤ cond (eqb b i) y (pos 0)) (λ i _. terms i),
      int_sum_below-plus n (λ i. cond (eqb a i) x (pos 0)) (λ i. cond (eqb b i) y (pos 0)),
      int_single n a x first,
      int_single n b y second,
    )

-- what a test lets through of units at two places
tested : (test : ℕ → Bool) (a b u i : ℕ) → cond (test i) (cond (eqb a i) u 0 + cond (eqb b i) u 0) 0 ≡ cond (eqb a i) (cond (test a) u 0) 0 + cond (eqb b i) (cond (test b) u 0) 0
tested test a b u i = by (eqb a i) refl (eqb b i) refl (test i) refl
  where
    at : (p : ℕ) → eqb p i ≡ true → (t : Bool) → test i ≡ t → cond (test p) u 0 ≡ cond t u 0
    at p same t is = ap (λ (b : Bool). cond b u 0) (ap test (eqb-true p i same) ∙ is)

    by : (p : Bool) → eqb a i ≡ p → (q : Bool) → eqb b i ≡ q → (t : Bool) → test i ≡ t →
        cond t (cond p u 0 + cond q u 0) 0 ≡ cond p (cond (test a) u 0) 0 + cond q (cond (test b) u 0) 0
    by true here true there true is = omega (arith, at a here true is, at b there true is)
    by true here true there false is = omega (arith, at a here false is, at b there false is)
    by true here false there true is = omega (arith, at a here true is)
    by true here false there false is = omega (arith, at a here false is)
    by false here true there true is = omega (arith, at b there true is)
    by false here true there false is = omega (arith, at b there false is)
    by false here false there true is = refl
    by false here false there false is = refl

-- the edges around the drive
abbrev pub edges : Edges
edges = settled_edges even_drive []

-- they carry 3 each
pub around-circulates : IsCirculation PLACES edges (around_drive 3)
around-circulates = record {
  within = λ place. within place (eqb 2 place) refl (eqb 8194 place) refl;
  balanced = λ node.
      let into : units_entering PLACES edges (around_drive 3) node ≡ cond (eqb 513 node) 3 0 + cond (eqb 0 node) 3 0 =
      at_two PLACES 2 8194 (cond (eqb 513 node) 3 0) (cond (eqb 0 node) 3 0) (λ place. cond (eqb (edge_at edges place).to node) (around_drive 3 place) 0) (omega arith) (omega arith)
      (λ place. tested (λ p. eqb (edge_at edges p).to node) 2 8194 3 place) in
      let out : units_leaving PLACES edges (around_drive 3) node ≡ cond (eqb 0 node) 3 0 + cond (eqb 513 node) 3 0 =
      at_two PLACES 2 8194 (cond (eqb 0 node) 3 0) (cond (eqb 513 node) 3 0) (λ place. cond (eqb (edge_at edges place).from node) (around_drive 3 place) 0) (omega arith) (omega arith)
      (λ place. tested (λ p. eqb (edge_at edges p).from node) 2 8194 3 place) in
      omega (arith, into, out);
}
  where
    within : (place : ℕ) (p : Bool) → eqb 2 place ≡ p → (q : Bool) → eqb 8194 place ≡ q → cond p 3 0 + cond q 3 0 ≤ (edge_at edges place).capacity
    within place true here q there =
        subst (λ (b : Bool). 3 + cond b 3 0 ≤ (edge_at edges place).capacity) there
        (subst (λ (p : ℕ). 3 + cond (eqb 8194 p) 3 0 ≤ (edge_at edges p).capacity) (eqb-true 2 place here) (lit≤ tt))
    within place false here true there = subst (λ (p : ℕ). 3 ≤ (edge_at edges p).capacity) (eqb-true 8194 place there) (lit≤ tt)
    within place false here false there = omega arith

-- and 4 are too many for the first of them
pub around-too_many : IsCirculation PLACES edges (around_drive 4) → ⊥
around-too_many circulation = omega (arith, circulation.within 2)

-- what units at two places weigh
weighed : (weight : ℕ → ℤ) (a b u i : ℕ) → a ≢ b →
    pos (cond (eqb a i) u 0 + cond (eqb b i) u 0) *ℤ weight i ≡ cond (eqb a i) (pos u *ℤ weight a) (pos 0) +ℤ cond (eqb b i) (pos u *ℤ weight b) (pos 0)
weighed weight a b u i apart = by (eqb a i) refl (eqb b i) refl
  where
    at : (p : ℕ) → eqb p i ≡ true → pos (u + 0) *ℤ weight i ≡ pos u *ℤ weight p
    at p same = ap (λ (n : ℕ). pos n *ℤ weight i) (let e : u + 0 ≡ u = omega arith in e) ∙ ap (λ (n : ℕ). pos u *ℤ weight n) (sym (eqb-true p i same))

    by : (p : Bool) → eqb a i ≡ p → (q : Bool) → eqb b i ≡ q →
        pos (cond p u 0 + cond q u 0) *ℤ weight i ≡ cond p (pos u *ℤ weight a) (pos 0) +ℤ cond q (pos u *ℤ weight b) (pos 0)
    by true here true there = absurd (apart (eqb-true a i here ∙ sym (eqb-true b i there)))
    by true here false there = omega (arith, ints, at a here)
    by false here true there =
        let swapped : pos (0 + u) *ℤ weight i ≡ pos (u + 0) *ℤ weight i = ap (λ (n : ℕ). pos n *ℤ weight i) (let e : 0 + u ≡ u + 0 = omega arith in e) in
        omega (arith, ints, swapped, at b there)
    by false here false there = omega (arith, ints, scaled-zero (weight i))

-- they are worth 30
pub around-worth : worth_with even_drive.plan [] edges (around_drive 3) ≡ pos 30
around-worth =
    let sum : weighed_sum PLACES edges (around_drive 3) (λ edge. edge.bound) ≡ (pos 3 *ℤ pos 40) +ℤ (pos 3 *ℤ negsuc 49) =
    int_at_two PLACES 2 8194 (pos 3 *ℤ pos 40) (pos 3 *ℤ negsuc 49) (λ place. pos (around_drive 3 place) *ℤ (edge_at edges place).bound) (omega arith) (omega arith)
    (λ place. weighed (λ p. (edge_at edges p).bound) 2 8194 3 place (λ same. omega (arith, same))) in
    omega (arith, ints, sum)

-- so nothing costs less, whole or in parts
pub around-bound : (k : ℕ) (q : Proposal) → IsSound even_drive.plan → Allowed even_drive k q → k * 30 ≤ cost even_drive.plan k q
around-bound k q sound allowed =
    let bound = dual-bound even_drive [] edges (around_drive 3) k q sound (all-settled even_drive [] edges (settled_edges-are even_drive [])) around-circulates allowed (q.branch, refl) in
    let scaled : pos k *ℤ worth_with even_drive.plan [] edges (around_drive 3) ≡ pos k *ℤ pos 30 = ap (λ (z : ℤ). pos k *ℤ z) around-worth in
    omega (arith, ints, bound, scaled)

-- of a list of one there is this one, at its first place
is_one : {X : Type 0} (x y : X) → Contains (x ∷ []) y → x ≡ y
is_one x y (zero, below, is) = is
is_one x y (suc k, below, is) = absurd (omega (arith, below))

is_first : {X : Type 0} (x y : X) (d : ℕ) → slice_get (x ∷ []) d ≡ Some y → (0 ≡ d) × (x ≡ y)
is_first x y zero is = (refl, same_Some x y is)
is_first x y (suc d) is = absurd (none-some y is)

-- in halves, dinner later by 19 and the drive cut by 1 are allowed
pub halves-allowed : Allowed even_drive 2 (later_and_cut 19 1)
halves-allowed = record {
  scale = lit≤ tt;
  branch = tt;
  not_denied = refl;
  loosened_within = λ side r member. subst (λ r. IsWithinRoom 2 (requirement_room [] side r) (loosened (later_and_cut 19 1) side r)) (is_one even_dinner r member) (dinner_within side);
  loosened_active = λ side r member inactive. absurd (true≢false (subst (λ r. holds r.guard [] ≡ false) (sym (is_one even_dinner r member)) inactive));
  narrowed_within = λ side d u is.
      let first = is_first drive u d is in
      subst (λ u. IsWithinRoom 2 (duration_room [] d side u) (narrowed (later_and_cut 19 1) side d)) first.1
      (subst (λ d. IsWithinRoom 2 (duration_room [] d side drive) (narrowed (later_and_cut 19 1) side d)) first.0 (drive_within side));
  ranges_left = λ d u is.
      let first = is_first drive u d is in
      subst (λ u. least_left 2 (later_and_cut 19 1) d u ≤ℤ greatest_left 2 (later_and_cut 19 1) d u) first.1
      (subst (λ d. least_left 2 (later_and_cut 19 1) d drive ≤ℤ greatest_left 2 (later_and_cut 19 1) d drive) first.0 (omega (arith, ints)));
  covers = λ durations left r member active.
      subst (λ r. IsWithin 2 (later_and_cut 19 1) r (time_of even_drive.plan (later_and_cut 19 1) durations r.to -ℤ time_of even_drive.plan (later_and_cut 19 1) durations r.from)) (is_one even_dinner r member)
      (let drive_left = left 0 drive refl in record { lower = tt; upper = omega (arith, ints, drive_left.1) });
}
  where
    even_dinner : Requirement
    even_dinner = record dinner { upper = priced (pos 40) (flat 3) }

    dinner_within : (side : Side) → IsWithinRoom 2 (requirement_room [] side even_dinner) (loosened (later_and_cut 19 1) side even_dinner)
    dinner_within Lower = lit≤ tt
    dinner_within Upper = tt

    drive_within : (side : Side) → IsWithinRoom 2 (duration_room [] 0 side drive) (narrowed (later_and_cut 19 1) side 0)
    drive_within Lower = lit≤ tt
    drive_within Upper = lit≤ tt
