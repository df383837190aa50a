-- An edge that isn't loose can carry more than all loose ones: of 9,472 places in tables 4,608 are loose, and so are
-- the 4,608 behind them.
use Rattle.std.proofs.Common.{◌≡◌, ℕ, ◌+◌, ◌*◌, ◌<◌, ◌≤◌, Bool, true, false, cond, Option, None, Some, unwrap_or, refl, ap, ◌∙◌, arith}
use Rattle.std.specs.Bool.{MatchBool}
use Rattle.uhura_plan.specs.declared.key.Item.TheVariants.{Requirement, Uncertain}
use Rattle.uhura_plan.specs.Limits.{IsUnitPrice}
use Rattle.uhura_net.specs.declared.edge.TheConstants.{FIRM_CAPACITY}
use Rattle.uhura_plan.specs.declared.limits.TheConstants.{REQUIREMENTS, UNCERTAINS, UNIT_PRICE}
use Rattle.uhura_net.specs.declared.place.TheConstants.{PLACES, FIRST_OF_DURATIONS, FIRST_STEEP}
use Rattle.uhura_net.specs.declared.edge.Edge.{Edge}
use Rattle.uhura_net.specs.Place.{is_loose}
use Rattle.uhura_net.specs.Table.{IsEdgeFor}
use Rattle.uhura_net.specs.Sums.{sum_below}
use Rattle.uhura_net.specs.Edges.{Edges, no_edge, edge_at}
use Rattle.uhura_net.specs.Optimal.{loose_capacity, ArePlaced, FirmOutweighLoose}
use Rattle.uhura_net.proofs.Rows.{loose_in, loose_last}
use Rattle.uhura_net.proofs.Sums.{sum_below-most, sum_below-append, sum_below-blocks}
use Rattle.uhura_net.proofs.Firm.{firm_there}

-- a count for each place, of 1,000,000 at most, and of nothing where the place isn't loose
record CountsLoose (count : ℕ → ℕ) : Type 0 where
  most : (place : ℕ) → count place ≤ UNIT_PRICE
  firm : (place : ℕ) → is_loose place ≡ false → count place ≡ 0

-- a sum of four, and of five
sum_of_four : (f : ℕ → ℕ) → sum_below 4 f ≡ f 0 + f 1 + f 2 + f 3
unfolding sum_below
sum_of_four f = omega arith

sum_of_five : (f : ℕ → ℕ) → sum_below 5 f ≡ f 0 + f 1 + f 2 + f 3 + f 4
unfolding sum_below
sum_of_five f = omega arith

-- in the table of a requirement two places are loose
slot_most : (count : ℕ → ℕ) (slot : ℕ) → CountsLoose count → slot < REQUIREMENTS → sum_below 4 (λ row. count (4 * slot + row)) ≤ 2 * UNIT_PRICE
slot_most count slot counts inside =
    omega (
      arith,
      sum_of_four (λ row. count (4 * slot + row)),
      counts.most (4 * slot + 0),
      counts.firm (4 * slot + 1) (loose_in (Requirement slot) 1 inside (omega arith)),
      counts.most (4 * slot + 2),
      counts.firm (4 * slot + 3) (loose_in (Requirement slot) 3 inside (omega arith)),
    )

-- and in that of a duration
duration_most : (count : ℕ → ℕ) (d : ℕ) → CountsLoose count → d < UNCERTAINS → sum_below 5 (λ row. count (FIRST_OF_DURATIONS + (5 * d + row))) ≤ 2 * UNIT_PRICE
duration_most count d counts inside =
    let at : (row : ℕ) → FIRST_OF_DURATIONS + (5 * d + row) ≡ FIRST_OF_DURATIONS + 5 * d + row = λ row. omega arith in
    omega (
      arith,
      sum_of_five (λ row. count (FIRST_OF_DURATIONS + (5 * d + row))),
      counts.most (FIRST_OF_DURATIONS + (5 * d + 0)),
      ap count (at 1) ∙ counts.firm (FIRST_OF_DURATIONS + 5 * d + 1) (loose_in (Uncertain d) 1 inside (omega arith)),
      counts.most (FIRST_OF_DURATIONS + (5 * d + 2)),
      ap count (at 3) ∙ counts.firm (FIRST_OF_DURATIONS + 5 * d + 3) (loose_in (Uncertain d) 3 inside (omega arith)),
      ap count (at 4) ∙ counts.firm (FIRST_OF_DURATIONS + 5 * d + 4) (loose_last d inside),
    )

-- the tables of the first slots, of the first durations, and all of them
slots_most : (count : ℕ → ℕ) → CountsLoose count → sum_below (4 * REQUIREMENTS) count ≤ REQUIREMENTS * (2 * UNIT_PRICE)
slots_most count counts = rw (sum_below-blocks 4 REQUIREMENTS count) (sum_below-most REQUIREMENTS (2 * UNIT_PRICE) _ (λ slot inside. slot_most count slot counts inside))

durations_most : (count : ℕ → ℕ) → CountsLoose count → sum_below (5 * UNCERTAINS) (λ i. count (FIRST_OF_DURATIONS + i)) ≤ UNCERTAINS * (2 * UNIT_PRICE)
durations_most count counts =
    rw (sum_below-blocks 5 UNCERTAINS (λ i. count (FIRST_OF_DURATIONS + i))) (sum_below-most UNCERTAINS (2 * UNIT_PRICE) _ (λ d inside. duration_most count d counts inside))

steep_most : (count : ℕ → ℕ) → CountsLoose count → sum_below (2 * REQUIREMENTS + 2 * UNCERTAINS) (λ i. count (FIRST_STEEP + i)) ≤ (2 * REQUIREMENTS + 2 * UNCERTAINS) * UNIT_PRICE
steep_most count counts = sum_below-most (2 * REQUIREMENTS + 2 * UNCERTAINS) UNIT_PRICE (λ i. count (FIRST_STEEP + i)) (λ i _. counts.most (FIRST_STEEP + i))

counts_most : (count : ℕ → ℕ) → CountsLoose count → sum_below PLACES count ≤ 4 * (REQUIREMENTS + UNCERTAINS) * UNIT_PRICE
counts_most count counts =
    omega (
      arith,
      sum_below-append FIRST_STEEP (2 * REQUIREMENTS + 2 * UNCERTAINS) count,
      sum_below-append FIRST_OF_DURATIONS (5 * UNCERTAINS) count,
      slots_most count counts,
      durations_most count counts,
      steep_most count counts,
    )

-- the capacity of a place counts at most 1,000,000 where it is loose
loose_most : (loose : Bool) (capacity : ℕ) → MatchBool loose (IsUnitPrice capacity) (capacity ≡ FIRM_CAPACITY) → cond loose capacity 0 ≤ UNIT_PRICE
loose_most true capacity price = price.most
loose_most false capacity price = omega arith

-- and is 10,000,000,000 where it isn't
firm_capacity : (loose : Bool) (capacity : ℕ) → MatchBool loose (IsUnitPrice capacity) (capacity ≡ FIRM_CAPACITY) → loose ≡ false → capacity ≡ FIRM_CAPACITY
firm_capacity true capacity price firm = absurd (let no : ⊥ = cc in no)
firm_capacity false capacity price firm = price

-- the same where there may be no edge
no_capacity : (loose : Bool) → cond {A = ℕ} loose 0 0 ≤ UNIT_PRICE
no_capacity true = omega arith
no_capacity false = omega arith

loose_most_at : (at : Option Edge) (place : ℕ) → ((edge : Edge) → at ≡ Some edge → IsEdgeFor place edge) → cond (is_loose place) (unwrap_or at no_edge).capacity 0 ≤ UNIT_PRICE
loose_most_at None place sound = no_capacity (is_loose place)
loose_most_at (Some edge) place sound = loose_most (is_loose place) edge.capacity (sound edge refl).capacity

-- so the loose edges can carry 9,216,000,000 together
pub loose_capacity_most : (edges : Edges) → ArePlaced edges → loose_capacity PLACES edges ≤ 4 * (REQUIREMENTS + UNCERTAINS) * UNIT_PRICE
loose_capacity_most edges placed =
    counts_most (λ p. cond (is_loose p) (edge_at edges p).capacity 0) (record {
      most = λ p. loose_most_at (edges p) p (λ e at. (placed p e at).1);
      firm = λ p firm. ap (λ loose. cond loose (edge_at edges p).capacity 0) firm;
    })

-- an edge that isn't loose is there
there_is : (at : Option Edge) (loose : Bool) (edge : Edge) → cond loose None at ≡ Some edge → at ≡ Some edge
there_is at true edge is = absurd (let no : ⊥ = cc in no)
there_is at false edge is = is

pub firm_outweigh : (edges : Edges) → ArePlaced edges → FirmOutweighLoose PLACES edges
firm_outweigh edges placed place edge is =
    let there = firm_there (edges place) (is_loose place) edge is in
    let stands = placed place edge (there_is (edges place) (is_loose place) edge is) in
    record {
      inside = stands.0;
      more = omega (arith, loose_capacity_most edges placed, firm_capacity (is_loose place) edge.capacity stands.1.capacity there.0);
    }
