-- The chosen edges that are there, taken place by place.
use Rattle.std.proofs.Common.{◌≡◌, ℕ, ◌+◌, ◌<◌, ◌≤◌, List, length, None, Some, ◌++◌, [], ◌∷◌, inl, inr, sym, ap, ◌∙◌, subst, arith}
use Rattle.std.specs.Prelude.{Contains}
use Rattle.std.proofs.lemmas.Bool.{cases_lt}
use Rattle.std.proofs.lemmas.List.{length_push}
use Rattle.std.proofs.lemmas.List.Elements.{All-nil, All-push, Contains-append_left, Contains-push}
use Rattle.uhura_net.specs.declared.edge.Edge.{Edge}
use Rattle.uhura_net.specs.Table.{IsEdgeFor}
use Rattle.uhura_net.specs.Edges.{Edges}
use Rattle.uhura_cycle.specs.declared.step.Step.{Step}
use Rattle.uhura_cycle.specs.Steps.{AreThere, AreSoundSteps}

-- an edge with its place
abbrev pub step_at : ℕ → Edge → Step
step_at place edge = record { place = record { 0 = place }; edge = edge }

-- the steps are the edges at the first places
pub record IsGatheredSoFar (edges : Edges) (places : ℕ) (steps : List Step) : Type 0 where
  pub few : length steps ≤ places
  pub there : AreThere edges steps
  pub every : (place : ℕ) (edge : Edge) → place < places → edges place ≡ Some edge → Contains steps (step_at place edge)
  pub sound : AreSoundSteps steps

pub IsGatheredSoFar-start : (edges : Edges) → IsGatheredSoFar edges 0 []
IsGatheredSoFar-start edges = record {
  few = omega arith;
  there = All-nil (λ (s : Step). edges s.place.0 ≡ Some s.edge);
  every = λ place edge never is. absurd (omega arith);
  sound = All-nil (λ (s : Step). IsEdgeFor s.place.0 s.edge);
}

-- a place with an edge adds a step
pub IsGatheredSoFar-edge : (edges : Edges) (places : ℕ) (steps : List Step) (edge : Edge) → edges places ≡ Some edge → IsEdgeFor places edge →
    IsGatheredSoFar edges places steps → IsGatheredSoFar edges (places + 1) (steps ++ step_at places edge ∷ [])
IsGatheredSoFar-edge edges places steps edge there sound so_far =
    let step : Step = step_at places edge in
    record {
      few = omega (arith, so_far.few, length_push steps step);
      there = All-push (λ (s : Step). edges s.place.0 ≡ Some s.edge) steps step so_far.there there;
      every = λ place other inside is.
          elim (cases_lt place places) [
            | inl before ↦ Contains-append_left steps (step ∷ []) (step_at place other) (so_far.every place other before is)
            | inr after ↦
                let last : place ≡ places = omega arith in
                let one : Some edge ≡ Some other = sym there ∙ (ap edges (sym last) ∙ is) in
                let same_edge : edge ≡ other = cc in
                let same : step ≡ step_at place other = ap (λ n. step_at n edge) (sym last) ∙ ap (step_at place) same_edge in
                let holds : Step → Type 0 = λ s. Contains (steps ++ step ∷ []) s in
                subst holds same (Contains-push steps step)
          ];
      sound = All-push (λ (s : Step). IsEdgeFor s.place.0 s.edge) steps step so_far.sound sound;
    }

-- and one without none
pub IsGatheredSoFar-none : (edges : Edges) (places : ℕ) (steps : List Step) → edges places ≡ None →
    IsGatheredSoFar edges places steps → IsGatheredSoFar edges (places + 1) steps
IsGatheredSoFar-none edges places steps none so_far = record {
  few = omega (arith, so_far.few);
  there = so_far.there;
  every = λ place edge inside is.
      elim (cases_lt place places) [
        | inl before ↦ so_far.every place edge before is
        | inr after ↦
            let last : place ≡ places = omega arith in
            let never : None ≡ Some edge = sym none ∙ (ap edges (sym last) ∙ is) in
            absurd (let no : ⊥ = cc in no)
      ];
  sound = so_far.sound;
}
