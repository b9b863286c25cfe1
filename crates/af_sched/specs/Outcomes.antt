-- The texts of outcomes (this product's own rule).
use Rattle.std.specs.Prelude.{ℕ, List, [], ◌∷◌, Option, codes, find}
use Rattle.af_graph.specs.Graph.{same_name}
use Rattle.af_sched.specs.declared.outcome.Outcome.{Outcome}
use Rattle.af_sched.specs.declared.outcome.Outcome.TheVariants.{Success, Failed, Skipped}

abbrev pub outcomes : List Outcome
outcomes = Success ∷ Failed ∷ Skipped ∷ []

abbrev pub outcome_text : Outcome → List ℕ
outcome_text Success = codes "success"
outcome_text Failed = codes "failed"
outcome_text Skipped = codes "skipped"

-- the outcome whose text this is
abbrev pub outcome_of : List ℕ → Option Outcome
outcome_of text = find (λ outcome. same_name (outcome_text outcome) text) outcomes
