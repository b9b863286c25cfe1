-- The texts of the states and the types of runs (Airflow 2, "DAG Runs": DAG Run Status; the REST API's `run_type`).
use Rattle.std.specs.Prelude.{ℕ, List, [], ◌∷◌, Option, find, codes, nat_eq}
use Rattle.std.specs.Cmp.Lexicographic.{pointwise}
use Rattle.af_runs.specs.declared.run_state.RunState.{RunState}
use Rattle.af_runs.specs.declared.run_state.RunState.TheVariants.{Queued, Running, Success, Failed}
use Rattle.af_runs.specs.declared.run_type.RunType.{RunType}
use Rattle.af_runs.specs.declared.run_type.RunType.TheVariants.{Manual, Scheduled, Backfill}

abbrev pub state_text : RunState → List ℕ
state_text Queued = codes "queued"
state_text Running = codes "running"
state_text Success = codes "success"
state_text Failed = codes "failed"

abbrev pub states : List RunState
states = Queued ∷ Running ∷ Success ∷ Failed ∷ []

-- the state whose text this is
abbrev pub state_of : List ℕ → Option RunState
state_of text = find (λ state. pointwise nat_eq (state_text state) text) states

abbrev pub type_text : RunType → List ℕ
type_text Manual = codes "manual"
type_text Scheduled = codes "scheduled"
type_text Backfill = codes "backfill"

abbrev pub types : List RunType
types = Manual ∷ Scheduled ∷ Backfill ∷ []

-- the type whose text this is
abbrev pub type_of : List ℕ → Option RunType
type_of text = find (λ kind. pointwise nat_eq (type_text kind) text) types
