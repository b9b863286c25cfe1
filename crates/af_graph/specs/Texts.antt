-- The names of task states and of trigger rules (Airflow 2, "Tasks": task instances, and "DAGs": trigger rules).
use Rattle.std.specs.Prelude.{ℕ, List, [], ◌∷◌, Option, nat_eq, codes}
use Rattle.std.specs.List.{find}
use Rattle.std.specs.Cmp.Lexicographic.{pointwise}
use Rattle.af_graph.specs.declared.task_state.TaskState.{TaskState}
use Rattle.af_graph.specs.declared.task_state.TaskState.TheVariants.{NoStatus, Scheduled, Queued, Running, Success, Failed, Skipped, UpstreamFailed, UpForRetry}
use Rattle.af_graph.specs.declared.rule.Rule.{Rule}
use Rattle.af_graph.specs.declared.rule.Rule.TheVariants.{AllSuccess, AllFailed, AllDone, OneSuccess, OneFailed, OneDone, NoneFailed, NoneFailedMinOneSuccess, NoneSkipped, AllSkipped, Always}

abbrev pub states : List TaskState
states = NoStatus ∷ Scheduled ∷ Queued ∷ Running ∷ Success ∷ Failed ∷ Skipped ∷ UpstreamFailed ∷ UpForRetry ∷ []

abbrev pub state_text : TaskState → List ℕ
state_text NoStatus = codes "none"
state_text Scheduled = codes "scheduled"
state_text Queued = codes "queued"
state_text Running = codes "running"
state_text Success = codes "success"
state_text Failed = codes "failed"
state_text Skipped = codes "skipped"
state_text UpstreamFailed = codes "upstream_failed"
state_text UpForRetry = codes "up_for_retry"

-- the state whose text this is
abbrev pub state_of : List ℕ → Option TaskState
state_of text = find (λ state. pointwise nat_eq (state_text state) text) states

abbrev pub rules : List Rule
rules =
    AllSuccess ∷ AllFailed ∷ AllDone ∷ OneSuccess ∷ OneFailed ∷ OneDone ∷ NoneFailed ∷ NoneFailedMinOneSuccess ∷ NoneSkipped ∷ AllSkipped ∷ Always ∷ []

abbrev pub rule_text : Rule → List ℕ
rule_text AllSuccess = codes "all_success"
rule_text AllFailed = codes "all_failed"
rule_text AllDone = codes "all_done"
rule_text OneSuccess = codes "one_success"
rule_text OneFailed = codes "one_failed"
rule_text OneDone = codes "one_done"
rule_text NoneFailed = codes "none_failed"
rule_text NoneFailedMinOneSuccess = codes "none_failed_min_one_success"
rule_text NoneSkipped = codes "none_skipped"
rule_text AllSkipped = codes "all_skipped"
rule_text Always = codes "always"

-- the rule whose name this is
abbrev pub rule_of : List ℕ → Option Rule
rule_of text = find (λ rule. pointwise nat_eq (rule_text rule) text) rules
