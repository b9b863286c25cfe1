-- The trigger rules. Their names are Airflow 2's ("DAGs": trigger rules); the table is this product's own rule.
use Rattle.std.specs.Prelude.{◌+◌, ◌==◌, nat_lt, Bool, true, List, [], ◌∷◌, length, if◌then◌else◌}
use Rattle.std.specs.List.{find}
use Rattle.std.specs.Option.{option_map_or}
use Rattle.af_graph.specs.States.{number_in}
use Rattle.af_graph.specs.declared.task_state.TaskState.{TaskState}
use Rattle.af_graph.specs.declared.task_state.TaskState.TheVariants as state
use Rattle.af_graph.specs.declared.counts.Counts.{Counts}
use Rattle.af_graph.specs.declared.rule.Rule.{Rule}
use Rattle.af_graph.specs.declared.rule.Rule.TheVariants.{AllSuccess, AllFailed, AllDone, OneSuccess, OneFailed, OneDone, NoneFailed, NoneFailedMinOneSuccess, NoneSkipped, AllSkipped, Always}
use Rattle.af_graph.specs.declared.verdict.Verdict.{Verdict}
use Rattle.af_graph.specs.declared.verdict.Verdict.TheVariants.{Ready, UpstreamFailed, Skipped, Wait}

-- how many upstream tasks there are, and how many of them have each of the four finished states
abbrev pub counts_of : List TaskState → Counts
counts_of upstream = record {
  all = length upstream;
  success = number_in state.Success upstream;
  failed = number_in state.Failed upstream;
  upstream_failed = number_in state.UpstreamFailed upstream;
  skipped = number_in state.Skipped upstream;
}

-- some of them have failed, or never ran since something above them failed
abbrev pub some_failed : Counts → Bool
some_failed c = nat_lt 0 (c.failed + c.upstream_failed)

-- each of them has finished
abbrev pub all_done : Counts → Bool
all_done c = c.success + c.failed + c.upstream_failed + c.skipped == c.all

-- the lines of a rule: when a line fits, and what it decides
abbrev pub lines : Rule → Counts → List (Bool × Verdict)
lines AllSuccess c = (some_failed c, UpstreamFailed) ∷ (nat_lt 0 c.skipped, Skipped) ∷ (c.success == c.all, Ready) ∷ []
lines AllFailed c = (nat_lt 0 (c.success + c.skipped), Skipped) ∷ (c.failed + c.upstream_failed == c.all, Ready) ∷ []
lines AllDone c = (all_done c, Ready) ∷ []
lines OneSuccess c = (nat_lt 0 c.success, Ready) ∷ (c.skipped == c.all, Skipped) ∷ (all_done c, UpstreamFailed) ∷ []
lines OneFailed c = (some_failed c, Ready) ∷ (all_done c, Skipped) ∷ []
lines OneDone c = (nat_lt 0 (c.success + c.failed), Ready) ∷ (all_done c, Skipped) ∷ []
lines NoneFailed c = (some_failed c, UpstreamFailed) ∷ (all_done c, Ready) ∷ []
lines NoneFailedMinOneSuccess c = (some_failed c, UpstreamFailed) ∷ (c.skipped == c.all, Skipped) ∷ (all_done c, Ready) ∷ []
lines NoneSkipped c = (nat_lt 0 c.skipped, Skipped) ∷ (all_done c, Ready) ∷ []
lines AllSkipped c = (nat_lt 0 (c.success + c.failed + c.upstream_failed), Skipped) ∷ (c.skipped == c.all, Ready) ∷ []
lines Always c = (true, Ready) ∷ []

-- the first line that fits decides; where none fits, the instance waits
abbrev pub decided : Rule → Counts → Verdict
decided rule counts = option_map_or (λ line. line.1) (find (λ line. line.0) (lines rule counts)) Wait

-- what a rule decides on the states of the tasks directly upstream; with none every rule is ready
abbrev pub verdict_of : Rule → List TaskState → Verdict
verdict_of rule upstream = if length upstream == 0 then Ready else decided rule (counts_of upstream)
