-- What a step of a trace is in the world (this product's own rule). Sessions are counted from 0.
use Rattle.std.specs.Prelude.{ℕ, List, nat_le, nat_lt, codes, ok_or, Result, Ok, Err, if◌then◌else◌}
use Rattle.serde_json.specs.Data.{Data}
use Rattle.af_base.specs.Readings.{◌>>=◌}
use Rattle.af_sched.specs.declared.outcome.Outcome.{Outcome}
use Rattle.af_sched.specs.Outcomes.{outcome_of}
use Rattle.af_world.specs.declared.step.Step.{Step}
use Rattle.af_world.specs.declared.step.Step.TheVariants as step
use Rattle.af_world.specs.declared.try_report.TryReport.{TryReport}
use Rattle.af_trace.specs.Asked.{change_in, on_plane_in, reading_in}
use Rattle.af_trace.specs.Kinds.{kind_in}
use Rattle.af_trace.specs.Members.{count_in, instant_in, task_id_in, text_in, token_in, value_in}
use Rattle.af_trace.specs.declared.kind.Kind.{Kind}
use Rattle.af_trace.specs.declared.kind.Kind.TheVariants.{Look, Act, Me, Publish, Tick, Claim, Report}
use Rattle.af_trace.specs.declared.trace_fault.TraceFault.{TraceFault}
use Rattle.af_trace.specs.declared.trace_fault.TraceFault.TheVariants.{Form}

-- one of so many sessions
abbrev pub session_or : ℕ → ℕ → Result ℕ TraceFault
session_or sessions session = if nat_lt session sessions then Ok session else Err Form

abbrev pub session_in : ℕ → List ℕ → Data → Result ℕ TraceFault
session_in sessions name row = count_in name row >>= session_or sessions

-- The number of a version or of a try. One past 32 bits is taken as the last of 32 bits: no trace is long enough to make either, so
-- it says the same of both, that there is none of it.
abbrev pub narrowed : ℕ → ℕ
narrowed number = if nat_le number 4_294_967_295 then number else 4_294_967_295

abbrev pub narrow_in : List ℕ → Data → Result ℕ TraceFault
narrow_in name row = count_in name row >>= (λ number. Ok (narrowed number))

-- ---- steps of sessions

abbrev pub look_in : ℕ → Data → Result Step TraceFault
look_in sessions row = session_in sessions (codes "look") row >>= (λ session. Ok (step.Look session))

abbrev pub act_in : ℕ → Data → Result Step TraceFault
act_in sessions row = do
  session ← session_in sessions (codes "act") row
  token ← token_in row
  call ← on_plane_in row
  now ← instant_in (codes "now") row
  Ok (step.Act session token call now)

abbrev pub me_in : ℕ → Data → Result Step TraceFault
me_in sessions row = do
  session ← session_in sessions (codes "me") row
  token ← token_in row
  it ← reading_in row
  Ok (step.Me session token it)

abbrev pub publish_in : ℕ → Data → Result Step TraceFault
publish_in sessions row = do
  session ← session_in sessions (codes "publish") row
  at ← narrow_in (codes "at") row
  token ← token_in row
  it ← change_in row
  Ok (step.Publish session at token it)

-- ---- ticks, claims and reports

abbrev pub tick_in : Data → Result Step TraceFault
tick_in row = instant_in (codes "tick") row >>= (λ now. Ok (step.Tick now))

abbrev pub claim_in : Data → Result Step TraceFault
claim_in row = instant_in (codes "claim") row >>= (λ now. Ok (step.Claim now))

abbrev pub outcome_in : Data → Result Outcome TraceFault
outcome_in row = text_in (codes "outcome") row >>= (λ text. ok_or (outcome_of text) Form)

-- a try that ended: the number of its run, the task, which try it was, and how it ended
abbrev pub try_in : Data → Result TryReport TraceFault
try_in row = do
  run_number ← count_in (codes "run") row
  task_id ← task_id_in (codes "task") row
  try_number ← narrow_in (codes "try") row
  outcome ← outcome_in row
  Ok (record { run_number = run_number; task_id = task_id; try_number = try_number; outcome = outcome })

abbrev pub report_in : Data → Result Step TraceFault
report_in row = do
  value ← value_in (codes "report") row
  it ← try_in value
  now ← instant_in (codes "now") row
  Ok (step.Report it now)

-- ---- every step

abbrev pub step_of : ℕ → Data → Kind → Result Step TraceFault
step_of sessions row Look = look_in sessions row
step_of sessions row Act = act_in sessions row
step_of sessions row Me = me_in sessions row
step_of sessions row Publish = publish_in sessions row
step_of sessions row Tick = tick_in row
step_of sessions row Claim = claim_in row
step_of sessions row Report = report_in row

-- where there are so many sessions
abbrev pub step_in : ℕ → Data → Result Step TraceFault
step_in sessions row = kind_in row >>= step_of sessions row
