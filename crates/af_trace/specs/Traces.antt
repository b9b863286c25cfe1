-- A trace: how many sessions there are, the steps, and what was answered to each (this product's own rule); and whether a world that opens
-- so gives these answers.
use Rattle.std.specs.Prelude.{ℕ, List, [], ◌∷◌, ◌++◌, nat_le, codes, if◌then◌else◌, Option, Some, None, Result, Ok, Err}
use Rattle.serde_json.specs.Data.{Data}
use Rattle.af_base.specs.Members.{as_list}
use Rattle.af_base.specs.Readings.{◌>>=◌, member_of, required, taking}
use Rattle.af_ops.specs.declared.shown_answer.Shown.{Shown}
use Rattle.af_world.specs.declared.step.Step.{Step}
use Rattle.af_world.specs.Runs.{AreAnswers}
use Rattle.af_world.specs.Worlds.{OpeningRows, opening_world}
use Rattle.af_trace.specs.Answers.{answer_in}
use Rattle.af_trace.specs.Members.{count_in}
use Rattle.af_trace.specs.Steps.{step_in}
use Rattle.af_trace.specs.declared.trace_fault.TraceFault.{TraceFault}
use Rattle.af_trace.specs.declared.trace_fault.TraceFault.TheVariants.{Form}

pub record TraceRows : Type 0 where
  pub sessions : ℕ
  pub steps : List Step
  -- the answer to each step; none where one of them is an answer that nothing gives
  pub answers : Option (List (Option Shown))

-- ---- reading

-- at most 1,024 sessions
abbrev pub sessions_or : ℕ → Result ℕ TraceFault
sessions_or sessions = if nat_le sessions 1_024 then Ok sessions else Err Form

abbrev pub sessions_in : Data → Result ℕ TraceFault
sessions_in row = count_in (codes "sessions") row >>= sessions_or

-- a list of two: a step, and its answer
abbrev pub two_of : Option (List Data) → Result (Data × Data) TraceFault
two_of None = Err Form
two_of (Some []) = Err Form
two_of (Some (one ∷ [])) = Err Form
two_of (Some (one ∷ other ∷ [])) = Ok (one, other)
two_of (Some (one ∷ other ∷ third ∷ more)) = Err Form

-- these answers, and then one more
abbrev pub with_answer : Option (List (Option Shown)) → Option (Option Shown) → Option (List (Option Shown))
with_answer None answer = None
with_answer (Some answers) None = None
with_answer (Some answers) (Some answer) = Some (answers ++ answer ∷ [])

-- a trace with one more step
abbrev pub with_entry : TraceRows → Step → Option (Option Shown) → TraceRows
with_entry trace it answer = record {
  sessions = trace.sessions;
  steps = trace.steps ++ it ∷ [];
  answers = with_answer trace.answers answer;
}

-- what was read as a step, with this answer
abbrev pub read_taken : TraceRows → Option (Option Shown) → Result Step TraceFault → Result TraceRows TraceFault
read_taken trace answer found = found >>= (λ it. Ok (with_entry trace it answer))

-- what a step says, with this answer
abbrev pub step_taken : TraceRows → Option (Option Shown) → Data → Result TraceRows TraceFault
step_taken trace answer row = read_taken trace answer (step_in trace.sessions row)

abbrev pub entry_taken : TraceRows → Data → Result TraceRows TraceFault
entry_taken trace entry = do
  two ← two_of (as_list entry)
  answer ← answer_in two.1
  step_taken trace answer two.0

-- a trace of no steps
abbrev pub empty : ℕ → TraceRows
empty sessions = record { sessions = sessions; steps = []; answers = Some [] }

abbrev pub entries_in : Data → Result (List Data) TraceFault
entries_in row = required as_list Form (member_of (codes "steps") row)

-- what a JSON object says, its configuration aside
abbrev pub trace_in : Data → Result TraceRows TraceFault
trace_in row = do
  sessions ← sessions_in row
  entries ← entries_in row
  taking entry_taken (empty sessions) entries

-- ---- agreeing

abbrev pub AgreeOn : OpeningRows → List Step → Option (List (Option Shown)) → Type 0
AgreeOn opening steps None = ⊥
AgreeOn opening steps (Some answers) = AreAnswers (opening_world opening) steps answers

-- the answers are those of the run of the steps
abbrev pub Agrees : OpeningRows → TraceRows → Type 0
Agrees opening trace = AgreeOn opening trace.steps trace.answers
