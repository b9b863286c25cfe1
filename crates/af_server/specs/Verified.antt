-- What the bytes of a trace say, or why it is refused: that it is too long, or no JSON; that it is no object with a configuration; the
-- configuration's own reasons; that it has not the form of a trace; the first of these decides. And whether its answers are those of the
-- run of its steps (this product's own rule).
use Rattle.std.specs.Prelude.{◌≡◌, ◌⊎◌, ℕ, List, length, nat_lt, codes, Bool, Some, ok_or, Result, Ok, Err, if◌then◌else◌}
use Rattle.std.specs.Bool.{Decides}
use Rattle.serde_json.specs.Data.{Data}
use Rattle.af_base.specs.Parsed.{json_of}
use Rattle.af_base.specs.Readings.{◌>>=◌, member_of, required}
use Rattle.af_trace.specs.Traces.{Agrees, TraceRows, trace_in}
use Rattle.af_trace.specs.declared.trace_fault.TraceFault.{TraceFault}
use Rattle.af_server.specs.declared.reason.Reason.{Reason}
use Rattle.af_server.specs.declared.reason.Reason.TheVariants.{Memory, Syntax, Trace, Unreadable}
use Rattle.af_server.specs.declared.verifying.Recorded.{Recorded}
use Rattle.af_server.specs.Configurations.{ConfigurationRows, configuration_in, longest}
use Rattle.af_server.specs.Openings.{opening_of}
use Rattle.af_server.specs.Reasons.{trace_reason}

-- the configuration of a trace
abbrev pub config_in : Data → Result Data Reason
config_in value = required (λ config. Some config) Trace (member_of (codes "config") value)

abbrev pub trace_or : Result TraceRows TraceFault → Result TraceRows Reason
trace_or (Ok trace) = Ok trace
trace_or (Err fault) = Err (trace_reason fault)

-- a trace in the world under a configuration
abbrev pub recorded_of : ConfigurationRows → TraceRows → Recorded
recorded_of configuration trace = record { opening = opening_of configuration trace.sessions; trace = trace }

-- what the steps of a JSON value are in the world under a configuration
abbrev pub recorded_with : Data → ConfigurationRows → Result Recorded Reason
recorded_with value configuration = do
  trace ← trace_or (trace_in value)
  Ok (recorded_of configuration trace)

-- what a JSON value says under the configuration that this one says
abbrev pub recorded_under : Data → Data → Result Recorded Reason
recorded_under value config = configuration_in config >>= recorded_with value

-- what a JSON value says
abbrev pub recorded_in : Data → Result Recorded Reason
recorded_in value = config_in value >>= recorded_under value

-- what a text of JSON says
abbrev pub text_in : List ℕ → Result Recorded Reason
text_in bytes = ok_or (json_of bytes) Syntax >>= recorded_in

-- what the bytes of a trace say, or why it is refused
abbrev pub trace_of : List ℕ → Result Recorded Reason
trace_of bytes = if nat_lt longest (length bytes) then Err Unreadable else text_in bytes

-- it was told of this whether the answers are those of the run of the steps
abbrev pub IsAgreement : Result Recorded Reason → Bool → Type 0
IsAgreement (Ok recorded) told = Decides told (Agrees recorded.opening recorded.trace)
IsAgreement (Err reason) told = ⊥

-- it was told of this whether the answers are those of the run of the steps, or why it is refused, or that there was no memory
abbrev pub IsToldOf : Result Recorded Reason → Result Bool Reason → Type 0
IsToldOf said (Ok told) = IsAgreement said told
IsToldOf said (Err reason) = (said ≡ Err reason) ⊎ (reason ≡ Memory)

-- Whether its answers are those of the run of its steps, or why it is refused, or that there was no memory.
abbrev pub IsVerified : List ℕ → Result Bool Reason → Type 0
IsVerified bytes outcome = IsToldOf (trace_of bytes) outcome
