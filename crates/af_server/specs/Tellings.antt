-- What is told on standard error, and the status that the program ends with (this product's own rule).
use Rattle.std.specs.Prelude.{ℕ, List, [], ◌∷◌, ◌++◌, codes, Bool, Result, Ok, Err}
use Rattle.af_http.specs.declared.ended.Ended.{Ended}
use Rattle.af_http.specs.declared.ended.Ended.TheVariants.{Closed, ReadFault, WriteFault, Turns, NoMemory}
use Rattle.af_http.specs.declared.ended.Ended.TheVariants as ended
use Rattle.af_http.specs.Sending.{Writes}
use Rattle.af_http.specs.Streams.{Taken}
use Rattle.af_server.specs.declared.reason.Reason.{Reason}
use Rattle.af_server.specs.Reasons.{reason_text}

-- the status: 0 where the connection ended as connections do, 1 where it was cut short, 3 where the configuration is refused
abbrev pub status_of : Result Ended Reason → ℕ
status_of (Ok Closed) = 0
status_of (Ok ReadFault) = 1
status_of (Ok WriteFault) = 1
status_of (Ok (ended.Refused status)) = 1
status_of (Ok Turns) = 1
status_of (Ok NoMemory) = 1
status_of (Err reason) = 3

abbrev pub refusal_line : Reason → List ℕ
refusal_line reason = codes "afplane: configuration refused: " ++ (reason_text reason ++ 10 ∷ [])

abbrev pub usage_line : List ℕ
usage_line = codes "usage: afplane once CONFIG NOW | serve CONFIG PORT WORKERS | verify TRACE" ++ 10 ∷ []

-- of a connection nothing is said, and of a configuration that is refused the reason
abbrev pub said_of : Result Ended Reason → List ℕ
said_of (Ok end) = []
said_of (Err reason) = refusal_line reason

-- the text was written, or a front of it until a write failed
abbrev pub Tells : Taken → Taken → List ℕ → Type 0
Tells start finish text = (failed : Bool) × Writes start finish text failed
