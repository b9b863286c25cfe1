-- What is told of a trace, and the status that the program ends with (this product's own rule).
use Rattle.std.specs.Prelude.{ℕ, List, [], codes, Bool, true, false, Result, Ok, Err}
use Rattle.af_server.specs.declared.reason.Reason.{Reason}
use Rattle.af_server.specs.Tellings.{refusal_line}

-- what is printed
abbrev pub printed_of : Result Bool Reason → List ℕ
printed_of (Ok true) = codes "agrees\n"
printed_of (Ok false) = codes "differs\n"
printed_of (Err reason) = []

-- what is told on standard error
abbrev pub refused_of : Result Bool Reason → List ℕ
refused_of (Ok told) = []
refused_of (Err reason) = refusal_line reason

-- the status: 0 where it agrees, 1 where it differs, 3 where it is refused
abbrev pub status_of : Result Bool Reason → ℕ
status_of (Ok true) = 0
status_of (Ok false) = 1
status_of (Err reason) = 3
