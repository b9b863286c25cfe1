-- What the program does of what its words ask for: it finds the file at the path, and serves under what it holds, or checks what it records
-- (this product's own rule).
use Rattle.std.specs.Prelude.{◌≡◌, ◌⊎◌, ◌++◌, ◌∷◌, ℕ, List, [], Bool, codes, decimal, string_bytes, None, Result, Ok, Err, IfOk, IsOk}
use Rattle.af_http.specs.Streams.{Given, Taken}
use Rattle.af_http.specs.declared.ended.Ended.{Ended}
use Rattle.af_server.specs.declared.command.Command.{Command}
use Rattle.af_server.specs.declared.command.Command.TheVariants.{Once, Serve, Verify, Usage}
use Rattle.af_server.specs.declared.reason.Reason.{Reason}
use Rattle.af_server.specs.declared.reason.Reason.TheVariants.{Memory}
use Rattle.af_server.specs.Configurations.{ConfigurationRows, configuration_of}
use Rattle.af_server.specs.Listenings.{ListeningRows}
use Rattle.af_server.specs.Machines.{Behaviour}
use Rattle.af_server.specs.NoPorts.{NoPortRows, no_port_line}
use Rattle.af_server.specs.Once.{IsOnce, IsUntouched}
use Rattle.af_server.specs.Reports.{DoneRows}
use Rattle.af_server.specs.Servers.{HasServed, IsAt, IsServerOf}
use Rattle.af_server.specs.Tellings.{Tells, refusal_line, said_of, status_of, usage_line}
use Rattle.af_server.specs.Verdicts as verdicts
use Rattle.af_server.specs.Verdicts.{printed_of, refused_of}
use Rattle.af_server.specs.Verified.{IsVerified}

-- ---- the server

-- What became of a server: the bytes of its configuration were accepted, and it listens under what they say, or the machine gave it no port.
-- Where the bytes are refused, or there is no memory for what they say, the reason is told.
abbrev pub IsServed : List ℕ → Result (Result ListeningRows NoPortRows) Reason → Type 0
IsServed bytes (Ok found) =
    (configuration : ConfigurationRows)
    × ((configuration_of bytes ≡ Ok configuration) × IfOk found (λ listening. IsServerOf configuration listening.server))
IsServed bytes (Err reason) = (configuration_of bytes ≡ Err reason) ⊎ (reason ≡ Memory)

abbrev pub listening_line : ℕ → List ℕ
listening_line port = codes "listening on 127.0.0.1:" ++ (decimal port ++ 10 ∷ [])

-- what is printed, what is told on standard error, and the status
abbrev pub announced : Result (Result ListeningRows NoPortRows) Reason → List ℕ
announced (Ok (Ok listening)) = listening_line listening.port
announced (Ok (Err none)) = []
announced (Err reason) = []

abbrev pub blamed : Result (Result ListeningRows NoPortRows) Reason → List ℕ
blamed (Ok (Ok listening)) = []
blamed (Ok (Err none)) = no_port_line none.port none.error
blamed (Err reason) = refusal_line reason

abbrev pub served_status : Result (Result ListeningRows NoPortRows) Reason → ℕ
served_status (Ok found) = 1
served_status (Err reason) = 3

-- Holds: what the file at a path may hold. Refuses: why it may not be had.
module _ (Holds : List ℕ → List ℕ → Type 0) (Refuses : List ℕ → Reason → Type 0) where
  -- what comes of a file: it was read, and this comes of its bytes; or it can't be had, or there is no memory for it
  abbrev pub Comes : {X : Type 0} → List ℕ → (List ℕ → Result X Reason → Type 0) → Result X Reason → Type 0
  Comes path Of outcome =
      ((bytes : List ℕ) × Holds path bytes × Of bytes outcome)
      ⊎ ((reason : Reason) × (Refuses path reason ⊎ (reason ≡ Memory)) × (outcome ≡ Err reason))

  -- one connection under the configuration that the file at a path holds; where that can't be had, nothing is read and nothing is written
  abbrev pub IsOnceAt : List ℕ → ℕ → Given → Given → Taken → Taken → Result Ended Reason → Type 0
  IsOnceAt path now before after start finish outcome =
      ((bytes : List ℕ) × Holds path bytes × IsOnce bytes now before after start finish outcome)
      ⊎ ((reason : Reason) × (Refuses path reason ⊎ (reason ≡ Memory)) × (outcome ≡ Err reason) × IsUntouched before after start finish)

  -- ---- with what is told on standard error, and the status

  abbrev pub RunsOnce : List ℕ → ℕ → Given → Given → Taken → Taken → Taken → Taken → ℕ → Type 0
  RunsOnce path now before after start finish told told' status =
      (outcome : Result Ended Reason) × IsOnceAt path now before after start finish outcome × Tells told told' (said_of outcome)
      × (status ≡ status_of outcome)

  -- Nothing is read of standard input. The server listens on a port that the machine may give for the one that is asked for, and that port is
  -- printed; then so many workers serve under the configuration, beside a scheduler. One outcome is announced, and served.
  abbrev pub RunsServe : Behaviour → List ℕ → ℕ → ℕ → Given → Given → Taken → Taken → Taken → Taken → DoneRows → Type 0
  RunsServe behaviour path port count before after start finish told told' done =
      (outcome : Result (Result ListeningRows NoPortRows) Reason) × Comes path IsServed outcome × IfOk outcome (IsAt behaviour port) × (after ≡ before)
      × Tells start finish (announced outcome) × Tells told told' (blamed outcome) × (done.status ≡ served_status outcome)
      × HasServed behaviour count outcome done.served

  -- nothing is read of standard input, and what is found out is printed
  abbrev pub RunsVerify : List ℕ → Given → Given → Taken → Taken → Taken → Taken → ℕ → Type 0
  RunsVerify path before after start finish told told' status =
      (outcome : Result Bool Reason) × Comes path IsVerified outcome × (after ≡ before) × Tells start finish (printed_of outcome)
      × Tells told told' (refused_of outcome) × (status ≡ verdicts.status_of outcome)

  -- what is done alone, without a server
  abbrev pub IsAlone : (ℕ → Type 0) → DoneRows → Type 0
  IsAlone Runs done = Runs done.status × (done.served ≡ None)

  -- by what is asked for; of wrong words how the program is called
  abbrev pub Runs : Behaviour → Command → Given → Given → Taken → Taken → Taken → Taken → DoneRows → Type 0
  Runs behaviour (Once config now) before after start finish told told' done =
      IsAlone (RunsOnce (string_bytes config) now before after start finish told told') done
  Runs behaviour (Serve config port count) before after start finish told told' done =
      RunsServe behaviour (string_bytes config) port count before after start finish told told' done
  Runs behaviour (Verify trace) before after start finish told told' done =
      IsAlone (RunsVerify (string_bytes trace) before after start finish told told') done
  Runs behaviour Usage before after start finish told told' done =
      IsAlone (λ status. IsUntouched before after start finish × Tells told told' usage_line × (status ≡ 2)) done

  -- ---- what a refusal shows

  -- Where the file at a path is never refused, and all that it may hold is a configuration, there is an error for want of memory alone: no
  -- program can leave the file unread and say that it is unreadable. Of one connection:
  abbrev pub OnceReads : Type 0
  OnceReads =
      (path : List ℕ) (now : ℕ) (before after : Given) (start finish : Taken) (reason : Reason)
      → ((why : Reason) → Refuses path why → ⊥) → ((bytes : List ℕ) → Holds path bytes → IsOk (configuration_of bytes))
      → IsOnceAt path now before after start finish (Err reason) → reason ≡ Memory

  -- and of a server
  abbrev pub ServeReads : Type 0
  ServeReads =
      (path : List ℕ) (reason : Reason)
      → ((why : Reason) → Refuses path why → ⊥) → ((bytes : List ℕ) → Holds path bytes → IsOk (configuration_of bytes))
      → Comes path IsServed (Err reason) → reason ≡ Memory

  -- the same of a trace, where nothing but want of memory refuses what the file may hold
  abbrev pub VerifyReads : Type 0
  VerifyReads =
      (path : List ℕ) (reason : Reason)
      → ((why : Reason) → Refuses path why → ⊥) → ((bytes : List ℕ) (why : Reason) → Holds path bytes → IsVerified bytes (Err why) → why ≡ Memory)
      → Comes path IsVerified (Err reason) → reason ≡ Memory
