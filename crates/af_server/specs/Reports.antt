-- What workers report when they end (this product's own rule).
use Rattle.std.specs.Prelude.{◌≡◌, ◌≤◌, ◌-◌, ◌^◌, ℕ, List, [], ◌∷◌, Option, Some, None}
use Rattle.std.specs.declared.io.ErrorKind.{ErrorKind}
use Rattle.af_plane.specs.declared.session_log.SessionLog.{SessionLog}
use Rattle.af_plane.specs.Visits.{PlaneRows, SessionRows}
use Rattle.af_server.specs.Connections.{ConnectionRows}
use Rattle.af_server.specs.declared.stop_wait.StopWait.{StopWait}

-- a worker: its session, with all that it has done; the connections that it served; and the error for which it ended, if it was one
pub record WorkerRows : Type 0 where
  pub session : SessionRows
  pub connections : List ConnectionRows
  pub error : Option ErrorKind

-- the scheduler: its session, with all that it has done; the connections that the machine has handed to it; and its waits to be told to stop,
-- each with what its session had done by then
pub record SchedulerRows : Type 0 where
  pub session : SessionRows
  pub connections : List ConnectionRows
  pub waits : List (StopWait × SessionLog)

-- a server: its workers, its scheduler, and the plane that they left
pub record ServerReportRows : Type 0 where
  pub workers : List WorkerRows
  pub scheduler : SchedulerRows
  pub plane : PlaneRows

-- the program: its status, and the report of a server where one has listened
pub record DoneRows : Type 0 where
  pub status : ℕ
  pub served : Option ServerReportRows

-- how many connections a worker serves at most: as many as it is given, or as many as can be counted
abbrev pub most_of : Option ℕ → ℕ
most_of (Some n) = n
most_of None = 2 ^ 64 - 1

-- a worker ends when it has served so many, or for an error for which the machine may give no more
abbrev pub EndsBy : (ErrorKind → Type 0) → Option ℕ → ℕ → Option ErrorKind → Type 0
EndsBy fails connections count None = count ≡ most_of connections
EndsBy fails connections count (Some error) = (count ≤ most_of connections) × fails error

-- what is in the slots that are filled, in order
abbrev pub filled : {X : Type 0} → List (Option X) → List X
filled [] = []
filled (None ∷ slots) = filled slots
filled (Some x ∷ slots) = x ∷ filled slots
