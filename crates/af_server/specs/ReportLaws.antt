-- What follows from a server's report (this product's own rule).
use Rattle.std.specs.Prelude.{◌≡◌, ℕ, List, Some, slice_get}
use Rattle.af_plane.specs.Closings.{AgreeWith}
use Rattle.af_plane.specs.Events.{Exchange}
use Rattle.af_plane.specs.Names.{Name}
use Rattle.af_plane.specs.Stays.{Calls}
use Rattle.af_plane.specs.Visits.{SessionRows}
use Rattle.af_server.specs.Connections.{AnswersEach, ConnectionRows}
use Rattle.af_server.specs.Listenings.{ServerRows}
use Rattle.af_server.specs.Machines.{Behaviour}
use Rattle.af_server.specs.Reports.{ServerReportRows, WorkerRows}
use Rattle.af_server.specs.Servers.{IsServerReport, name_of}
use Rattle.af_server.specs.Workers.{IsMoment, Works}

-- What is asked on connections are calls of the one session that answers them, one after another.
abbrev pub ConnectionsAreCalls : (ℕ → Type 0) → Type 0
ConnectionsAreCalls tells =
    (name : Name) (connections : List ConnectionRows) (old new : SessionRows) → AnswersEach (Works tells name) connections old new
    → (exchanges : List Exchange) × Calls name old.visit exchanges new.visit

-- Two workers of one report agree, each after any of its connections: their answers are decided on beginnings of one list of versions and of one
-- list of entries.
abbrev pub WorkersAgree : Behaviour → Type 0
WorkersAgree behaviour =
    (count port : ℕ) (server : ServerRows) (report : ServerReportRows) (i j : ℕ) (one other : WorkerRows) (here there : SessionRows)
    → IsServerReport behaviour count port server report → slice_get report.workers i ≡ Some one → slice_get report.workers j ≡ Some other
    → IsMoment behaviour.tells (name_of server) one here → IsMoment behaviour.tells (name_of server) other there
    → AgreeWith here.visit there.visit
