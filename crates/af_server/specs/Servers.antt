-- A server under a configuration, from when it listens until its workers have ended (this product's own rule).
use Rattle.std.specs.Prelude.{◌≡◌, ℕ, All, IsSomeAnd, Option, None, Result, Ok, Err, length}
use Rattle.std.specs.Duration.{as_nanos}
use Rattle.std.specs.declared.time.Duration.{Duration}
use Rattle.af_audit.specs.Ledgers as ledgers
use Rattle.af_plane.specs.Closings.{IsWithin}
use Rattle.af_plane.specs.Names.{IsNamed, Name}
use Rattle.af_server.specs.declared.reason.Reason.{Reason}
use Rattle.af_server.specs.Configurations.{ConfigurationRows}
use Rattle.af_server.specs.Listenings.{ListeningRows, ServerRows}
use Rattle.af_server.specs.Machines.{Behaviour}
use Rattle.af_server.specs.NoPorts.{NoPortRows}
use Rattle.af_server.specs.Reports.{ServerReportRows}
use Rattle.af_server.specs.Rounds.{HasScheduled, second}
use Rattle.af_server.specs.Workers.{IsWorkerReport}

-- a server under a configuration: its policy is version 0, and there may be versions up to its limit; there is no entry, and there may be as
-- many as its limit; and its tasks end by its scripts
pub record IsServerOf (configuration : ConfigurationRows) (server : ServerRows) : Type 0 where
  pub policy : server.site.opening ≡ configuration.policy
  pub versions : server.site.word.last ≡ configuration.limits.versions
  pub ledger : server.plane.ledger ≡ ledgers.opened configuration.state configuration.limits.history
  pub scripts : server.scripts ≡ configuration.scripts

-- the name of the control over its board and its plane
abbrev pub name_of : ServerRows → Name
name_of server = record {
  site = server.site;
  keeper = server.plane.keeper.keeper;
  opening = server.plane.ledger.opening;
  limit = server.plane.ledger.audit.limit;
}

-- ---- where it listens

-- the port is one that the machine may give for the one that is asked for; or the machine may give none for this error, and that is said of the
-- port that was asked for
abbrev pub IsAt : Behaviour → ℕ → Result ListeningRows NoPortRows → Type 0
IsAt behaviour asked (Ok listening) = behaviour.gives asked listening.port
IsAt behaviour asked (Err none) = behaviour.refuses none.error × (none.port ≡ asked)

-- ---- what its threads did

-- So many workers report that they served connections that came in at the port, each one after another with one session of the server's control,
-- until the machine gave no more. The scheduler reports that it had a round after each wait of a second, by the server's scripts, with a
-- session of its own, until it was told to stop with as many reports as there are workers. The plane is left as the replay of its entries, and
-- what each of these sessions had seen, of the versions and of the entries, begins what the plane has seen.
pub record IsServerReport (behaviour : Behaviour) (count port : ℕ) (server : ServerRows) (report : ServerReportRows) : Type 0 where
  pub all : length report.workers ≡ count
  pub each : All (IsWorkerReport behaviour (name_of server) port None) report.workers
  pub scheduled : (period : Duration) × (as_nanos period ≡ second) × HasScheduled behaviour.tells (name_of server) server.scripts count period report.scheduler
  pub plane : IsNamed (name_of server) report.plane
  pub workers_within : All (λ worker. IsWithin report.plane worker.session.visit) report.workers
  pub scheduler_within : IsWithin report.plane report.scheduler.session.visit

-- where it listens, its threads did that; else there were none
abbrev pub HasServed : Behaviour → ℕ → Result (Result ListeningRows NoPortRows) Reason → Option ServerReportRows → Type 0
HasServed behaviour count (Ok (Ok listening)) report = IsSomeAnd report (IsServerReport behaviour count listening.port listening.server)
HasServed behaviour count (Ok (Err none)) report = report ≡ None
HasServed behaviour count (Err reason) report = report ≡ None
