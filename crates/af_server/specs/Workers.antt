-- What the workers of a server make of calls and of connections, each with a session of its own (this product's own rule).
use Rattle.std.specs.Prelude.{◌≡◌, ◌≤◌, ℕ, List, ◌++◌, Option, length}
use Rattle.af_names.specs.Instants.{last_micros}
use Rattle.af_ops.specs.declared.call.Call.{Call}
use Rattle.af_ops.specs.declared.call.Call.TheVariants as calls
use Rattle.af_ops.specs.declared.policy_op.PolicyOp.{PolicyOp}
use Rattle.af_ops.specs.declared.served.Served.{Served}
use Rattle.af_plane.specs.Administered.{HasAsked}
use Rattle.af_plane.specs.Closings.{IsOfControl}
use Rattle.af_plane.specs.Logs.{HasAskedOnce, HasCalled, new_session}
use Rattle.af_plane.specs.Looks.{held}
use Rattle.af_plane.specs.Names.{IsCall, Name}
use Rattle.af_plane.specs.Solos.{first_mark}
use Rattle.af_plane.specs.Visits.{SessionRows}
use Rattle.af_server.specs.Connections.{AnswersEach, CameAt, ConnectionRows}
use Rattle.af_server.specs.Desks.{asked_at}
use Rattle.af_server.specs.Machines.{Behaviour}
use Rattle.af_server.specs.Reports.{EndsBy, WorkerRows}

-- a session that was opened and has done nothing since: it holds the mark of version 0
pub record IsNew (session : SessionRows) : Type 0 where
  pub idle : session ≡ new_session session.visit
  pub mark : held session.visit.grounds ≡ first_mark

-- tells: which instants the clock may tell
module _ (tells : ℕ → Type 0) (name : Name) where
  -- a call is a turn on a plane that the name means, at an instant that the clock may tell; and that is all that the session does
  pub record TakesTurn (was : SessionRows) (token : Option (List ℕ)) (asked : Call) (gave : Served) (now : SessionRows) : Type 0 where
    pub at : ℕ
    pub told : tells at
    pub within : at ≤ last_micros
    pub call : IsCall name (asked_at at token asked) was.visit gave now.visit
    pub once : HasCalled was asked at gave now

  -- what is asked of the policy is decided on the board; and that is all that the session does
  pub record AsksBoard (was : SessionRows) (token : Option (List ℕ)) (asked : PolicyOp) (gave : Served) (now : SessionRows) : Type 0 where
    pub asks : HasAsked name.site token asked was.visit gave now.visit
    pub once : HasAskedOnce was asked gave now

  -- what a worker answers, by the kind of the call
  abbrev pub Works : SessionRows → Option (List ℕ) → Call → Served → SessionRows → Type 0
  Works was token (calls.State op) gave now = TakesTurn was token (calls.State op) gave now
  Works was token (calls.Entries window) gave now = TakesTurn was token (calls.Entries window) gave now
  Works was token (calls.Policy asked) gave now = AsksBoard was token asked gave now

  -- A worker has served these connections, one after another, with this session: what was asked on them is what the session was asked, in that
  -- order, what was written on them is what it was served, and it has done nothing else.
  pub record HasServed (connections : List ConnectionRows) (session : SessionRows) : Type 0 where
    pub opening : SessionRows
    pub opened : IsNew opening
    pub answers : AnswersEach Works connections opening session
    pub of : IsOfControl name session

-- what a worker reports, at a port of a machine that behaves so, when it was to serve so many connections
pub record IsWorkerReport (behaviour : Behaviour) (name : Name) (port : ℕ) (connections : Option ℕ) (worker : WorkerRows) : Type 0 where
  pub served : HasServed behaviour.tells name worker.connections worker.session
  pub came : CameAt port worker.connections
  pub ended : EndsBy behaviour.ends connections (length worker.connections) worker.error

-- A moment in the life of a worker's session: it has answered the first of its connections, and then answers the others.
pub record IsMoment (tells : ℕ → Type 0) (name : Name) (worker : WorkerRows) (session : SessionRows) : Type 0 where
  pub opening : SessionRows
  pub opened : IsNew opening
  pub earlier : List ConnectionRows
  pub later : List ConnectionRows
  pub all : worker.connections ≡ earlier ++ later
  pub before : AnswersEach (Works tells name) earlier opening session
  pub after : AnswersEach (Works tells name) later session worker.session
