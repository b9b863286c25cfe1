-- What a worker makes of the connections that come in at a port, one after another (this product's own rule).
use Rattle.std.specs.Prelude.{◌≡◌, ℕ, List, [], ◌∷◌, ◌++◌, All, Option, map}
use Rattle.af_ops.specs.declared.call.Call.{Call}
use Rattle.af_ops.specs.declared.served.Served.{Served}
use Rattle.af_http.specs.Connections.{Connects}
use Rattle.af_http.specs.Streams.{Given, Taken}
use Rattle.af_http.specs.declared.ended.Ended.{Ended}

-- A connection that has ended: the port at which it came in, what its reader has given and its writer taken, and how it ended.
pub record ConnectionRows : Type 0 where
  pub port : ℕ
  pub given : Given
  pub taken : Taken
  pub ended : Ended

-- the connections of a history
abbrev pub noted_in : List (ConnectionRows × Unit {0}) → List ConnectionRows
noted_in items = map (λ (p : ConnectionRows × Unit {0}). p.0) items

-- nothing was read of a connection yet, and nothing was written: no read was made, and no write has failed
pub record IsFresh (given : Given) (taken : Taken) : Type 0 where
  pub unread : given.bytes ≡ []
  pub reads : given.reads ≡ 0
  pub fruitful : given.fruitful ≡ 0
  pub ends : given.ends ≡ 0
  pub failures : given.failures ≡ 0
  pub sizes : given.sizes ≡ []
  pub unwritten : taken.bytes ≡ []
  pub sound : taken.failures ≡ 0

-- ---- what a machine does

-- A machine has handed a handler one connection that came in at a port, of which nothing was read or written; and it has noted what its reader
-- had given and its writer had taken when the handler was done.
pub record HasHandled {H : Type 0} (handles : H → Given → Given → Taken → Taken → Ended → H → Type 0) (port : ℕ) (old new : H) (was now : List ConnectionRows) : Type 0 where
  pub before : Given
  pub start : Taken
  pub fresh : IsFresh before start
  pub connection : ConnectionRows
  pub came : connection.port ≡ port
  pub handled : handles old before connection.given start connection.taken connection.ended new
  pub noted : now ≡ was ++ connection ∷ []

-- ---- what a service makes of connections

module _ {S : Type 0} (answers : S → Option (List ℕ) → Call → Served → S → Type 0) where
  -- a service has answered the requests of this connection: those that came on it from its first byte on, and all that was written on it is
  -- their answers
  pub record Answers (connection : ConnectionRows) (old new : S) : Type 0 where
    pub before : Given
    pub start : Taken
    pub fresh : IsFresh before start
    pub connects : Connects answers before connection.given start connection.taken old new connection.ended

  -- the same of each of these connections, one after another: each begins with what the one before it left of the service
  abbrev pub AnswersEach : List ConnectionRows → S → S → Type 0
  AnswersEach [] old new = new ≡ old
  AnswersEach (connection ∷ later) old new = (mid : S) × (Answers connection old mid × AnswersEach later mid new)

-- all these connections came in at this port
abbrev pub CameAt : ℕ → List ConnectionRows → Type 0
CameAt port connections = All (λ connection. connection.port ≡ port) connections
