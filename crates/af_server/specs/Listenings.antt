-- What contracts see of a server (this product's own rule).
use Rattle.std.specs.Prelude.{ℕ, List}
use Rattle.af_sched.specs.Scripts.{ScriptRow}
use Rattle.af_board.specs.Marks.{Site}
use Rattle.af_plane.specs.Visits.{PlaneRows}

-- a board of the versions of the policy, a plane over it, and the scripts by which tasks end
pub record ServerRows : Type 0 where
  pub site : Site
  pub plane : PlaneRows
  pub scripts : List ScriptRow

-- a server that listens, and on which port
pub record ListeningRows : Type 0 where
  pub server : ServerRows
  pub port : ℕ

abbrev pub server_of : Site → PlaneRows → List ScriptRow → ServerRows
server_of site plane scripts = record { site = site; plane = plane; scripts = scripts }
