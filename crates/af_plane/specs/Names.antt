-- Which board, keeper and opening state a control has, and what one of its sessions comes to where it has the lock (this product's own rule).
use Rattle.std.specs.Prelude.{◌≡◌, ℕ, [], Some}
use mathlib.Core.List.{IsPrefix}
use Rattle.atomic_table.specs.Seated.{TableId}
use Rattle.af_sched.specs.State.{StateRows}
use Rattle.af_ops.specs.declared.served.Served.{Served}
use Rattle.af_audit.specs.Ledgers.{IsLedger, LedgerRows}
use Rattle.af_board.specs.Marks.{Site}
use Rattle.af_plane.specs.Looks.{HasVisited}
use Rattle.af_plane.specs.Requests.{RequestRows}
use Rattle.af_plane.specs.Turns.{IsTurn}
use Rattle.af_plane.specs.Visits.{PlaneRows, Visit}

-- the members of a name
pub record Name : Type 0 where
  pub site : Site
  pub keeper : TableId
  pub opening : StateRows
  pub limit : ℕ

-- no table, no board, and no rows
abbrev pub no_table : TableId
no_table = record { words = 0; slots = 0; views_name = 0; atom = 0; block = 0; offset = 0; slot_names = [] }

abbrev pub no_name : Name
no_name = record {
  site = record {
    word = record { table = no_table; first = 0; last = 0 };
    table = record { tag = []; buckets = [] };
    opening = record { users = []; roles = [] };
  };
  keeper = no_table;
  opening = record { dags = []; runs = []; next_run = 0; pools = []; variables = [] };
  limit = 0;
}

-- a plane is over the name's board and keeper, was opened with the name's state, and has room for as many entries as the name says
abbrev pub IsOfName : Name → PlaneRows → Type 0
IsOfName name plane =
    (plane.pass.word ≡ name.site.word) × (plane.keeper.keeper ≡ name.keeper) × (plane.ledger.opening ≡ name.opening)
    × (plane.ledger.audit.limit ≡ name.limit)

-- A plane is the one that a name means, and its state is the replay of its entries over the name's opening state.
pub record IsNamed (name : Name) (plane : PlaneRows) : Type 0 where
  pub of : IsOfName name plane
  pub ledger : IsLedger plane.ledger
  pub entries : plane.keeper.entries ≡ plane.ledger.audit.entries

-- A call of a session is a turn on a plane that the name means, and leaves such a plane. Which one it finds is not said; but for an open
-- operation, the session had seen no more entries than that plane has.
pub record IsCall (name : Name) (asked : RequestRows) (was : Visit) (gave : Served) (now : Visit) : Type 0 where
  pub old : PlaneRows
  pub new : PlaneRows
  pub found : IsNamed name old
  pub left : IsNamed name new
  pub turn : IsTurn name.site asked old was (Some gave) new now
  -- the session has still seen all versions that it had seen, and the plane all that the plane had
  pub longer : IsPrefix was.pass.places now.pass.places
  pub plane_longer : IsPrefix old.pass.places new.pass.places

-- What the scheduler or an executor does to the ledger of the plane that the name means, while a session of theirs has the lock. It is done
-- under the version at which that plane looked last.
pub record IsDoneOn (name : Name) (old new : PlaneRows) (was now : Visit) (Does : LedgerRows → LedgerRows → Type 0) : Type 0 where
  pub found : IsNamed name old
  pub left : IsNamed name new
  pub visited : HasVisited name.site name.keeper old was new now
  pub does : Does old.ledger new.ledger

-- It is done on a plane that the name means. Which one is not said but that the session had seen no more entries than that plane has.
pub record IsDone (name : Name) (was now : Visit) (Does : LedgerRows → LedgerRows → Type 0) : Type 0 where
  pub old : PlaneRows
  pub new : PlaneRows
  pub on : IsDoneOn name old new was now Does
