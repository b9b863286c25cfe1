use Rattle.std.specs.Prelude.{◌≡◌, ◌<◌, ℕ, Some, slice_get}
use Rattle.af_plane.specs.Closings.{HasTakenIn, IsWithin}
use Rattle.af_server.specs.Reports.{WorkerRows}
use Rattle.af_server.proofs.worker_reports.take_in_each.Given as goal

-- the reports are as they were, and the sessions of the first are within the plane
abbrev pub invariant-loop-i : goal.invariant-loop-i
invariant-loop-i g l =
    (l.slots ≡ l.fn.slots) × HasTakenIn l.fn.closed l.closed
    × ((j : ℕ) (worker : WorkerRows) → j < l.i → slice_get l.fn.slots j ≡ Some (Some worker) → IsWithin l.closed worker.session.visit)
