-- A keeper may be shared by threads.
use Rattle.std.proofs.Crossing.{crosses}
use denote.RattleType.{RattleType}
use denote.Param.Send.{IsSend, IsSync, part_keyless, sendable, struct_sync}
use denote.Struct.Declared.{shape}
use Rattle.atomic_table.specs.contracts.shared.Seat as seat
use Rattle.atomic_table.proofs.perch.Perch.TheSendSync as perch
use Rattle.atomic_table.proofs.send_lease.SendLease.TheSendSync as lease
use Rattle.atomic_table.proofs.shared.Seat.TheSendSync as seats
use Rattle.atomic_table.proofs.shared.Shared.TheSendSync as table
use Rattle.af_tally.specs.contracts.keeper.Keeper as keeper
use Rattle.af_tally.specs.contracts.keeper.Keeper.TheInside as inside

-- a seat has no bytes, and its view is nobody's but its own
pub seat_sync : (S V : RattleType) → IsSend S → IsSync (seat.the_row S V)
seat_sync S V s = record { shared = λ d b o κ q. part_keyless (seat.the_row S V) (seats.the_send S V s) q d b o }

pub inside_sync : (E : RattleType) → IsSync (inside.the_field E).row
inside_sync E =
    struct_sync (shape (inside.the_type E)) (
      (search (sendable, crosses, table.the_sync, lease.the_sync) depth 60 fits 100000),
      (
        (search (sendable, crosses, seat_sync) depth 60 fits 100000),
        (
          (search (sendable, crosses, perch.the_sync) depth 60 fits 100000),
          (
            (search sendable),
            tt,
          ),
        ),
      ),
    )

pub keeper_sync : (E : RattleType) → IsSync (keeper.the_row E)
keeper_sync E = search (sendable, inside_sync) depth 60 fits 100000
