-- A plane may go to another thread, and be shared by threads. So may a control be shared.
use Rattle.std.proofs.Crossing.{crosses}
use denote.RattleType.{RattleType}
use denote.Param.Send.{IsSend, IsSync, sendable, struct_send, struct_sync}
use denote.Struct.Declared.{shape}
use Rattle.std.below.core.proofs.rw.Slots.TheSendSync as slots
use Rattle.boxcar.proofs.slot.OnceSlot.TheSendSync as slot
use Rattle.boxcar.proofs.tag.Tag.TheSendSync as tag
use Rattle.af_mask.proofs.Threads.{compiled_sync, compiled_send}
use Rattle.af_word.proofs.pass.Pass.TheSendSync as pass
use Rattle.af_word.proofs.word.VersionWord.TheSendSync as word
use Rattle.af_word.specs.contracts.pass.Pass as passes
use Rattle.af_word.specs.contracts.pass.Pass.TheInside as pass_inside
use Rattle.af_tally.specs.contracts.keeper.Keeper as kept
use Rattle.af_tally.proofs.keeper.Keeper.TheSendSync as keeper
use Rattle.af_audit.specs.contracts.entry.Entry as entry
use Rattle.af_tally.proofs.Threads.{keeper_sync, seat_sync}
use Rattle.af_audit.proofs.Sharing.{ledger_sync}
use Rattle.af_audit.proofs.Threads.{ledger_send}
use Rattle.af_plane.specs.contracts.control.Control as control
use Rattle.af_plane.specs.contracts.plane.Plane as plane
use Rattle.af_plane.specs.contracts.plane.Plane.TheInside as inside
use Rattle.af_plane.specs.declared.named.Named as named

pub keeper_send : IsSend (kept.the_row entry.the_row)
keeper_send = search (sendable, crosses, keeper.the_send) depth 60 fits 100000

pub inside_send : IsSend (inside.the_field).row
inside_send = struct_send (shape inside.the_type) (pass.the_send, (keeper_send, (ledger_send, tt)))

pub plane_send : IsSend plane.the_row
plane_send = search (sendable, crosses, inside_send) depth 60 fits 100000

pub pass_inside_sync : IsSync (pass_inside.the_field).row
pass_inside_sync = struct_sync (shape pass_inside.the_type) (search (sendable, crosses, seat_sync) depth 60 fits 100000, (search (sendable, crosses) depth 60 fits 100000, tt))

pub pass_sync : IsSync passes.the_row
pass_sync = search (sendable, pass_inside_sync) depth 60 fits 100000

pub inside_sync : IsSync (inside.the_field).row
inside_sync = struct_sync (shape inside.the_type) (pass_sync, (keeper_sync entry.the_row, (ledger_sync, tt)))

pub plane_sync : IsSync plane.the_row
plane_sync = search (sendable, crosses, inside_sync) depth 60 fits 100000

-- whatever the name is, since it takes no memory
pub control_sync : (N : RattleType) (ghosts : named.Ghosts N.Denot) → IsSync (control.the_row N ghosts)
control_sync N ghosts = search (sendable, crosses, plane_send, plane_sync, slots.the_sync, compiled_sync, compiled_send, word.the_sync, slot.the_send, slot.the_sync, tag.the_sync) depth 60 fits 100000
