-- A board may be shared by threads.
use Rattle.std.proofs.Crossing.{crosses}
use denote.Param.Send.{IsSync, sendable}
use Rattle.af_mask.proofs.Threads.{compiled_sync, compiled_send}
use Rattle.af_board.specs.contracts.board.Board as board
use Rattle.af_word.proofs.word.VersionWord.TheSendSync as word
use Rattle.boxcar.proofs.slot.OnceSlot.TheSendSync as slot
use Rattle.boxcar.proofs.tag.Tag.TheSendSync as tag

pub board_sync : IsSync board.the_row
board_sync = search (sendable, crosses, compiled_sync, compiled_send, word.the_sync, slot.the_send, slot.the_sync, tag.the_sync) depth 60 fits 100000
