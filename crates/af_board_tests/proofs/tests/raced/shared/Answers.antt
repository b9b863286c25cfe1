use Rattle.std.proofs.Crossing.{crosses}
use denote.Param.Send.{sendable}
use Rattle.af_mask.proofs.Threads.{compiled_sync, compiled_send}
use Rattle.af_word.proofs.word.VersionWord.TheSendSync as word
use Rattle.boxcar.proofs.slot.OnceSlot.TheSendSync as slot
use Rattle.boxcar.proofs.tag.Tag.TheSendSync as tag
use Rattle.af_board_tests.proofs.tests.raced.shared.Goals as goal

-- a board may be shared by threads
pub raced-made-requires-sync-B : goal.raced-made-requires-sync-B
raced-made-requires-sync-B c κs = search (sendable, crosses, compiled_sync, compiled_send, word.the_sync, slot.the_send, slot.the_sync, tag.the_sync) depth 60 fits 100000
