-- Compiled policies may go to another thread, and be shared by threads.
use denote.Param.Send.{IsSend, IsSync, sendable}
use Rattle.af_mask.specs.contracts.compiled.Compiled as compiled
use Rattle.af_policy.proofs.Threads.{policy_send, policy_sync}

pub compiled_sync : IsSync compiled.the_row
compiled_sync = search (sendable, policy_sync) depth 60

pub compiled_send : IsSend compiled.the_row
compiled_send = search (sendable, policy_send) depth 60
