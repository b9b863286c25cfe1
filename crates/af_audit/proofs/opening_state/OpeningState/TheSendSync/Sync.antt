-- It owns nothing, so threads may share it.
use denote.Param.Send.{IsSync, part_keyless}
use Rattle.af_audit.specs.contracts.opening_state.OpeningState.{the_row}
use Rattle.af_audit.proofs.opening_state.OpeningState.TheSendSync.Send.{send}

pub sync : IsSync the_row
sync = record { shared = λ d b o κ q. part_keyless the_row send q d b o }
