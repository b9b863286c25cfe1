-- What is told of what was read, is told of the bytes that say it.
use Rattle.std.proofs.Common.{◌≡◌, Bool, Result, Ok}
use Rattle.af_server.specs.declared.reason.Reason.{Reason}
use Rattle.af_server.specs.declared.verifying.Recorded.{Recorded}
use Rattle.af_server.specs.Verified.{IsToldOf}

pub told_as_read : (said : Result Recorded Reason) (recorded : Recorded) (outcome : Result Bool Reason) → said ≡ Ok recorded → IsToldOf (Ok recorded) outcome → IsToldOf said outcome
told_as_read said recorded outcome is told = rw is told
