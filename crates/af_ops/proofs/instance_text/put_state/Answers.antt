use Rattle.af_ops.proofs.instance_text.put_state.Goals as goal

pub returns-in-UpstreamFailed : goal.returns-in-UpstreamFailed
returns-in-UpstreamFailed c = rw c.in-UpstreamFailed.is c.plain-in-UpstreamFailed.ensures

pub returns-in-UpForRetry : goal.returns-in-UpForRetry
returns-in-UpForRetry c = rw c.in-UpForRetry.is c.plain-in-UpForRetry.ensures
