use Rattle.af_plane.proofs.ClosingLemmas.{sessions_stay_within}
use Rattle.af_server.proofs.server_report.ServerReport.at_end.Goals as goal

pub returns-clause-workers_within : goal.returns-clause-workers_within
returns-clause-workers_within g c = rw c.into_plane.ensures.plane c.take_in-2.ensures.within

pub returns-clause-scheduler_within : goal.returns-clause-scheduler_within
returns-clause-scheduler_within g c =
    rw c.into_plane.ensures.plane
    (sessions_stay_within c.take_in.new.closed c.take_in-2.new.closed c.take_in.new.self.session.visit c.take_in.ensures.within c.take_in-2.ensures.taken)
