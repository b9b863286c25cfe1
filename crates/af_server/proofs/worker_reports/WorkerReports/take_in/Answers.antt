use Rattle.af_plane.specs.Closings.{IsOfControl, IsWithin}
use Rattle.af_server.proofs.ReportLemmas.{filled-each, filled-get}
use Rattle.af_server.proofs.worker_reports.WorkerReports.take_in.Goals as goal

pub take_in_each-requires : goal.take_in_each-requires
take_in_each-requires g c = filled-get (λ worker. IsOfControl g.N.Named.name worker.session) c.self.inside.slots (rw c.self.view_is c.requires)

pub returns-clause-within : goal.returns-clause-within
returns-clause-within g c =
    rw c.take_in_each.ensures.same (filled-each (λ worker. IsWithin c.take_in_each.new.closed worker.session.visit) c.self.inside.slots c.take_in_each.ensures.within)
