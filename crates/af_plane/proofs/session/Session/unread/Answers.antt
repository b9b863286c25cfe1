use Rattle.af_plane.specs.Looks.{On}
use Rattle.af_plane.proofs.session.Session.unread.Goals as goal

pub returns-in-Ok : goal.returns-in-Ok
returns-in-Ok c = record {
  on = c.in-Ok.ensures.on;
  longer = c.in-Ok.ensures.longer;
  entries = c.in-Ok.ensures.entries;
  basis = On c.find_error.new.self.grounds;
  administered = c.in-Ok.ensures.given;
}
