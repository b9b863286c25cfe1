use Rattle.af_world.proofs.PageLemmas.{pages_stand}
use Rattle.af_world.proofs.laws.pages_shown_stand.Goals as goal

pub returns : goal.returns
returns c = pages_stand
