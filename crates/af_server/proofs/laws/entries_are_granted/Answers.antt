use Rattle.af_server.proofs.LawLemmas.{entries_are_granted}
use Rattle.af_server.proofs.laws.entries_are_granted.Goals as goal

pub returns : goal.returns
returns c = entries_are_granted c.entries_are_granted.ensures
