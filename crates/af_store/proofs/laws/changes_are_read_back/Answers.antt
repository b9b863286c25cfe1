use Rattle.af_store.proofs.ChangeLemmas.{change_of-change_body}
use Rattle.af_store.proofs.laws.changes_are_read_back.Goals as goal

pub returns : goal.returns
returns c = change_of-change_body
