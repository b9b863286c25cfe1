use Rattle.af_audit.proofs.EntryLemmas.{no_gap}
use Rattle.af_audit.proofs.laws.numbers_have_no_gap.Goals as goal

pub returns : goal.returns
returns c = no_gap
