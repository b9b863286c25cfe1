use Rattle.af_trace.proofs.RecordLemmas.{records_one}
use Rattle.af_trace.proofs.laws.records_are_one.Goals as goal

pub returns : goal.returns
returns c = records_one
