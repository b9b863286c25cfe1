use Rattle.af_ops.proofs.TableLemmas.{each_found}
use Rattle.af_ops.proofs.laws.each_is_found.Goals as goal

pub returns : goal.returns
returns c = each_found
