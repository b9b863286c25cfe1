use Rattle.af_vars.proofs.LawLemmas.{last_text_is_read}
use Rattle.af_vars.proofs.laws.the_last_text_is_read.Goals as goal

pub returns : goal.returns
returns c = last_text_is_read
