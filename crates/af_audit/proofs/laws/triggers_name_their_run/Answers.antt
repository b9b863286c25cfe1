use Rattle.af_audit.proofs.TriggerLemmas.{names_its_run}
use Rattle.af_audit.proofs.laws.triggers_name_their_run.Goals as goal

pub returns : goal.returns
returns c = names_its_run c.triggers_add_a_run.ensures
