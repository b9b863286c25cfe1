use Rattle.af_world.proofs.PermittedLemmas.{refused_permitted}
use Rattle.af_world.proofs.laws.refused_changes_are_permitted.Goals as goal

pub returns : goal.returns
returns c = refused_permitted
