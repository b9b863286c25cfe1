use Rattle.af_plane.proofs.SharedLemmas.{calls_of_all_are_one_run}
use Rattle.af_plane.proofs.laws.calls_of_all_are_one_run.Goals as goal

pub returns : goal.returns
returns c = calls_of_all_are_one_run
