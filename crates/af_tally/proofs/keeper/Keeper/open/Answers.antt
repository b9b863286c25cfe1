use Rattle.af_tally.proofs.StepLemmas.{opens}
use Rattle.af_tally.proofs.keeper.Keeper.open.Goals as goal

pub of_words-requires : goal.of_words-requires
of_words-requires g c = opens
