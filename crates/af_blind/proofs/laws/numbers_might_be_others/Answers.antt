use Rattle.af_blind.proofs.HiddenLemmas.{numbers_others}
use Rattle.af_blind.proofs.laws.numbers_might_be_others.Goals as goal

pub returns : goal.returns
returns c = numbers_others
