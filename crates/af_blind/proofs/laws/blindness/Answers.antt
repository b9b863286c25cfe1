use Rattle.af_blind.proofs.VerdictLemmas.{blind}
use Rattle.af_blind.proofs.laws.blindness.Goals as goal

pub returns : goal.returns
returns c = blind
