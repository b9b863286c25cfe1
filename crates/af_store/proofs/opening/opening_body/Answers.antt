use Rattle.std.proofs.Common.{◌∙◌, ap}
use Rattle.af_store.specs.OpeningLines.{opening_of}
use Rattle.af_store.proofs.OpeningLemmas.{opening_of-opening_body}
use Rattle.af_store.proofs.opening.opening_body.Goals as goal

pub returns-clause-read_back : goal.returns-clause-read_back
returns-clause-read_back c = ap opening_of c.in_ok-text.ensures ∙ opening_of-opening_body c.args.config.now
