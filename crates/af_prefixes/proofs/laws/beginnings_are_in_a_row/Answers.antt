use Rattle.af_prefixes.proofs.PrefixLemmas.{prefixes_in_a_row}
use Rattle.af_prefixes.proofs.laws.beginnings_are_in_a_row.Goals as goal

pub returns : goal.returns
returns g c = prefixes_in_a_row
