use Rattle.std.proofs.Common.{refl}
use Rattle.form_urlencoded.specs.Form.{raw_pairs, split}
use Rattle.percent_encoding.specs.Percent.{percent_decode}
use Rattle.af_listing.proofs.worked.faults_by_the_rule.Goals as goal

pub returns-clause-negative : goal.returns-clause-negative
unfolding raw_pairs split percent_decode
returns-clause-negative c = refl

pub returns-clause-bare : goal.returns-clause-bare
unfolding raw_pairs split percent_decode
returns-clause-bare c = refl

pub returns-clause-empty : goal.returns-clause-empty
unfolding raw_pairs split percent_decode
returns-clause-empty c = refl

pub returns-clause-limit_first : goal.returns-clause-limit_first
unfolding raw_pairs split percent_decode
returns-clause-limit_first c = refl

pub returns-clause-first_decides : goal.returns-clause-first_decides
unfolding raw_pairs split percent_decode
returns-clause-first_decides c = refl

pub returns-clause-fraction : goal.returns-clause-fraction
unfolding raw_pairs split percent_decode
returns-clause-fraction c = refl

pub returns-clause-sign : goal.returns-clause-sign
unfolding raw_pairs split percent_decode
returns-clause-sign c = refl

pub returns-clause-plus : goal.returns-clause-plus
unfolding raw_pairs split percent_decode
returns-clause-plus c = refl

pub returns-clause-space : goal.returns-clause-space
unfolding raw_pairs split percent_decode
returns-clause-space c = refl

pub returns-clause-no_utf8 : goal.returns-clause-no_utf8
unfolding raw_pairs split percent_decode
returns-clause-no_utf8 c = refl

pub returns-clause-second_equals : goal.returns-clause-second_equals
unfolding raw_pairs split percent_decode
returns-clause-second_equals c = refl
