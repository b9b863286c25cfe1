use Rattle.std.proofs.Common.{refl}
use Rattle.form_urlencoded.specs.Form.{raw_pairs, split}
use Rattle.percent_encoding.specs.Percent.{percent_decode}
use Rattle.af_listing.proofs.worked.queries_by_the_rule.Goals as goal

pub returns-clause-absent : goal.returns-clause-absent
unfolding raw_pairs split percent_decode
returns-clause-absent c = refl

pub returns-clause-both : goal.returns-clause-both
unfolding raw_pairs split percent_decode
returns-clause-both c = refl

pub returns-clause-other_order : goal.returns-clause-other_order
unfolding raw_pairs split percent_decode
returns-clause-other_order c = refl

pub returns-clause-large : goal.returns-clause-large
unfolding raw_pairs split percent_decode
returns-clause-large c = refl

pub returns-clause-nothing : goal.returns-clause-nothing
unfolding raw_pairs split percent_decode
returns-clause-nothing c = refl

pub returns-clause-leading_zeros : goal.returns-clause-leading_zeros
unfolding raw_pairs split percent_decode
returns-clause-leading_zeros c = refl

pub returns-clause-thirty_digits : goal.returns-clause-thirty_digits
unfolding raw_pairs split percent_decode
returns-clause-thirty_digits c = refl

pub returns-clause-first_counts : goal.returns-clause-first_counts
unfolding raw_pairs split percent_decode
returns-clause-first_counts c = refl

pub returns-clause-encoded_name : goal.returns-clause-encoded_name
unfolding raw_pairs split percent_decode
returns-clause-encoded_name c = refl

pub returns-clause-encoded_value : goal.returns-clause-encoded_value
unfolding raw_pairs split percent_decode
returns-clause-encoded_value c = refl

pub returns-clause-other_case : goal.returns-clause-other_case
unfolding raw_pairs split percent_decode
returns-clause-other_case c = refl

pub returns-clause-others : goal.returns-clause-others
unfolding raw_pairs split percent_decode
returns-clause-others c = refl
