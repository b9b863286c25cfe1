use Rattle.std.proofs.Common.{◌∙◌, ap}
use Rattle.af_policy.specs.Uses.{count_at}
use Rattle.af_policy.proofs.UseLemmas.{count_at-use_rows}
use Rattle.af_policy.proofs.uses.Uses.of_counts.Goals as goal

pub returns : goal.returns
returns c role = ap (λ rows. count_at rows role) (c.in_ok-counts.ensures ∙ c.in_ok-rows.ensures.rows) ∙ count_at-use_rows role c.args.counts.entries
