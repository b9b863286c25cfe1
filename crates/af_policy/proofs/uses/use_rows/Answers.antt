use Rattle.std.proofs.Common.{◌≡◌, ◌∙◌, ap, map, rules, subst, sym}
use Rattle.std.specs.List.Sorted.{IsStrictlySortedBy}
use Rattle.std.specs.Ordering.{nat_cmp}
use Rattle.std.specs.Cmp.Lexicographic.{slice_cmp}
use Rattle.af_policy.specs.Uses.{UseRow, use_rows}
use Rattle.af_policy.proofs.UseLemmas.{names_of-use_rows}
use Rattle.af_policy.proofs.uses.use_rows.Goals as goal

pub returns-clause-ascend : goal.returns-clause-ascend
returns-clause-ascend c =
    let all : c.loop-name.rows.items ≡ use_rows c.args.counts.entries = search rules
    in subst (IsStrictlySortedBy (slice_cmp nat_cmp)) (sym (ap (map (λ (row : UseRow). row.name)) all ∙ names_of-use_rows c.args.counts.entries)) c.len.ensures.ordered
