use Rattle.std.proofs.Common.{◌∙◌, ap, sym, subst}
use Rattle.af_policy.specs.Rows.{NamesAscend, digests_differ, user_names}
use Rattle.af_policy.specs.Tables.{users_at}
use Rattle.af_policy.proofs.NamedTableLemmas.{ascend_by_names}
use Rattle.af_policy.proofs.user_table.UserTable.facts.Goals as goal

pub returns-clause-ascend : goal.returns-clause-ascend
returns-clause-ascend c =
    subst (λ users. NamesAscend (user_names users)) c.self.view_is
    (ascend_by_names (users_at c.self.inside.by_digest c.self.inside.by_name) c.self.inside.by_name (sym c.self.invariant.named) c.facts.ensures)

pub returns-clause-differ : goal.returns-clause-differ
returns-clause-differ c = ap digests_differ (sym c.self.view_is) ∙ c.self.invariant.table.differ
