use Rattle.std.proofs.Common.{ap, sym, ◌∙◌}
use Rattle.af_policy.specs.Uses.{mentions}
use Rattle.af_policy.proofs.tables_draft.TablesDraft.finish.Goals as goal

pub of_parts-requires : goal.of_parts-requires
of_parts-requires c = record {
  exist = rw c.in_ok-users.ensures.table c.self.invariant.0;
  counted = λ name is. c.in_ok-users.ensures.uses name is ∙ ap (λ users. mentions users name) (sym c.in_ok-users.ensures.table);
  within = rw c.in_ok-users.ensures.table c.self.invariant.1;
}
