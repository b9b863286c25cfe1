use Rattle.std.proofs.Common.{nat_eq, refl, rules}
use Rattle.std.specs.Cmp.Lexicographic.{pointwise}
use Rattle.af_ops.proofs.VariableLemmas.{write_exact, write_room}
use Rattle.af_ops.proofs.operations.variables.variable_changed.Goals as goal

pub returns-clause-room : goal.returns-clause-room
returns-clause-room c =
    rw (c.of.ensures, c.in_ok-edit.ensures)
    (write_room (pointwise nat_eq c.in_ok-row.row.now.value c.in_ok-value.value.now) c.args.state.now c.args.key.now c.in_ok-row.row.now c.in_ok-value.value.now (search rules))

pub returns-clause-exact : goal.returns-clause-exact
returns-clause-exact c =
    rw (c.of.ensures, c.in_ok-edit.ensures)
    (write_exact (pointwise nat_eq c.in_ok-row.row.now.value c.in_ok-value.value.now) c.args.state.now.rows c.args.key.now c.in_ok-row.row.now c.in_ok-value.value.now (search rules) refl)
