use Rattle.std.proofs.Common.{◌≡◌}
use Rattle.af_server.specs.VariableRows.{rows_of, with_each, with_variables}
use Rattle.af_server.proofs.config.variables.add_in_order.Given as goal

-- the entries that are left make the whole
abbrev pub invariant-loop-key : goal.invariant-loop-key
invariant-loop-key l =
    with_variables l.draft (with_each l.draft.state.variables (rows_of l.key-iterator)) ≡ with_variables l.initial.draft (with_each l.initial.draft.state.variables (rows_of l.fn.found.entries))
