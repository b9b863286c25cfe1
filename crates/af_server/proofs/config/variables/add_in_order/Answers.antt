use Rattle.std.proofs.Common.{◌≡◌, ◌∙◌, ap, rules, List}
use Rattle.af_vars.specs.declared.variable.Variable.{Variable}
use Rattle.af_server.specs.VariableRows.{rows_of, with_each, with_variables}
use Rattle.af_server.proofs.VariableLemmas.{with_each-rows}
use Rattle.af_server.proofs.config.variables.add_in_order.Goals as goal

pub returns-clause-ok : goal.returns-clause-ok
returns-clause-ok c =
    let all : c.loop-key.draft ≡ with_variables c.args.draft.now (with_each c.args.draft.now.state.variables (rows_of c.args.found.entries)) = search rules in
    all
    ∙ ap (with_variables c.args.draft.now) (ap (λ (variables : List Variable). with_each variables (rows_of c.args.found.entries)) c.requires ∙ with_each-rows c.args.found.entries c.len-ordered.ensures.ordered)
