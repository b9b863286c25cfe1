use Rattle.std.proofs.Common.{◌≡◌, ◌∙◌, sym, arith, inl, true, false}
use Rattle.af_vars.specs.Variables.{has_variable}
use Rattle.af_server.specs.VariableRows.{rows_of}
use Rattle.af_server.proofs.VariableLemmas.{added, found_there, is_full, is_some-entry}
use Rattle.af_server.proofs.config.variables.Pending.place.Goals as goal

pub returns-then-contains_key : goal.returns-then-contains_key
returns-then-contains_key c =
    let there : has_variable (rows_of c.self.inside.found.entries) c.args.variable.key ≡ true = sym (is_some-entry c.args.variable.key c.self.inside.found.entries) ∙ sym c.contains_key.ensures ∙ c.if-contains_key.true in
    rw (← c.self.view_is) (inl (found_there c.self.inside.draft c.self.inside.found.entries c.args.variable there))

pub returns-then-len-ge-MOST_VARIABLES : goal.returns-then-len-ge-MOST_VARIABLES
returns-then-len-ge-MOST_VARIABLES c =
    let absent : has_variable (rows_of c.self.inside.found.entries) c.args.variable.key ≡ false = sym (is_some-entry c.args.variable.key c.self.inside.found.entries) ∙ sym c.contains_key.ensures ∙ c.if-contains_key.false in
    rw (← c.self.view_is) (inl (is_full c.self.inside.draft c.self.inside.found.entries c.args.variable absent (omega (arith, c.len.ensures.len, c.if-len-ge-MOST_VARIABLES.true))))

pub returns : goal.returns
returns c =
    let absent : has_variable (rows_of c.self.inside.found.entries) c.args.variable.key ≡ false = sym (is_some-entry c.args.variable.key c.self.inside.found.entries) ∙ sym c.contains_key.ensures ∙ c.if-contains_key.false in
    rw (← c.self.view_is) (added c.self.inside.draft c.self.inside.found.entries c.args.variable absent c.insert.new.self.entries (omega (arith, c.len.ensures.len, c.if-len-ge-MOST_VARIABLES.false)) c.len.ensures.ordered c.in_ok-insert.ensures.entries)
