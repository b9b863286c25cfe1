use Rattle.std.proofs.Common.{refl}
use Rattle.std.specs.Fmt.{digits}
use Rattle.json.specs.Print.{escape_byte}
use Rattle.af_ops.proofs.worked_rows.variable_messages_by_the_rule.Goals as goal

pub returns-clause-added : goal.returns-clause-added
unfolding digits escape_byte
returns-clause-added c = refl

pub returns-clause-again : goal.returns-clause-again
unfolding digits escape_byte
returns-clause-again c = refl

pub returns-clause-shown : goal.returns-clause-shown
unfolding digits escape_byte
returns-clause-shown c = refl

pub returns-clause-absent : goal.returns-clause-absent
unfolding digits escape_byte
returns-clause-absent c = refl

pub returns-clause-written : goal.returns-clause-written
unfolding digits escape_byte
returns-clause-written c = refl

pub returns-clause-as_it_was : goal.returns-clause-as_it_was
unfolding digits escape_byte
returns-clause-as_it_was c = refl

pub returns-clause-listed : goal.returns-clause-listed
unfolding digits escape_byte
returns-clause-listed c = refl
