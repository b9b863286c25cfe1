use Rattle.std.proofs.Common.{refl}
use Rattle.std.specs.Fmt.{digits}
use Rattle.json.specs.Print.{escape_byte}
use Rattle.af_ops.proofs.worked_rows.pool_messages_by_the_rule.Goals as goal

pub returns-clause-added : goal.returns-clause-added
unfolding digits escape_byte
returns-clause-added c = refl

pub returns-clause-again : goal.returns-clause-again
unfolding digits escape_byte
returns-clause-again c = refl

pub returns-clause-held : goal.returns-clause-held
unfolding digits escape_byte
returns-clause-held c = refl

pub returns-clause-lowered : goal.returns-clause-lowered
unfolding digits escape_byte
returns-clause-lowered c = refl

pub returns-clause-set : goal.returns-clause-set
unfolding digits escape_byte
returns-clause-set c = refl

pub returns-clause-as_it_was : goal.returns-clause-as_it_was
unfolding digits escape_byte
returns-clause-as_it_was c = refl

pub returns-clause-listed : goal.returns-clause-listed
unfolding digits escape_byte
returns-clause-listed c = refl

pub returns-clause-absent : goal.returns-clause-absent
unfolding digits escape_byte
returns-clause-absent c = refl

pub returns-clause-bad_slots : goal.returns-clause-bad_slots
unfolding digits escape_byte
returns-clause-bad_slots c = refl

pub returns-clause-default_stays : goal.returns-clause-default_stays
unfolding digits escape_byte
returns-clause-default_stays c = refl

pub returns-clause-used_stays : goal.returns-clause-used_stays
unfolding digits escape_byte
returns-clause-used_stays c = refl
