use Rattle.std.proofs.Common.{refl}
use Rattle.std.specs.Fmt.{digits}
use Rattle.json.specs.Print.{escape_byte}
use Rattle.af_ops.proofs.worked_pages.page_messages_by_the_rule.Goals as goal

pub returns-clause-faulty : goal.returns-clause-faulty
unfolding digits escape_byte
returns-clause-faulty c = refl

pub returns-clause-past_the_end : goal.returns-clause-past_the_end
unfolding digits escape_byte
returns-clause-past_the_end c = refl

pub returns-clause-pools : goal.returns-clause-pools
unfolding digits escape_byte
returns-clause-pools c = refl

pub returns-clause-variables : goal.returns-clause-variables
unfolding digits escape_byte
returns-clause-variables c = refl
