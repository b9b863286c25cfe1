use Rattle.std.proofs.Common.{sym, ap}
use Rattle.std.specs.Fmt.{digits}
use Rattle.af_http.specs.Answers.{status_line}
use Rattle.af_http.proofs.wording.status_line.Goals as goal

pub returns-in-Ok-clause-text : goal.returns-in-Ok-clause-text
unfolding digits
returns-in-Ok-clause-text c = sym (ap status_line c.in-Ok.is)

pub returns-in-NoContent-clause-text : goal.returns-in-NoContent-clause-text
unfolding digits
returns-in-NoContent-clause-text c = sym (ap status_line c.in-NoContent.is)

pub returns-in-BadRequest-clause-text : goal.returns-in-BadRequest-clause-text
unfolding digits
returns-in-BadRequest-clause-text c = sym (ap status_line c.in-BadRequest.is)

pub returns-in-Unauthorized-clause-text : goal.returns-in-Unauthorized-clause-text
unfolding digits
returns-in-Unauthorized-clause-text c = sym (ap status_line c.in-Unauthorized.is)

pub returns-in-Forbidden-clause-text : goal.returns-in-Forbidden-clause-text
unfolding digits
returns-in-Forbidden-clause-text c = sym (ap status_line c.in-Forbidden.is)

pub returns-in-NotFound-clause-text : goal.returns-in-NotFound-clause-text
unfolding digits
returns-in-NotFound-clause-text c = sym (ap status_line c.in-NotFound.is)

pub returns-in-MethodNotAllowed-clause-text : goal.returns-in-MethodNotAllowed-clause-text
unfolding digits
returns-in-MethodNotAllowed-clause-text c = sym (ap status_line c.in-MethodNotAllowed.is)

pub returns-in-Conflict-clause-text : goal.returns-in-Conflict-clause-text
unfolding digits
returns-in-Conflict-clause-text c = sym (ap status_line c.in-Conflict.is)

pub returns-in-ContentTooLarge-clause-text : goal.returns-in-ContentTooLarge-clause-text
unfolding digits
returns-in-ContentTooLarge-clause-text c = sym (ap status_line c.in-ContentTooLarge.is)

pub returns-in-HeadTooLarge-clause-text : goal.returns-in-HeadTooLarge-clause-text
unfolding digits
returns-in-HeadTooLarge-clause-text c = sym (ap status_line c.in-HeadTooLarge.is)

pub returns-in-InternalError-clause-text : goal.returns-in-InternalError-clause-text
unfolding digits
returns-in-InternalError-clause-text c = sym (ap status_line c.in-InternalError.is)

pub returns-in-NotImplemented-clause-text : goal.returns-in-NotImplemented-clause-text
unfolding digits
returns-in-NotImplemented-clause-text c = sym (ap status_line c.in-NotImplemented.is)

pub returns-in-Unavailable-clause-text : goal.returns-in-Unavailable-clause-text
unfolding digits
returns-in-Unavailable-clause-text c = sym (ap status_line c.in-Unavailable.is)

pub returns-in-InsufficientStorage-clause-text : goal.returns-in-InsufficientStorage-clause-text
unfolding digits
returns-in-InsufficientStorage-clause-text c = sym (ap status_line c.in-InsufficientStorage.is)
