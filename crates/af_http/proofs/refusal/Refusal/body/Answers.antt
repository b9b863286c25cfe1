use Rattle.std.proofs.Common.{sym, ap}
use Rattle.std.specs.Fmt.{digits}
use Rattle.json.specs.Print.{escape_byte}
use Rattle.af_http.specs.Answers.{problem_body}
use Rattle.af_http.specs.Reading.{status_of, detail_of}
use Rattle.af_http.proofs.refusal.Refusal.body.Goals as goal

pub returns-in-BadHead : goal.returns-in-BadHead
unfolding digits escape_byte problem_body
returns-in-BadHead c = sym (ap (λ r. problem_body (status_of r) (detail_of r)) c.in-BadHead.is)

pub returns-in-Incomplete : goal.returns-in-Incomplete
unfolding digits escape_byte problem_body
returns-in-Incomplete c = sym (ap (λ r. problem_body (status_of r) (detail_of r)) c.in-Incomplete.is)

pub returns-in-HeadTooLarge : goal.returns-in-HeadTooLarge
unfolding digits escape_byte problem_body
returns-in-HeadTooLarge c = sym (ap (λ r. problem_body (status_of r) (detail_of r)) c.in-HeadTooLarge.is)

pub returns-in-Coding : goal.returns-in-Coding
unfolding digits escape_byte problem_body
returns-in-Coding c = sym (ap (λ r. problem_body (status_of r) (detail_of r)) c.in-Coding.is)

pub returns-in-BodyTooLarge : goal.returns-in-BodyTooLarge
unfolding digits escape_byte problem_body
returns-in-BodyTooLarge c = sym (ap (λ r. problem_body (status_of r) (detail_of r)) c.in-BodyTooLarge.is)
