use Rattle.std.proofs.Common.{refl}
use Rattle.std.specs.Fmt.{digits}
use Rattle.json.specs.Print.{escape_byte}
use Rattle.af_http.specs.Answers.{problem_body}
use Rattle.af_http.proofs.problems.bad_method_body.Goals as goal

pub returns : goal.returns
unfolding digits escape_byte problem_body
returns c = refl
