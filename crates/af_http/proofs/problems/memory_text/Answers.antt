use Rattle.std.proofs.Common.{refl}
use Rattle.std.specs.Fmt.{digits}
use Rattle.json.specs.Print.{escape_byte}
use Rattle.af_http.specs.Answers.{problem_body, memory_text}
use Rattle.af_http.proofs.problems.memory_text.Goals as goal

pub returns-clause-text : goal.returns-clause-text
unfolding digits escape_byte problem_body memory_text
returns-clause-text c = refl
