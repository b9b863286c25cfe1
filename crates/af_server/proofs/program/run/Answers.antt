use Rattle.std.proofs.Common.{refl}
use Rattle.af_server.proofs.program.run.Goals as goal

pub returns-in-Once : goal.returns-in-Once
returns-in-Once g c = rw c.in-Once.is ((rw c.as_str.ensures.value at c.once_at.ensures), refl)

pub returns-in-Serve : goal.returns-in-Serve
returns-in-Serve g c = rw c.in-Serve.is (rw c.as_str-in-Serve.ensures.value at c.serve_at.ensures)

pub returns-in-Verify : goal.returns-in-Verify
returns-in-Verify g c = rw c.in-Verify.is ((rw c.as_str-in-Verify.ensures.value at c.verify_at.ensures), refl)
