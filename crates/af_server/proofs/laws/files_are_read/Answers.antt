use Rattle.af_server.proofs.ProgramLemmas.{once_reads, serve_reads, verify_reads}
use Rattle.af_server.proofs.laws.files_are_read.Goals as goal

pub returns-clause-once : goal.returns-clause-once
returns-clause-once g c files = once_reads _ _

pub returns-clause-serve : goal.returns-clause-serve
returns-clause-serve g c files = serve_reads _ _

pub returns-clause-verify : goal.returns-clause-verify
returns-clause-verify g c files = verify_reads _ _
