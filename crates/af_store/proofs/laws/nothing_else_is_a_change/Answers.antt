use Rattle.af_store.specs.ChangeLines.{change_body}
use Rattle.af_store.specs.ChangeReads.{change_in}
use Rattle.af_store.specs.Members.{row_in}
use Rattle.af_store.proofs.ReadLemmas.{told_as-only}
use Rattle.af_store.proofs.laws.nothing_else_is_a_change.Goals as goal

pub returns : goal.returns
returns c = λ body line is. told_as-only change_body body (row_in body) change_in line is
