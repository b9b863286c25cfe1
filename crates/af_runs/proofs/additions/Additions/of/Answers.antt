use Rattle.std.proofs.lemmas.List.{append-nil}
use Rattle.af_runs.proofs.additions.Additions.of.Goals as goal

pub invariant_of-result : goal.invariant_of-result
invariant_of-result c = rw (c.after.ensures.rows, append-nil c.args.runs.now.rows, c.after.ensures.next, c.last.ensures.next) c.last.ensures.kept
