use Rattle.std.proofs.Common.{arith, refl}
use Rattle.af_runs.proofs.PlaceLemmas.{stands_before}
use Rattle.af_runs.proofs.places.place_of.Goals as goal

pub returns : goal.returns
returns c = stands_before c.args.rows.now _ c.requires c.args.last c.args.number refl (omega arith) (omega arith) (omega arith)
