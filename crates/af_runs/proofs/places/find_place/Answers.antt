use Rattle.std.proofs.Common.{◌∙◌, sym, ap, length}
use Rattle.af_runs.specs.Chains.{last_of}
use Rattle.af_runs.proofs.FindLemmas.{walk_ends, walk_starts}
use Rattle.af_runs.proofs.places.find_place.Goals as goal

pub returns-in-None : goal.returns-in-None
returns-in-None c = walk_ends c.args.wanted.now c.args.rows.now _ c.requires.runs (length c.args.rows.now) (walk_starts c.args.wanted.now c.args.rows.now _ c.requires.runs c.args.chains.now c.requires.chains 0 (sym c.in-None.ensures ∙ ap (last_of c.args.chains.now) c.code-code.ensures))
