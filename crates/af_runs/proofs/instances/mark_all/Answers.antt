use Rattle.std.proofs.Common.{ap, arith, length}
use Rattle.af_runs.specs.Marks.{marked_instance}
use Rattle.af_runs.specs.declared.instance.Instance.{Instance}
use Rattle.af_runs.proofs.ChangeLemmas.{map-from}
use Rattle.af_runs.proofs.instances.mark_all.Goals as goal

pub returns : goal.returns
returns c =
    map-from (marked_instance c.args.mark c.args.at) c.args.instances.now c.loop-place.instances c.loop-place.invariant.0 (λ k d inside. c.loop-place.invariant.1 k d (omega (arith, ap (length {A = Instance}) c.as_slice-place-end.ensures)))
