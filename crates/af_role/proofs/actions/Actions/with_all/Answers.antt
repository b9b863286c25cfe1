use Rattle.std.proofs.Common.{ap, ◌==◌, ◌∙◌}
use Rattle.std.specs.Int.RustNames.{bit_and}
use Rattle.af_role.specs.ActionSets.{bit_of}
use Rattle.af_role.proofs.MaskLemmas.{union_has}
use Rattle.af_role.proofs.actions.Actions.with_all.Goals as goal

pub returns : goal.returns
returns c action =
    ap (λ bits. bit_and bits (bit_of action) == bit_of action) (c.union.ensures tt) ∙ union_has c.args.self.0 c.args.more.0 action
