use Rattle.std.proofs.Common.{◌∙◌}
use Rattle.af_policy.specs.Shown.{filled}
use Rattle.af_policy.proofs.ShownLemmas.{filled_own}
use Rattle.af_policy.proofs.shared.listing.fill_own.Goals as goal

pub returns : goal.returns
returns g c =
    c.in_ok-fill_all.ensures
    ∙ (λ i. filled c.args.bound (c.in_ok-fill_one.ensures i) (c.as_slice.ensures i))
    ∙ filled_own c.args.bound _ _ _
