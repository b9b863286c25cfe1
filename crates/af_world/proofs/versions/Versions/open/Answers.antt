use Rattle.std.proofs.Common.{◌≡◌, [], length, sym, ap, subst, arith}
use Rattle.af_policy.specs.Versions.{IsHistory}
use Rattle.af_policy.proofs.VersionLemmas.{history_none}
use Rattle.af_world.proofs.versions.Versions.open.Goals as goal

pub invariant_of-result : goal.invariant_of-result
invariant_of-result c =
    let none : c.new.result.items ≡ [] = c.new.ensures.items
    in (
      omega (arith, ap length none),
      subst (λ policies. IsHistory policies c.args.policy) (sym none) (history_none c.args.policy),
    )
