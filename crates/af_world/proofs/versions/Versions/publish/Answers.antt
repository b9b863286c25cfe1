use Rattle.std.proofs.Common.{◌≡◌, ◌<◌, ◌∷◌, ◌++◌, [], length, length-append, sym, ap, subst, ◌∙◌, arith}
use Rattle.af_policy.specs.Versions.{Follows, IsHistory, VersionRows}
use Rattle.af_policy.proofs.VersionLemmas.{history_more}
use Rattle.af_world.proofs.versions.Versions.publish.Goals as goal

pub invariant_of-self-2 : goal.invariant_of-self-2
invariant_of-self-2 c =
    let earlier = c.self.inside.earlier.items
    in let latest = c.self.inside.latest
    in let e : c.push_copy.new.policies.items ≡ earlier ++ latest ∷ [] = c.in_ok-push_copy.ensures.ok
    in let room : length earlier < c.self.inside.last = subst (λ (versions : VersionRows). length versions.earlier < versions.last) (sym c.self.view_is) c.requires.room
    in let follows : Follows latest c.args.policy = subst (λ (versions : VersionRows). Follows versions.latest c.args.policy) (sym c.self.view_is) c.requires.follows
    in (
      omega (arith, ap length e ∙ length-append earlier (latest ∷ []), room),
      subst (λ policies. IsHistory policies c.args.policy) (sym e) (history_more earlier latest c.args.policy c.self.invariant.1 follows),
    )
