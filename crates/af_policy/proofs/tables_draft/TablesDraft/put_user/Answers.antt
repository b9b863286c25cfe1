use Rattle.std.proofs.Common.{◌≡◌, ◌<◌, length, true, sym, ap, subst, ◌∙◌}
use Rattle.std.specs.Arc.{arc_value}
use Rattle.af_policy.specs.Rows.{PolicyRows, has_roles, most_users}
use Rattle.af_policy.proofs.DraftLemmas.{roles_exist-either}
use Rattle.af_policy.proofs.PlaceLemmas.{within-either}
use Rattle.af_policy.proofs.tables_draft.TablesDraft.put_user.Goals as goal

pub invariant_of-self-2 : goal.invariant_of-self-2
invariant_of-self-2 c =
    let has : has_roles c.self.inside.roles (arc_value c.args.user.now).roles ≡ true = ap (λ (policy : PolicyRows). has_roles policy.roles (arc_value c.args.user.now).roles) c.self.view_is ∙ c.requires.roles
    in (
      roles_exist-either c.in_ok-is_new.is_new c.self.inside.users c.insert.new.self c.self.inside.roles (arc_value c.args.user.now) c.in_ok-is_new.ensures.added c.in_ok-is_new.ensures.taken has c.self.invariant.0,
      within-either c.in_ok-is_new.is_new c.self.inside.users c.insert.new.self c.self.inside.roles (arc_value c.args.user.now) c.in_ok-is_new.ensures.added c.in_ok-is_new.ensures.taken
          (subst (λ (policy : PolicyRows). length policy.users < most_users) (sym c.self.view_is) c.requires.room) c.self.invariant.1,
    )
