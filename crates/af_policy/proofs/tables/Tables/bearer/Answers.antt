use Rattle.std.proofs.Common.{◌≡◌, ◌∙◌, ap, sym, Some}
use Rattle.std.specs.Option.{option_map}
use Rattle.af_policy.specs.Grants.{grants}
use Rattle.af_policy.specs.Rows.{UserRow}
use Rattle.af_policy.specs.Tables.{roles_of}
use Rattle.af_policy.specs.Identity.{digest_user}
use Rattle.af_policy.specs.Views.{held}
use Rattle.af_policy.proofs.ViewLemmas.{reads_dag-same, reads_runs-same, view-holds}
use Rattle.af_policy.proofs.tables.Tables.bearer.Goals as goal

pub returns-in-Some-clause-user : goal.returns-in-Some-clause-user
returns-in-Some-clause-user c =
    ap Some c.name-user.ensures
    ∙ ap (option_map (λ (user : UserRow). user.name)) c.in-Some.ensures.value
    ∙ ap (λ policy. digest_user policy.users c.args.digest.now) c.self.view_is

pub returns-in-Some-clause-held : goal.returns-in-Some-clause-held
returns-in-Some-clause-held c =
    let finds : Some c.roles.result.now ≡ roles_of c.self.inside.users c.name-user.result.now =
    ap Some c.roles.ensures
    ∙ ap (option_map (λ (user : UserRow). user.roles)) (sym c.in-Some.ensures.named)
    ∙ ap (roles_of c.self.inside.users) (sym c.name-user.ensures)
    in view-holds c.new-view.result c.self.inside.users c.self.inside.roles c.args.self.now (Some c.roles.result.now) c.name-user.result.now
    c.new-view.ensures finds c.self.view_is c.in-Some.ensures.ascend

pub returns-in-Some-clause-reads : goal.returns-in-Some-clause-reads
returns-in-Some-clause-reads c =
    let finds : Some c.roles.result.now ≡ roles_of c.self.inside.users c.name-user.result.now =
    ap Some c.roles.ensures
    ∙ ap (option_map (λ (user : UserRow). user.roles)) (sym c.in-Some.ensures.named)
    ∙ ap (roles_of c.self.inside.users) (sym c.name-user.ensures)
    in reads_dag-same (held c.new-view.result) (grants c.args.self.now c.name-user.result.now)
    (view-holds c.new-view.result c.self.inside.users c.self.inside.roles c.args.self.now (Some c.roles.result.now) c.name-user.result.now
    c.new-view.ensures finds c.self.view_is c.in-Some.ensures.ascend)

pub returns-in-Some-clause-runs : goal.returns-in-Some-clause-runs
returns-in-Some-clause-runs c =
    let finds : Some c.roles.result.now ≡ roles_of c.self.inside.users c.name-user.result.now =
    ap Some c.roles.ensures
    ∙ ap (option_map (λ (user : UserRow). user.roles)) (sym c.in-Some.ensures.named)
    ∙ ap (roles_of c.self.inside.users) (sym c.name-user.ensures)
    in reads_runs-same (held c.new-view.result) (grants c.args.self.now c.name-user.result.now)
    (view-holds c.new-view.result c.self.inside.users c.self.inside.roles c.args.self.now (Some c.roles.result.now) c.name-user.result.now
    c.new-view.ensures finds c.self.view_is c.in-Some.ensures.ascend)
