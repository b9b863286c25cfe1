use Rattle.std.proofs.Common.{subst}
use Rattle.af_policy.specs.Rows.{PolicyRows}
use Rattle.af_plane.specs.Blind.{TellsWhatIsRead}
use Rattle.af_plane.proofs.BlindLemmas.{tells_what_is_read}
use Rattle.af_plane.proofs.plane.Plane.apply.Goals as goal

pub returns-clause-blind : goal.returns-clause-blind
returns-clause-blind c =
    subst (λ (p : PolicyRows). TellsWhatIsRead p c.args.self.now.ledger c.args.request.now.token c.args.request.now.call c.args.request.now.at c.decide.result) c.policy.ensures
    (tells_what_is_read c.policy.result.now c.args.self.now.ledger c.decide.new.self.ledger c.args.request.now.token c.args.request.now.call c.args.request.now.at c.decide.result c.decide.ensures.applied)
