use Rattle.std.proofs.Common.{subst, refl, rules}
use Rattle.af_audit.specs.declared.act.Act.TheVariants as act
use Rattle.af_audit.specs.declared.actor.Actor.TheVariants.{Executor}
use Rattle.af_audit.specs.Claimed.{ClaimsOne}
use Rattle.af_audit.specs.Ledgers.{LedgerRows}
use Rattle.af_audit.proofs.ClaimedLemmas.{claims_one}
use Rattle.af_audit.proofs.LedgerLemmas.{ledger_grown}
use Rattle.af_audit.proofs.ledger.Ledger.claim.Goals as goal

pub invariant_of-self-2 : goal.invariant_of-self-2
invariant_of-self-2 c =
    rw c.in_default-enter.ensures.ok
    (ledger_grown _ Executor (act.Claim c.in-Ok.kept) c.args.at c.claim.new.self.rows c.self.invariant c.in_default-enter.ensures.room refl c.show_state-2.ensures (c.in_default-claim.field-0, c.in_default-claim.ensures.ok))

pub returns : goal.returns
returns c =
    let before : LedgerRows = record { opening = c.self.inside.opening.rows; state = c.self.inside.state.rows; audit = c.self.inside.audit; version = c.self.inside.version } in
    let after : LedgerRows = record { opening = c.self.inside.opening.rows; state = c.claim.new.self.rows; audit = c.enter.new.self; version = c.self.inside.version } in
    subst (λ (old : LedgerRows). ClaimsOne c.args.at old after c.in-Ok-Some.claim) c.self.view_is
    (claims_one c.a_claim_tells_the_next.ensures c.args.at before c.claim.new.self.rows c.enter.new.self c.in-Ok-Some.claim c.in-Ok.kept c.in-Ok-Some.field-0 c.in_default-claim.field-0 c.show_state.ensures.runs c.in-Ok-Some.ensures.next (search rules) c.in_default-claim.ensures.ok c.in-Ok.ensures c.in_default-enter.ensures.room c.in_default-enter.ensures.ok)
