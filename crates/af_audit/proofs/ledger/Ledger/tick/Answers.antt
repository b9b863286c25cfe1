use Rattle.std.proofs.Common.{subst}
use Rattle.af_sched.specs.State.{StateRows}
use Rattle.af_audit.specs.Ledgers.{LedgerRows}
use Rattle.af_audit.specs.Ticked.{IsTicked}
use Rattle.af_audit.proofs.TickedLemmas.{tick_kept}
use Rattle.af_audit.proofs.ledger.Ledger.tick.Goals as goal

pub invariant_of-self-2 : goal.invariant_of-self-2
invariant_of-self-2 c =
    let before : LedgerRows = record { opening = c.self.inside.opening.rows; state = c.self.inside.state.rows; audit = c.self.inside.audit; version = c.self.inside.version } in
    let after : LedgerRows = record { opening = c.self.inside.opening.rows; state = c.enter_tick-told.new.state.rows; audit = c.enter_tick-told.new.audit; version = c.self.inside.version } in
    tick_kept c.args.at before after c.enter_tick-told.result c.self.invariant c.show_state.ensures
    (subst (λ (state : StateRows). IsTicked c.args.at (record before { state = state }) after c.enter_tick-told.result) c.plan_tick.ensures.rows (c.enter_tick-told.ensures.ticked c.self.inside.opening.rows))

pub returns : goal.returns
returns c =
    let before : LedgerRows = record { opening = c.self.inside.opening.rows; state = c.self.inside.state.rows; audit = c.self.inside.audit; version = c.self.inside.version } in
    let after : LedgerRows = record { opening = c.self.inside.opening.rows; state = c.enter_tick-told.new.state.rows; audit = c.enter_tick-told.new.audit; version = c.self.inside.version } in
    subst (λ (old : LedgerRows). IsTicked c.args.at old after c.enter_tick-told.result) c.self.view_is
    (subst (λ (state : StateRows). IsTicked c.args.at (record before { state = state }) after c.enter_tick-told.result) c.plan_tick.ensures.rows (c.enter_tick-told.ensures.ticked c.self.inside.opening.rows))
