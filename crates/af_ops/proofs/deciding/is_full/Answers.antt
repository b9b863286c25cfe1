use Rattle.std.proofs.Common.{◌∙◌, sym}
use Rattle.std.proofs.lemmas.Bool.{false≢true, le-ltb}
use Rattle.af_ops.specs.Effects.{effect_of}
use Rattle.af_ops.proofs.DecisionLemmas.{chosen_wanted, none_wanted, own_fault}
use Rattle.af_ops.proofs.deciding.is_full.Goals as goal

pub returns-then-not-is_want : goal.returns-then-not-is_want
returns-then-not-is_want c reads now told =
    own_fault c.args.op.now c.args.limit c.args.under c.args.state.now.rows (effect_of reads c.args.state.now.rows c.args.op.now now) c.args.fault.now
    (λ want. false≢true (sym c.if-not-is_want.true ∙ c.is_want.ensures.1 want)) told

pub returns-then-chooses : goal.returns-then-chooses
returns-then-chooses c reads now told =
    chosen_wanted c.args.op.now c.args.limit c.args.under c.args.state.now.rows (effect_of reads c.args.state.now.rows c.args.op.now now) c.args.fault.now (sym c.chooses.ensures ∙ c.if-chooses.true) told

pub returns : goal.returns
returns c reads now told =
    none_wanted c.args.op.now c.args.limit c.args.under c.args.state.now.rows c.would_change.result (effect_of reads c.args.state.now.rows c.args.op.now now) c.args.fault.now
    (le-ltb c.args.under.seq c.args.limit c.if-under-limit.false) (c.is_want.ensures.0 c.if-not-is_want.false) (c.would_change.ensures reads now (sym c.chooses.ensures ∙ c.if-chooses.false)) told
