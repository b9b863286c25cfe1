use Rattle.std.proofs.Common.{◌∙◌, arith, sym}
use Rattle.af_http.proofs.RouteLemmas.{before_found, before_none, onward_found, onward_none}
use Rattle.af_http.proofs.routes.cut.Goals as goal

pub returns-then-byte-eq47 : goal.returns-then-byte-eq47
returns-then-byte-eq47 c = (
  c.split_at.ensures.front ∙ sym (before_found 47 c.args.path.now c.loop-at.at c.loop-at-test.true c.loop-at.invariant c.if-byte-eq47.true),
  c.split_at.ensures.back ∙ sym (onward_found 47 c.args.path.now c.loop-at.at c.loop-at-test.true c.loop-at.invariant c.if-byte-eq47.true),
)

pub returns : goal.returns
returns c = (
  sym (before_none 47 c.args.path.now (λ k h. c.loop-at.invariant k (omega arith))),
  sym (onward_none 47 c.args.path.now (λ k h. c.loop-at.invariant k (omega arith))),
)
