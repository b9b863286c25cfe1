use Rattle.std.proofs.Common.{arith, refl}
use Rattle.af_runs.proofs.PlaceLemmas.{stands_here, window_low, window_high, step_low, step_high}
use Rattle.af_runs.proofs.places.search.Goals as goal

pub loop-low-init : goal.loop-low-init
loop-low-init c = (
  omega arith,
  λ k d below within. window_low _ _ c.requires c.args.last c.args.number k d refl within (omega (arith, below)),
  λ k d above within. window_high _ _ c.requires c.args.number k d within (omega (arith, above)),
)

pub returns-then-found-number : goal.returns-then-found-number
returns-then-found-number c = stands_here _ _ c.requires c.args.number _ _ (omega arith) c.if-found-number.true

pub loop-low-preserved-then-found-number-2 : goal.loop-low-preserved-then-found-number-2
loop-low-preserved-then-found-number-2 c = (
  c.loop-low.invariant.0,
  λ k d below within. step_low _ _ c.requires c.args.number _ _ (omega arith) c.if-found-number-2.true k d below within,
  c.loop-low.invariant.2,
)

pub loop-low-preserved : goal.loop-low-preserved
loop-low-preserved c = (
  omega arith,
  c.loop-low.invariant.1,
  λ k d above within. step_high _ _ c.requires c.args.number _ _ (omega arith) c.if-found-number.false c.if-found-number-2.false k d above within,
)
