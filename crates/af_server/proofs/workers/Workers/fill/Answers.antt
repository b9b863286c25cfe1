use Rattle.std.proofs.Common.{◌∙◌}
use Rattle.af_server.proofs.workers.Workers.fill.Goals as goal

-- each slot is empty when its worker begins
pub for_each_mut-requires-clause-accepts : goal.for_each_mut-requires-clause-accepts
for_each_mut-requires-clause-accepts g c κs within = λ i p below is. is ∙ c.requires i p.now below
