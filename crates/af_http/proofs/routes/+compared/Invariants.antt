use Rattle.std.proofs.Common.{length}
use Rattle.af_http.proofs.routes.+compared.Given as goal

abbrev pub decreases-compared : goal.decreases-compared
decreases-compared l = length l.segments.now
