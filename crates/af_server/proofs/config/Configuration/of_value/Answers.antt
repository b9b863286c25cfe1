use Rattle.std.proofs.Common.{sym, inl}
use Rattle.af_base.specs.JsonValue.{view}
use Rattle.af_server.proofs.ConfigurationLemmas.{begun_decides}
use Rattle.af_server.proofs.config.Configuration.of_value.Goals as goal

-- what is told before memory is wanted is what the whole tells
pub returns-in-Err-clause-read : goal.returns-in-Err-clause-read
returns-in-Err-clause-read c = inl (begun_decides (view c.args.value.now) c.in-Err.reason (sym c.in-Err.ensures))
