-- What the world under a configuration opens with (this product's own rule).
use Rattle.std.specs.Prelude.{ℕ}
use Rattle.af_world.specs.Worlds.{OpeningRows}
use Rattle.af_server.specs.Configurations.{ConfigurationRows}

-- Its policy is version 0, and there may be versions up to its limit; there is no entry, and there may be as many as its limit; and there
-- are so many sessions.
abbrev pub opening_of : ConfigurationRows → ℕ → OpeningRows
opening_of configuration sessions = record {
  policy = configuration.policy;
  version_limit = configuration.limits.versions;
  state = configuration.state;
  history_limit = configuration.limits.history;
  sessions = sessions;
}
