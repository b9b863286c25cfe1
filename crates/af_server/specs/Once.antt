-- One connection under a configuration: its bytes decide what the connection is under, or why there is none (this product's
-- own rule).
use Rattle.std.specs.Prelude.{◌≡◌, ◌⊎◌, ℕ, List, Result, Ok, Err}
use Rattle.af_http.specs.Connections.{Connects}
use Rattle.af_http.specs.Streams.{Given, Taken}
use Rattle.af_http.specs.declared.ended.Ended.{Ended}
use Rattle.af_server.specs.declared.reason.Reason.{Reason}
use Rattle.af_server.specs.declared.reason.Reason.TheVariants.{Memory}
use Rattle.af_server.specs.Configurations.{ConfigurationRows, configuration_of}
use Rattle.af_server.specs.Desks.{Decides, DeskRows, IsKept, IsOpened}
use Rattle.af_server.specs.WorldRuns.{AreOneRun}

-- The exchanges of a connection from a desk under a configuration on, one after another, each answered by the verdict on the desk that the
-- one before left; they are one run of the world, which opens with what the configuration says.
pub record Serves (configuration : ConfigurationRows) (now : ℕ) (before after : Given) (start finish : Taken) (old left : DeskRows) (ended : Ended) : Type 0 where
  pub opened : IsOpened configuration now old
  pub connects : Connects Decides before after start finish old left ended
  pub run : AreOneRun configuration old connects.run.exchanges left

-- nothing was read, and nothing was written
abbrev pub IsUntouched : Given → Given → Taken → Taken → Type 0
IsUntouched before after start finish = (after ≡ before) × (finish ≡ start)

-- The exchanges of a connection, one after another, each answered by the verdict on the desk that the one before left, from a desk under
-- the configuration on, at a moment. They are one run of the world of two sessions, the connection's and one that may publish beside it, of
-- which the laws of all runs hold; and what is left has kept what a desk keeps: the state is the replay of the entries over that of the
-- configuration, and the board opens with the configuration's policy. Where the bytes of the configuration are refused, or there is no
-- memory to read them and to keep what they say, nothing is read and nothing is written.
abbrev pub IsOnce : List ℕ → ℕ → Given → Given → Taken → Taken → Result Ended Reason → Type 0
IsOnce bytes now before after start finish (Ok ended) =
    (configuration : ConfigurationRows) × (configuration_of bytes ≡ Ok configuration)
    × ((old : DeskRows) × ((left : DeskRows) × Serves configuration now before after start finish old left ended × IsKept configuration left))
IsOnce bytes now before after start finish (Err reason) =
    ((configuration_of bytes ≡ Err reason) ⊎ (reason ≡ Memory)) × IsUntouched before after start finish
