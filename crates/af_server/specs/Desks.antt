-- A desk: a server for one thread, where each call is decided at one moment.
use Rattle.std.specs.Prelude.{◌≡◌, ◌≤◌, ℕ, List, Option, length}
use Rattle.af_ops.specs.declared.call.Call.{Call}
use Rattle.af_ops.specs.declared.served.Served.{Served}
use Rattle.af_audit.specs.Entries.{IsReplay}
use Rattle.af_word.specs.Places.{Within}
use Rattle.af_plane.specs.Looks.{Basis}
use Rattle.af_plane.specs.Requests.{RequestRows}
use Rattle.af_plane.specs.Solos.{IsAnswered, IsOpening, IsSolo}
use Rattle.af_plane.specs.Visits.{SoloRows}
use Rattle.af_server.specs.Configurations.{ConfigurationRows}
use Rattle.af_server.specs.Openings.{opening_of}

-- a board of the versions of the policy, what there is with the entries that made it, and what a session has seen; and the moment
pub record DeskRows : Type 0 where
  pub solo : SoloRows
  pub now : ℕ

-- it is the desk under a configuration, at a moment: it opens as a world of two sessions, its own and one that may publish beside it
pub record IsOpened (configuration : ConfigurationRows) (moment : ℕ) (desk : DeskRows) : Type 0 where
  pub solo : IsOpening (opening_of configuration 2) desk.solo
  pub now : desk.now ≡ moment

-- what is asked of it: a call, at its moment
abbrev pub asked_at : ℕ → Option (List ℕ) → Call → RequestRows
asked_at now token asked = record { token = token; call = asked; at = now }

-- The call is decided where its data live; and the moment stays.
abbrev pub Decides : DeskRows → Option (List ℕ) → Call → Served → DeskRows → Type 0
Decides old token asked gave new =
    (basis : Basis) × IsAnswered old.solo (asked_at old.now token asked) gave new.solo basis × (new.now ≡ old.now)

-- What stands after any number of requests from the desk under a configuration on.
pub record IsKept (configuration : ConfigurationRows) (left : DeskRows) : Type 0 where
  pub solo : IsSolo left.solo
  -- the state is what the entries make of the one that the configuration gave, and there are no more than it lets
  pub replays : IsReplay configuration.state left.solo.plane.ledger.audit.entries left.solo.plane.ledger.state
  pub entries : length left.solo.plane.ledger.audit.entries ≤ configuration.limits.history
  -- version 0 of the board is the configuration's policy, and the last possible version is the configuration's limit
  pub begins : left.solo.site.opening ≡ configuration.policy
  pub last : left.solo.site.word.last ≡ configuration.limits.versions
  -- the session has seen version 0, and no version past that limit
  pub seen : Within 0 configuration.limits.versions left.solo.session.pass.places
