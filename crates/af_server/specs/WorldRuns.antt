-- A connection is a run of the world of two sessions: its own, which calls, and another, which may publish between its calls (this
-- product's own rule).
use Rattle.std.specs.Prelude.{◌≡◌, ℕ, List, [], ◌∷◌, ◌++◌, Option, Ok}
use Rattle.af_policy.specs.Versions.{VersionRows}
use Rattle.af_ops.specs.declared.call.Call.{Call}
use Rattle.af_ops.specs.declared.served.Served.{Served}
use Rattle.af_plane.specs.Events as events
use Rattle.af_plane.specs.Events.{AnsweredStep, AreEvents, Called, Event, Published, turns_of}
use Rattle.af_plane.specs.Looks.{Basis}
use Rattle.af_plane.specs.Solos.{IsAnswered}
use Rattle.af_http.specs.Requests.{Asked}
use Rattle.af_http.specs.Routes.{IsRouted, call_of}
use Rattle.af_http.specs.Run.{Exchange}
use Rattle.af_http.specs.declared.reply.Reply.{Reply}
use Rattle.af_http.specs.declared.reply.Reply.TheVariants as reply
use Rattle.af_server.specs.Configurations.{ConfigurationRows}
use Rattle.af_server.specs.Desks.{DeskRows, asked_at}
use Rattle.af_server.specs.Openings.{opening_of}

-- ---- the calls of a connection

-- what was asked of the desk and what was served, with what that rests on
abbrev pub AnsweredCall : Type 0
AnsweredCall = events.Exchange × Basis

-- a call at a desk
abbrev pub call_at : DeskRows → Option (List ℕ) → Call → Served → Basis → AnsweredCall
call_at old token it gave basis = (record { asked = asked_at old.now token it; served = gave }, basis)

-- what a request is between two desks: one that asks for nothing is no call
abbrev pub IsCalls : DeskRows → Asked → Reply → List AnsweredCall → DeskRows → Type 0
IsCalls old asked (reply.Fault fault) calls new = (calls ≡ []) × (new ≡ old)
IsCalls old asked (reply.Served gave) calls new =
    (it : Call) × IsRouted (call_of asked.method asked.target asked.body) (Ok it)
    × ((basis : Basis) × IsAnswered old.solo (asked_at old.now asked.token it) gave new.solo basis × (new.now ≡ old.now)
    × (calls ≡ call_at old asked.token it gave basis ∷ []))

-- what these requests are there, one after another
abbrev pub AreCalls : DeskRows → List Exchange → List AnsweredCall → DeskRows → Type 0
AreCalls old [] calls new = (calls ≡ []) × (new ≡ old)
AreCalls old (x ∷ xs) calls new =
    (mid : DeskRows) × ((first : List AnsweredCall) × ((later : List AnsweredCall) × IsCalls old x.asked x.reply first mid × AreCalls mid xs later new
    × (calls ≡ first ++ later)))

-- ---- what else happens

-- the calls among all events
abbrev pub calls_in : List Event → List AnsweredCall
calls_in [] = []
calls_in (Called x basis ∷ events) = (x, basis) ∷ calls_in events
calls_in (Published token ask policy ∷ events) = calls_in events

-- the versions that a configuration opens with: its policy alone
abbrev pub first_versions : ConfigurationRows → VersionRows
first_versions configuration = record { earlier = []; latest = configuration.policy; last = configuration.limits.versions }

-- From a desk under a configuration to another, and to these versions, this is all that happens: these calls, and what others publish between
-- them. The world takes these steps then, with these answers.
pub record Happens (configuration : ConfigurationRows) (old : DeskRows) (calls : List AnsweredCall) (all : List Event) (turns : List AnsweredStep) (versions : VersionRows) (left : DeskRows) : Type 0 where
  pub are_calls : calls_in all ≡ calls
  pub are_events : AreEvents (first_versions configuration) old.solo all turns versions left.solo

-- ---- calls alone

-- the calls, where others publish nothing between them
abbrev pub events_of : List AnsweredCall → List Event
events_of [] = []
events_of (it ∷ calls) = Called it.0 it.1 ∷ events_of calls

-- the steps of calls, with the answers that were given
abbrev pub turns_in : List AnsweredCall → List AnsweredStep
turns_in [] = []
turns_in (it ∷ calls) = turns_of it.0.asked it.0.served it.1 ++ turns_in calls

-- The exchanges are calls of the desk; and these are all that happens: each step of the world is one of theirs.
pub record AreAll (configuration : ConfigurationRows) (old : DeskRows) (exchanges : List Exchange) (left : DeskRows) : Type 0 where
  pub calls : List AnsweredCall
  pub told : AreCalls old exchanges calls left
  pub versions : VersionRows
  pub happens : Happens configuration old calls (events_of calls) (turns_in calls) versions left

-- ---- one run

-- The exchanges are calls of the desk; and these are one run of the world, whatever others publish between them: its steps are those of the
-- calls and of the publications, and its answers those that were given.
pub record AreOneRun (configuration : ConfigurationRows) (old : DeskRows) (exchanges : List Exchange) (left : DeskRows) : Type 0 where
  pub calls : List AnsweredCall
  pub told : AreCalls old exchanges calls left
  pub leads :
      (all : List Event) (turns : List AnsweredStep) (versions : VersionRows) → Happens configuration old calls all turns versions left
      → events.AreOneRun (opening_of configuration 2) turns versions left.solo
