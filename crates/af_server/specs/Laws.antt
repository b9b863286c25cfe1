-- Laws of connections: what holds of one under a configuration, by the laws of all runs of the world; and a text has one reading, where
-- nobody else publishes.
use Rattle.std.specs.Prelude.{◌≡◌, ◌+◌, ℕ, List, [], ◌∷◌, ◌++◌, Option, Some, length}
use Rattle.af_policy.specs.Versions.{VersionRows, all_versions}
use Rattle.af_ops.specs.declared.call.Call.{Call}
use Rattle.af_ops.specs.declared.served.Served.TheVariants as served
use Rattle.af_ops.specs.declared.shown_answer.Shown.{Shown}
use Rattle.af_ops.specs.Calls.{IsRead}
use Rattle.af_audit.specs.Acts.{IsState}
use Rattle.af_audit.specs.Ledgers.{Climb}
use Rattle.af_world.specs.Granted.{AreGranted}
use Rattle.af_world.specs.Laws.{FollowEachOther}
use Rattle.af_plane.specs.Events.{AnsweredStep, Event, named_by}
use Rattle.af_http.specs.Connections.{Connects}
use Rattle.af_http.specs.Laws.{IsByText}
use Rattle.af_http.specs.Run.{Answered, Exchange}
use Rattle.af_http.specs.Streams.{Given, Taken}
use Rattle.af_http.specs.declared.ended.Ended.{Ended}
use Rattle.af_http.specs.declared.reply.Reply.{Reply}
use Rattle.af_http.specs.declared.reply.Reply.TheVariants as reply
use Rattle.af_server.specs.Alone.{AreAlike, DecidesAlone}
use Rattle.af_server.specs.Configurations.{ConfigurationRows}
use Rattle.af_server.specs.Desks.{Decides, DeskRows, IsOpened}
use Rattle.af_server.specs.WorldRuns.{AreAll, AreOneRun, Happens}

-- ---- of all connections

-- all exchanges from a desk under a configuration on, of one connection or of several one after another, are one run of the world
abbrev pub ExchangesAreOneRun : Type 0
ExchangesAreOneRun =
    (configuration : ConfigurationRows) (now : ℕ) (old : DeskRows) (exchanges : List Exchange) (left : DeskRows)
    → IsState configuration.state → IsOpened configuration now old → Answered Decides old exchanges left → AreOneRun configuration old exchanges left

-- the entries lead from the configuration's state to the one that is left, and each of a user's stands under a version in which that
-- user's roles list a permission for each requirement, on the state before it; whatever others publish
abbrev pub EntriesAreGranted : Type 0
EntriesAreGranted =
    (configuration : ConfigurationRows) (old : DeskRows) (exchanges : List Exchange) (left : DeskRows) → (run : AreOneRun configuration old exchanges left)
    → (all : List Event) (turns : List AnsweredStep) (versions : VersionRows) → Happens configuration old run.calls all turns versions left
    → AreGranted (all_versions versions) configuration.state left.solo.plane.ledger.audit.entries left.solo.plane.ledger.state

-- each later version of the policy, whoever published it, is made of the one before it by an author whose roles there list all that the
-- change requires
abbrev pub VersionsFollow : Type 0
VersionsFollow =
    (configuration : ConfigurationRows) (old : DeskRows) (exchanges : List Exchange) (left : DeskRows) → (run : AreOneRun configuration old exchanges left)
    → (all : List Event) (turns : List AnsweredStep) (versions : VersionRows) → Happens configuration old run.calls all turns versions left
    → FollowEachOther (all_versions versions)

-- the version that is answered to a request, if the answer names one
abbrev pub named_to : Reply → List ℕ
named_to (reply.Fault fault) = []
named_to (reply.Served gave) = named_by gave

-- the versions that answers name, one after another
abbrev pub named_in : List Exchange → List ℕ
named_in [] = []
named_in (x ∷ xs) = named_to x.reply ++ named_in xs

-- the versions that the answers name never fall, and none is before the last that the session had seen; whatever others publish
abbrev pub AnsweredVersionsClimb : Type 0
AnsweredVersionsClimb =
    (old : DeskRows) (exchanges : List Exchange) (left : DeskRows) (seen : ℕ)
    → length old.solo.session.pass.places ≡ seen + 1 → Answered Decides old exchanges left → Climb seen (named_in exchanges)

-- ---- where nobody else publishes

-- two desks under one configuration are alike
abbrev pub DesksOpenAlike : Type 0
DesksOpenAlike =
    (configuration : ConfigurationRows) (now : ℕ) (one other : DeskRows)
    → IsOpened configuration now one → IsOpened configuration now other → AreAlike one other

-- Where the session sees no version but those that it makes, its calls can be all that happens: then the steps of the run are theirs alone.
abbrev pub CallsAreAll : Type 0
CallsAreAll =
    (configuration : ConfigurationRows) (now : ℕ) (old : DeskRows) (exchanges : List Exchange) (left : DeskRows)
    → IsOpened configuration now old → Answered DecidesAlone old exchanges left → AreAll configuration old exchanges left

-- Desks that are alike answer one call alike, where they have the memory to, also where there was none to read its body; and the desks that
-- are left are alike.
abbrev pub DesksAnswerAlike : Type 0
DesksAnswerAlike =
    (old other new next : DeskRows) (token : Option (List ℕ)) (wanted asked call : Call) (x y : Shown)
    → AreAlike old other → IsRead (Some wanted) (Some asked) → IsRead (Some wanted) (Some call)
    → DecidesAlone old token asked (served.Shown x) new → DecidesAlone other token call (served.Shown y) next → (x ≡ y) × AreAlike new next

-- Two connections from desks that are alike, each of which sees no version but those that it makes, whose input is one text and ended
-- behind it or did not, and that end for what stands in it: they end alike, write the same bytes, and leave desks that are alike, however
-- their bytes were cut.
abbrev pub OneReading : Type 0
OneReading =
    (old other left next : DeskRows) (before after before' after' : Given) (start finish start' finish' : Taken) (end end' : Ended)
    → AreAlike old other
    → (one : Connects DecidesAlone before after start finish old left end) → (two : Connects DecidesAlone before' after' start' finish' other next end')
    → two.text ≡ one.text → two.ended ≡ one.ended → IsByText end → IsByText end' → (end ≡ end') × (one.out ≡ two.out) × AreAlike left next
