-- All that happens to a server for one thread: its calls, and the versions that others publish between them. Together they are one run of
-- the world of two sessions (this product's own rule).
use Rattle.std.specs.Prelude.{◌≡◌, ◌+◌, ℕ, List, [], ◌∷◌, ◌++◌, map, length, Option, Some, None, Ok, option_to_list}
use Rattle.af_policy.specs.declared.ask.Ask.{Ask}
use Rattle.af_policy.specs.Rows.{PolicyRows}
use Rattle.af_policy.specs.Versions.{VersionRows, submitted, with_version}
use Rattle.af_ops.specs.declared.call.Call.{Call}
use Rattle.af_ops.specs.declared.call.Call.TheVariants as call
use Rattle.af_ops.specs.declared.policy_op.PolicyOp.{PolicyOp}
use Rattle.af_ops.specs.declared.policy_op.PolicyOp.TheVariants as asks
use Rattle.af_ops.specs.declared.served.Served.{Served}
use Rattle.af_ops.specs.declared.served.Served.TheVariants as served
use Rattle.af_ops.specs.declared.shown_answer.Shown.{Shown}
use Rattle.af_ops.specs.PolicyServed.{reply_at}
use Rattle.af_ops.specs.PolicyVerdicts.{asked_text, current}
use Rattle.af_board.specs.Marks.{Site, policy_of}
use Rattle.af_world.specs.declared.session.Seen.{Seen}
use Rattle.af_world.specs.declared.step.Step.{Step}
use Rattle.af_world.specs.declared.step.Step.TheVariants as step
use Rattle.af_world.specs.Runs.{Reaches}
use Rattle.af_world.specs.Worlds.{OpeningRows}
use Rattle.af_plane.specs.declared.grounds.Grounds.TheVariants.{Made, Overtaken, Spent, Under}
use Rattle.af_plane.specs.Alone.{Holds, Stands, world_of}
use Rattle.af_plane.specs.Looks.{Basis, Missed, On, Openly}
use Rattle.af_plane.specs.Requests.{RequestRows}
use Rattle.af_plane.specs.Sheets.{policy_step, sheet}
use Rattle.af_plane.specs.Solos.{IsAnswered}
use Rattle.af_plane.specs.Visits.{SoloRows, Visit}

-- ---- steps with their answers

-- a step, and what it answers, if anything
abbrev pub AnsweredStep : Type 0
AnsweredStep = Step × Option Shown

abbrev pub steps_in : List AnsweredStep → List Step
steps_in turns = map (λ turn. turn.0) turns

abbrev pub answers_in : List AnsweredStep → List (Option Shown)
answers_in turns = map (λ turn. turn.1) turns

-- ---- of one call of a session

-- the session looks, and acts; where there was no memory it has looked
abbrev pub turns_on_plane : ℕ → Option (List ℕ) → Call → ℕ → Served → List AnsweredStep
turns_on_plane session token asked t (served.Shown shown) = (step.Look session, None) ∷ (step.Act session token asked t, Some shown) ∷ []
turns_on_plane session token asked t served.NothingDone = (step.Look session, None) ∷ []

-- the step of an operation on the policy, decided under a version; where there was no memory there is none
abbrev pub turns_on_policy : ℕ → ℕ → Option (List ℕ) → PolicyOp → Served → List AnsweredStep
turns_on_policy session version token asked (served.Shown shown) = (policy_step session version token asked, Some shown) ∷ []
turns_on_policy session version token asked served.NothingDone = []

-- what a call is in the world that was decided under a version
abbrev pub turns_under : ℕ → ℕ → Option (List ℕ) → Call → ℕ → Served → List AnsweredStep
turns_under session version token (call.State asked) t gave = turns_on_plane session token (call.State asked) t gave
turns_under session version token (call.Entries window) t gave = turns_on_plane session token (call.Entries window) t gave
turns_under session version token (call.Policy asked) t gave = turns_on_policy session version token asked gave

-- What a call is in the world, by what its answer rests on. What was decided under no version is no step; nor is a change for which the board
-- had no place, since the world has one.
abbrev pub turns_by : ℕ → RequestRows → Served → Basis → List AnsweredStep
turns_by session asked gave Openly = []
turns_by session asked gave Missed = []
turns_by session asked gave (On (Under m)) = turns_under session m.version asked.token asked.call asked.at gave
turns_by session asked gave (On (Made r)) = turns_under session r.base.version asked.token asked.call asked.at gave
turns_by session asked gave (On (Overtaken m)) = turns_under session m.version asked.token asked.call asked.at gave
turns_by session asked gave (On (Spent m pushed)) = []

-- the session of a server for one thread is the first
abbrev pub turns_of : RequestRows → Served → Basis → List AnsweredStep
turns_of asked gave basis = turns_by 0 asked gave basis

-- the list of versions is the one that there is: where a call is decided, it ends with the version decided under; where a change was
-- overtaken, that version is one of it, and it ends with the last that the session has then seen
abbrev pub StandsFor : Site → Visit → VersionRows → Basis → Type 0
StandsFor site now versions Openly = Unit {0}
StandsFor site now versions Missed = Unit {0}
StandsFor site now versions (On (Under m)) = Stands versions site m
StandsFor site now versions (On (Made r)) = Stands versions site r.base
StandsFor site now versions (On (Overtaken m)) = Holds versions site m × (length now.pass.places ≡ length versions.earlier + 1)
StandsFor site now versions (On (Spent m pushed)) = Unit {0}

-- the versions after it
abbrev pub left_by : Site → VersionRows → Basis → VersionRows
left_by site versions Openly = versions
left_by site versions Missed = versions
left_by site versions (On (Under m)) = versions
left_by site versions (On (Made r)) = with_version versions (policy_of site r.mark)
left_by site versions (On (Overtaken m)) = versions
left_by site versions (On (Spent m pushed)) = versions

-- ---- of all events

-- what was asked, and what was served
pub record Exchange : Type 0 where
  pub asked : RequestRows
  pub served : Served

pub data Event : Type 0 where
  -- a call of the server, and what its answer rests on
  Called : (exchange : Exchange) (basis : Basis) → Event
  -- another session published this policy, by what it asked for with a token
  Published : (token : Option (List ℕ)) (ask : Ask) (policy : PolicyRows) → Event

-- what happens from a list of versions and a server to others: what others publish is permitted under the latest version
abbrev pub IsEvent : VersionRows → SoloRows → Event → VersionRows → SoloRows → Type 0
IsEvent versions old (Called x basis) left new =
    IsAnswered old x.asked x.served new basis × StandsFor old.site new.session versions basis × (left ≡ left_by old.site versions basis)
IsEvent versions old (Published token ask policy) left new =
    (submitted versions token ask ≡ Ok policy) × (left ≡ with_version versions policy) × (new ≡ old)

-- what it is in the world: the other session publishes under the latest version
abbrev pub turns_at : VersionRows → Event → List AnsweredStep
turns_at versions (Called x basis) = turns_of x.asked x.served basis
turns_at versions (Published token ask policy) =
    (step.Publish 1 (current versions) token (asks.Change ask), Some (reply_at (current versions + 1) (asked_text (current versions + 1) policy ask))) ∷ []

-- one after another, with what they are in the world
abbrev pub AreEvents : VersionRows → SoloRows → List Event → List AnsweredStep → VersionRows → SoloRows → Type 0
AreEvents versions old [] turns left new = (turns ≡ []) × (left ≡ versions) × (new ≡ old)
AreEvents versions old (e ∷ es) turns left new =
    (mid : VersionRows) × ((between : SoloRows) × ((later : List AnsweredStep) × IsEvent versions old e mid between
    × AreEvents mid between es later left new × (turns ≡ turns_at versions e ++ later)))

-- the steps lead from an opening to a world over these versions and the server's ledger, and their answers are those
pub record AreOneRun (opening : OpeningRows) (turns : List AnsweredStep) (left : VersionRows) (solo : SoloRows) : Type 0 where
  pub seen : ℕ
  pub theirs : Seen
  pub holder : Option ℕ
  pub leads : Reaches opening (steps_in turns) (answers_in turns) (world_of (sheet left solo.plane.ledger) seen theirs holder)

-- ---- of calls alone

-- calls are answered one after another
abbrev pub AreAnswered : SoloRows → List Exchange → SoloRows → Type 0
AreAnswered old [] new = new ≡ old
AreAnswered old (x ∷ xs) new = (mid : SoloRows) × ((basis : Basis) × IsAnswered old x.asked x.served mid basis × AreAnswered mid xs new)

-- the version that an answer names, if it names one
abbrev pub named_by : Served → List ℕ
named_by (served.Shown shown) = option_to_list shown.version
named_by served.NothingDone = []

-- the versions that answers name, one after another
abbrev pub named_in : List Exchange → List ℕ
named_in [] = []
named_in (x ∷ xs) = named_by x.served ++ named_in xs
