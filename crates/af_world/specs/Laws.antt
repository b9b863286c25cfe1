-- The laws of all runs, in the subject's own words: over what the roles of users list.
use Rattle.std.specs.Prelude.{◌≡◌, ◌≢◌, ◌≤◌, ◌⊎◌, ◌+◌, ℕ, List, [], ◌∷◌, ◌++◌, Bool, true, false, Option, Some, None, Ok, filter, length, map, slice_get, codes}
use Rattle.std.specs.Bool.{Decides}
use Rattle.serde_json.specs.Data.{Data}
use Rattle.serde_json.specs.Written.{compact_text}
use Rattle.af_role.specs.declared.need.Need.{Need}
use Rattle.af_role.specs.Needs.{need_text}
use Rattle.af_policy.specs.declared.ask.Ask.TheVariants.{Made}
use Rattle.af_policy.specs.declared.change.Change.{Change}
use Rattle.af_policy.specs.Changes.{changed, kind_of, needs_of}
use Rattle.af_policy.specs.Identity.{bearer_of}
use Rattle.af_policy.specs.Rows.{PolicyRows}
use Rattle.af_policy.specs.Versions.{all_versions, with_version}
use Rattle.af_listing.specs.Pages.{cut, shows}
use Rattle.af_listing.specs.Windows.{Cut}
use Rattle.af_runs.specs.Runs.{run_of, runs_of}
use Rattle.af_runs.specs.declared.run.Run.{Run}
use Rattle.af_sched.specs.State.{dag_of}
use Rattle.af_sched.specs.declared.dag_row.DagRow.{DagRow}
use Rattle.af_ops.specs.declared.call.Call.{Call}
use Rattle.af_ops.specs.declared.call.Call.TheVariants as call
use Rattle.af_ops.specs.declared.op.Op.TheVariants as op
use Rattle.af_ops.specs.declared.policy_op.PolicyOp.{PolicyOp}
use Rattle.af_ops.specs.declared.policy_op.PolicyOp.TheVariants as asks
use Rattle.af_ops.specs.declared.shown_answer.Shown.{Shown}
use Rattle.af_ops.specs.declared.status.Status.TheVariants.{Unauthorized, Forbidden}
use Rattle.af_ops.specs.declared.status.Status.TheVariants as status
use Rattle.af_ops.specs.Effects.{instances_told, tasks_data}
use Rattle.af_ops.specs.Fields.{listing_of}
use Rattle.af_ops.specs.Replies.{dag_data, fault_data, instance_data, run_data}
use Rattle.af_audit.specs.declared.entry.Entry.{Entry}
use Rattle.af_audit.specs.Acts.{IsState}
use Rattle.af_audit.specs.Entries.{IsReplay}
use Rattle.af_audit.specs.Ledgers.{Climb, versions_of}
use Rattle.af_audit.specs.Logs.{act_dag, logs_data}
use Rattle.af_world.specs.declared.step.Step.{Step}
use Rattle.af_world.specs.declared.step.Step.TheVariants as step
use Rattle.af_world.specs.Asked.{Asked, acts, asked_of, dag_asked, dags_asked, hands_in, needs_asked}
use Rattle.af_world.specs.Granted.{AreGranted}
use Rattle.af_world.specs.Moving.{Move}
use Rattle.af_world.specs.Rules.{IsFirstLacked, ListsForEach, MayRead, MaySeeRuns}
use Rattle.af_world.specs.Runs.{IsRun, Reaches, session_of, told}
use Rattle.af_world.specs.Steps.{Moves}
use Rattle.af_world.specs.Worlds.{OpeningRows, World, last_version, policy_at, seen_by}

-- ---- of all runs

-- in every run there is at each list of steps and answers one world after them: the same steps have one list of answers
abbrev pub RunsAreOne : Type 0
RunsAreOne =
    (w one other : World) (steps : List Step) (answers others : List (Option Shown)) → IsState w.ledger.state → IsRun w steps answers one → IsRun w steps others other
    → (answers ≡ others) × (one ≡ other)

-- the entries lead from the opening state to the one that stands, and each of a user's stands under a version in which that user's
-- roles list a permission for each requirement, on the state before it
abbrev pub EntriesAreGranted : Type 0
EntriesAreGranted =
    (opening : OpeningRows) (steps : List Step) (answers : List (Option Shown)) (w : World) → Reaches opening steps answers w
    → AreGranted (all_versions w.versions) opening.state w.ledger.audit.entries w.ledger.state

-- the state is what the entries make of the opening one
abbrev pub StateIsTheReplay : Type 0
StateIsTheReplay =
    (opening : OpeningRows) (steps : List Step) (answers : List (Option Shown)) (w : World) → Reaches opening steps answers w
    → IsReplay opening.state w.ledger.audit.entries w.ledger.state

-- the versions answered to one session never fall
abbrev pub AnsweredVersionsClimb : Type 0
AnsweredVersionsClimb =
    (opening : OpeningRows) (steps : List Step) (answers : List (Option Shown)) (w : World) (session : ℕ) → Reaches opening steps answers w
    → Climb 0 (told session steps answers)

-- a session is answered under a version no earlier than one that it had seen, which it has then seen; an act is answered under the very
-- one that the session saw when it looked
pub record IsAsSeen (w : World) (s : Step) (session : ℕ) (shown : Shown) (next : World) : Type 0 where
  pub version : ℕ
  pub names : shown.version ≡ Some version
  pub later : (seen_by w session).version ≤ version
  pub seen : (seen_by next session).version ≡ version
  pub looked : acts s ≡ true → (seen_by w session).version ≡ version

-- so is each step of a session that is answered in a run
abbrev pub AnsweredAsSeen : Type 0
AnsweredAsSeen =
    (opening : OpeningRows) (steps : List Step) (answers : List (Option Shown)) (w next : World) (s : Step) (session : ℕ) (shown : Shown) → Reaches opening steps answers w
    → IsRun w (s ∷ []) (Some shown ∷ []) next → session_of s ≡ Some session → IsAsSeen w s session shown next

-- what a session has seen never falls, answered or not
abbrev pub SightsNeverFall : Type 0
SightsNeverFall =
    (opening : OpeningRows) (steps : List Step) (answers : List (Option Shown)) (w next : World) (s : Step) (answer : Option Shown) (session : ℕ) → Reaches opening steps answers w
    → IsRun w (s ∷ []) (answer ∷ []) next → (seen_by w session).version ≤ (seen_by next session).version

-- nor do the versions of the entries
abbrev pub EntryVersionsClimb : Type 0
EntryVersionsClimb =
    (opening : OpeningRows) (steps : List Step) (answers : List (Option Shown)) (w : World) → Reaches opening steps answers w
    → Climb 0 (versions_of w.ledger.audit.entries)

-- a later policy is made of one by a change, whose author's roles there list a permission for each of its requirements
pub record IsMadeOf (policy later : PolicyRows) : Type 0 where
  pub author : List ℕ
  pub change : Change
  pub granted : ListsForEach policy author None [] (needs_of (kind_of change))
  pub made : changed policy change ≡ Ok later

abbrev pub FollowEachOther : List PolicyRows → Type 0
FollowEachOther policies =
    (k : ℕ) (policy later : PolicyRows) → slice_get policies k ≡ Some policy → slice_get policies (k + 1) ≡ Some later → IsMadeOf policy later

-- each later version is made of the one before it
abbrev pub VersionsFollow : Type 0
VersionsFollow =
    (opening : OpeningRows) (steps : List Step) (answers : List (Option Shown)) (w : World) → Reaches opening steps answers w
    → FollowEachOther (all_versions w.versions)

-- ---- of one step in any world, reached or not

-- the answer names a version, and this is its policy
pub record IsUnder (w : World) (shown : Shown) (policy : PolicyRows) : Type 0 where
  pub version : ℕ
  pub names : shown.version ≡ Some version
  pub named : policy_at w version ≡ Some policy

-- the token's user has roles that list a permission for each requirement, on the state at that step
pub record AnsweredRightly (w : World) (asked : Asked) (shown : Shown) : Type 0 where
  pub policy : PolicyRows
  pub user : List ℕ
  pub under : IsUnder w shown policy
  pub bearer : bearer_of policy asked.token ≡ Some user
  pub granted : ListsForEach policy user (dag_asked asked.call) (dags_asked w.ledger.state asked.call) (needs_asked asked.call)

-- what is answered, but for the two refusals below, was granted under the version that the answer names; for a change that is handed
-- in see below
abbrev pub AnswersAreGranted : Type 0
AnswersAreGranted =
    (w : World) (s : Step) (asked : Asked) (move : Move) (shown : Shown) → Moves w s move → move.answer ≡ Some shown → asked_of s ≡ Some asked → hands_in s ≡ false
    → shown.status ≢ Unauthorized → shown.status ≢ Forbidden → AnsweredRightly w asked shown

-- a denial's text
abbrev pub denial_text : Need → Option (List ℕ) → List ℕ
denial_text need dag = compact_text (fault_data Forbidden (codes "missing permission " ++ need_text need dag))

-- under the version that is named, the token's user lacks a requirement, and the text names the first one
pub record DeniedRightly (w : World) (asked : Asked) (shown : Shown) : Type 0 where
  pub policy : PolicyRows
  pub user : List ℕ
  pub need : Need
  pub under : IsUnder w shown policy
  pub bearer : bearer_of policy asked.token ≡ Some user
  pub first : IsFirstLacked policy user (dag_asked asked.call) (dags_asked w.ledger.state asked.call) (needs_asked asked.call) need
  pub text : shown.body ≡ Some (denial_text need (dag_asked asked.call))

abbrev pub DenialsNameTheFirst : Type 0
DenialsNameTheFirst =
    (w : World) (s : Step) (asked : Asked) (move : Move) (shown : Shown) → Moves w s move → move.answer ≡ Some shown → asked_of s ≡ Some asked
    → shown.status ≡ Forbidden → DeniedRightly w asked shown

-- under the version that is named, nobody has the token
pub record StrangeRightly (w : World) (asked : Asked) (shown : Shown) : Type 0 where
  pub policy : PolicyRows
  pub under : IsUnder w shown policy
  pub bearer : bearer_of policy asked.token ≡ None

abbrev pub StrangersHaveNoUser : Type 0
StrangersHaveNoUser =
    (w : World) (s : Step) (asked : Asked) (move : Move) (shown : Shown) → Moves w s move → move.answer ≡ Some shown → asked_of s ≡ Some asked
    → shown.status ≡ Unauthorized → StrangeRightly w asked shown

-- the answer to an act counts the entries, its own included
abbrev pub ActsCountTheEntries : Type 0
ActsCountTheEntries =
    (w : World) (session : ℕ) (token : Option (List ℕ)) (asked : Call) (t : ℕ) (move : Move) (shown : Shown)
    → Moves w (step.Act session token asked t) move → move.answer ≡ Some shown → shown.seq ≡ Some (length move.next.ledger.audit.entries)

-- a change that is made was handed in under the latest version; there its author's roles list a permission for each of its
-- requirements; and it makes one version more, which the answer names
pub record PublishedRightly (w : World) (at : ℕ) (token : Option (List ℕ)) (asked : PolicyOp) (shown : Shown) (next : World) : Type 0 where
  pub author : List ℕ
  pub change : Change
  pub later : PolicyRows
  pub handed : asked ≡ asks.Change (Made change)
  pub last : at ≡ last_version w
  pub bearer : bearer_of w.versions.latest token ≡ Some author
  pub granted : ListsForEach w.versions.latest author None [] (needs_of (kind_of change))
  pub makes : changed w.versions.latest change ≡ Ok later
  pub version : shown.version ≡ Some (at + 1)
  pub versions : next.versions ≡ with_version w.versions later
  pub ledger : next.ledger ≡ w.ledger

abbrev pub PublishesAreGranted : Type 0
PublishesAreGranted =
    (w : World) (session at : ℕ) (token : Option (List ℕ)) (asked : PolicyOp) (move : Move) (shown : Shown)
    → Moves w (step.Publish session at token asked) move → move.answer ≡ Some shown → (shown.status ≡ status.Ok) ⊎ (shown.status ≡ status.NoContent)
    → PublishedRightly w at token asked shown move.next

-- versions, state and entries are as they were
pub record LeavesAll (w next : World) : Type 0 where
  pub versions : next.versions ≡ w.versions
  pub state : next.ledger.state ≡ w.ledger.state
  pub audit : next.ledger.audit ≡ w.ledger.audit

-- an answer 401 or 403, to whatever step, leaves all
abbrev pub RefusalsChangeNothing : Type 0
RefusalsChangeNothing =
    (w : World) (s : Step) (move : Move) (shown : Shown) → Moves w s move → move.answer ≡ Some shown
    → (shown.status ≡ Unauthorized) ⊎ (shown.status ≡ Forbidden) → LeavesAll w move.next

-- ---- listings

-- of all rows just those are kept, in their order, that the user's roles let the user see by their DAG, or that name none
pub record KeepsWhatIsRead {X : Type 0} (May : List ℕ → Type 0) (dag : X → Option (List ℕ)) (all kept : List X) : Type 0 where
  pub keeps : List ℕ → Bool
  pub reads : (id : List ℕ) → Decides (keeps id) (May id)
  pub filtered : kept ≡ filter (shows keeps dag) all

-- the answer tells the page of the rows that are kept under the version that it names, and how many they are
pub record ListedRightly {X : Type 0} (w : World) (token : Option (List ℕ)) (window : Cut) (May : PolicyRows → List ℕ → List ℕ → Type 0) (dag : X → Option (List ℕ)) (all : List X) (told : List X → ℕ → Data) (shown : Shown) : Type 0 where
  pub policy : PolicyRows
  pub user : List ℕ
  pub under : IsUnder w shown policy
  pub bearer : bearer_of policy token ≡ Some user
  pub rows : List X
  pub kept : KeepsWhatIsRead (May policy user) dag all rows
  pub body : shown.body ≡ Some (compact_text (told (cut window rows) (length rows)))

abbrev pub ListsDags : World → Option (List ℕ) → Cut → Shown → Type 0
ListsDags w token window shown =
    ListedRightly w token window MayRead (λ (row : DagRow). Some row.dag.dag_id) w.ledger.state.dags (λ rows total. listing_of (codes "dags") (map dag_data rows) total) shown

abbrev pub ListsRuns : World → Option (List ℕ) → Cut → Shown → Type 0
ListsRuns w token window shown =
    ListedRightly w token window MaySeeRuns (λ (run : Run). Some run.dag_id) w.ledger.state.runs (λ runs total. listing_of (codes "dag_runs") (map run_data runs) total) shown

abbrev pub ListsEntries : World → Option (List ℕ) → Cut → Shown → Type 0
ListsEntries w token window shown =
    ListedRightly w token window MayRead (λ (entry : Entry). act_dag entry.act) w.ledger.audit.entries logs_data shown

-- listings of the DAGs, of the runs of all DAGs, and of the event logs tell exactly what the user's roles let the user read: DAGs and event
-- logs by the DAG, runs by the DAG and its runs
abbrev pub ListingsTellWhatIsRead : Type 0
ListingsTellWhatIsRead =
    (w : World) (session : ℕ) (token : Option (List ℕ)) (window : Cut) (t : ℕ) (move : Move) (shown : Shown) → move.answer ≡ Some shown → shown.status ≡ status.Ok
    → (Moves w (step.Act session token (call.State (op.ListDags (Ok window))) t) move → ListsDags w token window shown)
    × (Moves w (step.Act session token (call.State (op.ListRuns None (Ok window))) t) move → ListsRuns w token window shown)
    × (Moves w (step.Act session token (call.Entries (Ok window)) t) move → ListsEntries w token window shown)

-- a text is told of a DAG, which the user's roles let the user see under the version that the answer names
pub record ToldOfDag (w : World) (token : Option (List ℕ)) (May : PolicyRows → List ℕ → Type 0) (shown : Shown) (IsTold : List ℕ → Type 0) : Type 0 where
  pub policy : PolicyRows
  pub user : List ℕ
  pub text : List ℕ
  pub under : IsUnder w shown policy
  pub bearer : bearer_of policy token ≡ Some user
  pub reads : May policy user
  pub body : shown.body ≡ Some text
  pub told : IsTold text

-- a page of these rows, and how many they are
abbrev pub IsPageOf : {X : Type 0} → List X → (List X → ℕ → Data) → Cut → List ℕ → Type 0
IsPageOf rows data_of window text = text ≡ compact_text (data_of (cut window rows) (length rows))

-- the DAG's tasks, all of them
abbrev pub TellsTasks : World → List ℕ → List ℕ → Type 0
TellsTasks w dag_id text =
    (row : DagRow) × (dag_of w.ledger.state.dags dag_id ≡ Some row) × (text ≡ compact_text (tasks_data row.dag.tasks))

-- a page of the DAG's runs
abbrev pub TellsRuns : World → List ℕ → Cut → List ℕ → Type 0
TellsRuns w dag_id window text =
    IsPageOf (runs_of w.ledger.state.runs dag_id) (λ runs total. listing_of (codes "dag_runs") (map run_data runs) total) window text

-- a page of the instances of one of its runs, each with its task
abbrev pub TellsInstances : World → List ℕ → List ℕ → Cut → List ℕ → Type 0
TellsInstances w dag_id run_id window text =
    (row : DagRow) × (run : Run) × (dag_of w.ledger.state.dags dag_id ≡ Some row) × (run_of w.ledger.state.runs dag_id run_id ≡ Some run)
    × IsPageOf (instances_told row.dag.tasks run) (λ rows total. listing_of (codes "task_instances") (map instance_data rows) total) window text

-- listings of one DAG, of its tasks, its runs, and the instances of a run, tell just its rows, and only to a user whose roles let the
-- user read it, and its runs if they tell runs or instances
abbrev pub ListingsOfADagAreRead : Type 0
ListingsOfADagAreRead =
    (w : World) (session : ℕ) (token : Option (List ℕ)) (dag_id run_id : List ℕ) (window : Cut) (t : ℕ) (move : Move) (shown : Shown) → move.answer ≡ Some shown → shown.status ≡ status.Ok
    → (Moves w (step.Act session token (call.State (op.ListTasks dag_id)) t) move → ToldOfDag w token (λ policy user. MayRead policy user dag_id) shown (TellsTasks w dag_id))
    × (Moves w (step.Act session token (call.State (op.ListRuns (Some dag_id) (Ok window))) t) move → ToldOfDag w token (λ policy user. MaySeeRuns policy user dag_id) shown (TellsRuns w dag_id window))
    × (Moves w (step.Act session token (call.State (op.ListInstances dag_id run_id (Ok window))) t) move → ToldOfDag w token (λ policy user. MaySeeRuns policy user dag_id) shown (TellsInstances w dag_id run_id window))
