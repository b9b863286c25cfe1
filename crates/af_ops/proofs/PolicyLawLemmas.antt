-- Laws about operations on the policy.
use Rattle.std.proofs.Common.{◌≡◌, ◌<◌, ◌+◌, ◌∙◌, ℕ, Bool, true, false, List, [], ◌∷◌, length, take, drop, refl, sym, ap, subst, arith, Result, Ok, Err, nat_le, min}
use Rattle.std.specs.Prelude.{Option, Some, None, nat_lt, if◌then◌else◌}
use Rattle.std.proofs.lemmas.Bool.{leb-false, ltb-false, ltb-true}
use Rattle.std.proofs.lemmas.List.{drop_all, length-append}
use Rattle.af_role.specs.declared.need.Need.{Need}
use Rattle.af_policy.specs.Changes.{changed, kind_of}
use Rattle.af_policy.specs.Changes as changes
use Rattle.af_policy.specs.Grants.{missing}
use Rattle.af_policy.specs.Identity.{bearer_of}
use Rattle.af_policy.specs.Reads.{me_of, read_kind, read_of, reading_needs}
use Rattle.af_policy.specs.Rows.{PolicyRows}
use Rattle.af_policy.specs.Versions.{VersionRows, all_versions, asked_by, asked_kind, decided, made_or_refused, permitted, submitted, unless_lacked, with_version, within}
use Rattle.af_policy.specs.declared.ask.Ask.{Ask}
use Rattle.af_policy.specs.declared.ask.Ask.TheVariants.{Made, Bad}
use Rattle.af_policy.specs.declared.change.Change.{Change}
use Rattle.af_policy.specs.declared.change_fault.ChangeFault.{ChangeFault}
use Rattle.af_policy.specs.declared.change_kind.ChangeKind.{ChangeKind}
use Rattle.af_policy.specs.declared.change_kind.ChangeKind.TheVariants as kind
use Rattle.af_policy.specs.declared.me.Me.{Me}
use Rattle.af_policy.specs.declared.me_fault.MeFault.{MeFault}
use Rattle.af_policy.specs.declared.policy_read.PolicyRead.{PolicyRead}
use Rattle.af_policy.specs.declared.policy_reply.PolicyReply.{PolicyReply}
use Rattle.af_policy.specs.declared.read_fault.ReadFault.{ReadFault}
use Rattle.af_policy.specs.declared.read_kind.ReadKind.{ReadKind}
use Rattle.af_policy.specs.declared.read_kind.ReadKind.TheVariants as reading
use Rattle.af_policy.specs.declared.refusal.Refusal.{Refusal}
use Rattle.af_policy.specs.declared.refusal.Refusal.TheVariants.{Full}
use Rattle.af_policy.specs.declared.bad_input.BadInput.TheVariants as input
use Rattle.af_ops.specs.declared.method.Method.TheVariants.{Get}
use Rattle.af_ops.specs.declared.policy_op.PolicyOp.{PolicyOp}
use Rattle.af_ops.specs.declared.policy_op.PolicyOp.TheVariants as asks
use Rattle.af_ops.specs.declared.shown_answer.Shown.{Shown}
use Rattle.af_ops.specs.PolicyFaults.{denial, nobody}
use Rattle.af_ops.specs.PolicyLaws.{AnswersNameTheLatest, ChangesAddOneVersion, DenialsAreRefused, MadeBy, PolicyNeedsAreTheTables, PolicyPagesAreCut, ReadingsLeaveTheVersions, RefusalsLeaveTheVersions, StrangersAreRefused}
use Rattle.af_ops.specs.PolicyOps.{change_endpoint, last_place, read_endpoint}
use Rattle.af_ops.specs.PolicyServed.{problem_at, reply_at, told_of, versions_after}
use Rattle.af_ops.specs.PolicyVerdicts.{PolicyVerdict, Publishes, Refuses, Tells, change_verdict, current, me_verdict, policy_verdict, read_verdict, unread_verdict}
use Rattle.af_ops.specs.Rows.{Problem}
use Rattle.af_ops.specs.Table.{needs_of, route_of}

none_some : {X : Type 0} {x : X} → None ≡ Some x → ⊥
none_some same = cc

err_ok : {X E : Type 0} {fault : E} {x : X} → Err fault ≡ Ok x → ⊥
err_ok same = cc

-- ---- requirements

reading_needed : (it : ReadKind) → needs_of (read_endpoint it) ≡ reading_needs it
reading_needed reading.Roles = refl
reading_needed reading.Role = refl
reading_needed reading.Users = refl
reading_needed reading.User = refl

change_needed : (it : ChangeKind) → needs_of (change_endpoint it) ≡ changes.needs_of it
change_needed kind.AddRole = refl
change_needed kind.SetRole = refl
change_needed kind.DropRole = refl
change_needed kind.AddUser = refl
change_needed kind.SetUser = refl
change_needed kind.DropUser = refl
change_needed kind.SyncDag = refl

pub policy_needs : PolicyNeedsAreTheTables
policy_needs asks.Me = refl
policy_needs (asks.Read asked) = reading_needed (read_kind asked)
policy_needs (asks.Change ask) = change_needed (asked_kind ask)
policy_needs (asks.Unread kind) = change_needed kind

-- ---- denials

-- what is refused leaves the versions
refused : (versions : VersionRows) (it : PolicyVerdict) (problem : Option Problem) → it ≡ Refuses problem → (it ≡ Refuses problem) × (versions_after it versions ≡ versions)
refused versions it problem is = (is, ap (λ (verdict : PolicyVerdict). versions_after verdict versions) is)

pub refusals_leave : RefusalsLeaveTheVersions
refusals_leave versions token asked problem is = (refused versions (policy_verdict versions token asked) problem is).1

pub strangers : StrangersAreRefused
strangers versions token asks.Me unknown = refused versions _ nobody (rw unknown refl)
strangers versions token (asks.Read asked) unknown = refused versions _ nobody (rw unknown refl)
strangers versions token (asks.Change ask) unknown = refused versions _ nobody (rw unknown refl)
strangers versions token (asks.Unread kind) unknown = refused versions _ nobody (rw unknown refl)

pub denials : DenialsAreRefused
denials versions token asks.Me user need known lacked = absurd (none_some lacked)
denials versions token (asks.Read asked) user need known lacked =
    let own : missing versions.latest user (reading_needs (read_kind asked)) None [] ≡ Some need = rw (← reading_needed (read_kind asked)) lacked in
    refused versions _ (denial need) (rw (known, own) refl)
denials versions token (asks.Change ask) user need known lacked =
    let own : missing versions.latest user (changes.needs_of (asked_kind ask)) None [] ≡ Some need = rw (← change_needed (asked_kind ask)) lacked in
    refused versions _ (denial need) (rw (known, own) refl)
denials versions token (asks.Unread kind) user need known lacked =
    let own : missing versions.latest user (changes.needs_of kind) None [] ≡ Some need = rw (← change_needed kind) lacked in
    refused versions _ (denial need) (rw (known, own) refl)

-- ---- versions

-- what permits a change and makes a policy is that change
permitted_parts : (policy later : PolicyRows) (ask : Ask) → permitted policy ask ≡ Ok later → (it : Change) × (ask ≡ Made it) × (changed policy it ≡ Ok later)
permitted_parts policy later (Bad kind input) is = absurd (err_ok is)
permitted_parts policy later (Made it) is = (it, refl, made (changed policy it) is)
  where
    made : (r : Result PolicyRows ChangeFault) → made_or_refused r ≡ Ok later → r ≡ Ok later
    made (Ok other) same = cc
    made (Err fault) same = cc

-- who asks is known, lacks nothing, and is permitted
asked_parts : (policy later : PolicyRows) (ask : Ask) (user : Option (List ℕ)) → asked_by policy ask user ≡ Ok later
    → (author : List ℕ) × (user ≡ Some author) × (missing policy author (changes.needs_of (asked_kind ask)) None [] ≡ None) × (permitted policy ask ≡ Ok later)
asked_parts policy later ask None is = absurd (err_ok is)
asked_parts policy later ask (Some author) is = lacking (missing policy author (changes.needs_of (asked_kind ask)) None []) refl is
  where
    lacking : (o : Option Need) → missing policy author (changes.needs_of (asked_kind ask)) None [] ≡ o → unless_lacked policy ask o ≡ Ok later
        → (other : List ℕ) × (Some author ≡ Some other) × (missing policy other (changes.needs_of (asked_kind ask)) None [] ≡ None) × (permitted policy ask ≡ Ok later)
    lacking (Some need) lacked same = absurd (err_ok same)
    lacking None lacked same = (author, refl, lacked, same)

-- a version is left for what is made
within_parts : (versions : VersionRows) (later : PolicyRows) (r : Result PolicyRows Refusal) → within versions r ≡ Ok later → (r ≡ Ok later) × (length versions.earlier < versions.last)
within_parts versions later (Err fault) is = absurd (err_ok is)
within_parts versions later (Ok policy) is = left (nat_le versions.last (length versions.earlier)) refl is
  where
    left : (full : Bool) → nat_le versions.last (length versions.earlier) ≡ full → (let r : Result PolicyRows Refusal = if full then Err Full else Ok policy in r ≡ Ok later) → (let r : Result PolicyRows Refusal = Ok policy in r ≡ Ok later) × (length versions.earlier < versions.last)
    left true is_full same = absurd (err_ok same)
    left false is_full same = (same, leb-false versions.last (length versions.earlier) is_full)

made_by : (versions : VersionRows) (token : Option (List ℕ)) (ask : Ask) (policy : PolicyRows) → submitted versions token ask ≡ Ok policy → MadeBy versions token (asks.Change ask) policy
made_by versions token ask policy is =
    let room = within_parts versions policy (decided versions.latest token ask) is in
    let who = asked_parts versions.latest policy ask (bearer_of versions.latest token) room.0 in
    let what = permitted_parts versions.latest policy ask who.3 in
    record {
      author = who.0;
      change = what.0;
      is_asked = ap asks.Change what.1;
      is_known = who.1;
      lacks_nothing = subst (λ (it : Ask). missing versions.latest who.0 (changes.needs_of (asked_kind it)) None [] ≡ None) what.1 who.2;
      is_made = what.2;
      is_left = room.1;
    }

-- what the verdict on a change makes is what was submitted
published : (version : ℕ) (ask : Ask) (r : Result PolicyRows Refusal) (reply : Option (List ℕ)) (policy : PolicyRows) → change_verdict version ask r ≡ Publishes reply policy → r ≡ Ok policy
published version ask (Ok later) reply policy is = ap Ok (ap made_policy is)
  where
    made_policy : PolicyVerdict → PolicyRows
    made_policy (Refuses problem) = later
    made_policy (Tells text) = later
    made_policy (Publishes text it) = it
published version ask (Err fault) reply policy is = absurd (refuses is)
  where
    refuses : {problem : Option Problem} → Refuses problem ≡ Publishes reply policy → ⊥
    refuses same = cc

-- what is told, or refused, makes none
me_makes_none : (version : ℕ) (r : Result Me MeFault) (reply : Option (List ℕ)) (policy : PolicyRows) → me_verdict version r ≡ Publishes reply policy → ⊥
me_makes_none version (Ok me) reply policy is = cc
me_makes_none version (Err fault) reply policy is = cc

read_makes_none : (asked : PolicyRead) (r : Result PolicyReply ReadFault) (reply : Option (List ℕ)) (policy : PolicyRows) → read_verdict asked r ≡ Publishes reply policy → ⊥
read_makes_none asked (Ok it) reply policy is = cc
read_makes_none asked (Err fault) reply policy is = cc

unread_makes_none : (r : Result PolicyRows Refusal) (reply : Option (List ℕ)) (policy : PolicyRows) → unread_verdict r ≡ Publishes reply policy → ⊥
unread_makes_none (Ok it) reply policy is = cc
unread_makes_none (Err fault) reply policy is = cc

pub one_version : ChangesAddOneVersion
one_version versions token asked reply policy is =
    (ap (λ (it : PolicyVerdict). all_versions (versions_after it versions)) is, maker asked is)
  where
    maker : (it : PolicyOp) → policy_verdict versions token it ≡ Publishes reply policy → MadeBy versions token it policy
    maker asks.Me made = absurd (me_makes_none (current versions) (me_of versions.latest token) reply policy made)
    maker (asks.Read it) made = absurd (read_makes_none it (read_of versions.latest token it) reply policy made)
    maker (asks.Change ask) made =
        made_by versions token ask policy (published (current versions) ask (submitted versions token ask) reply policy made)
    maker (asks.Unread kind) made = absurd (unread_makes_none (decided versions.latest token (Bad kind input.Body)) reply policy made)

-- ---- readings

me_leaves : (versions : VersionRows) (version : ℕ) (r : Result Me MeFault) → versions_after (me_verdict version r) versions ≡ versions
me_leaves versions version (Ok me) = refl
me_leaves versions version (Err fault) = refl

read_leaves : (versions : VersionRows) (asked : PolicyRead) (r : Result PolicyReply ReadFault) → versions_after (read_verdict asked r) versions ≡ versions
read_leaves versions asked (Ok it) = refl
read_leaves versions asked (Err fault) = refl

unread_leaves : (versions : VersionRows) (r : Result PolicyRows Refusal) → versions_after (unread_verdict r) versions ≡ versions
unread_leaves versions (Ok it) = refl
unread_leaves versions (Err fault) = refl

-- a change is asked for by no GET
no_get : (it : ChangeKind) → (route_of (change_endpoint it)).method ≡ Get → ⊥
no_get kind.AddRole is = cc
no_get kind.SetRole is = cc
no_get kind.DropRole is = cc
no_get kind.AddUser is = cc
no_get kind.SetUser is = cc
no_get kind.DropUser is = cc
no_get kind.SyncDag is = cc

pub readings_leave : ReadingsLeaveTheVersions
readings_leave versions token asks.Me is = me_leaves versions (current versions) (me_of versions.latest token)
readings_leave versions token (asks.Read asked) is = read_leaves versions asked (read_of versions.latest token asked)
readings_leave versions token (asks.Change ask) is = absurd (no_get (asked_kind ask) is)
readings_leave versions token (asks.Unread kind) is = unread_leaves versions (decided versions.latest token (Bad kind input.Body))

-- ---- answers

-- what is told is this, which names a version and no number of entries
named : (version : Option ℕ) (made shown : Shown) → made.version ≡ version → made.seq ≡ None → Some made ≡ Some shown → (shown.version ≡ version) × (shown.seq ≡ None)
named version made shown names none is =
    let same : made ≡ shown = cc in
    (subst (λ (it : Shown). it.version ≡ version) same names, subst (λ (it : Shown). it.seq ≡ None) same none)

latest_named : (versions : VersionRows) (it : PolicyVerdict) (shown : Shown) → told_of (current versions) it ≡ Some shown → (shown.version ≡ Some (current (versions_after it versions))) × (shown.seq ≡ None)
latest_named versions (Refuses None) shown is = absurd (none_some is)
latest_named versions (Refuses (Some problem)) shown is = named (Some (current versions)) (problem_at (current versions) problem) shown refl refl is
latest_named versions (Tells reply) shown is = named (Some (current versions)) (reply_at (current versions) (Some reply)) shown refl refl is
latest_named versions (Publishes reply policy) shown is =
    named (Some (current (with_version versions policy))) (reply_at (current versions + 1) reply) shown (ap Some (sym (length-append versions.earlier (versions.latest ∷ [])))) refl is

pub latest_told : AnswersNameTheLatest
latest_told versions token asked shown is = latest_named versions (policy_verdict versions token asked) shown is

-- ---- pages

pub pages_cut : {X : Type 0} (rows : List X) → PolicyPagesAreCut rows
pages_cut {X} rows window few = by (nat_lt last_place window.offset) refl
  where
    by : (t : Bool) → nat_lt last_place window.offset ≡ t → take window.limit (drop (min last_place window.offset) rows) ≡ take window.limit (drop window.offset rows)
    by true is =
        let past = ltb-true last_place window.offset is in
        ap (take window.limit) (drop_all (min last_place window.offset) rows (omega (arith, few, past)) ∙ sym (drop_all window.offset rows (omega (arith, few, past))))
    by false is =
        let inside = ltb-false last_place window.offset is in
        let same : min last_place window.offset ≡ window.offset = omega (arith, inside) in
        ap (λ (n : ℕ). take window.limit (drop n rows)) same
