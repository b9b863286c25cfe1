-- What eight users ask of the policy that has them, for worked values, and what they are told.
use Rattle.std.specs.Prelude.{ℕ, List, [], ◌∷◌, Option, Some, None, codes}
use Rattle.af_role.specs.declared.pair_text.PairText.{PairText}
use Rattle.af_policy.specs.Reads.{me_by, read_by}
use Rattle.af_policy.specs.Rows.{PolicyRows}
use Rattle.af_policy.specs.Samples.{sample}
use Rattle.af_policy.specs.Versions.{VersionRows, asked_by, within}
use Rattle.af_policy.specs.declared.ask.Ask.{Ask}
use Rattle.af_policy.specs.declared.change.Change.{Change}
use Rattle.af_policy.specs.declared.change.Change.TheVariants as change
use Rattle.af_policy.specs.declared.policy_read.PolicyRead.{PolicyRead}
use Rattle.af_policy.specs.declared.span.Span.{Span}
use Rattle.af_ops.specs.declared.shown_answer.Shown.{Shown}
use Rattle.af_ops.specs.declared.status.Status.{Status}
use Rattle.af_ops.specs.PolicyServed.{told_of}
use Rattle.af_ops.specs.PolicyVerdicts.{PolicyVerdict, change_verdict, current, me_verdict, read_verdict}

-- the policies so far, each the sample, for what is told of the last
abbrev pub versions_of : List PolicyRows → ℕ → VersionRows
versions_of earlier last = record { earlier = earlier; latest = sample; last = last }

-- where no version, or one, or two came before
abbrev pub first : VersionRows
first = versions_of [] 10

abbrev pub second : VersionRows
second = versions_of (sample ∷ []) 10

abbrev pub third_and_last : VersionRows
third_and_last = versions_of (sample ∷ sample ∷ []) 2

-- what a user asks, under versions
abbrev pub me_asked : VersionRows → List ℕ → PolicyVerdict
me_asked versions who = me_verdict (current versions) (me_by versions.latest (Some who))

abbrev pub read_asked : VersionRows → List ℕ → PolicyRead → PolicyVerdict
read_asked versions who asked = read_verdict asked (read_by versions.latest asked (Some who))

abbrev pub change_asked : VersionRows → List ℕ → Ask → PolicyVerdict
change_asked versions who ask = change_verdict (current versions) ask (within versions (asked_by versions.latest ask (Some who)))

-- what of it is told
abbrev pub me_told : VersionRows → List ℕ → Option Shown
me_told versions who = told_of (current versions) (me_asked versions who)

abbrev pub read_told : VersionRows → List ℕ → PolicyRead → Option Shown
read_told versions who asked = told_of (current versions) (read_asked versions who asked)

abbrev pub change_told : VersionRows → List ℕ → Ask → Option Shown
change_told versions who ask = told_of (current versions) (change_asked versions who ask)

-- an answer under a version, with this text or none
abbrev pub told : ℕ → Status → Option (List ℕ) → Option Shown
told version status body = Some (record { status = status; version = Some version; seq = None; body = body })

abbrev pub span : ℕ → ℕ → Span
span limit offset = record { limit = limit; offset = offset }

-- a permission as it is given
abbrev pub given : List ℕ → List ℕ → PairText
given action resource = record { action = action; resource = resource }

-- a sync of the DAG b: without access control, with none, or with this action for this role
abbrev pub sync : Change
sync = change.SyncDag (record { dag = codes "b"; access = None })

abbrev pub sync_none : Change
sync_none = change.SyncDag (record { dag = codes "b"; access = Some [] })

abbrev pub sync_one : List ℕ → List ℕ → Change
sync_one role action = change.SyncDag (record { dag = codes "b"; access = Some (record { role = role; actions = action ∷ []; runs = [] } ∷ []) })
