-- The verdict on an operation, under one policy and on one state, at a moment (this product's own rule, after Airflow 2,
-- "Access Control"): who asks is the user of the token; the first requirement that this user lacks denies; else the operation
-- is done, or refused. All that is told, and the state that is left, are read off the verdict.
use Rattle.std.specs.Prelude.{ℕ, List, Bool, nat_lt, map, Option, Some, None, Result, Ok, Err, if◌then◌else◌}
use Rattle.af_role.specs.Pairs.{PairRow}
use Rattle.af_role.specs.declared.need.Need.{Need}
use Rattle.af_policy.specs.Rows.{PolicyRows}
use Rattle.af_policy.specs.Identity.{bearer_of}
use Rattle.af_policy.specs.Grants.{first_unmet, grants, readable_by}
use Rattle.af_sched.specs.State.{StateRows}
use Rattle.af_ops.specs.declared.answer.OpFault.{OpFault}
use Rattle.af_ops.specs.declared.answer.OpFault.TheVariants.{HistoryFull}
use Rattle.af_ops.specs.declared.answer.Under.{Under}
use Rattle.af_ops.specs.declared.op.Op.{Op}
use Rattle.af_ops.specs.Effects.{Effect, effect_of, nothing_readable}
use Rattle.af_ops.specs.Endpoints.{dag_of, endpoint_of}
use Rattle.af_ops.specs.Required.{needs_for}
use Rattle.af_ops.specs.Standings.{StandingRows}
use Rattle.af_ops.specs.Table.{is_open}

pub data Verdict : Type 0 where
  -- told to anybody, under no policy
  Open : (reply : Option (List ℕ)) → Verdict
  -- no user has the token
  Stranger : Verdict
  -- the user lacks this requirement, the first one lacked
  Lacks : (need : Need) → Verdict
  -- the operation is permitted, and refused
  Refuses : (why : OpFault) → Verdict
  -- it leaves the state as it is
  Tells : (reply : Option (List ℕ)) → Verdict
  -- it changes the state, and adds an entry
  Changes : (reply : Option (List ℕ)) (next : StateRows) → Verdict

-- the ids of the state's DAGs
abbrev pub dag_ids : StateRows → List (List ℕ)
dag_ids state = map (λ row. row.dag.dag_id) state.dags

-- a change adds an entry, and is refused where there are as many as there may be
abbrev pub recorded : ℕ → Under → Option (List ℕ) → Option StateRows → Verdict
recorded limit under reply None = Tells reply
recorded limit under reply (Some next) = if nat_lt under.seq limit then Changes reply next else Refuses HistoryFull

-- the verdict by what a permitted operation does
abbrev pub done : ℕ → Under → Result Effect OpFault → Verdict
done limit under (Ok effect) = recorded limit under effect.reply effect.next
done limit under (Err why) = Refuses why

-- the verdict on what a user asks who is granted this, where a requirement is lacked, or none
abbrev pub permitted : ℕ → (PairRow → Bool) → StandingRows → Op → ℕ → Option Need → Verdict
permitted limit granted standing asked now (Some need) = Lacks need
permitted limit granted standing asked now None = done limit standing.under (effect_of (readable_by granted) standing.state asked now)

abbrev pub granted_verdict : ℕ → (PairRow → Bool) → StandingRows → Op → ℕ → Verdict
granted_verdict limit granted standing asked now =
    permitted limit granted standing asked now
    (first_unmet granted (dag_of asked) (dag_ids standing.state) (needs_for asked))

-- the verdict on what the user behind a token asks, if there is one
abbrev pub judged : ℕ → PolicyRows → StandingRows → Op → ℕ → Option (List ℕ) → Verdict
judged limit policy standing asked now None = Stranger
judged limit policy standing asked now (Some user) = granted_verdict limit (grants policy user) standing asked now

-- what an open operation tells
abbrev pub opened : Result Effect OpFault → Verdict
opened (Ok effect) = Open effect.reply
opened (Err why) = Refuses why

-- where there may be so many entries
abbrev pub verdict : ℕ → PolicyRows → StandingRows → Option (List ℕ) → Op → ℕ → Verdict
verdict limit policy standing token asked now =
    if is_open (endpoint_of asked) then opened (effect_of nothing_readable standing.state asked now)
    else judged limit policy standing asked now (bearer_of policy token)
