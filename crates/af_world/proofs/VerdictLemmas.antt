-- What each verdict means: one case a lemma, and nothing above opens the verdict again.
use Rattle.std.proofs.Common.{◌≡◌, ◌∙◌, refl, sym, ap, subst, ℕ, List, Bool, true, false}
use Rattle.std.specs.Prelude.{⊤, Option, Some, None, Result, Ok, Err, unwrap_or, if◌then◌else◌}
use Rattle.af_role.specs.declared.need.Need.{Need}
use Rattle.af_listing.specs.Windows.{Cut}
use Rattle.af_policy.specs.declared.bad_input.Parameter.{Parameter}
use Rattle.af_policy.specs.Grants.{Readable, first_unmet, grants, readable_by, reads_dag}
use Rattle.af_policy.specs.Identity.{bearer_of}
use Rattle.af_policy.specs.Rows.{PolicyRows}
use Rattle.af_sched.specs.State.{StateRows}
use Rattle.af_ops.specs.declared.answer.OpFault.{OpFault}
use Rattle.af_ops.specs.declared.answer.OpFault.TheVariants.{HistoryFull}
use Rattle.af_ops.specs.declared.op.Op.{Op}
use Rattle.af_ops.specs.Effects.{Effect, effect_of, nothing_readable}
use Rattle.af_ops.specs.Endpoints.{dag_of, endpoint_of}
use Rattle.af_ops.specs.Required.{needs_for}
use Rattle.af_ops.specs.Table.{is_open}
use Rattle.af_ops.specs.Verdicts.{Verdict, Open, Stranger, Lacks, Refuses, Tells, Changes, dag_ids, done, judged, opened, permitted, recorded}
use Rattle.af_audit.specs.Acts.{after_op, next_of}
use Rattle.af_audit.specs.Answered.{standing_of, verdict_on}
use Rattle.af_audit.specs.EventLogs.{entries_judged, entries_permitted, entries_told, entries_verdict, log_needs}
use Rattle.af_audit.specs.Entries.{has_room}
use Rattle.af_audit.specs.Ledgers.{LedgerRows}
use Rattle.af_audit.proofs.ReplayLemmas.{no_change_depends}

-- a verdict under a policy
abbrev pub IsClosed : Verdict → Type 0
IsClosed (Open reply) = ⊥
IsClosed Stranger = ⊤
IsClosed (Lacks need) = ⊤
IsClosed (Refuses why) = ⊤
IsClosed (Tells reply) = ⊤
IsClosed (Changes reply next) = ⊤

-- a user brings the token, and lacks this of the requirements, or nothing
pub record Asks (policy : PolicyRows) (token : Option (List ℕ)) (dag : Option (List ℕ)) (dags : List (List ℕ)) (needs : List Need) (lacked : Option Need) : Type 0 where
  pub user : List ℕ
  pub bearer : bearer_of policy token ≡ Some user
  pub lacks : first_unmet (grants policy user) dag dags needs ≡ lacked

module _ (policy : PolicyRows) (token : Option (List ℕ)) (dag : Option (List ℕ)) (dags : List (List ℕ)) (needs : List Need) (Made : StateRows → Type 0) where
  -- what a verdict says of the token and of the requirements; a change makes such a state
  abbrev pub Means : Verdict → Type 0
  Means (Open reply) = ⊥
  Means Stranger = bearer_of policy token ≡ None
  Means (Lacks need) = Asks policy token dag dags needs (Some need)
  Means (Refuses why) = Asks policy token dag dags needs None
  Means (Tells reply) = Asks policy token dag dags needs None
  Means (Changes reply next) = Asks policy token dag dags needs None × Made next

  -- so it is one under a policy
  pub closed_verdict : (it : Verdict) → Means it → IsClosed it
  closed_verdict (Open reply) m = m
  closed_verdict Stranger m = tt
  closed_verdict (Lacks need) m = tt
  closed_verdict (Refuses why) m = tt
  closed_verdict (Tells reply) m = tt
  closed_verdict (Changes reply next) m = tt

-- a change leaves what the operation makes of the state, and there is room for its entry
abbrev pub Makes : LedgerRows → Op → ℕ → StateRows → Type 0
Makes ledger asked t next = (next ≡ after_op asked t ledger.state) × (has_room ledger.audit ≡ true)

module _ (policy : PolicyRows) (ledger : LedgerRows) (token : Option (List ℕ)) (asked : Op) (t : ℕ) where
  abbrev pub MeansOp : Verdict → Type 0
  MeansOp it = Means policy token (dag_of asked) (dag_ids ledger.state) (needs_for asked) (Makes ledger asked t) it

  abbrev AsksOp : Option Need → Type 0
  AsksOp lacked = Asks policy token (dag_of asked) (dag_ids ledger.state) (needs_for asked) lacked

  means_room : AsksOp None → (reply : Option (List ℕ)) (next : StateRows) → next ≡ after_op asked t ledger.state → (room : Bool) → has_room ledger.audit ≡ room → MeansOp (if room then Changes reply next else Refuses HistoryFull)
  means_room asks reply next made true room = (asks, (made, room))
  means_room asks reply next made false room = asks

  means_recorded : AsksOp None → (readable : Readable) (reply : Option (List ℕ)) (made : Option StateRows) → next_of (effect_of readable ledger.state asked t) ≡ made → MeansOp (recorded ledger.audit.limit (standing_of ledger).under reply made)
  means_recorded asks readable reply None is = asks
  means_recorded asks readable reply (Some next) is =
      let same : next_of (effect_of nothing_readable ledger.state asked t) ≡ Some next = no_change_depends nothing_readable readable ledger.state asked t ∙ is in
      means_room asks reply next (sym (ap (λ (made : Option StateRows). unwrap_or made ledger.state) same)) (has_room ledger.audit) refl

  means_done : AsksOp None → (readable : Readable) (effect : Result Effect OpFault) → effect_of readable ledger.state asked t ≡ effect → MeansOp (done ledger.audit.limit (standing_of ledger).under effect)
  means_done asks readable (Ok effect) is = means_recorded asks readable effect.reply effect.next (ap next_of is)
  means_done asks readable (Err why) is = asks

  means_permitted : (user : List ℕ) → bearer_of policy token ≡ Some user → (lacked : Option Need) → first_unmet (grants policy user) (dag_of asked) (dag_ids ledger.state) (needs_for asked) ≡ lacked → MeansOp (permitted ledger.audit.limit (grants policy user) (standing_of ledger) asked t lacked)
  means_permitted user bearer (Some need) lacks = record { user = user; bearer = bearer; lacks = lacks }
  means_permitted user bearer None lacks =
      means_done (record { user = user; bearer = bearer; lacks = lacks }) (readable_by (grants policy user))
      (effect_of (readable_by (grants policy user)) ledger.state asked t) refl

  means_judged : (bearer : Option (List ℕ)) → bearer_of policy token ≡ bearer → MeansOp (judged ledger.audit.limit policy (standing_of ledger) asked t bearer)
  means_judged None is = is
  means_judged (Some user) is =
      means_permitted user is (first_unmet (grants policy user) (dag_of asked) (dag_ids ledger.state) (needs_for asked)) refl

  pub means_op : is_open (endpoint_of asked) ≡ false → MeansOp (verdict_on policy ledger token asked t)
  means_op closed =
      subst (λ (told_openly : Bool). MeansOp (if told_openly then opened (effect_of nothing_readable ledger.state asked t) else judged ledger.audit.limit policy (standing_of ledger) asked t (bearer_of policy token)))
      (sym closed) (means_judged (bearer_of policy token) refl)

-- ---- event logs

module _ (policy : PolicyRows) (ledger : LedgerRows) (token : Option (List ℕ)) (window : Result Cut Parameter) where
  abbrev pub MeansLogs : Verdict → Type 0
  MeansLogs it = Means policy token None (dag_ids ledger.state) log_needs (λ next. ⊥) it

  logs_told : Asks policy token None (dag_ids ledger.state) log_needs None → (reads : List ℕ → Bool) (asked : Result Cut Parameter) → MeansLogs (entries_told reads ledger.audit.entries asked)
  logs_told asks reads (Ok window) = asks
  logs_told asks reads (Err parameter) = asks

  logs_permitted : (user : List ℕ) → bearer_of policy token ≡ Some user → (lacked : Option Need) → first_unmet (grants policy user) None (dag_ids ledger.state) log_needs ≡ lacked → MeansLogs (entries_permitted (grants policy user) ledger window lacked)
  logs_permitted user bearer (Some need) lacks = record { user = user; bearer = bearer; lacks = lacks }
  logs_permitted user bearer None lacks = logs_told (record { user = user; bearer = bearer; lacks = lacks }) (reads_dag (grants policy user)) window

  logs_judged : (bearer : Option (List ℕ)) → bearer_of policy token ≡ bearer → MeansLogs (entries_judged policy ledger window bearer)
  logs_judged None is = is
  logs_judged (Some user) is = logs_permitted user is (first_unmet (grants policy user) None (dag_ids ledger.state) log_needs) refl

  pub means_logs : MeansLogs (entries_verdict policy ledger token window)
  means_logs = logs_judged (bearer_of policy token) refl
