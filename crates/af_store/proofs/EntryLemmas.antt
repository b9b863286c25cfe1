-- The line of an entry is read back as the entry.
use Rattle.std.proofs.Common.{◌≡◌, ◌∙◌, ◌<◌, ◌≤◌, ◌^◌, ℕ, cond, Bool, true, false, List, [], ◌∷◌, Option, Some, None, Result, Ok, Err, refl, ap, subst, arith, le-leb}
use Rattle.std.specs.Prelude.{codes}
use Rattle.serde_json.specs.Data.{Data, boolean, string}
use Rattle.af_names.specs.Instants.{last_micros}
use Rattle.af_names.specs.Names.{account_name_grammar, id_grammar, row_name_grammar, run_id_grammar}
use Rattle.af_base.specs.Readings.{◌>>=◌, unless_null}
use Rattle.af_pool.specs.declared.pool.Pool.{Pool}
use Rattle.af_runs.specs.declared.mark.Mark.{Mark}
use Rattle.af_runs.specs.declared.mark.Mark.TheVariants as mark
use Rattle.af_sched.specs.declared.claim.Claim.{Claim}
use Rattle.af_sched.specs.declared.outcome.Outcome.{Outcome}
use Rattle.af_sched.specs.declared.outcome.Outcome.TheVariants as outcome
use Rattle.af_vars.specs.declared.variable.Variable.{Variable}
use Rattle.af_ops.specs.declared.backfill.Backfill.{Backfill}
use Rattle.af_ops.specs.declared.body_fault.BodyFault.{BodyFault}
use Rattle.af_ops.specs.declared.clear.Clear.{Clear}
use Rattle.af_ops.specs.declared.op.Op.{Op}
use Rattle.af_ops.specs.declared.op.Op.TheVariants as op
use Rattle.af_ops.specs.declared.pool_op.PoolOp.{PoolOp}
use Rattle.af_ops.specs.declared.pool_op.PoolOp.TheVariants as pool
use Rattle.af_ops.specs.declared.trigger.Trigger.{Trigger}
use Rattle.af_ops.specs.declared.variable_op.VariableOp.{VariableOp}
use Rattle.af_ops.specs.declared.variable_op.VariableOp.TheVariants as variable
use Rattle.af_audit.specs.declared.act.Act.{Act}
use Rattle.af_audit.specs.declared.act.Act.TheVariants as act
use Rattle.af_audit.specs.declared.actor.Actor.{Actor}
use Rattle.af_audit.specs.declared.actor.Actor.TheVariants as actor
use Rattle.af_audit.specs.declared.entry.Entry.{Entry}
use Rattle.af_store.specs.Bodies.{body_of, object_of, or_null, same_text}
use Rattle.af_store.specs.Members.{instant_or, instant_value, list_value, maybe, name_of, name_value, row_in, short_or}
use Rattle.af_store.specs.Names.{AreNames, IfThere, IsName}
use Rattle.af_store.specs.EntryLines.{Parts, after_parts, backfill_parts, clear_parts, count_told, entry_body, entry_fields, ids_told, instance_parts, pause_parts, run_parts, slots_parts, trigger_parts, value_parts}
use Rattle.af_store.specs.EntryFacts.{IfRead, IsAct, IsActor, IsBackfill, IsClaim, IsClear, IsEntry, IsInstant, IsOp, IsPool, IsPoolOp, IsShort, IsTrigger, IsVariableOp}
use Rattle.af_store.specs.EntryReads.{entry_in, entry_of, if_same, if_told_as}
use Rattle.af_store.specs.declared.line_fault.LineFault.{LineFault}
use Rattle.af_store.specs.declared.line_fault.LineFault.TheVariants.{NotALine}
use Rattle.af_store.proofs.TextLemmas.{IsTold}
use Rattle.af_store.proofs.ReadLemmas.{AreRead, items_told, list_value-list_of, name_of-IsName, read_body, same}
use Rattle.std.proofs.lemmas.Slice.Eq.{bytes_eq-Decides}

-- ---- kinds of value

short : (count : ℕ) → IsShort count → short_or count ≡ Ok count
short count is = let low : count ≤ 4_294_967_295 = omega arith in rw (le-leb count 4_294_967_295 low)

instant : (micros : ℕ) → IsInstant micros → instant_or micros ≡ Ok micros
instant micros is = rw (le-leb micros last_micros is)

short_fits : (count : ℕ) → IsShort count → count < 2 ^ 64
short_fits count is = omega arith

instant_fits : (micros : ℕ) → IsInstant micros → micros < 2 ^ 64
instant_fits micros is = omega arith

-- a value that may be null is read back
maybe_read : {X : Type 0} (told : X → Data) (read_value : Data → Result X LineFault) (o : Option X) → IfThere (λ x. (unless_null (told x) ≡ Some (told x)) × (read_value (told x) ≡ Ok x)) o
    → maybe read_value (unless_null (or_null told o)) ≡ Ok o
maybe_read told read_value None h = refl
maybe_read {X = X} told read_value (Some x) h =
    ap (maybe read_value) h.0 ∙ ap (λ (r : Result X LineFault). r >>= (λ (y : X). Ok (Some y))) h.1

run_maybe : (o : Option (List ℕ)) → IfThere (IsName run_id_grammar) o → maybe (name_value run_id_grammar) (unless_null (or_null string o)) ≡ Ok o
run_maybe None h = refl
run_maybe (Some run_id) h = maybe_read string (name_value run_id_grammar) (Some run_id) (refl, name_of-IsName run_id_grammar run_id h)

instant_maybe : (o : Option ℕ) → IfThere IsInstant o → maybe instant_value (unless_null (or_null count_told o)) ≡ Ok o
instant_maybe None h = refl
instant_maybe (Some micros) h = maybe_read count_told instant_value (Some micros) (refl, instant micros h)

ids_read : (ids : List (List ℕ)) → AreNames id_grammar ids → AreRead string (name_value id_grammar) ids
ids_read [] h = tt
ids_read (id ∷ ids) h = (name_of-IsName id_grammar id h.0, ids_read ids h.1)

ids_maybe : (o : Option (List (List ℕ))) → IfThere (AreNames id_grammar) o → maybe (list_value (name_value id_grammar)) (unless_null (or_null ids_told o)) ≡ Ok o
ids_maybe None h = refl
ids_maybe (Some ids) h = maybe_read ids_told (list_value (name_value id_grammar)) (Some ids) (refl, list_value-list_of string (name_value id_grammar) ids (ids_read ids h))

text_or_null : (o : Option (List ℕ)) → IsTold 8 (or_null string o)
text_or_null None = tt
text_or_null (Some text) = tt

instant_or_null : (o : Option ℕ) → IfThere IsInstant o → IsTold 8 (or_null count_told o)
instant_or_null None h = tt
instant_or_null (Some micros) h = instant_fits micros h

ids_or_null : (o : Option (List (List ℕ))) → IsTold 8 (or_null ids_told o)
ids_or_null None = tt
ids_or_null (Some ids) = items_told string 7 (λ _. tt) ids

-- ---- entries

-- the members of an entry with these of its act read back as a value, and are read as the entry
abbrev Round : Entry → Parts → Type 0
Round entry parts = IsTold 9 (object_of (entry_fields entry parts)) × (entry_in (object_of (entry_fields entry parts)) ≡ Ok entry)

-- the line of an entry is read back
abbrev Back : Entry → Type 0
Back entry = (body : List ℕ) → entry_body entry ≡ Ok body → entry_of body ≡ Ok entry

if_told_as-told : (entry : Entry) (body : List ℕ) → entry_body entry ≡ Ok body → if_told_as body entry ≡ Ok entry
if_told_as-told entry body told = ap (λ (r : Result (List ℕ) LineFault). r >>= if_same body entry) told ∙ rw (same body)

back : (entry : Entry) (parts : Parts) → entry_body entry ≡ Ok (body_of (entry_fields entry parts)) → Round entry parts → Back entry
back entry parts is round body told =
    let one : body_of (entry_fields entry parts) ≡ body = cc in
    subst (λ (it : List ℕ). entry_of it ≡ Ok entry) one
    (read_body entry_in (if_told_as (body_of (entry_fields entry parts))) (object_of (entry_fields entry parts)) round.0 entry round.1
    ∙ if_told_as-told entry (body_of (entry_fields entry parts)) is)

module _ (seq moment version : ℕ) (s : IsShort seq) (m : IsInstant moment) (v : IsShort version) where
  s_read : short_or seq ≡ Ok seq
  s_read = short seq s

  m_read : instant_or moment ≡ Ok moment
  m_read = instant moment m

  v_read : short_or version ≡ Ok version
  v_read = short version v

  s_fits : seq < 2 ^ 64
  s_fits = short_fits seq s

  m_fits : moment < 2 ^ 64
  m_fits = instant_fits moment m

  v_fits : version < 2 ^ 64
  v_fits = short_fits version v

  -- an entry of this head
  abbrev Of : Actor → Act → Entry
  Of who it = record { seq = seq; moment = moment; actor = who; version = version; act = it }

  ticked : Back (Of actor.Scheduler act.Tick)
  ticked = back (Of actor.Scheduler act.Tick) (after_parts []) refl ((refl, (m_fits, (tt, (tt, (s_fits, (v_fits, tt)))))), rw (s_read, m_read, v_read))

  module _ (claimed : Claim) (c : IsClaim claimed) where
    dag_read : name_of id_grammar claimed.dag_id ≡ Ok claimed.dag_id
    dag_read = name_of-IsName id_grammar claimed.dag_id c.dag

    run_read : name_of run_id_grammar claimed.run_id ≡ Ok claimed.run_id
    run_read = name_of-IsName run_id_grammar claimed.run_id c.run

    task_read : name_of id_grammar claimed.task_id ≡ Ok claimed.task_id
    task_read = name_of-IsName id_grammar claimed.task_id c.task

    try_read : short_or claimed.try_number ≡ Ok claimed.try_number
    try_read = short claimed.try_number c.try_number

    try_fits : claimed.try_number < 2 ^ 64
    try_fits = short_fits claimed.try_number c.try_number

    was_claimed : Back (Of actor.Executor (act.Claim claimed))
    was_claimed =
        back (Of actor.Executor (act.Claim claimed)) (instance_parts claimed []) refl
        ((refl, (m_fits, (tt, (tt, (tt, (tt, (s_fits, (c.run_number, (tt, (try_fits, (v_fits, tt))))))))))), rw (s_read, m_read, v_read, dag_read, run_read, task_read, try_read))

    module _ (text : List ℕ) where
      -- with the text of an outcome
      abbrev told_outcome : Parts
      told_outcome = instance_parts claimed ((codes "outcome", string text) ∷ [])

    was_reported : (it : Outcome) → Back (Of actor.Executor (act.Report claimed it))
    was_reported outcome.Success =
        back (Of actor.Executor (act.Report claimed outcome.Success)) (told_outcome (codes "success")) refl
        ((refl, (m_fits, (tt, (tt, (tt, (tt, (s_fits, (tt, (c.run_number, (tt, (try_fits, (v_fits, tt)))))))))))), rw (s_read, m_read, v_read, dag_read, run_read, task_read, try_read))
    was_reported outcome.Failed =
        back (Of actor.Executor (act.Report claimed outcome.Failed)) (told_outcome (codes "failed")) refl
        ((refl, (m_fits, (tt, (tt, (tt, (tt, (s_fits, (tt, (c.run_number, (tt, (try_fits, (v_fits, tt)))))))))))), rw (s_read, m_read, v_read, dag_read, run_read, task_read, try_read))
    was_reported outcome.Skipped =
        back (Of actor.Executor (act.Report claimed outcome.Skipped)) (told_outcome (codes "skipped")) refl
        ((refl, (m_fits, (tt, (tt, (tt, (tt, (s_fits, (tt, (c.run_number, (tt, (try_fits, (v_fits, tt)))))))))))), rw (s_read, m_read, v_read, dag_read, run_read, task_read, try_read))

  module _ (user : List ℕ) (u : IsName account_name_grammar user) where
    user_read : name_of account_name_grammar user ≡ Ok user
    user_read = name_of-IsName account_name_grammar user u

    u_told : IsTold 8 (object_of ((codes "user", string user) ∷ []))
    u_told = (refl, (tt, tt))

    abbrev By : Op → Entry
    By asked = Of (actor.User user) (act.Did asked)

    pool_added : (input : Result Pool BodyFault) → IfRead IsPool input → Back (By (op.Pool (pool.Add input)))
    pool_added (Ok added) h =
        back (By (op.Pool (pool.Add (Ok added)))) (slots_parts added.name added.slots) refl
        ((refl, (m_fits, (u_told, (tt, (s_fits, (tt, (short_fits added.slots h.slots, (v_fits, tt)))))))), rw (s_read, m_read, v_read, user_read, name_of-IsName row_name_grammar added.name h.name, short added.slots h.slots))
    pool_added (Err fault) h = λ body told. absurd (cc)

    pool_changed : (name : List ℕ) (input : Result ℕ BodyFault) → IsName row_name_grammar name → IfRead IsShort input → Back (By (op.Pool (pool.Change name input)))
    pool_changed name (Ok slots) n h =
        back (By (op.Pool (pool.Change name (Ok slots)))) (slots_parts name slots) refl
        ((refl, (m_fits, (u_told, (tt, (s_fits, (tt, (short_fits slots h, (v_fits, tt)))))))), rw (s_read, m_read, v_read, user_read, name_of-IsName row_name_grammar name n, short slots h))
    pool_changed name (Err fault) n h = λ body told. absurd (cc)

    of_pool : (it : PoolOp) → IsPoolOp it → Back (By (op.Pool it))
    of_pool (pool.List asked) h = λ body told. absurd (cc)
    of_pool (pool.Add input) h = pool_added input h
    of_pool (pool.Get name) h = λ body told. absurd (cc)
    of_pool (pool.Change name input) h = pool_changed name input h.0 h.1
    of_pool (pool.Delete name) h =
        back (By (op.Pool (pool.Delete name))) (after_parts ((codes "name", string name) ∷ [])) refl
        ((refl, (m_fits, (u_told, (tt, (s_fits, (tt, (v_fits, tt))))))), rw (s_read, m_read, v_read, user_read, name_of-IsName row_name_grammar name h))

    variable_added : (input : Result Variable BodyFault) → IfRead (λ it. IsName row_name_grammar it.key) input → Back (By (op.Variable (variable.Add input)))
    variable_added (Ok added) h =
        back (By (op.Variable (variable.Add (Ok added)))) (value_parts added.key added.value) refl
        ((refl, (m_fits, (u_told, (tt, (s_fits, (tt, (tt, (v_fits, tt)))))))), rw (s_read, m_read, v_read, user_read, name_of-IsName row_name_grammar added.key h))
    variable_added (Err fault) h = λ body told. absurd (cc)

    variable_changed : (key : List ℕ) (input : Result (List ℕ) BodyFault) → IsName row_name_grammar key → Back (By (op.Variable (variable.Change key input)))
    variable_changed key (Ok value) h =
        back (By (op.Variable (variable.Change key (Ok value)))) (value_parts key value) refl
        ((refl, (m_fits, (u_told, (tt, (s_fits, (tt, (tt, (v_fits, tt)))))))), rw (s_read, m_read, v_read, user_read, name_of-IsName row_name_grammar key h))
    variable_changed key (Err fault) h = λ body told. absurd (cc)

    of_variable : (it : VariableOp) → IsVariableOp it → Back (By (op.Variable it))
    of_variable (variable.List asked) h = λ body told. absurd (cc)
    of_variable (variable.Add input) h = variable_added input h
    of_variable (variable.Get key) h = λ body told. absurd (cc)
    of_variable (variable.Change key input) h = variable_changed key input h
    of_variable (variable.Delete key) h =
        back (By (op.Variable (variable.Delete key))) (after_parts ((codes "key", string key) ∷ [])) refl
        ((refl, (m_fits, (u_told, (tt, (s_fits, (tt, (v_fits, tt))))))), rw (s_read, m_read, v_read, user_read, name_of-IsName row_name_grammar key h))

    module _ (dag_id : List ℕ) (d : IsName id_grammar dag_id) where
      d_read : name_of id_grammar dag_id ≡ Ok dag_id
      d_read = name_of-IsName id_grammar dag_id d

      paused : (input : Result Bool BodyFault) → Back (By (op.PauseDag dag_id input))
      paused (Ok is_paused) =
          back (By (op.PauseDag dag_id (Ok is_paused))) (pause_parts dag_id is_paused) refl
          ((refl, (m_fits, (u_told, (tt, (tt, (s_fits, (tt, (v_fits, tt)))))))), rw (s_read, m_read, v_read, user_read, d_read))
      paused (Err fault) = λ body told. absurd (cc)

      triggered : (input : Result Trigger BodyFault) → IfRead IsTrigger input → Back (By (op.TriggerRun dag_id input))
      triggered (Ok asked) h =
          back (By (op.TriggerRun dag_id (Ok asked))) (trigger_parts dag_id asked) refl (
            (refl, (m_fits, (u_told, (tt, (text_or_null asked.dag_run_id, (tt, (s_fits, (instant_or_null asked.logical_date h.date, (v_fits, tt))))))))),
            rw (s_read, m_read, v_read, user_read, d_read, run_maybe asked.dag_run_id h.run, instant_maybe asked.logical_date h.date),
          )
      triggered (Err fault) h = λ body told. absurd (cc)

      cleared : (input : Result Clear BodyFault) → IfRead IsClear input → Back (By (op.ClearInstances dag_id input))
      cleared (Ok asked) h =
          back (By (op.ClearInstances dag_id (Ok asked))) (clear_parts dag_id asked) refl (
            (
              refl,
              (
                m_fits,
                (
                  u_told,
                  (
                    tt,
                    (
                      text_or_null asked.dag_run_id,
                      (
                        tt,
                        (
                          instant_or_null asked.end_date h.last,
                          (
                            tt,
                            (
                              s_fits,
                              (tt, (instant_or_null asked.start_date h.first, (ids_or_null asked.task_ids, (v_fits, tt)))),
                            ),
                          ),
                        ),
                      ),
                    ),
                  ),
                ),
              ),
            ),
            rw (s_read, m_read, v_read, user_read, d_read, ids_maybe asked.task_ids h.tasks, run_maybe asked.dag_run_id h.run, instant_maybe asked.start_date h.first, instant_maybe asked.end_date h.last),
          )
      cleared (Err fault) h = λ body told. absurd (cc)

      backfilled : (input : Result Backfill BodyFault) → IfRead IsBackfill input → Back (By (op.BackfillDag dag_id input))
      backfilled (Ok asked) h =
          back (By (op.BackfillDag dag_id (Ok asked))) (backfill_parts dag_id asked) refl (
            (refl, (m_fits, (u_told, (tt, (instant_fits asked.end_date h.last, (tt, (s_fits, (instant_fits asked.start_date h.first, (v_fits, tt))))))))),
            rw (s_read, m_read, v_read, user_read, d_read, instant asked.start_date h.first, instant asked.end_date h.last),
          )
      backfilled (Err fault) h = λ body told. absurd (cc)

      module _ (run_id : List ℕ) (r : IsName run_id_grammar run_id) where
        r_read : name_of run_id_grammar run_id ≡ Ok run_id
        r_read = name_of-IsName run_id_grammar run_id r

        module _ (text : List ℕ) where
          -- with the text of a state
          abbrev told_state : Parts
          told_state = run_parts dag_id run_id [] ((codes "state", string text) ∷ [])

        marked : (input : Result Mark BodyFault) → Back (By (op.MarkRun dag_id run_id input))
        marked (Ok mark.Success) =
            back (By (op.MarkRun dag_id run_id (Ok mark.Success))) (told_state (codes "success")) refl
            ((refl, (m_fits, (u_told, (tt, (tt, (tt, (s_fits, (tt, (v_fits, tt))))))))), rw (s_read, m_read, v_read, user_read, d_read, r_read))
        marked (Ok mark.Failed) =
            back (By (op.MarkRun dag_id run_id (Ok mark.Failed))) (told_state (codes "failed")) refl
            ((refl, (m_fits, (u_told, (tt, (tt, (tt, (s_fits, (tt, (v_fits, tt))))))))), rw (s_read, m_read, v_read, user_read, d_read, r_read))
        marked (Ok mark.Queued) =
            back (By (op.MarkRun dag_id run_id (Ok mark.Queued))) (told_state (codes "queued")) refl
            ((refl, (m_fits, (u_told, (tt, (tt, (tt, (s_fits, (tt, (v_fits, tt))))))))), rw (s_read, m_read, v_read, user_read, d_read, r_read))
        marked (Err fault) = λ body told. absurd (cc)

        deleted : Back (By (op.DeleteRun dag_id run_id))
        deleted =
            back (By (op.DeleteRun dag_id run_id)) (run_parts dag_id run_id [] []) refl
            ((refl, (m_fits, (u_told, (tt, (tt, (tt, (s_fits, (v_fits, tt)))))))), rw (s_read, m_read, v_read, user_read, d_read, r_read))

        run_cleared : (input : Result Bool BodyFault) → Back (By (op.ClearRun dag_id run_id input))
        run_cleared (Ok dry_run) =
            back (By (op.ClearRun dag_id run_id (Ok dry_run))) (run_parts dag_id run_id ((codes "dry_run", boolean dry_run) ∷ []) []) refl
            ((refl, (m_fits, (u_told, (tt, (tt, (tt, (tt, (s_fits, (v_fits, tt))))))))), rw (s_read, m_read, v_read, user_read, d_read, r_read))
        run_cleared (Err fault) = λ body told. absurd (cc)

    of_op : (asked : Op) → IsOp asked → Back (By asked)
    of_op op.Version h = λ body told. absurd (cc)
    of_op (op.ListDags asked) h = λ body told. absurd (cc)
    of_op (op.GetDag dag_id) h = λ body told. absurd (cc)
    of_op (op.PauseDag dag_id input) h = paused dag_id h input
    of_op (op.ListTasks dag_id) h = λ body told. absurd (cc)
    of_op (op.ListRuns dag asked) h = λ body told. absurd (cc)
    of_op (op.TriggerRun dag_id input) h = triggered dag_id h.0 input h.1
    of_op (op.GetRun dag_id run_id) h = λ body told. absurd (cc)
    of_op (op.MarkRun dag_id run_id input) h = marked dag_id h.0 run_id h.1 input
    of_op (op.DeleteRun dag_id run_id) h = deleted dag_id h.0 run_id h.1
    of_op (op.ClearRun dag_id run_id input) h = run_cleared dag_id h.0 run_id h.1 input
    of_op (op.ListInstances dag_id run_id asked) h = λ body told. absurd (cc)
    of_op (op.GetInstance dag_id run_id task_id) h = λ body told. absurd (cc)
    of_op (op.ClearInstances dag_id input) h = cleared dag_id h.0 input h.1
    of_op (op.BackfillDag dag_id input) h = backfilled dag_id h.0 input h.1
    of_op (op.Pool it) h = of_pool it h
    of_op (op.Variable it) h = of_variable it h

  of_act : (who : Actor) (it : Act) → IsActor who → IsAct it → Back (Of who it)
  of_act (actor.User user) (act.Did asked) u h = of_op user u asked h
  of_act (actor.User user) act.Tick u h = λ body told. absurd (cc)
  of_act (actor.User user) (act.Claim claimed) u h = λ body told. absurd (cc)
  of_act (actor.User user) (act.Report claimed outcome) u h = λ body told. absurd (cc)
  of_act actor.Scheduler (act.Did asked) u h = λ body told. absurd (cc)
  of_act actor.Scheduler act.Tick u h = ticked
  of_act actor.Scheduler (act.Claim claimed) u h = λ body told. absurd (cc)
  of_act actor.Scheduler (act.Report claimed outcome) u h = λ body told. absurd (cc)
  of_act actor.Executor (act.Did asked) u h = λ body told. absurd (cc)
  of_act actor.Executor act.Tick u h = λ body told. absurd (cc)
  of_act actor.Executor (act.Claim claimed) u h = was_claimed claimed h
  of_act actor.Executor (act.Report claimed outcome) u h = was_reported claimed h outcome

pub entry_of-entry_body : (entry : Entry) (body : List ℕ) → IsEntry entry → entry_body entry ≡ Ok body → entry_of body ≡ Ok entry
entry_of-entry_body entry body is told = of_act entry.seq entry.moment entry.version is.seq is.moment is.version entry.actor entry.act is.actor is.act body told

-- ---- nothing else is read

only_same : (body told : List ℕ) (entry y : Entry) (b : Bool) → same_text told body ≡ b → cond b (Ok entry) (Err NotALine) ≡ Ok y → (told ≡ body) × (entry ≡ y)
only_same body told entry y false e is = absurd (cc)
only_same body told entry y true e is = ((bytes_eq-Decides told body).0 e, cc)

only_told : (body : List ℕ) (entry y : Entry) (r : Result (List ℕ) LineFault) → entry_body entry ≡ r → (r >>= if_same body entry) ≡ Ok y → entry_body y ≡ Ok body
only_told body entry y (Err fault) e is = absurd (cc)
only_told body entry y (Ok told) e is =
    let both = only_same body told entry y (same_text told body) refl is in
    subst (λ (it : Entry). entry_body it ≡ Ok body) both.1 (e ∙ ap (λ (b : List ℕ). Ok b) both.0)

only_read : (body : List ℕ) (y : Entry) (r : Result Entry LineFault) → (r >>= if_told_as body) ≡ Ok y → entry_body y ≡ Ok body
only_read body y (Err fault) is = absurd (cc)
only_read body y (Ok entry) is = only_told body entry y (entry_body entry) refl is

only_row : (body : List ℕ) (y : Entry) (r : Result Data LineFault) → (r >>= (λ (row : Data). entry_in row >>= if_told_as body)) ≡ Ok y → entry_body y ≡ Ok body
only_row body y (Err fault) is = absurd (cc)
only_row body y (Ok row) is = only_read body y (entry_in row) is

pub entry_of-only : (body : List ℕ) (entry : Entry) → entry_of body ≡ Ok entry → entry_body entry ≡ Ok body
entry_of-only body entry is = only_row body entry (row_in body) is
