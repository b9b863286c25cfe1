-- Acts that read, on states that their user can't tell apart.
use Rattle.std.proofs.Common.{◌≡◌, ◌∙◌, refl, sym, ap, ap₂, ℕ, Bool, true, false, cond, List, [], ◌∷◌, map, not, ◌&&◌}
use Rattle.std.specs.Prelude.{Option, Some, filter, option_map, if◌then◌else◌}
use Rattle.std.specs.Bool.{Decides}
use Rattle.af_policy.specs.Identity.{bearer_of}
use Rattle.af_policy.specs.Grants.{readable, reads, shows_runs}
use Rattle.af_policy.specs.Rows.{PolicyRows}
use Rattle.af_runs.specs.declared.run.Run.{Run}
use Rattle.af_sched.specs.State.{StateRows}
use Rattle.af_sched.specs.declared.dag_row.DagRow.{DagRow}
use Rattle.af_ops.specs.declared.call.Call.TheVariants as call
use Rattle.af_ops.specs.declared.op.Op.{Op}
use Rattle.af_ops.specs.Endpoints.{endpoint_of}
use Rattle.af_ops.specs.Served.{answer_of}
use Rattle.af_ops.specs.Table.{is_open}
use Rattle.af_audit.specs.Answered.{standing_of, verdict_on}
use Rattle.af_blind.specs.Blindness.{AlikeFor, reads_dags, status_and_body, unnumbered, without_dag, without_runs}
use Rattle.af_blind.proofs.HiddenLemmas.{hidden_absent, hidden_runs_absent}
use Rattle.af_blind.proofs.VerdictLemmas.{blind, closed_of}
use Rattle.af_world.specs.declared.step.Step.TheVariants as step
use Rattle.af_world.specs.Acting.{acted, holds}
use Rattle.af_world.specs.Blind.{ActsAreBlind, AlikeByRoles, HiddenActsAsAbsent, HiddenRunActsAsAbsent}
use Rattle.af_world.specs.Moving.{Move, stays}
use Rattle.af_world.specs.Rules.{MayRead, MaySeeRuns}
use Rattle.af_world.specs.Steps.{Moves}
use Rattle.af_world.specs.Worlds.{World, policy_at}
use Rattle.af_world.proofs.RuleLemmas.{reads-decides, sees-decides}

-- ---- roles

same_test : {P : Type 0} (a b : Bool) → Decides a P → Decides b P → a ≡ b
same_test true true one other = refl
same_test false false one other = refl
same_test true false one other = sym (other.1 (one.0 refl))
same_test false true one other = one.1 (other.0 refl)

filter_alike : {X : Type 0} (p q : X → Bool) → ((x : X) → p x ≡ q x) → (xs : List X) → filter p xs ≡ filter q xs
filter_alike p q same [] = refl
filter_alike {X} p q same (x ∷ xs) = ap₂ (λ (b : Bool) (ys : List X). cond b (x ∷ ys) ys) (same x) (filter_alike p q same xs)

-- the test of the grants decides what the roles list, as the other test does
roles_alike : (policy : PolicyRows) (user : List ℕ) (state other : StateRows) → AlikeByRoles policy user state other → AlikeFor policy user state other
roles_alike policy user state other it = record { dags = rows_of state.dags ∙ it.alike.dags ∙ sym (rows_of other.dags); runs = runs_of state.runs ∙ it.alike.runs ∙ sym (runs_of other.runs) }
  where
    same : (id : List ℕ) → reads policy user id ≡ it.keeps id
    same id = same_test (reads policy user id) (it.keeps id) (reads-decides policy user id) (it.reads id)

    rows_of : (rows : List DagRow) → filter (λ (row : DagRow). reads policy user row.dag.dag_id) rows ≡ filter (λ (row : DagRow). it.keeps row.dag.dag_id) rows
    rows_of rows = filter_alike (λ (row : DagRow). reads policy user row.dag.dag_id) (λ (row : DagRow). it.keeps row.dag.dag_id) (λ row. same row.dag.dag_id) rows

    seen : (id : List ℕ) → shows_runs (readable policy user) id ≡ it.shows id
    seen id = same_test (shows_runs (readable policy user) id) (it.shows id) (sees-decides policy user id) (it.sees id)

    runs_of : (runs : List Run) → map unnumbered (filter (λ (run : Run). shows_runs (readable policy user) run.dag_id) runs) ≡ map unnumbered (filter (λ (run : Run). it.shows run.dag_id) runs)
    runs_of runs = ap (map unnumbered) (filter_alike (λ (run : Run). shows_runs (readable policy user) run.dag_id) (λ (run : Run). it.shows run.dag_id) (λ run. seen run.dag_id) runs)

-- ---- acts

module _ (w : World) (session : ℕ) (token : Option (List ℕ)) (asked : Op) (t : ℕ) (is : reads_dags asked ≡ true) where
  -- whether the act fits is whether the session holds the plane
  act_fits : (held : Bool) (move : Move) → holds w session ≡ held → Moves w (step.Act session token (call.State asked) t) move → move.answer ≡ (if held then acted w session token asked t (policy_at w w.ledger.version) else stays w).answer
  act_fits held move holding moves =
      let fits : (holds w session && not (is_open (endpoint_of asked))) ≡ (held && true) = ap₂ (λ (a b : Bool). a && not b) holding (closed_of asked w.ledger.state is) in
      ap (λ (m : Move). m.answer) moves
      ∙ ap (λ (b : Bool). (if b then acted w session token asked t (policy_at w w.ledger.version) else stays w).answer) fits
      ∙ by held
    where
      by : (b : Bool) → (if b && true then acted w session token asked t (policy_at w w.ledger.version) else stays w).answer ≡ (if b then acted w session token asked t (policy_at w w.ledger.version) else stays w).answer
      by true = refl
      by false = refl

  -- the answer of an act that fits is that of the verdict
  act_told : (policy : PolicyRows) (move : Move) → policy_at w w.ledger.version ≡ Some policy → holds w session ≡ true → Moves w (step.Act session token (call.State asked) t) move → move.answer ≡ answer_of asked (standing_of w.ledger).under (verdict_on policy w.ledger token asked t)
  act_told policy move under holding moves =
      act_fits true move holding moves
      ∙ ap (λ (p : Option PolicyRows). (acted w session token asked t p).answer) under

pub acts_blind : ActsAreBlind
acts_blind w other session another policy token asked t move moved is under one_under alike held one_held moves one_moves =
    ap (option_map status_and_body) (act_told w session token asked t is policy move under held moves)
    ∙ blind w.ledger.audit.limit other.ledger.audit.limit policy (standing_of w.ledger) (standing_of other.ledger) token asked t is (λ user bearer. roles_alike policy user w.ledger.state other.ledger.state (alike user bearer))
    ∙ sym (ap (option_map status_and_body) (act_told other another token asked t is policy moved one_under one_held one_moves))

-- ---- a DAG that the user may not read, and runs

not_true : (b : Bool) → (b ≡ true → ⊥) → b ≡ false
not_true true is = absurd (is refl)
not_true false is = refl

hidden_alike : (policy : PolicyRows) (user dag_id : List ℕ) (state : StateRows) → (MayRead policy user dag_id → ⊥) → AlikeByRoles policy user state (without_dag dag_id state)
hidden_alike policy user dag_id state hidden = record {
  keeps = reads policy user;
  shows = shows_runs (readable policy user);
  reads = reads-decides policy user;
  sees = sees-decides policy user;
  alike = hidden_absent policy user dag_id state (not_true (reads policy user dag_id) (λ is. hidden ((reads-decides policy user dag_id).0 is)));
}

hidden_runs_alike : (policy : PolicyRows) (user dag_id : List ℕ) (state : StateRows) → (MaySeeRuns policy user dag_id → ⊥) → AlikeByRoles policy user state (without_runs dag_id state)
hidden_runs_alike policy user dag_id state hidden = record {
  keeps = reads policy user;
  shows = shows_runs (readable policy user);
  reads = reads-decides policy user;
  sees = sees-decides policy user;
  alike = hidden_runs_absent policy user dag_id state (not_true (shows_runs (readable policy user) dag_id) (λ is. hidden ((sees-decides policy user dag_id).0 is)));
}

-- the world with another state
abbrev with_state : StateRows → World → World
with_state state w = record w { ledger = record w.ledger { state = state } }

-- an act of a user for whom the other state is alike is answered in that world as in this one, whether the session holds the plane or not
acts_alike : (w : World) (state : StateRows) (session : ℕ) (policy : PolicyRows) (token : Option (List ℕ)) (user : List ℕ) (asked : Op) (t : ℕ) (move moved : Move) → reads_dags asked ≡ true
    → policy_at w w.ledger.version ≡ Some policy → bearer_of policy token ≡ Some user → AlikeByRoles policy user w.ledger.state state
    → Moves w (step.Act session token (call.State asked) t) move → Moves (with_state state w) (step.Act session token (call.State asked) t) moved
    → option_map status_and_body move.answer ≡ option_map status_and_body moved.answer
acts_alike w state session policy token user asked t move moved is under bearer alike moves one_moves = by (holds w session) refl
  where
    by : (held : Bool) → holds w session ≡ held → option_map status_and_body move.answer ≡ option_map status_and_body moved.answer
    by true held =
        acts_blind w (with_state state w) session session policy token asked t move moved is under under
        (λ other it. let same : other ≡ user = (let e = sym it ∙ bearer in cc) in rw same alike)
        held held moves one_moves
    by false held =
        ap (option_map status_and_body) (act_fits w session token asked t is false move held moves)
        ∙ sym (ap (option_map status_and_body) (act_fits (with_state state w) session token asked t is false moved held one_moves))

pub hidden_acts : HiddenActsAsAbsent
hidden_acts w session policy token user dag_id asked t move moved is under bearer hidden moves one_moves =
    acts_alike w (without_dag dag_id w.ledger.state) session policy token user asked t move moved is under bearer (hidden_alike policy user dag_id w.ledger.state hidden) moves one_moves

pub hidden_run_acts : HiddenRunActsAsAbsent
hidden_run_acts w session policy token user dag_id asked t move moved is under bearer hidden moves one_moves =
    acts_alike w (without_runs dag_id w.ledger.state) session policy token user asked t move moved is under bearer (hidden_runs_alike policy user dag_id w.ledger.state hidden) moves one_moves
