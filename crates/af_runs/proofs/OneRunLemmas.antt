-- The run of one id, where a filter admits no other.
use Rattle.std.proofs.Common.{◌≡◌, ◌∙◌, refl, ap, ℕ, zero, suc, ◌<◌, List, [], ◌∷◌, length, map, get_or, set, Bool, true, false, cond, ◌&&◌, ◌||◌, not, arith}
use Rattle.std.specs.Prelude.{Some, filter}
use Rattle.std.specs.List.{list_all}
use Rattle.std.proofs.lemmas.Bool.{true≢false}
use Rattle.af_names.proofs.OrderLemmas.{map-only, map-none}
use Rattle.af_graph.specs.Graph.{same_name}
use Rattle.af_runs.specs.Clears.{admits, is_left_by, run_after, with_cleared}
use Rattle.af_runs.specs.Places.{IsRunAt, IsRunNowhere}
use Rattle.af_runs.specs.Runs.{is_run}
use Rattle.af_runs.specs.declared.run.Run.{Run}
use Rattle.af_runs.specs.declared.run_filter.RunFilter.{RunFilter}
use Rattle.af_runs.specs.declared.selection.Selection.{Selection}

both_first : (a b c d : Bool) → (a && b) ≡ false → (a && b && c && d) ≡ false
both_first true true c d none = absurd (true≢false none)
both_first true false c d none = refl
both_first false b c d none = refl

-- where there is a row, there is one to stand where none does
pub some_default : {P : Type 0} (runs : List Run) (place : ℕ) → place < length runs → ((d : Run) → P) → P
some_default [] place within f = absurd (omega arith)
some_default (run ∷ runs) place within f = f run

pub left_alone : (b : Bool) (selection : Selection) (run : Run) → (not b || is_left_by selection run) ≡ list_all (is_left_by selection) (cond b (run ∷ []) [])
left_alone true selection run = and_true (is_left_by selection run)
  where
    and_true : (a : Bool) → a ≡ (a && true)
    and_true true = refl
    and_true false = refl
left_alone false selection run = refl

module _ (asked : RunFilter) (run_id : List ℕ) (only : asked.run_id ≡ Some run_id) where
  abbrev sought : Run → Bool
  sought = is_run asked.dag_id run_id

  -- another run is not admitted
  other_run : (run : Run) → sought run ≡ false → admits asked run ≡ false
  other_run run other = rw only (both_first (same_name run.dag_id asked.dag_id) (same_name run.run_id run_id) _ _ other)

  -- the runs after a clear
  module _ (selection : Selection) where
    after_case : (b : Bool) (run : Run) → sought run ≡ b → run_after asked selection run ≡ cond b (run_after asked selection run) run
    after_case true run is = refl
    after_case false run other = let out = other_run run other in rw out refl

    cleared_alone : (runs : List Run) → with_cleared runs asked selection ≡ map (λ run. cond (sought run) (run_after asked selection run) run) runs
    cleared_alone [] = refl
    cleared_alone (run ∷ runs) = λ i. after_case (sought run) run refl i ∷ cleared_alone runs i

    pub cleared_at : (runs : List Run) (place : ℕ) (d : Run) → IsRunAt runs asked.dag_id run_id place → with_cleared runs asked selection ≡ set runs place (run_after asked selection (get_or runs place d))
    cleared_at runs place d at = cleared_alone runs ∙ map-only sought (run_after asked selection) runs place d at.within at.here at.alone

    pub cleared_nowhere : (runs : List Run) → IsRunNowhere runs asked.dag_id run_id → with_cleared runs asked selection ≡ runs
    cleared_nowhere runs nowhere = cleared_alone runs ∙ map-none sought (run_after asked selection) runs nowhere.none

  -- those that are admitted
  none_admitted : (runs : List Run) → ((other : ℕ) (d : Run) → other < length runs → sought (get_or runs other d) ≡ false) → filter (admits asked) runs ≡ []
  none_admitted [] none = refl
  none_admitted (run ∷ runs) none =
      let out = other_run run (none 0 run (omega arith)) in
      rw out (none_admitted runs (λ j d inside. none (suc j) d (omega arith)))

  pub admitted_nowhere : (runs : List Run) → IsRunNowhere runs asked.dag_id run_id → filter (admits asked) runs ≡ []
  admitted_nowhere runs nowhere = none_admitted runs nowhere.none

  pub admitted_at : (runs : List Run) (place : ℕ) (d : Run) → IsRunAt runs asked.dag_id run_id place → filter (admits asked) runs ≡ cond (admits asked (get_or runs place d)) (get_or runs place d ∷ []) []
  admitted_at runs place d at = go runs place at.within at.alone
    where
      go : (some : List Run) (k : ℕ) → k < length some → ((other : ℕ) (e : Run) → other < length some → (other ≡ k → ⊥) → sought (get_or some other e) ≡ false) → filter (admits asked) some ≡ cond (admits asked (get_or some k d)) (get_or some k d ∷ []) []
      go [] k within alone = absurd (omega arith)
      go (run ∷ some) zero within alone =
          ap (λ (rest : List Run). cond (admits asked run) (run ∷ rest) rest) (none_admitted some (λ j e inside. alone (suc j) e (omega arith) (λ same. absurd (omega arith))))
      go (run ∷ some) (suc k) within alone =
          let out = other_run run (alone 0 run (omega arith) (λ same. absurd (omega arith))) in
          rw out (go some k (omega arith) (λ j e inside apart. alone (suc j) e (omega arith) (λ same. apart (omega arith))))
