-- Slots by state, and slots that are open.
use Rattle.std.proofs.Common.{◌≡◌, refl, ℕ, ◌+◌, List, [], ◌∷◌, Bool, true, false, cond, ◌&&◌, arith}
use Rattle.std.specs.Prelude.{filter}
use Rattle.std.proofs.lemmas.List.Sums.{sum_by-cons}
use Rattle.af_graph.specs.Graph.{same_name}
use Rattle.af_graph.specs.States.{same_state}
use Rattle.af_graph.specs.declared.task_state.TaskState.{TaskState}
use Rattle.af_graph.specs.declared.task_state.TaskState.TheVariants.{NoStatus, Scheduled, Queued, Running, Success, Failed, Skipped, UpstreamFailed, UpForRetry}
use Rattle.af_pool.specs.Occupants.{OccupantRow, holds_slots, occupies, is_there_in, slots_of_all, slots_taken, slots_in}
use Rattle.af_pool.specs.Pools.{has_pool}
use Rattle.af_pool.specs.Laws.{OccupiedIsQueuedAndRunning, OpenFillsThePool}

-- one more instance adds its slots to both sides alike
one_more : (there : Bool) (state : TaskState) (one : OccupantRow) (all queued running : List OccupantRow) → slots_of_all all ≡ slots_of_all queued + slots_of_all running → slots_of_all (cond (there && holds_slots state) (one ∷ all) all) ≡ slots_of_all (cond (there && same_state state Queued) (one ∷ queued) queued) + slots_of_all (cond (there && same_state state Running) (one ∷ running) running)
one_more false state one all queued running same = same
one_more true NoStatus one all queued running same = same
one_more true Scheduled one all queued running same = same
one_more true Queued one all queued running same =
    rw (sum_by-cons (λ (o : OccupantRow). o.slots) one all, sum_by-cons (λ (o : OccupantRow). o.slots) one queued) (omega arith)
one_more true Running one all queued running same =
    rw (sum_by-cons (λ (o : OccupantRow). o.slots) one all, sum_by-cons (λ (o : OccupantRow). o.slots) one running) (omega arith)
one_more true Success one all queued running same = same
one_more true Failed one all queued running same = same
one_more true Skipped one all queued running same = same
one_more true UpstreamFailed one all queued running same = same
one_more true UpForRetry one all queued running same = same

slots_taken-parts : (name : List ℕ) (occupants : List OccupantRow) → slots_taken name occupants ≡ slots_in Queued name occupants + slots_in Running name occupants
slots_taken-parts name [] = refl
slots_taken-parts name (one ∷ occupants) =
    one_more (same_name one.pool name) one.state one (filter (occupies name) occupants) (filter (is_there_in Queued name) occupants) (filter (is_there_in Running name) occupants) (slots_taken-parts name occupants)

pub occupied_parts : OccupiedIsQueuedAndRunning
occupied_parts pools name occupants = where_there (has_pool pools name) (slots_taken-parts name occupants)
  where
    where_there : (there : Bool) → slots_taken name occupants ≡ slots_in Queued name occupants + slots_in Running name occupants → cond there (slots_taken name occupants) 0 ≡ cond there (slots_in Queued name occupants) 0 + cond there (slots_in Running name occupants) 0
    where_there true same = same
    where_there false same = refl

pub open_fills : OpenFillsThePool
open_fills pools name occupants = omega arith
