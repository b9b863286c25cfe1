use Rattle.std.proofs.Common.{◌∙◌, sym, ap, subst, List}
use Rattle.std.specs.Prelude.{filter, Result, Ok, Err, IfOk}
use Rattle.std.specs.List.Sorted.{IsPermutation}
use Rattle.af_sched.specs.Choosing.{AreCandidates, Chooses, is_among}
use Rattle.af_sched.specs.Placed.{Placed, placed_in}
use Rattle.af_sched.specs.Queue.{may_queue, IsQueueing}
use Rattle.af_sched.proofs.CandidateLemmas.{candidates_from, queueing_from}
use Rattle.af_sched.proofs.tick.queue.chosen.Goals as goal

pub choose-requires : goal.choose-requires
choose-requires c =
    let all : List Placed = placed_in c.args.dags.now c.args.runs.now in
    let moved : IsPermutation (filter (may_queue c.args.dags.now) all) c.sort_pooled.new.candidates.items = subst (λ (xs : List Placed). IsPermutation xs c.sort_pooled.new.candidates.items) (c.in_ok-candidates.ensures ∙ ap (filter (may_queue c.args.dags.now)) (c.as_slice.ensures.value ∙ c.in_ok-all.ensures)) c.sort_pooled.ensures.permutation in
    subst (λ (xs : List Placed). AreCandidates xs c.as_slice-3.result.now) (sym (c.as_slice-2.ensures.value ∙ c.in_ok-all.ensures))
    (subst (λ (xs : List Placed). AreCandidates all xs) (sym c.as_slice-3.ensures.value)
    (candidates_from c.args.dags.now c.args.runs.now c.sort_pooled.new.candidates.items c.requires moved c.sort_pooled.ensures.sorted))

if_ok : {T E : Type 0} (r : Result T E) (P Q : T → Type 0) → ((x : T) → P x → Q x) → IfOk r P → IfOk r Q
if_ok (Ok x) P Q then is = then x is
if_ok (Err e) P Q then is = is

pub returns : goal.returns
returns c =
    let all : List Placed = placed_in c.args.dags.now c.args.runs.now in
    let moved : IsPermutation (filter (may_queue c.args.dags.now) all) c.sort_pooled.new.candidates.items = subst (λ (xs : List Placed). IsPermutation xs c.sort_pooled.new.candidates.items) (c.in_ok-candidates.ensures ∙ ap (filter (may_queue c.args.dags.now)) (c.as_slice.ensures.value ∙ c.in_ok-all.ensures)) c.sort_pooled.ensures.permutation in
    if_ok c.choose.result (λ seats. Chooses c.args.pools.now.rows c.as_slice-2.result.now c.as_slice-3.result.now seats.items) (λ seats. IsQueueing c.args.dags.now c.args.runs.now c.args.pools.now.rows (is_among seats.items))
    (λ seats chooses. queueing_from c.args.dags.now c.args.runs.now c.args.pools.now.rows c.sort_pooled.new.candidates.items seats.items moved
    (subst (λ (xs : List Placed). Chooses c.args.pools.now.rows xs c.sort_pooled.new.candidates.items seats.items) (c.as_slice-2.ensures.value ∙ c.in_ok-all.ensures)
    (subst (λ (xs : List Placed). Chooses c.args.pools.now.rows c.as_slice-2.result.now xs seats.items) c.as_slice-3.ensures.value chooses)))
    c.choose.ensures
