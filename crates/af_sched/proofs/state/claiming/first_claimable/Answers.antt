use Rattle.std.proofs.Common.{◌≡◌, ◌∙◌, sym, subst, ap, List, [], ◌∷◌, ◌++◌, append_assoc, append-nil, ℤ, to_z, of_z, w32}
use Rattle.std.proofs.lemmas.Int.{to_z-of_z}
use Rattle.std.proofs.lemmas.Grind.{flat_map-append}
use Rattle.af_runs.specs.Busy.{holders_of}
use Rattle.af_runs.specs.declared.run.Run.{Run}
use Rattle.af_sched.specs.Claims.{is_claimable}
use Rattle.af_sched.specs.Placed.{Placed, placed_of, placed_in, IsFirstOf}
use Rattle.af_sched.specs.State.{tasks_of}
use Rattle.af_sched.proofs.HolderPlacedLemmas.{first_of_holders}
use Rattle.af_sched.specs.Weights.{IsAsHeavy}
use Rattle.af_sched.proofs.HeavyLemmas.{earlier_runs, ends_early}
use Rattle.af_sched.proofs.PlacedLemmas.{IsFirstOf-none}
use Rattle.af_sched.proofs.state.claiming.first_claimable.Goals as goal

pub loop-run-init : goal.loop-run-init
loop-run-init c = rw c.into_iter-run-iterator.ensures.into_iter_gives ([], c.holders-run-items.ensures, IsFirstOf-none is_claimable)

pub first_after-first-requires : goal.first_after-first-requires
first_after-first-requires c =
    let so_far = c.loop-run.invariant in
    let run : Run = c.in-Some.run'.now in
    let whole : so_far.0 ++ run ∷ c.next.new.self ≡ holders_of c.args.runs.now.rows = ap (λ (rest : List Run). so_far.0 ++ rest) (sym c.in-Some.ensures.steps) ∙ so_far.1 in
    earlier_runs c.args.dags.now c.args.runs.now.rows so_far.0 c.next.new.self run c.loop-run.first c.rows-rows.ensures.kept.in_order whole so_far.2

pub loop-run-preserved : goal.loop-run-preserved
loop-run-preserved c =
    let step = c.in-Some.ensures.steps in
    let so_far = c.loop-run.invariant in
    let run : Run = c.in-Some.run'.now in
    let here : List Placed = placed_of (tasks_of c.args.dags.now run.dag_id) run in
    let lists : placed_in c.args.dags.now so_far.0 ++ here ≡ placed_in c.args.dags.now (so_far.0 ++ run ∷ []) =
    ap (λ (ys : List Placed). placed_in c.args.dags.now so_far.0 ++ ys) (sym (append-nil here))
    ∙ sym (flat_map-append (λ (r : Run). placed_of (tasks_of c.args.dags.now r.dag_id) r) so_far.0 (run ∷ [])) in (
      so_far.0 ++ run ∷ [],
      append_assoc so_far.0 (run ∷ []) c.next.new.self ∙ ap (λ (rest : List Run). so_far.0 ++ rest) (sym step) ∙ so_far.1,
      subst (λ (xs : List Placed). IsFirstOf is_claimable xs c.first_after-first.result) lists (c.first_after-first.ensures (placed_in c.args.dags.now so_far.0) so_far.2),
    )

pub returns-then-is_as_heavy : goal.returns-then-is_as_heavy
returns-then-is_as_heavy c =
    let step = c.in-Some.ensures.steps in
    let so_far = c.loop-run.invariant in
    let run : Run = c.in-Some.run'.now in
    let seen : List Run = so_far.0 ++ run ∷ [] in
    let here : List Placed = placed_of (tasks_of c.args.dags.now run.dag_id) run in
    let lists : placed_in c.args.dags.now so_far.0 ++ here ≡ placed_in c.args.dags.now seen =
    ap (λ (ys : List Placed). placed_in c.args.dags.now so_far.0 ++ ys) (sym (append-nil here))
    ∙ sym (flat_map-append (λ (r : Run). placed_of (tasks_of c.args.dags.now r.dag_id) r) so_far.0 (run ∷ [])) in
    let whole : seen ++ c.next.new.self ≡ holders_of c.args.runs.now.rows = append_assoc so_far.0 (run ∷ []) c.next.new.self ∙ ap (λ (rest : List Run). so_far.0 ++ rest) (sym step) ∙ so_far.1 in
    let weight : ℤ = c.heaviest.result in
    let same : to_z w32 (of_z w32 weight) ≡ weight = to_z-of_z w32 weight (record { sfits = c.heaviest.type_inv }) in
    let told = rw same at c.is_as_heavy.ensures c.if-is_as_heavy.true in
    let heavy : IsAsHeavy weight c.first_after-first.result = subst (IsAsHeavy weight) c.as_ref.ensures.value told in
    ends_early weight c.args.dags.now c.args.runs.now.rows seen c.next.new.self c.first_after-first.result c.heaviest.ensures c.rows-rows.ensures.kept.in_order whole heavy
    (subst (λ (xs : List Placed). IsFirstOf is_claimable xs c.first_after-first.result) lists (c.first_after-first.ensures (placed_in c.args.dags.now so_far.0) so_far.2))

pub returns : goal.returns
returns c =
    let so_far = c.loop-run.invariant in
    let all : so_far.0 ≡ holders_of c.args.runs.now.rows = sym (append-nil so_far.0) ∙ ap (λ (rest : List Run). so_far.0 ++ rest) (sym c.in-None.ensures.steps.0) ∙ so_far.1 in
    first_of_holders c.args.dags.now c.args.runs.now.rows c.loop-run.first (subst (λ (seen : List Run). IsFirstOf is_claimable (placed_in c.args.dags.now seen) c.loop-run.first) all so_far.2)
