use Rattle.std.proofs.Common.{◌≡◌, ◌∙◌, ◌++◌, sym, subst, List}
use Rattle.std.specs.Prelude.{All}
use Rattle.std.proofs.lemmas.List.{append-nil}
use Rattle.af_runs.specs.Additions.{together}
use Rattle.af_runs.specs.declared.run.Run.{Run}
use Rattle.af_sched.specs.Plan.{IsPlan}
use Rattle.af_sched.specs.State.{StateRows, IsWhole}
use Rattle.af_sched.proofs.PlanLemmas.{plan_is, whole_created}
use Rattle.af_sched.proofs.state.State.planned.Goals as goal

pub moved_on-requires-clause-whole : goal.moved_on-requires-clause-whole
moved_on-requires-clause-whole c =
    let state : StateRows = record { dags = c.self.inside.dags; runs = c.self.inside.runs.rows; next_run = c.self.inside.runs.next; pools = c.self.inside.pools.rows; variables = c.self.inside.variables.rows } in
    let stays : c.create_all.new.additions.before ≡ state.runs = c.in_ok-cursors.ensures.before ∙ c.of-additions.ensures.before in
    let takes = rw (c.rows-dags.ensures) at c.in_ok-cursors.ensures.runs in
    let same : c.of-additions.result.before ++ c.of-additions.result.added ≡ state.runs = (λ i. c.of-additions.ensures.before i ++ c.of-additions.ensures.added i) ∙ append-nil state.runs in
    rw (c.by_id.ensures, ← c.self.view_is, c.into_rows-added.ensures.added)
    (subst (λ (runs : List Run). All (IsWhole state.dags) (runs ++ c.create_all.new.additions.added)) stays
    (whole_created c.args.at state (together c.of-additions.result) (together c.create_all.new.additions) c.self.invariant same takes))

pub returns : goal.returns
returns c =
    let state : StateRows = record { dags = c.self.inside.dags; runs = c.self.inside.runs.rows; next_run = c.self.inside.runs.next; pools = c.self.inside.pools.rows; variables = c.self.inside.variables.rows } in
    let tells = rw (← c.self.view_is, c.as_slice.ensures.value, c.as_slice-2.ensures.value, c.as_slice-3.ensures.value) at c.has-is_change.ensures in
    let stays : c.create_all.new.additions.before ≡ state.runs = c.in_ok-cursors.ensures.before ∙ c.of-additions.ensures.before in
    rw (← c.self.view_is) (subst (λ n. IsPlan c.args.at state record { cursors = c.in_ok-cursors.cursors.items; moved = c.in_ok-moved.moved.items; added = c.in_ok-moved.added.items; next_run = n; changes = Rattle.std.specs.Prelude.not c.has-is_change.result }) (sym c.into_rows-added.ensures.next)
    (plan_is c.args.at state c.of-additions.result c.create_all.new.additions c.in_ok-cursors.cursors.items c.in_ok-moved.moved.items c.in_ok-moved.added.items
    (record {
      rows = c.self.invariant;
      before = c.of-additions.ensures.before;
      none = c.of-additions.ensures.added;
      next = c.of-additions.ensures.next;
      stays = stays;
      takes = rw (c.rows-dags.ensures) at c.in_ok-cursors.ensures.runs;
      kept = rw stays at c.into_rows-added.ensures.kept;
      told = rw (c.rows-dags.ensures) at c.in_ok-cursors.ensures.cursors;
      moves = rw (c.by_id.ensures, ← c.self.view_is, c.into_rows-added.ensures.added) at c.in_ok-moved.ensures.runs;
      count = c.in_ok-moved.ensures.count;
    })
    c.has-is_change.result tells))
