use Rattle.std.proofs.Common.{◌∙◌, sym, ap, arith, subst, List, ℕ, not, ◌==◌, refl, map}
use Rattle.std.specs.Prelude.{filter}
use Rattle.af_runs.specs.Busy.{holds_any, is_busy}
use Rattle.af_runs.specs.Chains.{AreChains}
use Rattle.af_runs.specs.Codes.{by_ids, by_date, ids_code}
use Rattle.af_runs.specs.declared.run.Run.{Run}
use Rattle.af_runs.proofs.DagListLemmas.{numbers-remove}
use Rattle.af_runs.proofs.IndexLemmas.{keys-remove, keys-order, key-here, keys-long}
use Rattle.af_runs.proofs.index.Index.remove.Goals as goal

pub returns-clause-runs : goal.returns-clause-runs
returns-clause-runs c = λ runs is within here above order.
    let number = c.args.run.now.number in
    let run = c.args.run.now in
    record {
      ids = subst (λ (rows : List (ℕ × ℕ)). AreChains rows c.remove.new.self) (sym (keys-remove by_ids (λ r. refl) runs c.args.place)) (c.remove.ensures.rows (map by_ids runs) is.ids (keys-long by_ids (λ r. refl) runs c.args.place within) (key-here by_ids (λ r. refl) runs c.args.place run (number, c.ids_code.result) within here (λ i. (number, sym (c.ids_code.ensures ∙ ap (ids_code run.dag_id) c.as_str.ensures.text) i))) above (keys-order by_ids (λ r. refl) runs order));
      dates = subst (λ (rows : List (ℕ × ℕ)). AreChains rows c.remove-2.new.self) (sym (keys-remove by_date (λ r. refl) runs c.args.place)) (c.remove-2.ensures.rows (map by_date runs) is.dates (keys-long by_date (λ r. refl) runs c.args.place within) (key-here by_date (λ r. refl) runs c.args.place run (number, c.date_code.result) within here (λ i. (number, sym c.date_code.ensures i))) above (keys-order by_date (λ r. refl) runs order));
      dags = c.remove-3.ensures runs is.dags within here order;
      busy = c.take_out.ensures.numbers ∙ ap (filter (λ other. not (other == number))) is.busy ∙ sym (numbers-remove is_busy runs c.args.place number run order within (ap (λ (r : Run). r.number) (here run)));
      holders = c.take_out-2.ensures.numbers ∙ ap (filter (λ other. not (other == number))) is.holders ∙ sym (numbers-remove holds_any runs c.args.place number run order within (ap (λ (r : Run). r.number) (here run)));
    }

pub returns-clause-room : goal.returns-clause-room
returns-clause-room c = λ rows has. record {
  ids = c.remove.ensures.room rows has.ids;
  dates = c.remove-2.ensures.room rows has.dates;
  busy = omega (arith, has.busy, c.remove.ensures.len, c.take_out.ensures.capacity);
  holders = omega (arith, has.holders, c.remove.ensures.len, c.take_out-2.ensures.capacity);
}
