use Rattle.std.proofs.Common.{◌≡◌, ◌∙◌, sym, ap, arith, subst, List, ℕ, ◌∷◌, [], ◌++◌, cond, length, refl, map}
use Rattle.af_runs.specs.Busy.{holds_any, is_busy}
use Rattle.af_runs.specs.Chains.{AreChains, no_row}
use Rattle.af_runs.specs.Codes.{by_ids, by_date, ids_code}
use Rattle.std.proofs.lemmas.List.{length-map}
use Rattle.af_runs.proofs.ChainLemmas.{length-earlier_after}
use Rattle.af_runs.proofs.DagListLemmas.{AreDagLists-push}
use Rattle.af_runs.proofs.IndexLemmas.{keys-push, numbers-push, numbers-few}
use Rattle.af_runs.proofs.index.Index.push.Goals as goal

pub returns-clause-runs : goal.returns-clause-runs
returns-clause-runs c = λ runs is.
    let number = c.args.run.now.number in
    let run = c.args.run.now in
    let chained : length c.args.self.now.ids.earlier.items ≡ length runs = ap length is.ids.earlier ∙ length-earlier_after no_row (map by_ids runs) ∙ length-map runs by_ids in
    record {
      ids = subst (λ (rows : List (ℕ × ℕ)). AreChains rows c.push.new.self) ((λ i. map by_ids runs ++ (number, (c.ids_code.ensures ∙ ap (ids_code run.dag_id) c.as_str.ensures.text) i) ∷ []) ∙ sym (keys-push by_ids (λ r. refl) runs run)) (c.push.ensures.rows (map by_ids runs) is.ids);
      dates = subst (λ (rows : List (ℕ × ℕ)). AreChains rows c.push-2.new.self) ((λ i. map by_date runs ++ (number, c.date_code.ensures i) ∷ []) ∙ sym (keys-push by_date (λ r. refl) runs run)) (c.push-2.ensures.rows (map by_date runs) is.dates);
      dags = AreDagLists-push runs (run ∷ []) c.args.self.now.dags is.dags;
      busy = c.put_last.ensures.numbers (omega (arith, ap length is.busy, numbers-few is_busy runs, chained, c.requires.busy, c.args.self.now.ids.earlier.ok)) ∙ (λ i. is.busy i ++ cond (c.is_busy.ensures i) (number ∷ []) []) ∙ sym (numbers-push is_busy runs run);
      holders = c.put_last-2.ensures.numbers (omega (arith, ap length is.holders, numbers-few holds_any runs, chained, c.requires.holders, c.args.self.now.ids.earlier.ok)) ∙ (λ i. is.holders i ++ cond (c.holds_any.ensures i) (number ∷ []) []) ∙ sym (numbers-push holds_any runs run);
    }

pub returns-clause-room : goal.returns-clause-room
returns-clause-room c = λ rows has. record {
  ids = c.push.ensures.room rows has.ids;
  dates = c.push-2.ensures.room rows has.dates;
  busy = omega (arith, has.busy, c.push.ensures.len, c.put_last.ensures.capacity);
  holders = omega (arith, has.holders, c.push.ensures.len, c.put_last-2.ensures.capacity);
}
