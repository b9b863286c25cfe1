use Rattle.std.proofs.Common.{◌∙◌, sym, subst, arith, List, ℕ, refl}
use Rattle.af_runs.specs.Busy.{holds_any, is_busy, with_number}
use Rattle.af_runs.specs.Chains.{AreChains}
use Rattle.af_runs.specs.Codes.{by_ids, by_date}
use Rattle.af_runs.proofs.BusyLemmas.{numbers-set}
use Rattle.af_runs.proofs.IndexLemmas.{keys-set, same_ids_key, same_date_key, AreDagLists-set}
use Rattle.af_runs.proofs.index.Index.keep_numbers.Goals as goal

pub keep-requires-clause-in_order : goal.keep-requires-clause-in_order
keep-requires-clause-in_order c = c.requires.busy_order

pub keep-requires-clause-room : goal.keep-requires-clause-room
keep-requires-clause-room c = rw c.is_busy.ensures c.requires.busy_room

pub keep-requires-2-clause-in_order : goal.keep-requires-2-clause-in_order
keep-requires-2-clause-in_order c = c.requires.holders_order

pub keep-requires-2-clause-room : goal.keep-requires-2-clause-room
keep-requires-2-clause-room c = rw c.holds_any.ensures c.requires.holders_room

pub returns-clause-room : goal.returns-clause-room
returns-clause-room c = λ rows has. record {
  ids = has.ids;
  dates = has.dates;
  busy = omega (arith, has.busy, c.keep.ensures.capacity);
  holders = omega (arith, has.holders, c.keep-2.ensures.capacity);
}

pub returns-clause-runs : goal.returns-clause-runs
returns-clause-runs c = λ runs place is within same order.
    let run = c.args.run.now in
    record {
      ids = subst (λ (rows : List (ℕ × ℕ)). AreChains rows c.args.self.now.ids) (sym (keys-set by_ids (λ r. refl) runs place run run (same_ids_key _ run (same run)))) is.ids;
      dates = subst (λ (rows : List (ℕ × ℕ)). AreChains rows c.args.self.now.dates) (sym (keys-set by_date (λ r. refl) runs place run run (same_date_key _ run (same run)))) is.dates;
      dags = AreDagLists-set runs place run run c.args.self.now.dags (same run) is.dags;
      busy = c.keep.ensures.numbers ∙ (λ i. with_number run.number (c.is_busy.ensures i) (is.busy i)) ∙ sym (numbers-set is_busy runs place run run order within (same run).number);
      holders = c.keep-2.ensures.numbers ∙ (λ i. with_number run.number (c.holds_any.ensures i) (is.holders i)) ∙ sym (numbers-set holds_any runs place run run order within (same run).number);
    }
