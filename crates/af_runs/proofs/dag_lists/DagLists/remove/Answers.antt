use Rattle.std.proofs.Common.{◌∙◌, arith, ◌-◌, cond}
use Rattle.std.specs.Prelude.{bytes_eq, filter, not, ◌==◌}
use Rattle.af_runs.specs.DagLists.{numbers_in}
use Rattle.af_runs.proofs.DagListLemmas.{AreDagLists-remove}
use Rattle.af_runs.proofs.dag_lists.DagLists.remove.Goals as goal

pub returns-then-place-self : goal.returns-then-place-self
returns-then-place-self c = λ runs are within here order.
    AreDagLists-remove runs c.args.place c.args.run.now within here order c.args.self.now are (record { alloc = c.take_out.new.self.alloc; lists = c.take_out.new.self.lists; listed = c.take_out.new.self.listed - 1 }) (c.args.self.now.listed - 1) (omega arith) (omega arith) (omega arith)
    (λ q. c.take_out.ensures.out q ∙ (λ i. cond (bytes_eq (c.as_str.ensures.text i) q) (filter (λ other. not (other == c.args.run.now.number)) (numbers_in c.args.self.now q)) (numbers_in c.args.self.now q)))
