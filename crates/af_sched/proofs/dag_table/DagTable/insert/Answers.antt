use Rattle.std.proofs.Common.{◌≡◌, ℤ, to_z, of_z, w32, sym, subst}
use Rattle.std.specs.Prelude.{insert}
use Rattle.std.proofs.lemmas.Int.{to_z-of_z}
use Rattle.af_sched.specs.Weights.{NoneIsHeavier}
use Rattle.af_sched.proofs.HeavyLemmas.{none_heavier_inserted}
use Rattle.af_sched.proofs.dag_table.DagTable.insert.Goals as goal

pub invariant_of-self-3 : goal.invariant_of-self-3
invariant_of-self-3 c =
    let low : ℤ = c.heaviest.result in
    let high : ℤ = c.heaviest_of-heaviest.result in
    let same : to_z w32 (of_z w32 low) ≡ low = to_z-of_z w32 low (record { sfits = c.heaviest.type_inv }) in
    let back : to_z w32 (of_z w32 high) ≡ high = to_z-of_z w32 high (record { sfits = c.heaviest_of-heaviest.type_inv }) in
    let given = rw same at c.heaviest_of-heaviest.ensures.given in
    let items : c.insert.new.self.items ≡ insert c.self.inside.rows.items c.args.place c.args.row = c.in_ok-insert.ensures.items in
    let made : NoneIsHeavier high c.insert.new.self.items = subst (NoneIsHeavier high) (sym items) (none_heavier_inserted low high c.self.inside.rows.items c.args.row c.args.place given (rw c.tasks.ensures at c.heaviest_of-heaviest.ensures.tasks) c.heaviest.ensures) in
    rw back made
