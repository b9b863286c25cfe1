use Rattle.std.proofs.Common.{◌≡◌, subst, List}
use Rattle.std.specs.Prelude.{IfOk}
use Rattle.af_sched.specs.declared.held.Held.{Held}
use Rattle.af_sched.proofs.CountLemmas.{order_page, page_counts}
use Rattle.af_sched.proofs.state.State.each_held.Goals as goal

pub counts_of-requires : goal.counts_of-requires
counts_of-requires c =
    rw (c.page_of-page.ensures, c.rows.ensures.rows) (order_page c.args.limit c.args.offset c.self.inside.pools.rows c.rows.ensures.kept.in_order)

pub returns : goal.returns
returns c =
    let page = page_counts c.args.self.now.rows c.args.limit c.args.offset in
    let told = rw (c.by_id.ensures, c.page_of-page.ensures, c.rows.ensures.rows, ← c.self.view_is) at c.counts_of.ensures in
    rw (← c.self.view_is)
    (subst (λ (held : List Held). IfOk c.counts_of.result (λ all. all.items ≡ held)) (rw (← c.self.view_is) at page) told)
