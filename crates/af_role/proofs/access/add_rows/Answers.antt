use Rattle.std.proofs.lemmas.List.Concat.{flat_map-append}
use Rattle.af_role.specs.Access.{listed_pairs, row_pairs}
use Rattle.af_role.proofs.AccessLemmas.{put_next, flat_map-one}
use Rattle.af_role.proofs.access.add_rows.Goals as goal

pub loop-row-preserved : goal.loop-row-preserved
loop-row-preserved c =
    put_next (λ rows. listed_pairs c.args.dag.now rows c.args.role.now) (flat_map-append (row_pairs c.args.dag.now c.args.role.now))
    c.args.permissions.now c.loop-row.permissions c.add_to.new.permissions (row_pairs c.args.dag.now c.args.role.now c.row-item.result)
    c.args.rows.now c.loop-row.row-index c.row-item.result c.row-item.is c.loop-row-test.true
    c.loop-row.invariant c.in_ok-add_to.ensures (flat_map-one (row_pairs c.args.dag.now c.args.role.now) c.row-item.result)
