use Rattle.std.specs.List.{flat_map}
use Rattle.std.proofs.lemmas.List.Concat.{flat_map-append}
use Rattle.std.proofs.Common.{[]}
use Rattle.af_policy.specs.Tables.{listed_of}
use Rattle.af_role.proofs.AccessLemmas.{put_next, flat_map-one}
use Rattle.af_policy.proofs.role_table.RoleTable.joined_permissions.Goals as goal

pub loop-name-preserved : goal.loop-name-preserved
loop-name-preserved c =
    put_next (flat_map (listed_of c.args.self.now)) (flat_map-append (listed_of c.args.self.now))
    [] c.loop-name.all c.add_permissions.new.all (listed_of c.args.self.now c.name-item.result)
    c.args.names.now c.loop-name.name-index c.name-item.result c.name-item.is c.loop-name-test.true
    c.loop-name.invariant c.in_ok-add_permissions.ensures (flat_map-one (listed_of c.args.self.now) c.name-item.result)
