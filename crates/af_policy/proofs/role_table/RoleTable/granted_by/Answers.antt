use Rattle.std.proofs.Common.{◌≡◌, ◌∙◌, [], List, Option, ap, sym}
use Rattle.std.specs.Option.{option_map_or}
use Rattle.af_role.specs.Pairs.{PairRow, with_pairs}
use Rattle.af_role.proofs.AccessLemmas.{flat_map-one, with_pairs-sorted}
use Rattle.af_policy.specs.Tables.{listed_of}
use Rattle.af_policy.proofs.role_table.RoleTable.granted_by.Goals as goal

pub returns-in-Some : goal.returns-in-Some
returns-in-Some c =
    let listed : c.in-Some.permissions.now ≡ listed_of c.args.self.now c.args.name.now = ap (λ (found : Option (List PairRow)). option_map_or (λ pairs. pairs) found []) c.in-Some.ensures.value in
    c.only.ensures ∙ sym (with_pairs-sorted c.in-Some.permissions.now c.iter-in_order.ensures.order)
    ∙ ap (with_pairs []) (listed ∙ sym (flat_map-one (listed_of c.args.self.now) c.args.name.now))
