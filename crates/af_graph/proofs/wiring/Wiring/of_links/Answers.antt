use Rattle.std.proofs.Common.{◌≡◌, ℕ, length, sym, ap, ◌∙◌, subst, arith}
use Rattle.af_graph.specs.Rows.{IsWithin}
use Rattle.af_graph.proofs.RowLemmas.{length-turned}
use Rattle.af_graph.proofs.WiringLemmas.{pair_of_turned, turned_within}
use Rattle.af_graph.proofs.wiring.Wiring.of_links.Goals as goal

pub turned-requires-2-clause-within : goal.turned-requires-2-clause-within
turned-requires-2-clause-within c = subst IsWithin (sym c.in_ok-downstream.ensures) (turned_within c.args.named.now)

pub turned-requires-2-clause-few : goal.turned-requires-2-clause-few
turned-requires-2-clause-few c =
    omega (arith, c.requires.few, ap length c.in_ok-downstream.ensures ∙ length-turned c.args.named.now)

pub take_all-requires-clause-pair : goal.take_all-requires-clause-pair
take_all-requires-clause-pair c =
    pair_of_turned c.args.named.now c.in_ok-upstream.upstream c.in_ok-downstream.downstream c.in_ok-downstream.ensures c.in_ok-upstream.ensures

pub take_all-requires-clause-few : goal.take_all-requires-clause-few
take_all-requires-clause-few c =
    let of_down : length c.in_ok-downstream.downstream ≡ length c.args.named.now =
    ap length c.in_ok-downstream.ensures ∙ length-turned c.args.named.now in
    let of_up : length c.in_ok-upstream.upstream ≡ length c.in_ok-downstream.downstream =
    ap length c.in_ok-upstream.ensures ∙ length-turned c.in_ok-downstream.downstream in
    omega (arith, c.requires.few, of_down, of_up)
