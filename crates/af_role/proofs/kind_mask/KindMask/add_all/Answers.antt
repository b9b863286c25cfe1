use Rattle.std.proofs.Common.{◌≡◌, ◌<◌, length, ◌∙◌, rules, arith}
use Rattle.std.proofs.lemmas.List.{length-set}
use Rattle.af_role.proofs.MaskLemmas.{has_at-get, joined_next}
use Rattle.af_role.proofs.kind_mask.KindMask.add_all.Goals as goal

pub loop-place-preserved : goal.loop-place-preserved
loop-place-preserved c =
    let own = c.loop-place.self.sets
    in let more = c.args.more.now.sets
    in let eight : length more ≡ 8 = search rules
    in let within : c.loop-place.place < 8 = omega (arith, c.loop-place-test.true)
    in let own_within : c.loop-place.place < length own = omega (arith, within, c.loop-place.invariant.eight)
    in record {
      joined =
          joined_next own more c.args.self.now.sets c.loop-place.place c.with_all.result own_within c.loop-place.invariant.joined _ _ c.with_all.ensures
          (λ a. has_at-get more c.loop-place.place _ a (omega (arith, within, eight))) (λ a. has_at-get own c.loop-place.place _ a own_within);
      eight = length-set own c.loop-place.place c.with_all.result ∙ c.loop-place.invariant.eight;
    }
