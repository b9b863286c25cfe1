use Rattle.std.proofs.Common.{[], ◌∷◌, ap, ◌∙◌}
use Rattle.std.specs.Slice.Scan.{big_endian}
use Rattle.af_policy.proofs.FrontLemmas.{eight, eight_padded}
use Rattle.af_policy.proofs.shared.fronts.front.Goals as goal

pub returns : goal.returns
returns c =
    c.from_be_bytes.ensures
    ∙ eight c.byte_at.result c.byte_at-2.result c.byte_at-3.result c.byte_at-4.result c.byte_at-5.result c.byte_at-6.result c.byte_at-7.result c.byte_at-8.result
    ∙ (λ i. big_endian 0
    (c.byte_at.ensures i ∷ c.byte_at-2.ensures i ∷ c.byte_at-3.ensures i ∷ c.byte_at-4.ensures i ∷ c.byte_at-5.ensures i ∷ c.byte_at-6.ensures i ∷ c.byte_at-7.ensures i ∷ c.byte_at-8.ensures i ∷ []))
    ∙ ap (big_endian 0) (eight_padded c.args.bytes.now)
