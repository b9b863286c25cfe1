use Rattle.std.proofs.Common.{arith, sym, ap, ◌∙◌}
use Rattle.af_word.specs.Places.{Sight, WordId}
use Rattle.af_word.proofs.StepLemmas.{splits}
use Rattle.af_word.proofs.word.VersionWord.split.Goals as goal

pub split_seat-seat-requires : goal.split_seat-seat-requires
split_seat-seat-requires c = (
  ap (λ (p : Sight). p.word.table) c.pass.view_is ∙ (ap (λ (w : WordId). w.table) c.requires ∙ sym (ap (λ (w : WordId). w.table) c.self.view_is)),
  omega (arith, c.self.invariant.0),
  splits _ _ _ _,
)
