use Rattle.std.proofs.Common.{arith, sym, ap, ◌∙◌}
use Rattle.af_word.specs.Places.{Sight, WordId}
use Rattle.af_word.proofs.StepLemmas.{looks}
use Rattle.af_word.proofs.word.VersionWord.look.Goals as goal

pub load-found-requires : goal.load-found-requires
load-found-requires c = (
  ap (λ (p : Sight). p.word.table) c.pass.view_is ∙ (ap (λ (w : WordId). w.table) c.requires ∙ sym (ap (λ (w : WordId). w.table) c.self.view_is)),
  omega (arith, c.self.invariant.0),
  looks _ _ _ _ _ (omega (arith, c.pass.invariant.3.last)),
)
