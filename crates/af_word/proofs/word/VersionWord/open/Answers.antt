use Rattle.std.proofs.Common.{subst, sym, [], ◌∷◌, ℕ}
use Rattle.af_word.specs.Steps.{Ruled, sight}
use Rattle.af_word.proofs.StepLemmas.{opens}
use Rattle.af_word.proofs.word.VersionWord.open.Goals as goal

pub of_words-requires : goal.of_words-requires
of_words-requires c = subst (λ (n : ℕ). Ruled c.args.index c.args.last (n ∷ []) (sight c.args.index c.args.last (c.args.index ∷ []) [] 0 0 ∷ [])) (sym c.from.ensures) (opens c.args.index c.args.last c.ranges.index.fits)
