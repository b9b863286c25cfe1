use Rattle.std.proofs.Common.{◌∙◌, ap, arith, ◌∷◌, [], ◌++◌}
use Rattle.af_runs.proofs.OkLemmas.{push_ok}
use Rattle.af_runs.proofs.ChainLemmas.{AreChains-push}
use Rattle.af_runs.proofs.chains.Chains.push.Goals as goal

pub returns-clause-rows : goal.returns-clause-rows
returns-clause-rows c = λ rows are.
    AreChains-push rows c.args.number c.args.code c.args.self.now _ c.put-before.ensures.numbers
    (push_ok _ _ _ _ c.push-pushed.ensures.items (c.push-pushed.ensures.succeeds (omega (arith, c.requires.earlier))) ∙ ap (λ n. c.args.self.now.earlier.items ++ n ∷ []) c.put-before.ensures.before)
    are
