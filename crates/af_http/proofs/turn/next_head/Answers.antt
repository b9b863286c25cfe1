use Rattle.std.proofs.Common.{refl}
use Rattle.af_http.proofs.AwaitLemmas.{not_gathered, gathered_more}
use Rattle.af_http.proofs.turn.next_head.Goals as goal

pub returns-in-Whole-clause-holds : goal.returns-in-Whole-clause-holds
returns-in-Whole-clause-holds g c = not_gathered _ _ _ _ _ c.go_on.ensures.found refl refl c.in-Whole.ensures.same

pub returns-in-Large-clause-holds : goal.returns-in-Large-clause-holds
returns-in-Large-clause-holds g c = not_gathered _ _ _ _ _ c.go_on-in-Large.ensures.found refl refl c.in-Large.ensures.same

pub returns-else-has_failed-clause-holds : goal.returns-else-has_failed-clause-holds
returns-else-has_failed-clause-holds g c =
    gathered_more _ _ c.args.connection.now.incoming c.settle.new.incoming c.gather-found.new.incoming _ _
    c.in-Part.ensures.same c.gather-found.ensures.holds c.gather-found.ensures.took c.gather-found.ensures.few
