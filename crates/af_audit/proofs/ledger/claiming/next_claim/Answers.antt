use Rattle.af_audit.proofs.ClaimedLemmas.{passed}
use Rattle.af_audit.proofs.ledger.claiming.next_claim.Goals as goal

pub returns-in-Err-clause-refused : goal.returns-in-Err-clause-refused
returns-in-Err-clause-refused c =
    passed c.args.state.now.rows c.args.has_room c.passed_over.result (λ none. let e = c.in-Err.ensures.none none in absurd (cc)) c.passed_over.ensures
