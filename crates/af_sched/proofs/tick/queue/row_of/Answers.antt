use Rattle.std.proofs.Common.{rules}
use Rattle.std.proofs.lemmas.List.Sorted.{answers_always}
use Rattle.af_runs.proofs.RunLemmas.{stands_from_search, stands_option}
use Rattle.af_sched.proofs.tick.queue.row_of.Goals as goal

-- the closure gives a row's number
pub returns : goal.returns
returns c =
    let facts = c.binary_search_by_key.ensures in
    let by_number = facts.position (λ run. run.number) (answers_always _ _ _ (λ f a r g called. search rules)) in
    rw c.ok.ensures.value (stands_option _ _ _ (stands_from_search _ _ _ c.requires facts.bound by_number))
