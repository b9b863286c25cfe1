use Rattle.std.proofs.Common.{rules}
use Rattle.std.specs.Ordering.{is_lt}
use Rattle.std.proofs.lemmas.Fn.{always_returns_same}
use Rattle.std.proofs.lemmas.List.MinMax.{ranks_by}
use Rattle.af_sched.specs.Choosing.{pooled_cmp}
use Rattle.af_sched.proofs.PooledLemmas.{pooled_order}
use Rattle.af_sched.proofs.tick.queue.sort_pooled.Goals as goal

-- the closure gives how one stands to the other
pub returns-clause-sorted : goal.returns-clause-sorted
returns-clause-sorted c =
    c.sort_unstable_by.ensures.sorted (λ one other. is_lt (pooled_cmp one other)) (ranks_by pooled_order (λ placed. placed)) (always_returns_same _ _ _ (λ a r f' called. search rules))
