use Rattle.std.proofs.Common.{◌≡◌, ◌+◌, Some, cond, ap, ◌∙◌, unwrap_or, arith, rules}
use Rattle.std.specs.Ordering.{nat_cmp}
use Rattle.std.specs.Cmp.Lexicographic.{slice_cmp}
use Rattle.std.specs.BTreeMap.{get, is_at}
use Rattle.af_policy.specs.Uses.{count_in}
use Rattle.af_policy.proofs.UseLemmas.{counted_in, uncounted}
use Rattle.af_policy.proofs.mentions.add.Goals as goal

pub returns-in-Some-checked_add : goal.returns-in-Some-checked_add
returns-in-Some-checked_add c other is =
    let stood : c.in-Some.count.now ≡ count_in c.args.counts.now c.args.name.now = ap (λ o. unwrap_or o 0) c.in-Some.ensures.value
    in let more : c.in-Some-checked_add.more ≡ count_in c.args.counts.now c.args.name.now + 1 = omega (arith, stood, c.in-Some-checked_add.ensures)
    in counted_in c.args.counts.now (c.get_mut.follows.lender c.in-Some-checked_add.more) c.args.name.now other c.in-Some-checked_add.more
    ((c.get_mut.follows.holds c.in-Some-checked_add.more).3 (search rules)).0 more

pub returns-in_ok-insert-in-None : goal.returns-in_ok-insert-in-None
returns-in_ok-insert-in-None c other is =
    let none : 0 ≡ count_in c.args.counts.now c.args.name.now = ap (λ o. unwrap_or o 0) c.in-None.ensures.value
    in counted_in c.args.counts.now c.insert.new.self c.args.name.now other 1
    (λ q. c.in_ok-insert-in-None.ensures.updates.0 q
    ∙ (λ i. cond (is_at (slice_cmp nat_cmp (c.in_ok-copied-in-None.ensures i)) q) (Some 1) (get (slice_cmp nat_cmp) (c.get_mut.follows.holds-at-none i) q)))
    (omega (arith, none))

pub returns-then-not-is_counted : goal.returns-then-not-is_counted
returns-then-not-is_counted c other is = uncounted (count_in c.args.counts.now other + 1) (count_in c.args.counts.now other) c.args.name.now other c.if-not-is_counted.ensures is
