use Rattle.std.proofs.Common.{◌∙◌, ℕ, Option, sym, ap, cond, ◌==◌, rules}
use Rattle.std.specs.Prelude.{unwrap_or, nat_eq}
use Rattle.std.specs.HashMap.{get}
use Rattle.af_runs.specs.Chains.{last_of}
use Rattle.af_runs.proofs.ChainLemmas.{AreChains-remove, last-other, last-here, took_found, put_found}
use Rattle.af_runs.proofs.chains.Chains.remove.Goals as goal

pub returns-then-before-eq0-clause-rows : goal.returns-then-before-eq0-clause-rows
returns-then-before-eq0-clause-rows c = λ rows are within here above order.
    AreChains-remove rows c.args.place c.args.number c.args.code within here above order c.args.self.now are c.take_out-before.result c.take_out-before.ensures.value _
    (last-here rows c.args.place c.args.number c.args.code within here above order c.args.self.now are c.take_out-before.result c.take_out-before.ensures.value (record { last = c.swap_remove-last.new.self; earlier = c.take_out-before.new.numbers }) (sym c.last.ensures ∙ c.if-last-number.true)
    (λ q. ap (λ (found : Option ℕ). unwrap_or found 0) (c.swap_remove-last.ensures.updates.0 q) ∙ took_found (c.args.code == q) (get nat_eq c.args.self.now.last q) ∙ ap (λ (n : ℕ). cond (c.args.code == q) n (last_of c.args.self.now q)) (sym c.if-before-eq0.true)))
    c.take_out-before.ensures.items

pub returns-in-Some-clause-rows : goal.returns-in-Some-clause-rows
returns-in-Some-clause-rows c = λ rows are within here above order.
    AreChains-remove rows c.args.place c.args.number c.args.code within here above order c.args.self.now are c.take_out-before.result c.take_out-before.ensures.value _
    (last-here rows c.args.place c.args.number c.args.code within here above order c.args.self.now are c.take_out-before.result c.take_out-before.ensures.value (record { last = c.get_mut.follows.lender c.take_out-before.result; earlier = c.take_out-before.new.numbers }) (sym c.last.ensures ∙ c.if-last-number.true)
    (λ q. ap (λ (found : Option ℕ). unwrap_or found 0) (((c.get_mut.follows.holds c.take_out-before.result).3 (search rules)).0 q) ∙ put_found (c.args.code == q) c.take_out-before.result (get nat_eq c.args.self.now.last q)))
    c.take_out-before.ensures.items

pub returns-else-last-number-clause-rows : goal.returns-else-last-number-clause-rows
returns-else-last-number-clause-rows c = λ rows are within here above order.
    AreChains-remove rows c.args.place c.args.number c.args.code within here above order c.args.self.now are c.take_out-before.result c.take_out-before.ensures.value _
    (last-other rows c.args.place c.args.number c.args.code within here above order c.args.self.now are c.take_out-before.result c.take_out-before.ensures.value (λ same. c.if-last-number.false (c.last.ensures ∙ same)))
    c.take_out-before.ensures.items
