use Rattle.std.proofs.Common.{◌≡◌, ◌∙◌, ◌+◌, ◌-◌, ◌++◌, ◌∷◌, [], sym, ap, arith, suc, List, ℕ, take, append_assoc}
use Rattle.af_graph.specs.Schedules.{is_scheduled}
use Rattle.af_sched.specs.Due.{due_from}
use Rattle.af_sched.proofs.tick.due.first_points.Goals as goal

pub loop-turn-preserved : goal.loop-turn-preserved
loop-turn-preserved c =
    let n : ℕ = 16 - (c.loop-turn.turn + 1) in
    let more : suc n ≡ 16 - c.loop-turn.turn = omega arith in
    let rest : List ℕ = due_from (is_scheduled c.args.schedule.now) c.in-Some.interval.end c.args.at in
    ap (λ (xs : List ℕ). xs ++ take n rest) c.in_ok-push.ensures.items
    ∙ append_assoc c.loop-turn.points.items (c.in-Some.interval.start ∷ []) (take n rest)
    ∙ ap (λ (xs : List ℕ). c.loop-turn.points.items ++ take (suc n) xs) (sym c.in-Some.ensures.due)
    ∙ (λ i. c.loop-turn.points.items ++ take (more i) (due_from (is_scheduled c.args.schedule.now) c.loop-turn.from c.args.at))
    ∙ c.loop-turn.invariant
