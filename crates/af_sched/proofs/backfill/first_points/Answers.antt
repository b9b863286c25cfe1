use Rattle.std.proofs.Common.{◌≡◌, ◌∙◌, ◌+◌, ◌-◌, ◌++◌, ◌∷◌, [], sym, ap, arith, suc, List, ℕ, take, append_assoc}
use Rattle.std.proofs.lemmas.List.{append-nil}
use Rattle.std.proofs.Math.Seq.{take-nil}
use Rattle.af_graph.specs.Schedules.{is_scheduled}
use Rattle.af_sched.specs.Backfills.{points_within}
use Rattle.af_sched.proofs.backfill.first_points.Goals as goal

pub loop-turn-preserved : goal.loop-turn-preserved
loop-turn-preserved c =
    let n : ℕ = c.args.most - (c.loop-turn.turn + 1) in
    let more : suc n ≡ c.args.most - c.loop-turn.turn = omega arith in
    let rest : List ℕ = points_within (is_scheduled c.args.schedule.now) c.in-Some.interval.end c.args.last in
    ap (λ (xs : List ℕ). xs ++ take n rest) c.in_ok-push.ensures.items
    ∙ append_assoc c.loop-turn.points.items (c.in-Some.interval.start ∷ []) (take n rest)
    ∙ ap (λ (xs : List ℕ). c.loop-turn.points.items ++ take (suc n) xs) (sym c.in-Some.ensures.0)
    ∙ (λ i. c.loop-turn.points.items ++ take (more i) (points_within (is_scheduled c.args.schedule.now) c.loop-turn.from c.args.last))
    ∙ c.loop-turn.invariant

pub returns-in_default : goal.returns-in_default
returns-in_default c =
    let n : ℕ = c.args.most - c.loop-turn.turn in
    let none : points_within (is_scheduled c.args.schedule.now) c.loop-turn.from c.args.last ≡ [] = c.in_default.ensures in
    sym (append-nil c.loop-turn.points.items)
    ∙ ap (λ (xs : List ℕ). c.loop-turn.points.items ++ xs) (sym (take-nil n) ∙ ap (take n) (sym none))
    ∙ c.loop-turn.invariant

pub returns : goal.returns
returns c =
    let none : c.args.most - c.loop-turn.turn ≡ 0 = omega arith in
    sym (append-nil c.loop-turn.points.items)
    ∙ (λ i. c.loop-turn.points.items ++ take (sym none i) (points_within (is_scheduled c.args.schedule.now) c.loop-turn.from c.args.last))
    ∙ c.loop-turn.invariant
