use Rattle.std.proofs.Common.{◌∙◌, sym, ap, arith, subst, List, ℕ, ◌∷◌, [], ◌++◌, ◌+◌, ◌-◌, length, take, take_all}
use Rattle.std.proofs.lemmas.List.{append_assoc, append-nil, take_more}
use Rattle.af_runs.specs.Index.{HasRoomFor, IsIndex}
use Rattle.af_runs.specs.declared.run.Run.{Run}
use Rattle.af_runs.proofs.IndexLemmas.{HasRoomFor-less}
use Rattle.af_runs.proofs.index.Index.push_all.Goals as goal

pub loop-run-init : goal.loop-run-init
loop-run-init c = (
  λ runs is. subst (λ (rows : List Run). IsIndex rows c.args.self.now) (sym (append-nil runs)) is,
  λ rows has. subst (λ (n : ℕ). HasRoomFor n c.args.self.now) (omega arith) has,
)

pub push-requires : goal.push-requires
push-requires c =
    let left : ℕ = length c.args.added.now - c.loop-run.run-index in
    HasRoomFor-less left 1 c.loop-run.self (omega (arith, c.loop-run-test.true)) (c.loop-run.invariant.1 left (subst (λ (n : ℕ). HasRoomFor n c.args.self.now) (omega (arith, c.loop-run-test.true)) c.requires))

pub loop-run-preserved : goal.loop-run-preserved
loop-run-preserved c = (
  λ runs is.
      subst (λ (rows : List Run). IsIndex rows c.push.new.self)
      (append_assoc runs (take c.loop-run.run-index c.args.added.now) _ ∙ ap (λ (run : Run). runs ++ (take c.loop-run.run-index c.args.added.now ++ run ∷ [])) c.run-item.is ∙ ap (λ (rows : List Run). runs ++ rows) (sym (take_more c.args.added.now c.loop-run.run-index c.run-item.result c.loop-run-test.true)))
      (c.push.ensures.runs (runs ++ take c.loop-run.run-index c.args.added.now) (c.loop-run.invariant.0 runs is)),
  λ rows has. c.push.ensures.room rows (c.loop-run.invariant.1 (rows + 1) (subst (λ (n : ℕ). HasRoomFor n c.args.self.now) (omega arith) has)),
)

pub returns-clause-runs : goal.returns-clause-runs
returns-clause-runs c = λ runs is. subst (λ (rows : List Run). IsIndex (runs ++ rows) c.loop-run.self) (take_all c.loop-run.run-index c.args.added.now (omega arith)) (c.loop-run.invariant.0 runs is)

pub returns-clause-room : goal.returns-clause-room
returns-clause-room c = λ rows has. c.loop-run.invariant.1 rows (HasRoomFor-less (rows + length c.args.added.now) (rows + c.loop-run.run-index) c.args.self.now (omega arith) has)
