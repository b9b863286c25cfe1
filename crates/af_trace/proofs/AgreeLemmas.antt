-- How a trace grows by a step; and where each recorded answer is one that may be given, it agrees where the run of its steps gives them.
use Rattle.std.proofs.Common.{◌≡◌, ◌∙◌, inl, inr, sym, subst, List, Bool}
use Rattle.std.specs.Prelude.{⊤, Option, Some, Result, Ok, Err, IfOk}
use Rattle.af_base.specs.Readings.{Makes, OrMemory}
use Rattle.std.specs.Bool.{Decides}
use Rattle.af_ops.specs.declared.shown_answer.Shown.{Shown}
use Rattle.af_world.specs.declared.step.Step.{Step}
use Rattle.af_world.specs.Runs.{AreAnswers}
use Rattle.af_world.specs.Worlds.{OpeningRows, opening_world}
use Rattle.af_trace.specs.Traces.{AgreeOn, Agrees, TraceRows, read_taken}
use Rattle.af_trace.specs.declared.trace_fault.TraceFault.{TraceFault}
use Rattle.af_trace.specs.declared.trace_fault.TraceFault.TheVariants.{OutOfMemory}

pub agree : {E : Type 0} (opening : OpeningRows) (trace : TraceRows) (steps : List Step) (answers : List (Option Shown)) (result : Result Bool E) → trace.steps ≡ steps → trace.answers ≡ Some answers → IfOk result (λ yes. Decides yes (AreAnswers (opening_world opening) steps answers)) → IfOk result (λ yes. Decides yes (Agrees opening trace))
agree opening trace steps answers result same told is =
    subst (λ (o : Option (List (Option Shown))). IfOk result (λ yes. Decides yes (AgreeOn opening trace.steps o))) (sym told)
    (subst (λ (l : List Step). IfOk result (λ yes. Decides yes (AreAnswers (opening_world opening) l answers))) (sym same) is)

-- what was made of what was read is what is said, or there was no memory
abbrev the_fault : TraceFault → Result TraceRows TraceFault
the_fault fault = Err fault

err_same : {one other : TraceFault} → the_fault one ≡ the_fault other → other ≡ one
err_same same = cc

told_memory : (new : TraceRows) (fault : TraceFault) (result : Result ⊤ TraceFault) (expected : Result TraceRows TraceFault) → fault ≡ OutOfMemory → Makes OutOfMemory (Err fault) new result → Makes OutOfMemory expected new result
told_memory new fault (Ok done) expected memory makes = absurd (cc)
told_memory new fault (Err told) expected memory (inl same) = inr (err_same same ∙ memory)
told_memory new fault (Err told) expected memory (inr wanted) = inr wanted

pub joined : (old new : TraceRows) (answer : Option (Option Shown)) (expected found : Result Step TraceFault) (result : Result ⊤ TraceFault) → OrMemory OutOfMemory expected found → Makes OutOfMemory (read_taken old answer found) new result → Makes OutOfMemory (read_taken old answer expected) new result
joined old new answer expected (Ok it) result is makes =
    subst (λ (r : Result Step TraceFault). Makes OutOfMemory (read_taken old answer r) new result) (sym is) makes
joined old new answer expected (Err fault) result (inl is) makes =
    subst (λ (r : Result Step TraceFault). Makes OutOfMemory (read_taken old answer r) new result) (sym is) makes
joined old new answer expected (Err fault) result (inr memory) makes = told_memory new fault result (read_taken old answer expected) memory makes
