-- Runs: lists of steps with their answers, and what each session is told in them (this product's own rule).
use Rattle.std.specs.Prelude.{◌≡◌, ℕ, List, [], ◌∷◌, ◌++◌, Option, Some, None, option_to_list, if◌then◌else◌}
use Rattle.af_ops.specs.declared.shown_answer.Shown.{Shown}
use Rattle.af_audit.specs.Acts.{IsState}
use Rattle.af_world.specs.declared.step.Step.{Step}
use Rattle.af_world.specs.declared.step.Step.TheVariants as step
use Rattle.af_world.specs.Moving.{move_of}
use Rattle.af_world.specs.Steps.{Moves}
use Rattle.af_world.specs.Worlds.{OpeningRows, World, is_held, opening_world}

-- the steps lead from one world to another, and give these answers; in each world the rows of the state are as they are at all times
abbrev pub IsRun : World → List Step → List (Option Shown) → World → Type 0
IsRun w [] [] last = last ≡ w
IsRun w [] (answer ∷ answers) last = ⊥
IsRun w (s ∷ steps) [] last = ⊥
IsRun w (s ∷ steps) (answer ∷ answers) last =
    (next : World) × IsState next.ledger.state × Moves w s (move_of answer next) × IsRun next steps answers last

-- these are the answers of these steps
abbrev pub AreAnswers : World → List Step → List (Option Shown) → Type 0
AreAnswers w steps answers = (last : World) × IsRun w steps answers last

-- a run of a world that opens so
abbrev pub Reaches : OpeningRows → List Step → List (Option Shown) → World → Type 0
Reaches opening steps answers last = IsState opening.state × IsRun (opening_world opening) steps answers last

-- ---- what sessions are told

abbrev pub session_of : Step → Option ℕ
session_of (step.Look session) = Some session
session_of (step.Act session token asked t) = Some session
session_of (step.Me session token asked) = Some session
session_of (step.Publish session at token asked) = Some session
session_of (step.Tick t) = None
session_of (step.Claim t) = None
session_of (step.Report it t) = None

-- the version that the answer to a step tells a session, if the step is its own, and the answer names one
abbrev pub told_by : ℕ → Step → Option Shown → List ℕ
told_by session s None = []
told_by session s (Some shown) = if is_held (session_of s) session then option_to_list shown.version else []

-- the versions that a session is told, one after the other
abbrev pub told : ℕ → List Step → List (Option Shown) → List ℕ
told session [] answers = []
told session (s ∷ steps) [] = []
told session (s ∷ steps) (answer ∷ answers) = told_by session s answer ++ told session steps answers
