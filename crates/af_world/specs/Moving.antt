-- What a step answers and leaves, and looks at the latest version (this product's own rule).
use Rattle.std.specs.Prelude.{ℕ, Option, Some, None, if◌then◌else◌}
use Rattle.af_ops.specs.declared.shown_answer.Shown.{Shown}
use Rattle.af_world.specs.Worlds.{World, frees, has_session, last_version, sees}

-- what a step answers, if anything, and the world that it leaves
pub record Move : Type 0 where
  pub answer : Option Shown
  pub next : World

abbrev pub move_of : Option Shown → World → Move
move_of answer next = record { answer = answer; next = next }

-- a step that does not fit changes nothing and answers nothing
abbrev pub stays : World → Move
stays w = move_of None w

-- a session is told this under a version, which it has then seen, and its hold ends
abbrev pub tells : World → ℕ → ℕ → Option Shown → Move
tells w session version answer = move_of answer (frees (sees w session version) session)

-- the plane's version and the session's become the latest, and the session holds the plane
abbrev pub looked : World → ℕ → World
looked w session = record (sees w session (last_version w)) {
  ledger = record w.ledger { version = last_version w };
  holder = Some session;
}

-- where there is that session
abbrev pub looking : World → ℕ → Move
looking w session = if has_session w session then move_of None (looked w session) else stays w
