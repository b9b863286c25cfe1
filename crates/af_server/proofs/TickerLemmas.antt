-- What a ticker's tries and rounds come to.
use Rattle.std.proofs.Common.{◌≡◌, ◌∙◌, refl, ap, subst, ℕ, suc, List, [], ◌∷◌, ◌++◌, Bool, false}
use Rattle.std.specs.declared.time.Duration.{Duration}
use Rattle.af_sched.specs.Scripts.{ScriptRow}
use Rattle.af_plane.specs.declared.session_log.SessionLog.{SessionLog}
use Rattle.af_plane.specs.Names.{Name}
use Rattle.af_plane.specs.Visits.{SessionRows}
use Rattle.af_server.specs.declared.stop_wait.StopWait.{StopWait}
use Rattle.af_server.specs.Rounds.{AreRounds, HasTried, HasTriedAll, IsRound, IsWait}

module _ (tells : ℕ → Type 0) (name : Name) where
  -- one try more
  pub tries_on : (scripts scripts' : List ScriptRow) (was mid now : SessionRows) → scripts' ≡ scripts → (tries : ℕ) × HasTriedAll tells name scripts tries was mid → HasTried tells name scripts' mid now → (tries : ℕ) × HasTriedAll tells name scripts tries was now
  tries_on scripts scripts' was mid now same so_far it =
      (suc so_far.0, (mid, (so_far.1, subst (λ (s : List ScriptRow). HasTried tells name s mid now) same it)))

  -- one round more, after a wait that came to its end
  pub rounds_on : (scripts scripts' : List ScriptRow) (workers : ℕ) (period : Duration) (waits : List (StopWait × SessionLog)) (was mid now : SessionRows) (wait : StopWait × SessionLog) → scripts' ≡ scripts → AreRounds tells name scripts workers period waits was mid → IsWait workers period false mid wait → IsRound tells name scripts' mid now → AreRounds tells name scripts workers period (waits ++ wait ∷ []) was now
  rounds_on scripts scripts' workers period [] was mid now wait same so_far waited it = (
    subst (λ (s : SessionRows). IsWait workers period false s wait) so_far waited,
    (now, (subst (λ (s : SessionRows). IsRound tells name scripts s now) so_far (subst (λ (s : List ScriptRow). IsRound tells name s mid now) same it), refl)),
  )
  rounds_on scripts scripts' workers period (w ∷ waits) was mid now wait same so_far waited it =
      (so_far.0, (so_far.1.0, (so_far.1.1.0, rounds_on scripts scripts' workers period waits so_far.1.0 mid now wait same so_far.1.1.1 waited it)))

-- a wait by its members
pub wait_is : (wait : StopWait) (workers : ℕ) (time : Duration) (told : Bool) → wait.workers ≡ workers → wait.time ≡ time → wait.told ≡ told → wait ≡ record { workers = workers; time = time; told = told }
wait_is wait workers time told is_workers is_time is_told =
    ap (λ (w : ℕ). record { workers = w; time = wait.time; told = wait.told }) is_workers
    ∙ (ap (λ (t : Duration). record { workers = workers; time = t; told = wait.told }) is_time ∙ ap (λ (b : Bool). record { workers = workers; time = time; told = b }) is_told)
