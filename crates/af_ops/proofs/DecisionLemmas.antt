-- What is decided of an operation that is permitted.
use Rattle.std.proofs.Common.{◌≡◌, ◌∙◌, ◌⊎◌, inl, inr, ℕ, Bool, true, false, List, refl, ap, sym, subst}
use Rattle.std.specs.Prelude.{Option, Some, None, Result, Ok, Err, IsOk, is_some, nat_lt, if◌then◌else◌}
use Rattle.af_sched.specs.State.{StateRows}
use Rattle.af_policy.specs.Grants.{Readable}
use Rattle.af_ops.specs.declared.answer.CallFault.{CallFault}
use Rattle.af_ops.specs.declared.answer.CallFault.TheVariants as why
use Rattle.af_ops.specs.declared.answer.OpFault.{OpFault}
use Rattle.af_ops.specs.declared.answer.OpFault.TheVariants.{HistoryFull, OutOfMemory}
use Rattle.af_ops.specs.declared.answer.Under.{Under}
use Rattle.af_ops.specs.declared.method.Method.{Method}
use Rattle.af_ops.specs.declared.method.Method.TheVariants.{Get, Post, Patch, Delete}
use Rattle.af_ops.specs.declared.op.Op.{Op}
use Rattle.af_ops.specs.declared.served.Served.{Served}
use Rattle.af_ops.specs.declared.served.Served.TheVariants as served
use Rattle.af_ops.specs.Decisions.{ChangesWhereDone, IsDecided, IsDoing, chooses, fault_verdict}
use Rattle.af_ops.specs.Effects.{Effect, effect_of}
use Rattle.af_ops.specs.Endpoints.{endpoint_of}
use Rattle.af_ops.specs.Methods.{same_method}
use Rattle.af_ops.specs.Prepared.{MemoryLast, Preparation, done_on}
use Rattle.af_ops.specs.Served.{IsServed}
use Rattle.af_ops.specs.Standings.{StandingRows}
use Rattle.af_ops.specs.Table.{reads_only, route_of}
use Rattle.af_ops.specs.Verdicts.{Verdict, Changes, Refuses, Tells, done, opened, recorded}
use Rattle.af_ops.proofs.ReadingLemmas.{readings_keep}

-- what is said of an operation that is not refused, where memory is wanted for it, or that it is refused
module _ (asked : Op) (limit : ℕ) (under : Under) (state : StateRows) where
  -- its own fault, which is not out of memory
  pub own_fault : (effect : Result Effect OpFault) (fault : OpFault) → (fault ≡ OutOfMemory → ⊥) → MemoryLast OutOfMemory effect (Err fault) → IsDecided asked state (done limit under effect) (Err (why.Op fault))
  own_fault effect fault other (inl is) = inl (ap (done limit under) is)
  own_fault effect fault other (inr wants) = absurd (other wants.1)

  with_room : (reply : Option (List ℕ)) (next : Option StateRows) → nat_lt under.seq limit ≡ true → IsDoing asked (recorded limit under reply next)
  with_room reply None room = tt
  with_room reply (Some next) room = rw room tt

  room_doing : (effect : Result Effect OpFault) → IsOk effect → nat_lt under.seq limit ≡ true → IsDoing asked (done limit under effect)
  room_doing (Ok it) ok room = with_room it.reply it.next room
  room_doing (Err fault) ok room = cc

  -- there is room for one more entry
  pub room_wanted : (effect : Result Effect OpFault) (fault : OpFault) → nat_lt under.seq limit ≡ true → MemoryLast OutOfMemory effect (Err fault) → IsDecided asked state (done limit under effect) (Err (why.Op fault))
  room_wanted effect fault room (inl is) = inl (ap (done limit under) is)
  room_wanted effect fault room (inr wants) = inr (room_doing effect wants.0 room, ap (λ (f : OpFault). why.Op f) wants.1)

  kept_doing : (reply : Option (List ℕ)) (next : Option StateRows) → is_some next ≡ false → IsDoing asked (recorded limit under reply next)
  kept_doing reply None none = tt
  kept_doing reply (Some next) none = cc

  reading_doing : (effect : Result Effect OpFault) → IsOk effect → ChangesWhereDone effect false → IsDoing asked (done limit under effect)
  reading_doing (Ok it) ok keeps = kept_doing it.reply it.next keeps
  reading_doing (Err fault) ok keeps = cc

  -- it leaves the state
  pub kept_wanted : (effect : Result Effect OpFault) (fault : OpFault) → ChangesWhereDone effect false → MemoryLast OutOfMemory effect (Err fault) → IsDecided asked state (done limit under effect) (Err (why.Op fault))
  kept_wanted effect fault keeps (inl is) = inl (ap (done limit under) is)
  kept_wanted effect fault keeps (inr wants) = inr (reading_doing effect wants.0 keeps, ap (λ (f : OpFault). why.Op f) wants.1)

  chosen_by : (b : Bool) (reply : Option (List ℕ)) (next : StateRows) → chooses asked ≡ true → IsDoing asked (if b then Changes reply next else Refuses HistoryFull)
  chosen_by true reply next is = tt
  chosen_by false reply next is = (refl, is)

  chosen_next : (reply : Option (List ℕ)) (next : Option StateRows) → chooses asked ≡ true → IsDoing asked (recorded limit under reply next)
  chosen_next reply None is = tt
  chosen_next reply (Some next) is = chosen_by (nat_lt under.seq limit) reply next is

  chosen_doing : (effect : Result Effect OpFault) → IsOk effect → chooses asked ≡ true → IsDoing asked (done limit under effect)
  chosen_doing (Ok it) ok is = chosen_next it.reply it.next is
  chosen_doing (Err fault) ok is = cc

  -- it chooses instances
  pub chosen_wanted : (effect : Result Effect OpFault) (fault : OpFault) → chooses asked ≡ true → MemoryLast OutOfMemory effect (Err fault) → IsDecided asked state (done limit under effect) (Err (why.Op fault))
  chosen_wanted effect fault is (inl told) = inl (ap (done limit under) told)
  chosen_wanted effect fault is (inr wants) = inr (chosen_doing effect wants.0 is, ap (λ (f : OpFault). why.Op f) wants.1)

  full_next : (reply : Option (List ℕ)) (next : Option StateRows) → nat_lt under.seq limit ≡ false → is_some next ≡ true → recorded limit under reply next ≡ Refuses HistoryFull
  full_next reply None full changes = cc
  full_next reply (Some next) full changes = rw full refl

  full_done : (effect : Result Effect OpFault) → nat_lt under.seq limit ≡ false → ChangesWhereDone effect true → IsOk effect → done limit under effect ≡ Refuses HistoryFull
  full_done (Ok it) full changes ok = full_next it.reply it.next full changes
  full_done (Err fault) full changes ok = cc

  -- it changes the state, and there is no room for its entry
  pub full_wanted : (effect : Result Effect OpFault) (fault : OpFault) → nat_lt under.seq limit ≡ false → fault ≡ OutOfMemory → ChangesWhereDone effect true → MemoryLast OutOfMemory effect (Err fault) → IsDecided asked state (done limit under effect) (Err (why.Op HistoryFull))
  full_wanted effect fault full want changes (inl is) =
      let unread : fault ≡ OutOfMemory → true ≡ false = subst (λ (e : Result Effect OpFault). ChangesWhereDone e true) is changes in
      cc (unread want)
  full_wanted effect fault full want changes (inr wants) = inl (full_done effect full changes wants.0)

  -- memory is wanted, and there is no room for one more entry
  pub none_wanted : (changes : Bool) (effect : Result Effect OpFault) (fault : OpFault) → nat_lt under.seq limit ≡ false → fault ≡ OutOfMemory → ChangesWhereDone effect changes → MemoryLast OutOfMemory effect (Err fault) → IsDecided asked state (done limit under effect) (Err (why.Op (if changes then HistoryFull else fault)))
  none_wanted true effect fault full want changes told = full_wanted effect fault full want changes told
  none_wanted false effect fault full want changes told = kept_wanted effect fault changes told

-- ---- an operation that only reads

gets : (method : Method) → same_method method Get ≡ true → method ≡ Get
gets Get is = refl
gets Post is = cc
gets Patch is = cc
gets Delete is = cc

stays : (effect : Result Effect OpFault) → ((it : Effect) → effect ≡ Ok it → it.next ≡ None) → ChangesWhereDone effect false
stays (Ok it) keeps = ap (λ (next : Option StateRows). is_some next) (keeps it refl)
stays (Err fault) keeps = λ want. refl

module _ (reads : Readable) (state : StateRows) (asked : Op) (now : ℕ) (reading : reads_only (endpoint_of asked) ≡ true) (limit : ℕ) (under : Under) where
  keeps : (it : Effect) → effect_of reads state asked now ≡ Ok it → it.next ≡ None
  keeps it is = readings_keep reads state asked now it (gets (route_of (endpoint_of asked)).method reading) is

  -- its reply is told
  pub read_told : (prepared : Preparation) → effect_of reads state asked now ≡ Ok (done_on state prepared) → done limit under (effect_of reads state asked now) ≡ Tells prepared.reply
  read_told prepared is =
      ap (done limit under) is ∙ ap (recorded limit under prepared.reply) (keeps (done_on state prepared) is)

  -- its fault, or no memory for it
  pub read_wanted : (fault : OpFault) → MemoryLast OutOfMemory (effect_of reads state asked now) (Err fault) → IsDecided asked state (done limit under (effect_of reads state asked now)) (Err (why.Op fault))
  read_wanted fault told =
      kept_wanted asked limit under state (effect_of reads state asked now) fault (stays (effect_of reads state asked now) keeps) told

none_some : {X : Type 0} {x : X} → None ≡ Some x → ⊥
none_some same = cc

-- out of memory may be served of each verdict
pub without_memory : (asked : Op) (it : Verdict) (old : StandingRows) (gave : Served) (new : StandingRows) → IsServed asked (Refuses OutOfMemory) old gave new → IsServed asked it old gave new
without_memory asked it old (served.Shown shown) new is = absurd (none_some is.0)
without_memory asked it old served.NothingDone new is = is

-- what is served of a fault is served of its verdict
pub served_fault : (asked : Op) (it : Verdict) (old : StandingRows) (fault : CallFault) (gave : Served) → (it ≡ fault_verdict fault) ⊎ (IsDoing asked it × (fault ≡ why.Op OutOfMemory)) → IsServed asked (fault_verdict fault) old gave old → IsServed asked it old gave old
served_fault asked it old fault gave (inl is) was = subst (λ (v : Verdict). IsServed asked v old gave old) (sym is) was
served_fault asked it old fault gave (inr wants) was =
    without_memory asked it old gave old (subst (λ (f : CallFault). IsServed asked (fault_verdict f) old gave old) wants.1 was)

pub served_openly : (asked : Op) (effect : Result Effect OpFault) (old : StandingRows) (fault : OpFault) (gave : Served) → (effect ≡ Err fault) ⊎ (IsOk effect × (fault ≡ OutOfMemory)) → IsServed asked (fault_verdict (why.Op fault)) old gave old → IsServed asked (opened effect) old gave old
served_openly asked effect old fault gave (inl is) was = subst (λ (e : Result Effect OpFault). IsServed asked (opened e) old gave old) (sym is) was
served_openly asked effect old fault gave (inr wants) was =
    without_memory asked (opened effect) old gave old (subst (λ (f : OpFault). IsServed asked (Refuses f) old gave old) wants.1 was)
