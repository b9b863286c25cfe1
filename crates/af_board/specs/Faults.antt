-- What each error of a board says. This product's own rule.
use Rattle.std.specs.Prelude.{◌≡◌, ℕ, ◌+◌, ◌<◌, List, true, length, IsOk, Option, Some, None, Err}
use Rattle.af_policy.specs.Versions.{decided, decided_wants}
use Rattle.af_policy.specs.declared.ask.Ask.{Ask}
use Rattle.af_policy.specs.declared.refusal.Refusal as refusal
use Rattle.af_policy.specs.declared.refusal.Refusal.TheVariants as fault
use Rattle.af_word.specs.Places.{Sight}
use Rattle.af_board.specs.Drafted.{Drafted}
use Rattle.af_board.specs.Drafts.{FullBy}
use Rattle.af_board.specs.Marks.{Site, Marked, IsLast, policy_of}
use Rattle.af_board.specs.declared.submit_fault.SubmitFault.{SubmitFault}
use Rattle.af_board.specs.declared.submit_fault.SubmitFault.TheVariants.{NotFound, Unauthenticated, Denied, BadBody, Refused, Full, OutOfMemory, Moved}

-- under the last version that a pass has now seen, which this mark names, the decision on what was asked is this refusal
abbrev pub RefusedUnder : Site → Option (List ℕ) → Ask → Sight → Marked → refusal.Refusal → Type 0
RefusedUnder site token ask pass m why = IsLast site pass m × (decided (policy_of site m) token ask ≡ Err why)

-- why there is no draft of what was asked; the pass is as the call leaves it
abbrev pub Explains : Site → Option (List ℕ) → Ask → Sight → SubmitFault → Type 0
Explains site token ask pass NotFound = 1 < length pass.places
Explains site token ask pass (Unauthenticated m) = RefusedUnder site token ask pass m fault.Unauthenticated
Explains site token ask pass (Denied m need) = RefusedUnder site token ask pass m (fault.Denied need)
Explains site token ask pass (BadBody m input) = RefusedUnder site token ask pass m (fault.BadBody input)
Explains site token ask pass (Refused m why) = RefusedUnder site token ask pass m (fault.Refused why)
Explains site token ask pass (Full m spent) = IsLast site pass m × IsOk (decided (policy_of site m) token ask) × FullBy site m spent
Explains site token ask pass (OutOfMemory m) = IsLast site pass m × (decided_wants (policy_of site m) token ask ≡ true)
Explains site token ask pass (Moved version) = ⊥

-- why a draft was not published: a version later than its base is the last one that the pass has now seen
abbrev pub MovedPast : Drafted → Sight → SubmitFault → Type 0
MovedPast d pass NotFound = ⊥
MovedPast d pass (Unauthenticated m) = ⊥
MovedPast d pass (Denied m need) = ⊥
MovedPast d pass (BadBody m input) = ⊥
MovedPast d pass (Refused m why) = ⊥
MovedPast d pass (Full m spent) = ⊥
MovedPast d pass (OutOfMemory m) = ⊥
MovedPast d pass (Moved version) = (d.base.version < version) × (length pass.places ≡ version + 1)

-- why what was submitted made no version: why there is no draft; or a version later than all that the pass had seen before is the last one
-- that it has now seen
abbrev pub MovedOr : Site → Option (List ℕ) → Ask → Sight → Sight → SubmitFault → Type 0
MovedOr site token ask before pass NotFound = 1 < length pass.places
MovedOr site token ask before pass (Unauthenticated m) = RefusedUnder site token ask pass m fault.Unauthenticated
MovedOr site token ask before pass (Denied m need) = RefusedUnder site token ask pass m (fault.Denied need)
MovedOr site token ask before pass (BadBody m input) = RefusedUnder site token ask pass m (fault.BadBody input)
MovedOr site token ask before pass (Refused m why) = RefusedUnder site token ask pass m (fault.Refused why)
MovedOr site token ask before pass (Full m spent) = IsLast site pass m × IsOk (decided (policy_of site m) token ask) × FullBy site m spent
MovedOr site token ask before pass (OutOfMemory m) = IsLast site pass m × (decided_wants (policy_of site m) token ask ≡ true)
MovedOr site token ask before pass (Moved version) = (length before.places < length pass.places) × (length pass.places ≡ version + 1)

-- how many looks and exchanges a failed submission took: a draft looks once, and publishing takes one more
abbrev pub steps_of : SubmitFault → ℕ
steps_of NotFound = 1
steps_of (Unauthenticated m) = 1
steps_of (Denied m need) = 1
steps_of (BadBody m input) = 1
steps_of (Refused m why) = 1
steps_of (Full m spent) = 1
steps_of (OutOfMemory m) = 1
steps_of (Moved version) = 2

-- an error without its mark
abbrev pub plain : SubmitFault → refusal.Refusal
plain NotFound = fault.NotFound
plain (Unauthenticated m) = fault.Unauthenticated
plain (Denied m need) = fault.Denied need
plain (BadBody m input) = fault.BadBody input
plain (Refused m why) = fault.Refused why
plain (Full m spent) = fault.Full
plain (OutOfMemory m) = fault.OutOfMemory
plain (Moved version) = fault.Moved version

-- the mark of an error: the version under which the change was decided
abbrev pub mark_of : SubmitFault → Option Marked
mark_of NotFound = None
mark_of (Unauthenticated m) = Some m
mark_of (Denied m need) = Some m
mark_of (BadBody m input) = Some m
mark_of (Refused m why) = Some m
mark_of (Full m spent) = Some m
mark_of (OutOfMemory m) = Some m
mark_of (Moved version) = None
