-- What an error of a push says. This product's own rule.
use Rattle.af_board.specs.Marks.{Site}
use Rattle.af_board.specs.Drafts.{IsSpent}
use Rattle.af_board.specs.declared.push_fault.PushFault.{PushFault}
use Rattle.af_board.specs.declared.push_fault.PushFault.TheVariants.{OutOfMemory, Full}

-- where the places are reported as used up, there is evidence of it
abbrev pub IsSpentBy : Site → PushFault → Type 0
IsSpentBy site OutOfMemory = Unit {0}
IsSpentBy site (Full spent) = IsSpent site spent
