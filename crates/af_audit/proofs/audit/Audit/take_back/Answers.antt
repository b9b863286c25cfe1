use Rattle.std.proofs.Common.{◌≡◌, ◌∙◌, ◌-◌, ◌≤◌, length, rules}
use Rattle.af_audit.specs.Entries.{AuditRows}
use Rattle.af_audit.proofs.EntryLemmas.{audit_back, audit_front}
use Rattle.af_audit.proofs.audit.Audit.take_back.Goals as goal

pub invariant_of-self : goal.invariant_of-self
invariant_of-self c =
    let old : AuditRows = record { entries = c.self.inside.entries.items; limit = c.self.inside.limit } in
    let within : c.saturating_sub.result ≤ length c.self.inside.entries.items = search rules in
    rw c.truncate.ensures.items (audit_front old c.saturating_sub.result within c.self.invariant)

pub returns : goal.returns
returns c audit entry is =
    let old : AuditRows = record { entries = c.self.inside.entries.items; limit = c.self.inside.limit } in
    let count : c.saturating_sub.result ≡ length c.self.inside.entries.items - 1 = search rules in
    rw (c.truncate.ensures.items, count) (audit_back old audit entry (c.self.view_is ∙ is))
