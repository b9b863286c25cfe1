use Rattle.std.proofs.Common.{◌∙◌, sym, ap, subst, arith, true≢false}
use Rattle.sqlite_store.specs.FileStore.{view}
use Rattle.sqlite_trees.specs.View.{IsClean}
use Rattle.sqlite_wal.specs.Files.{seen_image}
use Rattle.af_journal.specs.Files.{Holds}
use Rattle.af_journal.specs.Lines.{entries_of}
use Rattle.af_journal.proofs.FileLemmas.{open_clean, ready_fresh, holds}
use Rattle.af_journal.proofs.ShownLemmas.{both_ok, err_then}
use Rattle.af_journal.proofs.opening.open.Goals as goal

pub over-requires : goal.over-requires
over-requires g c = record { fresh = ready_fresh c.in-Ok.store c.in-Ok.ensures.ready }

pub returns-clause-opened : goal.returns-clause-opened
returns-clause-opened g c = both_ok c.settle.result (λ r opened goes_on honest.
    let read = goes_on.honest honest in
    let was : IsClean (view c.in-Ok.store) = omega (arith, c.in-Ok-over.ensures.quiet.clean, read) in
    opened (c.in-Ok-over.ensures.still read ∙ c.in-Ok.ensures.ready.is_open was) honest) c.settle.ensures.opened c.settle.ensures.goes_on

pub returns-clause-lines : goal.returns-clause-lines
returns-clause-lines g c = both_ok c.settle.result (λ r same lines is_open.
    let now = same is_open in now.1 ∙ c.in-Ok-over.ensures.lines now.0 ∙ ap (λ v. entries_of v.items) (sym lines)) c.settle.ensures.same c.settle.ensures.lines

pub returns-clause-found : goal.returns-clause-found
returns-clause-found g c = both_ok c.settle.result (λ r same _ is_open.
    let now = same is_open in
    let read = c.in-Ok-over.opened.0.store in
    let was : IsClean (view c.in-Ok.store) = omega (arith, c.in-Ok-over.ensures.quiet.clean, open_clean read (sym c.in-Ok-over.ensures.open ∙ now.0)) in
    subst (Holds (seen_image g.D.Disk c.args.files.log c.args.files.db)) (sym now.1) (holds _ _ _ (c.in-Ok.ensures.found was) (c.in-Ok-over.ensures.held now.0))) c.settle.ensures.same c.settle.ensures.same

pub returns-clause-sound : goal.returns-clause-sound
returns-clause-sound g c = both_ok c.settle.result (λ r same _ is_open.
    let now = same is_open in
    let read = c.in-Ok-over.opened.0.store in
    let was : IsClean (view c.in-Ok.store) = omega (arith, c.in-Ok-over.ensures.quiet.clean, open_clean read (sym c.in-Ok-over.ensures.open ∙ now.0)) in
    c.in-Ok.ensures.sound was) c.settle.ensures.same c.settle.ensures.same

pub returns-clause-shielded : goal.returns-clause-shielded
returns-clause-shielded g c = both_ok c.settle.result (λ r same goes_on is_open.
    let now = same is_open in
    let read = c.in-Ok-over.opened.0.store in
    let was : IsClean (view c.in-Ok.store) = omega (arith, c.in-Ok-over.ensures.quiet.clean, open_clean read (sym c.in-Ok-over.ensures.open ∙ now.0)) in
    goes_on.shield (c.in-Ok-over.ensures.quiet.shield (c.in-Ok.ensures.shielded was))) c.settle.ensures.same c.settle.ensures.goes_on

pub returns-clause-spared : goal.returns-clause-spared
returns-clause-spared g c = err_then c.settle.result (λ e late looks. absurd (true≢false (sym looks ∙ late))) c.settle.ensures.late
