use Rattle.std.proofs.Common.{◌≡◌, ◌∙◌, sym, ap, inl}
use Rattle.sqlite_store.specs.Unopened.{image}
use Rattle.sqlite_wal.specs.Files.{seen_image}
use Rattle.sqlite_wal.specs.Reads.{are_clean}
use Rattle.af_journal.proofs.FileLemmas.{pool_clean, same_image, taken}
use Rattle.af_journal.proofs.ShownLemmas.{both_ok}
use Rattle.af_journal.proofs.opening.open_store.Goals as goal

pub returns-then-is_blank-clause-found : goal.returns-then-is_blank-clause-found
returns-then-is_blank-clause-found g c =
    let fresh = c.in-Ok-unopened.files in
    both_ok c.make.result (λ it empty honest clean.
    let was = sym (pool_clean fresh.pool ∙ ap (λ f. are_clean g.D.Disk f.0 f.1) c.in-Ok-unopened.ensures.files) ∙ honest clean in
    inl (c.in-Ok.ensures.blank was c.if-is_blank.true, empty clean)) c.make.ensures.empty c.make.ensures.honest

pub returns-then-is_blank-clause-sound : goal.returns-then-is_blank-clause-sound
returns-then-is_blank-clause-sound g c =
    let fresh = c.in-Ok-unopened.files in
    both_ok c.make.result (λ it honest _ clean. c.in-Ok.ensures.sound (sym (pool_clean fresh.pool ∙ ap (λ f. are_clean g.D.Disk f.0 f.1) c.in-Ok-unopened.ensures.files) ∙ honest clean)) c.make.ensures.honest c.make.ensures.honest

pub returns-else-is_blank-clause-found : goal.returns-else-is_blank-clause-found
returns-else-is_blank-clause-found g c =
    let fresh = c.in-Ok-unopened.files in
    let seen : image fresh ≡ seen_image g.D.Disk c.args.files.log c.args.files.db =
    ap (λ f. seen_image g.D.Disk f.0 f.1) c.in-Ok-unopened.ensures.files ∙ same_image c.look.ensures.log c.look.ensures.db in
    both_ok c.take.result (λ it found _ clean. taken _ _ _ seen (found clean)) c.take.ensures.found c.take.ensures.found

pub returns-else-is_blank-clause-sound : goal.returns-else-is_blank-clause-sound
returns-else-is_blank-clause-sound g c =
    let fresh = c.in-Ok-unopened.files in
    both_ok c.take.result (λ it honest _ clean. c.in-Ok.ensures.sound (sym (pool_clean fresh.pool ∙ ap (λ f. are_clean g.D.Disk f.0 f.1) c.in-Ok-unopened.ensures.files) ∙ honest clean)) c.take.ensures.honest c.take.ensures.honest
