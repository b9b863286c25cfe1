use Rattle.std.proofs.Common.{◌≡◌, ◌∙◌, [], ◌∷◌, sym, subst, subst₂, inl, inr}
use Rattle.sqlite_pool.specs.File.{in_use}
use Rattle.sqlite_pool.specs.Stored.{Recovers}
use Rattle.sqlite_pool.specs.StoredLaws.{recovers_once}
use Rattle.sqlite_store.specs.Db.{rows_at}
use Rattle.sqlite_store.specs.FileStore.{state, schema_of}
use Rattle.sqlite_store.specs.Unopened.{image, state_of}
use Rattle.sqlite_trees.specs.declared.store.Shape.TheVariants.{Table}
use Rattle.sqlite_trees.proofs.Doubt.{clean_of}
use Rattle.af_journal.specs.Files.{HasNoTable, journal_table}
use Rattle.af_journal.proofs.FileLemmas.{ready_reads}
use Rattle.af_journal.proofs.ShownLemmas.{both_ok}
use Rattle.af_journal.proofs.opening.take.Goals as goal

pub returns-in-Ok-true-clause-found : goal.returns-in-Ok-true-clause-found
returns-in-Ok-true-clause-found g c = both_ok c.make.result (λ it empty honest clean.
    let read = c.in-Ok-true.ensures.ok (honest clean) in
    let catalog = read.1 in
    let none : HasNoTable (image c.args.files) = (
      catalog.pages,
      subst (λ n. Recovers n (image c.args.files) catalog.pages) c.requires.size catalog.found,
      subst (λ n. rows_at n (in_use n catalog.pages) Table 1 ≡ []) c.requires.size (sym catalog.lists ∙ read.2 c.in-Ok-true.field-0-test),
    ) in
    inl (none, empty clean)) c.make.ensures.empty c.make.ensures.honest

pub returns-in-Ok-clause-found : goal.returns-in-Ok-clause-found
returns-in-Ok-clause-found g c clean =
    let files = c.args.files in
    let mid = c.has_no_table.new.files in
    let it = c.in-Ok.store in
    let still = clean_of (state it).is_clean clean in
    let mid_clean = c.in-Ok.ensures.honest still in
    let catalog = (c.in-Ok-false.ensures.ok mid_clean).1 in
    let size : (state_of mid).page_size ≡ (state_of files).page_size = c.has_no_table.ensures.size mid_clean in
    let again = subst (λ n. Recovers n (image mid) (state it).committed) size (c.in-Ok.ensures.found still) in
    let same : catalog.pages ≡ (state it).committed = recovers_once _ (image mid) _ _ catalog.again again in
    let found : Recovers 4096 (image files) (state it).committed = subst₂ (λ n pages. Recovers n (image files) pages) c.requires.size same catalog.found in
    let schema : schema_of it ≡ journal_table ∷ [] = c.in-Ok.ensures.schema ∙ c.has_no_table.ensures.schema ∙ c.requires.schema in
    inr (ready_reads it c.in-Ok.ensures.ready schema ((c.in-Ok.ensures.kept still).size ∙ size ∙ c.requires.size) clean (image files) found)

pub returns-in-Ok-clause-honest : goal.returns-in-Ok-clause-honest
returns-in-Ok-clause-honest g c clean = c.has_no_table.ensures.honest (c.in-Ok.ensures.honest (clean_of (state c.in-Ok.store).is_clean clean))

pub returns-in-Ok-clause-shielded : goal.returns-in-Ok-clause-shielded
returns-in-Ok-clause-shielded g c clean = c.in-Ok.ensures.guarded (clean_of (state c.in-Ok.store).is_clean clean)
