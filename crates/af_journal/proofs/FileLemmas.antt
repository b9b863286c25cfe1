-- What an open of a store over files shows.
use Rattle.std.proofs.Common.{◌≡◌, Bool, true, false, if◌then◌else◌, List, [], ◌∷◌, ◌⊎◌, IsTrue, refl, sym, ap, ap₂, ◌∙◌, subst, inl, inr}
use Rattle.sqlite_disk.specs.declared.Disk.{Ghosts}
use Rattle.sqlite_pool.specs.declared.pool.Pool.{Pool}
use Rattle.sqlite_pool.specs.Pool.{state, files}
use Rattle.sqlite_pool.specs.Stored.{Recovers}
use Rattle.sqlite_store.specs.declared.store.FileStore.{FileStore}
use Rattle.sqlite_store.specs.FileStore as store
use Rattle.sqlite_store.specs.Laws.{shut_if_dirty_at, shut_is_broken}
use Rattle.sqlite_store.specs.Listing.{file_trees}
use Rattle.sqlite_store.specs.Saved.{kept_schema}
use Rattle.sqlite_trees.specs.Tree.{Trees}
use Rattle.sqlite_trees.specs.View.{IsClean}
use Rattle.sqlite_trees.proofs.Doubt.{clean_of}
use Rattle.sqlite_wal.specs.Files.{seen_image}
use Rattle.sqlite_wal.specs.Reads.{are_clean, OnlyReads}
use Rattle.sqlite_wal.specs.Recovery.{Image}
use Rattle.af_journal.specs.Files.{journal_table, HasNoTable, IsReadFrom, IsFoundIn, Holds}
use Rattle.af_journal.specs.Lines.{Entry, HasEntries, rows_after}
use Rattle.af_journal.specs.Rest.{IsFresh}
use Rattle.af_journal.proofs.StepLemmas.{clean_if_open}

pub pool_clean : {D : Type 0} {g : Ghosts D} (it : Pool D g) → (state it).is_clean ≡ are_clean g (files it).0 (files it).1
unfolding state files
pool_clean it = refl

pub same_image : {D : Type 0} {g : Ghosts D} {old_log new_log old_db new_db : D} → OnlyReads g old_log new_log → OnlyReads g old_db new_db → seen_image g new_log new_db ≡ seen_image g old_log old_db
same_image log db = ap₂ (λ a b. let i : Image = record { log = a; db = b } in i) log.seen db.seen

chosen : (b : Bool) (x y : Trees) → IsTrue b → (if b then x else y) ≡ x
chosen true x y h = refl
chosen false x y h = absurd (cc)

module _ {D : Type 0} {g : Ghosts D} (it : FileStore D g) where
  pub open_clean : IsTrue (store.view it).is_open → IsClean (store.view it)
  open_clean = clean_if_open (store.view it) (shut_if_dirty_at it, shut_is_broken it)

  pub ready_fresh : store.IsReady it → IsFresh (store.view it)
  ready_fresh ready is_open = (ready.clean, ready.sound (open_clean is_open))

  pub ready_reads : store.IsReady it → store.schema_of it ≡ journal_table ∷ [] → (store.state it).page_size ≡ 4096 → IsClean (store.view it) → (image : Image) → Recovers 4096 image (store.state it).committed
      → IsReadFrom image (store.view it).committed
  ready_reads ready schema size clean image found =
      let pages = (store.state it).committed in
      let is : (store.view it).committed ≡ file_trees 4096 (journal_table ∷ []) pages =
      chosen (store.state it).is_clean _ _ (clean_of (store.state it).is_clean clean) ∙ ap (λ s. file_trees (store.state it).page_size (kept_schema s (store.schema_of it)) pages) ready.unaltered
      ∙ ap₂ (λ n w. file_trees n w pages) size schema in
      (pages, found, is)

no_entries : (entries : List Entry) → rows_after 0 entries ≡ [] → entries ≡ []
no_entries [] h = refl
no_entries (x ∷ xs) h = absurd (cc)

-- what is found of a database, in the words of the journal
pub holds : (image : Image) (db : Trees) (entries : List Entry) → IsFoundIn image db → HasEntries db entries → Holds image entries
holds image db entries (inl none) has = inl (none.0, no_entries entries (sym has ∙ none.1))
holds image db entries (inr (inl none)) has = inr (inl (none.0, no_entries entries (sym has ∙ none.1)))
holds image db entries (inr (inr read)) has = inr (inr (db, read, has))

-- what is found in files that read as these do
pub taken : (a b : Image) (db : Trees) → a ≡ b → (HasNoTable a × (db 0 ≡ [])) ⊎ IsReadFrom a db → IsFoundIn b db
taken a b db same (inl none) = inr (inl (subst HasNoTable same none.0, none.1))
taken a b db same (inr read) = inr (inr (subst (λ i. IsReadFrom i db) same read))
