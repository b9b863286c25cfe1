-- A page of a listing: who reads is shown the rows whose DAG is read, and those that name none (Airflow 2, "Access Control": a
-- listing has the DAGs that the user may read); a row of a run, or of an instance, where the runs of its DAG are read too (this product's
-- own rule). Of these, in the list's order, some are passed over and some told; all are counted.
use Rattle.std.specs.Prelude.{ℕ, ◌+◌, List, [], ◌∷◌, ◌++◌, length, map, take, drop, filter, Bool, true, false, not, ◌&&◌, nat_lt, if◌then◌else◌, Option, None, Some}
use Rattle.std.specs.List.{enumerate_from, range_with_len}
use Rattle.af_policy.specs.Grants.{Readable, shows_runs}
use Rattle.af_listing.specs.Windows.{Cut}

-- a row is shown by the DAG that it names
abbrev pub is_shown : (List ℕ → Bool) → Option (List ℕ) → Bool
is_shown reads None = true
is_shown reads (Some dag) = reads dag

-- a row names a DAG by `named`
abbrev pub shows : {X : Type 0} → (List ℕ → Bool) → (X → Option (List ℕ)) → X → Bool
shows reads named row = is_shown reads (named row)

-- by which DAGs a row is shown: one of a run, or of an instance, by those that may be read and whose runs may be read
abbrev pub read_by : Readable → Bool → List ℕ → Bool
read_by readable false dag = readable.dags dag
read_by readable true dag = shows_runs readable dag

-- a row names a DAG by `named`, and is that of a run, or of an instance, by `of_run`
abbrev pub shows_row : {X : Type 0} → Readable → (X → Option (List ℕ)) → (X → Bool) → X → Bool
shows_row readable named of_run row = is_shown (read_by readable (of_run row)) (named row)

-- of a list, so many are passed over, and then at most so many taken
abbrev pub cut : {X : Type 0} → Cut → List X → List X
cut window rows = take window.limit (drop window.offset rows)

-- the places of the rows that are shown, counted from 0
abbrev pub shown_places : {X : Type 0} → (X → Bool) → List X → List ℕ
shown_places shown rows = map (λ row. row.0) (filter (λ row. shown row.1) (enumerate_from 0 rows))

-- where the rows of a page stand in the whole list, and how many rows are shown in all
pub record Told : Type 0 where
  pub places : List ℕ
  pub total : ℕ

abbrev pub page_of : {X : Type 0} → (X → Bool) → Cut → List X → Told
page_of shown window rows = record {
  places = cut window (shown_places shown rows);
  total = length (filter shown rows);
}

-- the page of a list of so many rows that are all shown: its places are cut of all places
abbrev pub whole_page : Cut → ℕ → Told
whole_page window total = record { places = cut window (range_with_len 0 total); total = total }

-- one more place, after so many shown rows: it is taken where it is not passed over and the page has room
abbrev pub with_cut : Cut → ℕ → List ℕ → ℕ → List ℕ
with_cut window before taken place =
    if not (nat_lt before window.offset) && nat_lt (length taken) window.limit then taken ++ place ∷ [] else taken

-- one more row that is shown, at this place
abbrev pub with_place : Cut → ℕ → Told → Told
with_place window place page = record {
  places = with_cut window page.total page.places place;
  total = page.total + 1;
}

-- one more row, which is shown or not
abbrev pub with_row : Cut → ℕ → Bool → Told → Told
with_row window place is_shown page = if is_shown then with_place window place page else page
