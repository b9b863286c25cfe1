-- Rows as they are shown: a user's roles in byte order, and a page of a listing (Airflow 2, "Stable REST API": collections
-- are cut by `limit` and `offset`, and `total_entries` counts them before the cut).
use Rattle.std.specs.Prelude.{ℕ, List, [], ◌++◌, ◌-◌, count_by, length, take, drop, fold}
use Rattle.std.specs.List.{insert}
use Rattle.std.specs.Ordering.{is_lt, nat_cmp}
use Rattle.std.specs.Cmp.Lexicographic.{slice_cmp}
use Rattle.af_policy.specs.Rows.{UserRow}
use Rattle.af_policy.specs.declared.span.Span.{Span}

-- names in byte order with one more, behind those that are below it; one that is there already stands twice
abbrev pub with_name : List (List ℕ) → List ℕ → List (List ℕ)
with_name names name = insert names (count_by (λ own. is_lt (slice_cmp nat_cmp own name)) names) name

-- names in byte order, each as often as it is given
abbrev pub in_order : List (List ℕ) → List (List ℕ)
in_order names = fold with_name [] names

-- a user without the digest, the roles in byte order
pub record ShownRow : Type 0 where
  pub name : List ℕ
  pub roles : List (List ℕ)

abbrev pub shown_user : UserRow → ShownRow
shown_user user = record { name = user.name; roles = in_order user.roles }

-- some rows of a list, and how many rows it has in all
pub record PageRows (T : Type 0) : Type 0 where
  pub rows : List T
  pub total : ℕ

-- `offset` rows are passed over, and then at most `limit` are told
abbrev pub page_rows : {T : Type 0} → Span → List T → List T
page_rows span rows = take span.limit (drop span.offset rows)

-- rows, and of the others as many as make n of them all
abbrev pub filled : {T : Type 0} → ℕ → List T → List T → List T
filled n rows more = rows ++ take (n - length rows) more
