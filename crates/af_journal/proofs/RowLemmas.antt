-- Rows in the order of their numbers.
use Rattle.std.proofs.Common.{◌≡◌, ℕ, suc, ◌+◌, ◌<◌, pos, List, [], ◌∷◌, ◌++◌, length, map, Less, refl, sym, ap, ◌∙◌, arith}
use Rattle.std.proofs.lemmas.Int.{ints}
use Rattle.sqlite_value.specs.Order.{Row, value_cmp}
use Rattle.sqlite_value.specs.declared.value.Value.TheVariants.{Int}
use Rattle.sqlite_value.proofs.OrderLemmas.{value_cmp-Int}
use Rattle.sqlite_value.specs.declared.keys.Order.{Order}
use Rattle.sqlite_trees.specs.Tree.{Trees, put_row, from_key}
use Rattle.af_journal.specs.Lines.{Entry, row_of, rows_after, entry_in, entries_in, HasEntries}

pub from_no_key : (o : Order) (es : List Row) → from_key o [] es ≡ es
from_no_key o [] = refl
from_no_key o (e ∷ es) = refl

pub rows_more : (n : ℕ) (xs ys : List Entry) → rows_after n (xs ++ ys) ≡ rows_after n xs ++ rows_after (n + length xs) ys
rows_more n [] ys = ap (λ k. rows_after k ys) (omega arith)
rows_more n (x ∷ xs) ys = ap (λ rows. row_of (n + 1) x ∷ rows) (rows_more (n + 1) xs ys ∙ ap (λ k. rows_after (n + 1) xs ++ rows_after k ys) (omega arith))

below : (a b : ℕ) → a < b → value_cmp (Int (pos a)) (Int (pos b)) ≡ Less
below a b lt = value_cmp-Int (pos a) (pos b) ∙ grind (arith, ints)

-- a row with a number above all goes to the end
pub put_last : (n m : ℕ) (xs : List Entry) (x : Entry) → n + length xs < m → put_row (row_of m x) (rows_after n xs) ≡ rows_after n xs ++ row_of m x ∷ []
put_last n m [] x lt = refl
put_last n m (y ∷ ys) x lt =
    let first : value_cmp (Int (pos (n + 1))) (Int (pos m)) ≡ Less = below (n + 1) m (omega (arith, lt)) in
    rw first (ap (λ rows. row_of (n + 1) y ∷ rows) (put_last (n + 1) m ys x (omega (arith, lt))))

-- the next entry, put among the rows of those before it
pub put_next : (xs : List Entry) (x : Entry) → put_row (row_of (length xs + 1) x) (rows_after 0 xs) ≡ rows_after 0 (xs ++ x ∷ [])
put_next xs x = put_last 0 (length xs + 1) xs x (omega arith) ∙ sym (rows_more 0 xs (x ∷ []) ∙ ap (λ k. rows_after 0 xs ++ rows_after k (x ∷ [])) (omega arith))

pub rows_len : (n : ℕ) (xs : List Entry) → length (rows_after n xs) ≡ length xs
rows_len n [] = refl
rows_len n (x ∷ xs) = ap suc (rows_len (n + 1) xs)

-- the same rows are of as many entries
pub same_len : (xs ys : List Entry) → rows_after 0 xs ≡ rows_after 0 ys → length xs ≡ length ys
same_len xs ys same = sym (rows_len 0 xs) ∙ ap length same ∙ rows_len 0 ys

pub entries_back : (n : ℕ) (xs : List Entry) → map entry_in (rows_after n xs) ≡ xs
entries_back n [] = refl
entries_back n (x ∷ xs) = ap (λ (rest : List Entry). x ∷ rest) (entries_back (n + 1) xs)

-- the same rows are of the same entries
pub same_entries : (xs ys : List Entry) → rows_after 0 xs ≡ rows_after 0 ys → xs ≡ ys
same_entries xs ys same = sym (entries_back 0 xs) ∙ ap (map entry_in) same ∙ entries_back 0 ys

-- what a database holds is what its rows say
pub entries_are : (db : Trees) (xs : List Entry) → HasEntries db xs → entries_in db ≡ xs
entries_are db xs has = ap (map entry_in) has ∙ entries_back 0 xs
