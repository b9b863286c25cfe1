-- Rows as they are shown: names put in byte order, and lists that are filled up.
use Rattle.std.proofs.Common.{◌≡◌, ◌≤◌, ◌<◌, ℕ, zero, suc, List, [], ◌∷◌, ◌++◌, ◌+◌, ◌-◌, get_or, take, drop, length, Bor, Option, Some, None, Global, sym, ap, ◌∙◌, append_assoc, arith}
use Rattle.std.specs.List.{insert}
use Rattle.af_role.proofs.AccessLemmas.{take_more}
use Rattle.std.proofs.Math.Seq.{take-nil}
use Rattle.std.proofs.lemmas.List.{take-map, drop-map, drop-take, map-append, length-map, length-append, length-take}
use Rattle.af_policy.specs.SharedRows.{seen}
use Rattle.std.specs.declared.sync.Arc.{Arc}
use Rattle.af_policy.specs.declared.shared.node.Node.{Node, out-Node}
use Rattle.af_policy.specs.SharedTrees.{rows, link_rows}
use Rattle.af_policy.specs.Shown.{filled}
use Rattle.af_policy.proofs.OrderLemmas.{append_nil}
use Rattle.af_policy.proofs.ShapeLemmas.{rows_of_node}

-- a reference put among references is its row put among their rows
pub seen_insert : {T : Type 0} (refs : List (Bor T)) (n : ℕ) (r : Bor T) → seen (insert refs n r) ≡ insert (seen refs) n r.now
seen_insert refs n r =
    map-append (λ r. r.now) (take n refs) (r ∷ drop n refs)
    ∙ (λ i. sym (take-map (λ r. r.now) n refs) i ++ r.now ∷ sym (drop-map (λ r. r.now) n refs) i)

-- ---- lists that are filled up

take_both : {T : Type 0} (k : ℕ) (xs ys : List T) → take k (xs ++ ys) ≡ take k xs ++ take (k - length xs) ys
take_both k [] ys =
    let whole : k ≡ k - 0 = omega arith
    in ap (λ l. l ++ take k ys) (sym (take-nil k)) ∙ ap (λ n. take k [] ++ take n ys) whole
take_both zero (x ∷ xs) ys =
    let none : 0 ≡ 0 - length (x ∷ xs) = omega arith
    in ap (λ n. take n ys) none
take_both (suc k) (x ∷ xs) ys =
    let less : k - length xs ≡ suc k - suc (length xs) = omega arith
    in ap (λ l. x ∷ l) (take_both k xs ys) ∙ ap (λ n. x ∷ take k xs ++ take n ys) less

left_over : {T : Type 0} (n : ℕ) (rows xs : List T) → n - length (rows ++ take (n - length rows) xs) ≡ n - length rows - length xs
left_over n rows xs =
    omega (arith, length-append rows (take (n - length rows) xs), length-take (n - length rows) xs)

pub filled_twice : {T : Type 0} (n : ℕ) (rows xs ys : List T) → filled n (filled n rows xs) ys ≡ filled n rows (xs ++ ys)
filled_twice n rows xs ys =
    append_assoc rows (take (n - length rows) xs) (take (n - length (filled n rows xs)) ys)
    ∙ ap (λ l. rows ++ l) (ap (λ k. take (n - length rows) xs ++ take k ys) (left_over n rows xs) ∙ sym (take_both (n - length rows) xs ys))

-- the left part of a node, its own rows and its right part, one after the other
pub filled_node : {T : Type 0} (n : ℕ) (rows left middle right : List T) → filled n (filled n (filled n rows left) middle) right ≡ filled n rows (left ++ (middle ++ right))
filled_node n rows left middle right =
    ap (λ l. filled n l right) (filled_twice n rows left middle)
    ∙ filled_twice n rows (left ++ middle) right
    ∙ ap (λ l. filled n rows l) (append_assoc left middle right)

-- with nothing more
pub filled_none : {T : Type 0} (n : ℕ) (rows : List T) → filled n rows [] ≡ rows
filled_none n rows = ap (λ l. rows ++ l) (take-nil (n - length rows)) ∙ append_nil rows

pub filled_full : {T : Type 0} (n : ℕ) (refs : List (Bor T)) (more : List T) → n ≤ length refs → filled n (seen refs) more ≡ seen refs
filled_full n refs more full =
    let none : n - length (seen refs) ≡ 0 = omega (arith, full, length-map refs (λ r. r.now))
    in ap (λ k. seen refs ++ take k more) none ∙ append_nil (seen refs)

one_more : {T : Type 0} (k : ℕ) (x : T) → take (suc k) (x ∷ []) ≡ x ∷ []
one_more k x = ap (λ l. x ∷ l) (take-nil k)

pub filled_room : {T : Type 0} (n : ℕ) (refs : List (Bor T)) (r : Bor T) → length refs < n → filled n (seen refs) (r.now ∷ []) ≡ seen (refs ++ r ∷ [])
filled_room n refs r room =
    let some : n - length (seen refs) ≡ suc (n - length (seen refs) - 1) = omega (arith, room, length-map refs (λ r. r.now))
    in ap (λ k. seen refs ++ take k (r.now ∷ [])) some
    ∙ ap (λ l. seen refs ++ l) (one_more (n - length (seen refs) - 1) r.now)
    ∙ sym (map-append (λ r. r.now) refs (r ∷ []))

-- the page of a front that reaches to its end
pub page_of_front : {T : Type 0} (refs : List (Bor T)) (rows : List T) (offset limit : ℕ) → seen refs ≡ take (offset + limit) rows → seen (drop offset refs) ≡ take limit (drop offset rows)
page_of_front refs rows offset limit is =
    sym (drop-map (λ r. r.now) offset refs) ∙ ap (drop offset) is ∙ drop-take offset limit rows

-- one row, and then others
pub filled_own : {T : Type 0} (n : ℕ) (rows : List T) (row : T) (more : List T) → filled n (filled n rows (row ∷ [])) more ≡ filled n rows (row ∷ more)
filled_own n rows row more = filled_twice n rows (row ∷ []) more

pub filled_next : {T : Type 0} (n : ℕ) (rows now after xs : List T) (i : ℕ) (x : T) → x ≡ get_or xs i x → i < length xs → now ≡ filled n rows (take i xs) → after ≡ filled n now (x ∷ []) → after ≡ filled n rows (take (i + 1) xs)
filled_next n rows now after xs i x is below so then_after =
    then_after
    ∙ ap (λ l. filled n l (x ∷ [])) so
    ∙ filled_twice n rows (take i xs) (x ∷ [])
    ∙ ap (filled n rows) (sym (take_more xs i x is below))

-- a node's left part, its own rows and its right part are listed one after the other
module _ {T : Type 0} (n : Node T) (b : ℕ) where
  pub part_some : (link : Option (Arc (Node T) Global)) (arc : Arc (Node T) Global) (m : Node T) (before after : List T) → link ≡ Some arc → m ≡ arc.value → after ≡ filled b before (rows m) → after ≡ filled b before (link_rows link)
  part_some link arc m before after is e listed = listed ∙ ap (λ x. filled b before (rows x)) e ∙ ap (λ l. filled b before (link_rows l)) (sym is)

  pub part_none : (link : Option (Arc (Node T) Global)) (before after : List T) → link ≡ None → after ≡ before → after ≡ filled b before (link_rows link)
  part_none link before after is same = same ∙ sym (filled_none b before) ∙ ap (λ l. filled b before (link_rows l)) (sym is)

  pub parts_filled : (before left own after : List T) → left ≡ filled b before (link_rows (out-Node T n).left) → own ≡ filled b left ((out-Node T n).low ∷ (out-Node T n).rest) → after ≡ filled b own (link_rows (out-Node T n).right) → after ≡ filled b before (rows n)
  parts_filled before left own after on_left in_middle on_right =
      on_right
      ∙ ap (λ l. filled b l (link_rows (out-Node T n).right)) (in_middle ∙ ap (λ l. filled b l ((out-Node T n).low ∷ (out-Node T n).rest)) on_left)
      ∙ filled_node b before (link_rows (out-Node T n).left) ((out-Node T n).low ∷ (out-Node T n).rest) (link_rows (out-Node T n).right)
      ∙ ap (filled b before) (rows_of_node T n)
