-- What a node has is what its two sides have, with its own rows between them.
use Rattle.std.proofs.Common.{◌≡◌, ℕ, List, [], ◌∷◌, ◌++◌, take, drop, Some, None, Global, refl, sym, ap, subst, ◌∙◌}
use Rattle.std.proofs.lemmas.List.{append_assoc, take-append-drop}
use Rattle.std.specs.List.{AllByRecursion}
use Rattle.std.specs.Ordering.{nat_cmp}
use Rattle.std.specs.Cmp.Lexicographic.{slice_cmp}
use Rattle.std.specs.declared.cmp.Ordering.TheVariants.{Less, Equal, Greater}
use Rattle.af_policy.specs.SharedRows.{Ascend, found, with_row, without}
use Rattle.af_policy.proofs.OrderLemmas.{Stands, stands, append_nil, ascend_front, ascend_back, found_left, found_here, found_right, with_left, with_here, with_right, with_past, with_within, without_left, without_here, without_right, without_past, without_within}
use Rattle.std.specs.declared.sync.Arc.{Arc}
use Rattle.af_policy.specs.declared.shared.node.Node.{Node, Node', out-Node, None', Some'}
use Rattle.af_policy.specs.SharedTrees.{rows, link_rows}

pub rows_of_node : (T : Type 0) (n : Node T) → link_rows (out-Node T n).left ++ (out-Node T n).low ∷ ((out-Node T n).rest ++ link_rows (out-Node T n).right) ≡ rows n
unfolding out-Node denote.Hole.Carrier.out
rows_of_node T (Node' low rest None' None' height) = refl
rows_of_node T (Node' low rest None' (Some' p r) height) = refl
rows_of_node T (Node' low rest (Some' p l) None' height) = refl
rows_of_node T (Node' low rest (Some' p l) (Some' q r) height) = refl

-- a node's two sides, and its own rows with what follows them
abbrev on_left_of : (T : Type 0) → Node T → List T
on_left_of T n = link_rows (out-Node T n).left

abbrev on_right_of : (T : Type 0) → Node T → List T
on_right_of T n = link_rows (out-Node T n).right

abbrev own : (T : Type 0) → Node T → List T → List T
own T n after = (out-Node T n).low ∷ ((out-Node T n).rest ++ after)

-- what follows a node's own rows, taken with what follows that
own_append : (T : Type 0) (n : Node T) (after more : List T) → own T n after ++ more ≡ own T n (after ++ more)
own_append T n after more = ap (λ rs. (out-Node T n).low ∷ rs) (append_assoc (out-Node T n).rest after more)

-- rows between two parts, of which one is a node
module _ {T : Type 0} (n m : Node T) (arc : Arc (Node T) Global) where
  pub node_on_left : (out-Node T n).left ≡ Some arc → m ≡ arc.value → rows m ++ own T n (on_right_of T n) ≡ rows n
  node_on_left is e = ap (λ x. rows x ++ own T n (on_right_of T n)) e ∙ ap (λ l. link_rows l ++ own T n (on_right_of T n)) (sym is) ∙ rows_of_node T n

  pub node_on_right : (out-Node T n).right ≡ Some arc → m ≡ arc.value → on_left_of T n ++ own T n (rows m) ≡ rows n
  node_on_right is e = ap (λ x. on_left_of T n ++ own T n (rows x)) e ∙ ap (λ l. on_left_of T n ++ own T n (link_rows l)) (sym is) ∙ rows_of_node T n

  -- the turns keep the rows
  pub turn_left : (out-Node T n).right ≡ Some arc → m ≡ arc.value → (on_left_of T n ++ own T n (on_left_of T m)) ++ own T m (on_right_of T m) ≡ rows n
  turn_left is e =
      append_assoc (on_left_of T n) (own T n (on_left_of T m)) (own T m (on_right_of T m))
      ∙ ap (λ rs. on_left_of T n ++ rs) (own_append T n (on_left_of T m) (own T m (on_right_of T m)))
      ∙ ap (λ rs. on_left_of T n ++ own T n rs) (rows_of_node T m)
      ∙ node_on_right is e

  pub turn_right : (out-Node T n).left ≡ Some arc → m ≡ arc.value → on_left_of T m ++ own T m (on_right_of T m ++ own T n (on_right_of T n)) ≡ rows n
  turn_right is e =
      ap (λ rs. on_left_of T m ++ rs) (sym (own_append T m (on_right_of T m) (own T n (on_right_of T n))))
      ∙ sym (append_assoc (on_left_of T m) (own T m (on_right_of T m)) (own T n (on_right_of T n)))
      ∙ ap (λ rs. rs ++ own T n (on_right_of T n)) (rows_of_node T m)
      ∙ node_on_left is e

  -- the rows of the first node are those of the first on its left
  pub first_of_some : (out-Node T n).left ≡ Some arc → m ≡ arc.value → (x : T) (xs others : List T) → x ∷ (xs ++ others) ≡ rows m → x ∷ (xs ++ (others ++ own T n (on_right_of T n))) ≡ rows n
  first_of_some is e x xs others first =
      ap (λ rs. x ∷ rs) (sym (append_assoc xs others (own T n (on_right_of T n))))
      ∙ ap (λ rs. rs ++ own T n (on_right_of T n)) first
      ∙ node_on_left is e

-- rows put before those on the left stand before all
pub put_first : {T : Type 0} (n : Node T) (x : T) (xs : List T) → (x ∷ (xs ++ on_left_of T n)) ++ own T n (on_right_of T n) ≡ x ∷ (xs ++ rows n)
put_first {T} n x xs =
    ap (λ rs. x ∷ rs) (append_assoc xs (on_left_of T n) (own T n (on_right_of T n)))
    ∙ ap (λ rs. x ∷ (xs ++ rs)) (rows_of_node T n)

pub first_of_none : {T : Type 0} (n : Node T) → (out-Node T n).left ≡ None → own T n (on_right_of T n) ≡ rows n
first_of_none {T} n is = ap (λ l. link_rows l ++ own T n (on_right_of T n)) (sym is) ∙ rows_of_node T n

-- rows that stand right before those of a node, and the row of a key among them all
module _ {T : Type 0} (key : T → List ℕ) (before : List T) (n : Node T) (s : Ascend key (before ++ rows n)) where
  all_rows : (before ++ on_left_of T n) ++ own T n (on_right_of T n) ≡ before ++ rows n
  all_rows = append_assoc before (on_left_of T n) (own T n (on_right_of T n)) ∙ ap (λ rs. before ++ rs) (rows_of_node T n)

  parts : Stands key (before ++ on_left_of T n) (out-Node T n).low ((out-Node T n).rest ++ on_right_of T n)
  parts = stands key (before ++ on_left_of T n) (out-Node T n).low ((out-Node T n).rest ++ on_right_of T n) (subst (Ascend key) (sym all_rows) s)

  pub sought_at_left : (arc : Arc (Node T) Global) (m : Node T) → (out-Node T n).left ≡ Some arc → m ≡ arc.value → Ascend key (before ++ rows m)
  sought_at_left arc m is e = subst (λ x. Ascend key (before ++ rows x)) (sym e) (subst (λ l. Ascend key (before ++ link_rows l)) is parts.left)

  pub sought_before : (out-Node T n).left ≡ None → Ascend key before
  sought_before is = subst (Ascend key) (append_nil before) (subst (λ l. Ascend key (before ++ link_rows l)) is parts.left)

  module _ (b : List T) (is_rest : b ≡ (out-Node T n).rest) where
    pub sought_at_right : (arc : Arc (Node T) Global) (m : Node T) → (out-Node T n).right ≡ Some arc → m ≡ arc.value → Ascend key (b ++ rows m)
    sought_at_right arc m is e = subst (λ rs. Ascend key (rs ++ rows m)) (sym is_rest) (subst (λ x. Ascend key ((out-Node T n).rest ++ rows x)) (sym e) (subst (λ l. Ascend key ((out-Node T n).rest ++ link_rows l)) is parts.right))

    pub sought_in_rest : (out-Node T n).right ≡ None → Ascend key b
    sought_in_rest is = subst (Ascend key) (sym is_rest) (subst (Ascend key) (append_nil (out-Node T n).rest) (subst (λ l. Ascend key ((out-Node T n).rest ++ link_rows l)) is parts.right))

  module _ (k : List ℕ) where
    found_on_left : slice_cmp nat_cmp k (key (out-Node T n).low) ≡ Less → found key (before ++ on_left_of T n) k ≡ found key (before ++ rows n) k
    found_on_left e = found_left key _ _ _ parts k e ∙ ap (λ rs. found key rs k) all_rows

    found_on_right : slice_cmp nat_cmp k (key (out-Node T n).low) ≡ Greater → found key ((out-Node T n).rest ++ on_right_of T n) k ≡ found key (before ++ rows n) k
    found_on_right e = found_right key _ _ _ parts k e ∙ ap (λ rs. found key rs k) all_rows

    pub found_in_middle : slice_cmp nat_cmp k (key (out-Node T n).low) ≡ Equal → Some ((out-Node T n).low) ≡ found key (before ++ rows n) k
    found_in_middle e = found_here key _ _ _ parts k e ∙ ap (λ rs. found key rs k) all_rows

    pub found_at_left : (arc : Arc (Node T) Global) (m : Node T) → (out-Node T n).left ≡ Some arc → m ≡ arc.value → slice_cmp nat_cmp k (key (out-Node T n).low) ≡ Less → found key (before ++ rows m) k ≡ found key (before ++ rows n) k
    found_at_left arc m is e less = ap (λ x. found key (before ++ rows x) k) e ∙ ap (λ l. found key (before ++ link_rows l) k) (sym is) ∙ found_on_left less

    pub found_before : (out-Node T n).left ≡ None → slice_cmp nat_cmp k (key (out-Node T n).low) ≡ Less → found key before k ≡ found key (before ++ rows n) k
    found_before is less = ap (λ rs. found key rs k) (sym (append_nil before)) ∙ ap (λ l. found key (before ++ link_rows l) k) (sym is) ∙ found_on_left less

    module _ (b : List T) (is_rest : b ≡ (out-Node T n).rest) where
      pub found_at_right : (arc : Arc (Node T) Global) (m : Node T) → (out-Node T n).right ≡ Some arc → m ≡ arc.value → slice_cmp nat_cmp k (key (out-Node T n).low) ≡ Greater → found key (b ++ rows m) k ≡ found key (before ++ rows n) k
      found_at_right arc m is e greater = ap (λ rs. found key (rs ++ rows m) k) is_rest ∙ ap (λ x. found key ((out-Node T n).rest ++ rows x) k) e ∙ ap (λ l. found key ((out-Node T n).rest ++ link_rows l) k) (sym is) ∙ found_on_right greater

      pub found_in_rest : (out-Node T n).right ≡ None → slice_cmp nat_cmp k (key (out-Node T n).low) ≡ Greater → found key b k ≡ found key (before ++ rows n) k
      found_in_rest is greater = ap (λ rs. found key rs k) (is_rest ∙ sym (append_nil (out-Node T n).rest)) ∙ ap (λ l. found key ((out-Node T n).rest ++ link_rows l) k) (sym is) ∙ found_on_right greater

module _ {T : Type 0} (key : T → List ℕ) (n : Node T) (s : Ascend key (rows n)) where
  split : Stands key (on_left_of T n) (out-Node T n).low ((out-Node T n).rest ++ on_right_of T n)
  split = stands key (on_left_of T n) (out-Node T n).low ((out-Node T n).rest ++ on_right_of T n) (subst (Ascend key) (sym (rows_of_node T n)) s)

  -- all rows behind the first one, and those of the node itself among them
  pub ascend_behind : Ascend key ((out-Node T n).rest ++ on_right_of T n)
  ascend_behind = split.right

  pub ascend_rest : Ascend key (out-Node T n).rest
  ascend_rest = ascend_front key (out-Node T n).rest (on_right_of T n) split.right

  ascend_left : Ascend key (on_left_of T n)
  ascend_left = split.left

  ascend_at_left : (arc : Arc (Node T) Global) (m : Node T) → (out-Node T n).left ≡ Some arc → m ≡ arc.value → Ascend key (rows m)
  ascend_at_left arc m is e = subst (λ x. Ascend key (rows x)) (sym e) (subst (λ l. Ascend key (link_rows l)) is split.left)

  ascend_at_right : (arc : Arc (Node T) Global) (m : Node T) → (out-Node T n).right ≡ Some arc → m ≡ arc.value → Ascend key (rows m)
  ascend_at_right arc m is e = subst (λ x. Ascend key (rows x)) (sym e) (subst (λ l. Ascend key (link_rows l)) is (ascend_back key (out-Node T n).rest (on_right_of T n) split.right))

  -- a key is below all rows on the right, where there is none, or where it is not past the node's own
  abbrev Below : List ℕ → Type 0
  Below k = AllByRecursion (λ y. slice_cmp nat_cmp k (key y) ≡ Less) (on_right_of T n)

  pub below_none : (k : List ℕ) → (out-Node T n).right ≡ None → Below k
  below_none k is = subst (λ l. AllByRecursion (λ y. slice_cmp nat_cmp k (key y) ≡ Less) (link_rows l)) (sym is) tt

  -- what is told of a key and the node's own rows, which are read as a slice
  module _ (k j : List ℕ) (b : List T) (is_rest : b ≡ (out-Node T n).rest) (same : j ≡ k) where
    pub past_rest : (Ascend key b → AllByRecursion (λ y. slice_cmp nat_cmp (key y) j ≡ Less) b) → AllByRecursion (λ y. slice_cmp nat_cmp (key y) k ≡ Less) (out-Node T n).rest
    past_rest past =
        subst (λ i. AllByRecursion (λ y. slice_cmp nat_cmp (key y) i ≡ Less) (out-Node T n).rest) same
        (subst (λ rs. AllByRecursion (λ y. slice_cmp nat_cmp (key y) j ≡ Less) rs) is_rest (past (subst (Ascend key) (sym is_rest) ascend_rest)))

    pub below_rest : ((more : List T) → Ascend key (b ++ more) → AllByRecursion (λ y. slice_cmp nat_cmp j (key y) ≡ Less) more) → Below k
    below_rest within =
        subst (λ i. AllByRecursion (λ y. slice_cmp nat_cmp i (key y) ≡ Less) (on_right_of T n)) same
        (within (on_right_of T n) (subst (λ rs. Ascend key (rs ++ on_right_of T n)) (sym is_rest) ascend_behind))

  -- ---- one more row

  module _ (row : T) where
    pub with_at_left : (arc : Arc (Node T) Global) (m : Node T) (l made : List T) → (out-Node T n).left ≡ Some arc → m ≡ arc.value → slice_cmp nat_cmp (key row) (key (out-Node T n).low) ≡ Less → (Ascend key (rows m) → l ≡ with_row key (rows m) row) → made ≡ l ++ own T n (on_right_of T n) → made ≡ with_row key (rows n) row
    with_at_left arc m l made is e less later so =
        so ∙ ap (λ rs. rs ++ own T n (on_right_of T n)) (later (ascend_at_left arc m is e) ∙ ap (λ x. with_row key (rows x) row) e ∙ ap (λ x. with_row key (link_rows x) row) (sym is))
        ∙ with_left key row _ _ _ less ∙ ap (λ rs. with_row key rs row) (rows_of_node T n)

    pub with_at_no_left : (made : List T) → (out-Node T n).left ≡ None → slice_cmp nat_cmp (key row) (key (out-Node T n).low) ≡ Less → made ≡ on_left_of T n ++ row ∷ own T n (on_right_of T n) → made ≡ with_row key (rows n) row
    with_at_no_left made is less so =
        so ∙ ap (λ x. link_rows x ++ row ∷ own T n (on_right_of T n)) is
        ∙ ap (λ x. with_row key (link_rows x) row ++ own T n (on_right_of T n)) (sym is)
        ∙ with_left key row _ _ _ less ∙ ap (λ rs. with_row key rs row) (rows_of_node T n)

    pub with_in_middle : (made : List T) → slice_cmp nat_cmp (key row) (key (out-Node T n).low) ≡ Equal → made ≡ on_left_of T n ++ row ∷ ((out-Node T n).rest ++ on_right_of T n) → made ≡ with_row key (rows n) row
    with_in_middle made equal so =
        so ∙ with_here key row _ _ _ split equal ∙ ap (λ rs. with_row key rs row) (rows_of_node T n)

    with_behind : (behind made : List T) → slice_cmp nat_cmp (key row) (key (out-Node T n).low) ≡ Greater → behind ≡ with_row key ((out-Node T n).rest ++ on_right_of T n) row → made ≡ on_left_of T n ++ (out-Node T n).low ∷ behind → made ≡ with_row key (rows n) row
    with_behind behind made greater is so =
        so ∙ ap (λ rs. on_left_of T n ++ (out-Node T n).low ∷ rs) is
        ∙ with_right key row _ _ _ split greater ∙ ap (λ rs. with_row key rs row) (rows_of_node T n)

    pub with_at_right : (arc : Arc (Node T) Global) (m : Node T) (r made : List T) → (out-Node T n).right ≡ Some arc → m ≡ arc.value → slice_cmp nat_cmp (key row) (key (out-Node T n).low) ≡ Greater → AllByRecursion (λ y. slice_cmp nat_cmp (key y) (key row) ≡ Less) (out-Node T n).rest → (Ascend key (rows m) → r ≡ with_row key (rows m) row) → made ≡ on_left_of T n ++ own T n r → made ≡ with_row key (rows n) row
    with_at_right arc m r made is e greater past later so =
        with_behind ((out-Node T n).rest ++ r) made greater
        (ap (λ rs. (out-Node T n).rest ++ rs) (later (ascend_at_right arc m is e) ∙ ap (λ x. with_row key (rows x) row) e ∙ ap (λ x. with_row key (link_rows x) row) (sym is)) ∙ with_past key row (out-Node T n).rest (on_right_of T n) past)
        so

    pub with_in_rest : (made : List T) → slice_cmp nat_cmp (key row) (key (out-Node T n).low) ≡ Greater → Below (key row) → made ≡ on_left_of T n ++ (out-Node T n).low ∷ (with_row key (out-Node T n).rest row ++ on_right_of T n) → made ≡ with_row key (rows n) row
    with_in_rest made greater below so =
        with_behind (with_row key (out-Node T n).rest row ++ on_right_of T n) made greater (with_within key row (out-Node T n).rest (on_right_of T n) below) so

  -- ---- one row less

  module _ (k : List ℕ) where
    pub without_at_left : (arc : Arc (Node T) Global) (m : Node T) (l made : List T) → (out-Node T n).left ≡ Some arc → m ≡ arc.value → slice_cmp nat_cmp k (key (out-Node T n).low) ≡ Less → (Ascend key (rows m) → l ≡ without key (rows m) k) → made ≡ l ++ own T n (on_right_of T n) → made ≡ without key (rows n) k
    without_at_left arc m l made is e less later so =
        so ∙ ap (λ rs. rs ++ own T n (on_right_of T n)) (later (ascend_at_left arc m is e) ∙ ap (λ x. without key (rows x) k) e ∙ ap (λ x. without key (link_rows x) k) (sym is))
        ∙ without_left key _ _ _ split k less ∙ ap (λ rs. without key rs k) (rows_of_node T n)

    pub without_at_no_left : (made : List T) → (out-Node T n).left ≡ None → slice_cmp nat_cmp k (key (out-Node T n).low) ≡ Less → made ≡ own T n (on_right_of T n) → made ≡ without key (rows n) k
    without_at_no_left made is less so =
        so ∙ ap (λ x. without key (link_rows x) k ++ own T n (on_right_of T n)) (sym is)
        ∙ without_left key _ _ _ split k less ∙ ap (λ rs. without key rs k) (rows_of_node T n)

    pub without_in_middle : (made : List T) → slice_cmp nat_cmp k (key (out-Node T n).low) ≡ Equal → made ≡ on_left_of T n ++ ((out-Node T n).rest ++ on_right_of T n) → made ≡ without key (rows n) k
    without_in_middle made equal so =
        so ∙ without_here key _ _ _ split k equal ∙ ap (λ rs. without key rs k) (rows_of_node T n)

    without_behind : (behind made : List T) → slice_cmp nat_cmp k (key (out-Node T n).low) ≡ Greater → behind ≡ without key ((out-Node T n).rest ++ on_right_of T n) k → made ≡ on_left_of T n ++ (out-Node T n).low ∷ behind → made ≡ without key (rows n) k
    without_behind behind made greater is so =
        so ∙ ap (λ rs. on_left_of T n ++ (out-Node T n).low ∷ rs) is
        ∙ without_right key _ _ _ split k greater ∙ ap (λ rs. without key rs k) (rows_of_node T n)

    pub without_at_right : (arc : Arc (Node T) Global) (m : Node T) (r made : List T) → (out-Node T n).right ≡ Some arc → m ≡ arc.value → slice_cmp nat_cmp k (key (out-Node T n).low) ≡ Greater → AllByRecursion (λ y. slice_cmp nat_cmp (key y) k ≡ Less) (out-Node T n).rest → (Ascend key (rows m) → r ≡ without key (rows m) k) → made ≡ on_left_of T n ++ own T n r → made ≡ without key (rows n) k
    without_at_right arc m r made is e greater past later so =
        without_behind ((out-Node T n).rest ++ r) made greater
        (ap (λ rs. (out-Node T n).rest ++ rs) (later (ascend_at_right arc m is e) ∙ ap (λ x. without key (rows x) k) e ∙ ap (λ x. without key (link_rows x) k) (sym is)) ∙ without_past key k (out-Node T n).rest (on_right_of T n) past)
        so

    pub without_in_rest : (made : List T) → slice_cmp nat_cmp k (key (out-Node T n).low) ≡ Greater → Below k → made ≡ on_left_of T n ++ (out-Node T n).low ∷ (without key (out-Node T n).rest k ++ on_right_of T n) → made ≡ without key (rows n) k
    without_in_rest made greater below so =
        without_behind (without key (out-Node T n).rest k ++ on_right_of T n) made greater (without_within key k (out-Node T n).rest (on_right_of T n) below) so

-- a list that is cut at a place, and again before the last row in front of it
pub put_back : {T : Type 0} (old front now behind rest : List T) (place : ℕ) (low : T) → front ≡ take place old → behind ≡ drop place old → front ≡ now ++ low ∷ [] → rest ≡ behind → now ++ low ∷ rest ≡ old
put_back old front now behind rest place low is_front is_behind last is_rest =
    ap (λ rs. now ++ low ∷ rs) (is_rest ∙ is_behind)
    ∙ sym (append_assoc now (low ∷ []) (drop place old))
    ∙ ap (λ rs. rs ++ drop place old) (sym last ∙ is_front)
    ∙ take-append-drop place old

pub put_apart : {T : Type 0} (old now above after : List T) (low : T) → now ++ low ∷ above ≡ old → now ++ low ∷ (above ++ after) ≡ old ++ after
put_apart old now above after low is = sym (append_assoc now (low ∷ above) after) ∙ ap (λ rs. rs ++ after) is
