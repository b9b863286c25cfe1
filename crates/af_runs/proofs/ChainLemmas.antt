-- Rows chained by code: one more row, one row less, and what a walk along a chain passes.
use Rattle.std.proofs.Common.{◌≡◌, ◌≢◌, ◌⊎◌, refl, sym, ◌∙◌, ap, subst, ℕ, zero, suc, ◌<◌, List, [], ◌∷◌, ◌++◌, map, length, get_or, take, Bool, true, false, cond, ◌==◌, ⊎_elim, inl, inr, arith}
use Rattle.std.proofs.lemmas.Bool.{cases_Bool}
use Rattle.std.proofs.lemmas.Bool.Decides.{nat_tests}
use Rattle.std.specs.List.{remove, AllByRecursion}
use Rattle.std.specs.List.Sorted.{IsStrictlySortedBy}
use Rattle.std.specs.Ordering.{nat_cmp}
use Rattle.std.specs.declared.cmp.Ordering.TheVariants.{Less}
use Rattle.std.specs.Prelude.{Option, Some, None, unwrap_or, nat_eq}
use Rattle.std.specs.HashMap.{get}
use Rattle.af_runs.specs.Chains.{AreChains, put, last_after, last_of, earlier_after, no_row, out}
use Rattle.af_runs.specs.declared.chains.Chains.{Chains}

-- ---- one more row
pub last_after-push : (last : ℕ → ℕ) (rows : List (ℕ × ℕ)) (row : ℕ × ℕ) → last_after last (rows ++ row ∷ []) ≡ put (last_after last rows) row
last_after-push last [] row = refl
last_after-push last (other ∷ rows) row = last_after-push (put last other) rows row

pub earlier_after-push : (last : ℕ → ℕ) (rows : List (ℕ × ℕ)) (row : ℕ × ℕ) → earlier_after last (rows ++ row ∷ []) ≡ earlier_after last rows ++ last_after last rows row.1 ∷ []
earlier_after-push last [] row = refl
earlier_after-push last (other ∷ rows) row = ap (λ (xs : List ℕ). last other.1 ∷ xs) (earlier_after-push (put last other) rows row)

pub length-earlier_after : (last : ℕ → ℕ) (rows : List (ℕ × ℕ)) → length (earlier_after last rows) ≡ length rows
length-earlier_after last [] = refl
length-earlier_after last (row ∷ rows) = ap suc (length-earlier_after (put last row) rows)

-- what stands at a place: the last row of its code among those before it
pub earlier_at : (last : ℕ → ℕ) (rows : List (ℕ × ℕ)) (place : ℕ) (d : ℕ) (e : ℕ × ℕ) → place < length rows → get_or (earlier_after last rows) place d ≡ last_after last (take place rows) (get_or rows place e).1
earlier_at last [] place d e within = absurd (omega arith)
earlier_at last (row ∷ rows) zero d e within = refl
earlier_at last (row ∷ rows) (suc place) d e within = earlier_at (put last row) rows place d e (omega arith)

-- ---- one row less
apart_above : (n m : ℕ) → nat_cmp n m ≡ Less → (m == n) ≡ false
apart_above n m less = grind (arith, nat_tests)

apart_below : (n m : ℕ) → nat_cmp n m ≡ Less → (n == m) ≡ false
apart_below n m less = grind (arith, nat_tests)

same_number : (n : ℕ) → (n == n) ≡ true
same_number n = grind (arith, nat_tests)

equal_from : (n m : ℕ) → (n == m) ≡ true → n ≡ m
equal_from n m is = grind (arith, nat_tests)

abbrev Apart : ℕ → List (ℕ × ℕ) → Type 0
Apart n rows = AllByRecursion (λ (row : ℕ × ℕ). (row.0 == n) ≡ false) rows

apart_from : (n : ℕ) (rows : List (ℕ × ℕ)) → AllByRecursion (λ m. nat_cmp n m ≡ Less) (map (λ (row : ℕ × ℕ). row.0) rows) → Apart n rows
apart_from n [] above = tt
apart_from n (row ∷ rows) above = (apart_above n row.0 above.0, apart_from n rows above.1)

below_at : (n : ℕ) (rows : List (ℕ × ℕ)) (place : ℕ) (d : ℕ × ℕ) → AllByRecursion (λ m. nat_cmp n m ≡ Less) (map (λ (row : ℕ × ℕ). row.0) rows) → place < length rows → nat_cmp n (get_or rows place d).0 ≡ Less
below_at n [] place d above within = absurd (omega arith)
below_at n (row ∷ rows) zero d above within = above.0
below_at n (row ∷ rows) (suc place) d above within = below_at n rows place d above.1 (omega arith)

module _ (number before : ℕ) where
  out_step : (row : ℕ × ℕ) (f g : ℕ) (b : Bool) → (row.0 == number) ≡ false → f ≡ out number before g → cond b row.0 f ≡ out number before (cond b row.0 g)
  out_step row f g true apart same = rw apart refl
  out_step row f g false apart same = same

  last_out : (f g : ℕ → ℕ) (rows : List (ℕ × ℕ)) → ((code : ℕ) → f code ≡ out number before (g code)) → Apart number rows → (code : ℕ) → last_after f rows code ≡ out number before (last_after g rows code)
  last_out f g [] same apart code = same code
  last_out f g (row ∷ rows) same apart code =
      last_out (put f row) (put g row) rows (λ c. out_step row (f c) (g c) (row.1 == c) apart.0 (same c)) apart.1 code

  earlier_out : (f g : ℕ → ℕ) (rows : List (ℕ × ℕ)) → ((code : ℕ) → f code ≡ out number before (g code)) → Apart number rows → earlier_after f rows ≡ map (out number before) (earlier_after g rows)
  earlier_out f g [] same apart = refl
  earlier_out f g (row ∷ rows) same apart =
      λ i. same row.1 i ∷ earlier_out (put f row) (put g row) rows (λ c. out_step row (f c) (g c) (row.1 == c) apart.0 (same c)) apart.1 i

out_none : (number before other : ℕ) → (other == number) ≡ false → other ≡ out number before other
out_none number before other apart = rw apart refl

pub out_same : (number before other : ℕ) → other ≡ number → before ≡ out number before other
out_same number before other same = grind (arith, nat_tests)

pub out_other : (number before other : ℕ) → other ≢ number → other ≡ out number before other
out_other number before other apart = grind (arith, nat_tests)

put_apart : (number : ℕ) (row : ℕ × ℕ) (last b : ℕ) (is : Bool) → (last == number) ≡ false → (row.0 == number) ≡ false → (cond is row.0 last == number) ≡ false
put_apart number row last b true last_apart row_apart = row_apart
put_apart number row last b false last_apart row_apart = last_apart

-- the row of this number taken out, where no number before it is that
dropped : (last : ℕ → ℕ) (number code c : ℕ) (b : Bool) → (code == c) ≡ b → (last c == number) ≡ false → last c ≡ out number (last code) (cond b number (last c))
dropped last number code c true is apart = rw (same_number number) (ap last (sym (equal_from code c is)))
dropped last number code c false is apart = out_none number (last code) (last c) apart

module _ (number code : ℕ) where
  pub removed_last : (last : ℕ → ℕ) (rows : List (ℕ × ℕ)) (place : ℕ) → ((c : ℕ) → (last c == number) ≡ false) → IsStrictlySortedBy nat_cmp (map (λ (row : ℕ × ℕ). row.0) rows) → place < length rows → ((d : ℕ × ℕ) → get_or rows place d ≡ (number, code)) → (c : ℕ) → last_after last (remove rows place) c ≡ out number (last_after last (take place rows) code) (last_after last rows c)
  unfolding IsStrictlySortedBy
  removed_last last [] place never order within here c = absurd (omega arith)
  removed_last last (row ∷ rows) zero never order within here c =
      let is : row ≡ (number, code) = here row in
      subst (λ (r : ℕ × ℕ). last_after last rows c ≡ out number (last code) (last_after (put last r) rows c)) (sym is)
      (last_out number (last code) last (put last (number, code)) rows (λ q. dropped last number code q (code == q) refl (never q)) (apart_from number rows (subst (λ (n : ℕ). AllByRecursion (λ m. nat_cmp n m ≡ Less) (map (λ (row : ℕ × ℕ). row.0) rows)) (ap (λ (r : ℕ × ℕ). r.0) is) order.0)) c)
  removed_last last (row ∷ rows) (suc place) never order within here c =
      let other : (row.0 == number) ≡ false = apart_below row.0 number (subst (λ (r : ℕ × ℕ). nat_cmp row.0 r.0 ≡ Less) (here row) (below_at row.0 rows place row order.0 (omega arith))) in
      removed_last (put last row) rows place (λ q. put_apart number row (last q) 0 (row.1 == q) (never q) other) order.1 (omega arith) here c

  pub removed_earlier : (last : ℕ → ℕ) (rows : List (ℕ × ℕ)) (place : ℕ) → ((c : ℕ) → (last c == number) ≡ false) → IsStrictlySortedBy nat_cmp (map (λ (row : ℕ × ℕ). row.0) rows) → place < length rows → ((d : ℕ × ℕ) → get_or rows place d ≡ (number, code)) → earlier_after last (remove rows place) ≡ map (out number (last_after last (take place rows) code)) (remove (earlier_after last rows) place)
  unfolding IsStrictlySortedBy
  removed_earlier last [] place never order within here = absurd (omega arith)
  removed_earlier last (row ∷ rows) zero never order within here =
      let is : row ≡ (number, code) = here row in
      subst (λ (r : ℕ × ℕ). earlier_after last rows ≡ map (out number (last code)) (earlier_after (put last r) rows)) (sym is)
      (earlier_out number (last code) last (put last (number, code)) rows (λ q. dropped last number code q (code == q) refl (never q)) (apart_from number rows (subst (λ (n : ℕ). AllByRecursion (λ m. nat_cmp n m ≡ Less) (map (λ (row : ℕ × ℕ). row.0) rows)) (ap (λ (r : ℕ × ℕ). r.0) is) order.0)))
  removed_earlier last (row ∷ rows) (suc place) never order within here =
      let other : (row.0 == number) ≡ false = apart_below row.0 number (subst (λ (r : ℕ × ℕ). nat_cmp row.0 r.0 ≡ Less) (here row) (below_at row.0 rows place row order.0 (omega arith))) in
      λ i. out_none number (last_after (put last row) (take place rows) code) (last row.1) (never row.1) i ∷ removed_earlier (put last row) rows place (λ q. put_apart number row (last q) 0 (row.1 == q) (never q) other) order.1 (omega arith) here i

  never_after : (last : ℕ → ℕ) (rows : List (ℕ × ℕ)) (c : ℕ) → (last c == number) ≡ false → Apart number rows → (last_after last rows c == number) ≡ false
  never_after last [] c never apart = never
  never_after last (row ∷ rows) c never apart = never_after (put last row) rows c (put_apart number row (last c) 0 (row.1 == c) never apart.0) apart.1

  -- no other code has this number
  pub number_alone : (last : ℕ → ℕ) (rows : List (ℕ × ℕ)) (place : ℕ) → ((c : ℕ) → (last c == number) ≡ false) → IsStrictlySortedBy nat_cmp (map (λ (row : ℕ × ℕ). row.0) rows) → place < length rows → ((d : ℕ × ℕ) → get_or rows place d ≡ (number, code)) → (c : ℕ) → (code == c) ≡ false → (last_after last rows c == number) ≡ false
  unfolding IsStrictlySortedBy
  number_alone last [] place never order within here c other = absurd (omega arith)
  number_alone last (row ∷ rows) zero never order within here c other =
      let is : row ≡ (number, code) = here row in
      let stays : (put last row c == number) ≡ false = subst (λ (r : ℕ × ℕ). (put last r c == number) ≡ false) (sym is) (rw other (never c)) in
      never_after (put last row) rows c stays (apart_from number rows (subst (λ (n : ℕ). AllByRecursion (λ m. nat_cmp n m ≡ Less) (map (λ (row : ℕ × ℕ). row.0) rows)) (ap (λ (r : ℕ × ℕ). r.0) is) order.0))
  number_alone last (row ∷ rows) (suc place) never order within here c other =
      let apart : (row.0 == number) ≡ false = apart_below row.0 number (subst (λ (r : ℕ × ℕ). nat_cmp row.0 r.0 ≡ Less) (here row) (below_at row.0 rows place row order.0 (omega arith))) in
      number_alone (put last row) rows place (λ q. put_apart number row (last q) 0 (row.1 == q) (never q) apart) order.1 (omega arith) here c other

-- ---- the last row of a code
pub record LastAt (code number : ℕ) (rows : List (ℕ × ℕ)) (place : ℕ) : Type 0 where
  pub within : place < length rows
  pub here : (d : ℕ × ℕ) → get_or rows place d ≡ (number, code)
  pub after : (other : ℕ) (d : ℕ × ℕ) → place < other → other < length rows → ((get_or rows other d).1 == code) ≡ false

abbrev pub IsNone : ℕ → List (ℕ × ℕ) → Type 0
IsNone code rows = (place : ℕ) (d : ℕ × ℕ) → place < length rows → ((get_or rows place d).1 == code) ≡ false

last_case : (code : ℕ) (last : ℕ → ℕ) (row : ℕ × ℕ) (rows : List (ℕ × ℕ)) (b : Bool) → (row.1 == code) ≡ b → (last_after (put last row) rows code ≡ cond b row.0 (last code)) → IsNone code rows → ((last_after (put last row) rows code ≡ last code) × IsNone code (row ∷ rows)) ⊎ ((place : ℕ) × LastAt code (last_after (put last row) rows code) (row ∷ rows) place)
last_case code last row rows true is found none = inr (
  0,
  record {
    within = omega arith;
    here = λ d. λ i. (sym found i, equal_from row.1 code is i);
    after = λ other d above within. after_at other d above within;
  },
)
  where
    after_at : (other : ℕ) (d : ℕ × ℕ) → 0 < other → other < length (row ∷ rows) → ((get_or (row ∷ rows) other d).1 == code) ≡ false
    after_at zero d above within = absurd (omega arith)
    after_at (suc other) d above within = none other d (omega arith)
last_case code last row rows false is found none = inl (found, none_at)
  where
    none_at : IsNone code (row ∷ rows)
    none_at zero d within = is
    none_at (suc place) d within = none place d (omega arith)

pub last_row : (code : ℕ) (last : ℕ → ℕ) (rows : List (ℕ × ℕ)) → ((last_after last rows code ≡ last code) × IsNone code rows) ⊎ ((place : ℕ) × LastAt code (last_after last rows code) rows place)
last_row code last [] = inl (refl, λ place d within. absurd (omega arith))
last_row code last (row ∷ rows) =
    ⊎_elim
    (λ none. last_case code last row rows (row.1 == code) refl none.0 none.1)
    (λ found. inr (
      suc found.0,
      record {
        within = omega (arith, found.1.within);
        here = found.1.here;
        after = λ other d above within. later found.0 found.1.after other d above within;
      },
    ))
    (last_row code (put last row) rows)
  where
    later : (place : ℕ) → ((other : ℕ) (d : ℕ × ℕ) → place < other → other < length rows → ((get_or rows other d).1 == code) ≡ false) → (other : ℕ) (d : ℕ × ℕ) → suc place < other → other < length (row ∷ rows) → ((get_or (row ∷ rows) other d).1 == code) ≡ false
    later place after zero d above within = absurd (omega arith)
    later place after (suc other) d above within = after other d (omega arith) (omega arith)

-- ---- the chains kept
never_none : (number : ℕ) → 0 < number → (c : ℕ) → (no_row c == number) ≡ false
never_none number above c = grind (arith, nat_tests)

pub put_found : (b : Bool) (number : ℕ) (found : Option ℕ) → unwrap_or (cond b (Some number) found) 0 ≡ cond b number (unwrap_or found 0)
put_found true number found = refl
put_found false number found = refl

pub took_found : (b : Bool) (found : Option ℕ) → unwrap_or (cond b None found) 0 ≡ cond b 0 (unwrap_or found 0)
took_found true found = refl
took_found false found = refl

pub AreChains-none : (chains : Chains) → chains.last.entries ≡ [] → chains.earlier.items ≡ [] → AreChains [] chains
AreChains-none chains last earlier = record {
  last = λ code. rw last refl;
  earlier = earlier;
}

pub AreChains-push : (rows : List (ℕ × ℕ)) (number code : ℕ) (old new : Chains) → ((q : ℕ) → get nat_eq new.last q ≡ cond (nat_eq code q) (Some number) (get nat_eq old.last q)) → new.earlier.items ≡ old.earlier.items ++ last_of old code ∷ [] → AreChains rows old → AreChains (rows ++ (number, code) ∷ []) new
AreChains-push rows number code old new put_last pushed are = record {
  last = λ q.
      ap (λ (found : Option ℕ). unwrap_or found 0) (put_last q)
      ∙ put_found (nat_eq code q) number (get nat_eq old.last q)
      ∙ ap (cond (nat_eq code q) number) (are.last q)
      ∙ ap (λ (last : ℕ → ℕ). last q) (sym (last_after-push no_row rows (number, code)));
  earlier =
      pushed
      ∙ (λ i. are.earlier i ++ are.last code i ∷ [])
      ∙ sym (earlier_after-push no_row rows (number, code));
}

other_number : (n m : ℕ) → n ≢ m → (n == m) ≡ false
other_number n m apart = grind (arith, nat_tests)

module _ (rows : List (ℕ × ℕ)) (place number code : ℕ) (within : place < length rows) (here : (d : ℕ × ℕ) → get_or rows place d ≡ (number, code)) (above : 0 < number) (order : IsStrictlySortedBy nat_cmp (map (λ (row : ℕ × ℕ). row.0) rows)) (old : Chains) (are : AreChains rows old) (before : ℕ) (before_is : before ≡ get_or old.earlier.items place before) where
  earlier_here_is : before ≡ last_after no_row (take place rows) code
  earlier_here_is =
      before_is
      ∙ ap (λ (xs : List ℕ). get_or xs place before) are.earlier
      ∙ earlier_at no_row rows place before (0, 0) within
      ∙ ap (λ (row : ℕ × ℕ). last_after no_row (take place rows) row.1) (here (0, 0))

  pub AreChains-remove : (new : Chains) → ((q : ℕ) → last_of new q ≡ out number before (last_of old q)) → new.earlier.items ≡ map (out number before) (remove old.earlier.items place) → AreChains (remove rows place) new
  AreChains-remove new last_new earlier_new = record {
    last = λ q.
        last_new q
        ∙ (λ i. out number (earlier_here_is i) (are.last q i))
        ∙ sym (removed_last number code no_row rows place (never_none number above) order within here q);
    earlier =
        earlier_new
        ∙ (λ i. map (out number (earlier_here_is i)) (remove (are.earlier i) place))
        ∙ sym (removed_earlier number code no_row rows place (never_none number above) order within here);
  }

  other_code : (q : ℕ) → (code == q) ≡ false → last_of old q ≡ out number before (last_of old q)
  other_code q other = out_none number before (last_of old q) (rw (are.last q) (number_alone number code no_row rows place (never_none number above) order within here q other))

  -- the last row of its code is another
  pub last-other : last_of old code ≢ number → (q : ℕ) → last_of old q ≡ out number before (last_of old q)
  last-other other q =
      ⊎_elim
      (λ same. out_none number before (last_of old q) (subst (λ (c : ℕ). (last_of old c == number) ≡ false) (equal_from code q same) (other_number (last_of old code) number other)))
      (λ apart. other_code q apart)
      (cases_Bool (code == q))

  -- it is the last row of its code
  pub last-here : (new : Chains) → last_of old code ≡ number → ((q : ℕ) → last_of new q ≡ cond (code == q) before (last_of old q)) → (q : ℕ) → last_of new q ≡ out number before (last_of old q)
  last-here new is new_last q =
      ⊎_elim
      (λ same.
      let found : last_of old q ≡ number = subst (λ (c : ℕ). last_of old c ≡ number) (equal_from code q same) is in
      new_last q ∙ (rw (same, found, same_number number) refl))
      (λ apart. new_last q ∙ (rw apart (other_code q apart)))
      (cases_Bool (code == q))
