-- Every run of steps keeps the rule.
use Rattle.std.proofs.Common.{◌∙◌, ◌≡◌, ◌≢◌, ℕ, zero, suc, ◌+◌, ◌/◌, ◌%◌, ◌^◌, ◌<◌, ◌≤◌, List, [], ◌∷◌, ◌++◌, length, set, slice_get, Some, refl, sym, ap, subst, ⊎_elim, inl, inr, arith, length-append}
use mathlib.Core.Option.{some, some-injective, some-ne-none}
use mathlib.Core.List.{IsPrefix}
use lib.ListN.{get_elem?}
use Rattle.atomic_table.proofs.Lists.{at_set, at_snoc, at_longer, set_else}
use Rattle.af_prefixes.proofs.PrefixLemmas.{prefix_self, prefix_empty, prefix_more, prefix_get, prefixes_agree, get_added}
use Rattle.af_word.specs.declared.view.View.{View}
use Rattle.af_word.specs.Places.{EndsAt, Names, word_of}
use Rattle.af_word.specs.Steps.{Standing, IsSeat, sight, sees, adds, parts, informed, nobody, opened, looked, published, Kind, look, win, lose, split, join, Does, opening, further, Knows, IsKept}
use Rattle.af_word.specs.Laws.{EveryRunKeepsTheRule, NoStepFalls, SeatsKnowOnePlace, OthersKeepTheirView, NoSeatForgets}

-- a word has its version above and its place below
pub names_word : (places : List ℕ) (version place : ℕ) → place < 2 ^ 32 → EndsAt places version place → Names (word_of version place) places
names_word places version place small ends =
    let above : word_of version place / 2 ^ 32 ≡ version = omega arith in
    let below : word_of version place % 2 ^ 32 ≡ place = omega arith in
    subst (λ (x : ℕ × ℕ). EndsAt places x.0 x.1) (λ i. (sym above i, sym below i)) ends

-- a view that has seen the list and was told of none
knows_all : (first last : ℕ) (places : List ℕ) (v : View) → (v.first ≡ first) × (v.last ≡ last) → Knows first last places (sees v places)
knows_all first last places v of = record { seen = prefix_self places; told = prefix_empty places; of = λ _. of }

-- a view that has published the last of the list
knows_added : (first last : ℕ) (places : List ℕ) (v : View) → (v.first ≡ first) × (v.last ≡ last) → Knows first last places (adds v places)
knows_added first last places v of = record { seen = prefix_self places; told = prefix_empty places; of = λ _. of }

-- a view that knows nothing
knows_nothing : (first last : ℕ) (places : List ℕ) → Knows first last places nobody
knows_nothing first last places = record { seen = prefix_empty places; told = prefix_empty places; of = λ some_seen. absurd (omega arith) }

-- what is known of a list is known of a longer one
knows_more : (first last : ℕ) (places : List ℕ) (place : ℕ) (v : View) → Knows first last places v → Knows first last (places ++ place ∷ []) v
knows_more first last places place v k =
    record { seen = prefix_more v.seen places place k.seen; told = prefix_more v.told places place k.told; of = k.of }

-- after one view has changed
knows_set : (first last : ℕ) (places : List ℕ) (views : List View) (seat : ℕ) (w : View) → ((j : ℕ) (u : View) → get_elem? views j ≡ some u → Knows first last places u) → Knows first last places w
    → (j : ℕ) (u : View) → get_elem? (set views seat w) j ≡ some u → Knows first last places u
knows_set first last places views seat w others mine j u e =
    ⊎_elim
    (λ (x : (j ≡ seat) × (w ≡ u)). subst (Knows first last places) x.1 mine)
    (λ (x : (j ≢ seat) × (get_elem? views j ≡ some u)). others j u x.1)
    (at_set views seat j w u e)

-- the opening
opened_kept : (first last : ℕ) → first < 2 ^ 32 → IsKept first last (opened first last)
opened_kept first last small = record {
  within = record { begins = refl; short = omega arith };
  names = record { last = omega arith; place = at_zero (first / 2 ^ 32) (first % 2 ^ 32) (omega arith) (omega arith) };
  knows = one;
}
  where
    at_zero : (k x : ℕ) → k ≡ 0 → x ≡ first → slice_get (first ∷ []) k ≡ Some x
    at_zero k x here same = rw (here, same) refl

    one : (by : ℕ) (v : View) → get_elem? (sight first last (first ∷ []) [] 0 0 ∷ []) by ≡ some v → Knows first last (first ∷ []) v
    one zero v e = subst (Knows first last (first ∷ [])) (some-injective _ _ e) (record { seen = prefix_self (first ∷ []); told = prefix_empty (first ∷ []); of = λ _. (refl, refl) })
    one (suc by) v e = absurd (some-ne-none v (sym e))

-- a seat looks
looked_kept : (first last : ℕ) (s : Standing) (seat : ℕ) (v : View) → IsKept first last s → IsSeat s seat v → 0 < length v.seen → IsKept first last (looked s seat v)
looked_kept first last s seat v kept at some_seen = record {
  within = kept.within;
  names = kept.names;
  knows = knows_set first last s.places s.views seat (sees v s.places) kept.knows (knows_all first last s.places v ((kept.knows seat v at).of some_seen));
}

-- a seat publishes
published_kept : (first last : ℕ) (s : Standing) (seat : ℕ) (v : View) (place : ℕ) → IsKept first last s → IsSeat s seat v → v.seen ≡ s.places → length s.places ≤ last → place < 2 ^ 32 → IsKept first last (published s seat v place)
published_kept first last s seat v place kept at all room small =
    let now : List ℕ = s.places ++ place ∷ [] in
    let grown : length now ≡ length s.places + 1 = length-append s.places (place ∷ []) in
    let some_seen : 0 < length v.seen = omega (arith, ap (λ (l : List ℕ). length l) all, kept.names.last) in
    record {
      within = record { begins = prefix_get s.places now 0 first (prefix_more s.places s.places place (prefix_self s.places)) kept.within.begins; short = omega (arith, grown, room) };
      names = names_word now (length s.places) place small (record { last = grown; place = get_added s.places (length s.places) place refl });
      knows = knows_set first last now s.views seat (adds v now)
          (λ j u e. knows_more first last s.places place u (kept.knows j u e))
          (knows_added first last now v ((kept.knows seat v at).of some_seen));
    }

-- a seat is split
split_kept : (first last : ℕ) (s : Standing) (seat : ℕ) (v : View) → IsKept first last s → IsSeat s seat v → IsKept first last (record s { views = set s.views seat (parts v) ++ parts v ∷ [] })
split_kept first last s seat v kept at =
    let mine = kept.knows seat v at in
    let still : Knows first last s.places (parts v) = record { seen = mine.seen; told = mine.told; of = mine.of } in
    record {
      within = kept.within;
      names = kept.names;
      knows = λ j u e. ⊎_elim
          (λ was. knows_set first last s.places s.views seat (parts v) kept.knows still j u was)
          (λ (same : parts v ≡ u). subst (Knows first last s.places) same still)
          (at_snoc (set s.views seat (parts v)) (parts v) u j e);
    }

-- two seats are joined
joined_kept : (first last : ℕ) (s : Standing) (seat other : ℕ) (v u : View) → IsKept first last s → IsSeat s seat v → IsSeat s other u
    → IsKept first last (record s { views = set (set s.views seat (informed v u)) other nobody })
joined_kept first last s seat other v u kept at there =
    let mine = kept.knows seat v at in
    let theirs = kept.knows other u there in
    record {
      within = kept.within;
      names = kept.names;
      knows = knows_set first last s.places (set s.views seat (informed v u)) other nobody
          (knows_set first last s.places s.views seat (informed v u) kept.knows (record { seen = mine.seen; told = theirs.seen; of = mine.of }))
          (knows_nothing first last s.places);
    }

-- each kind of step keeps the rule
step_kept : (first last : ℕ) (kind : Kind) (was now : Standing) → IsKept first last was → Does last kind was now → IsKept first last now
step_kept first last (look seat) was now kept (v, at, some_seen, is) = subst (IsKept first last) (sym is) (looked_kept first last was seat v kept at some_seen)
step_kept first last (win seat place) was now kept (v, at, all, room, small, is) = subst (IsKept first last) (sym is) (published_kept first last was seat v place kept at all room small)
step_kept first last (lose seat) was now kept (v, at, some_seen, less, is) = subst (IsKept first last) (sym is) (looked_kept first last was seat v kept at some_seen)
step_kept first last (split seat) was now kept (v, at, is) = subst (IsKept first last) (sym is) (split_kept first last was seat v kept at)
step_kept first last (join seat other) was now kept (v, u, at, there, apart, is) = subst (IsKept first last) (sym is) (joined_kept first last was seat other v u kept at there)

pub run_kept : EveryRunKeepsTheRule
run_kept first last _ (opening small) = opened_kept first last small
run_kept first last _ (further kind was now run does) = step_kept first last kind was now (run_kept first last was run) does

-- a word is no lower than one of a lower version
no_lower : (word version place : ℕ) → word / 2 ^ 32 + 1 ≤ version → word ≤ word_of version place
no_lower word version place le = omega arith

-- where the list and the word stay
stays : (was now : Standing) → now.places ≡ was.places → now.word ≡ was.word → IsPrefix was.places now.places × (was.word ≤ now.word)
stays was now same word = (subst (λ (l : List ℕ). IsPrefix was.places l) (sym same) (prefix_self was.places), omega (arith, word))

pub step_rises : NoStepFalls
step_rises first last (look seat) was now run (v, at, some_seen, is) = stays was now (ap (λ (s : Standing). s.places) is) (ap (λ (s : Standing). s.word) is)
step_rises first last (win seat place) was now run (v, at, all, room, small, is) =
    let grown : was.places ++ place ∷ [] ≡ now.places = sym (ap (λ (s : Standing). s.places) is) in
    let word : word_of (length was.places) place ≡ now.word = sym (ap (λ (s : Standing). s.word) is) in
    let ends = (run_kept first last was run).names.last in (
      subst (λ (l : List ℕ). IsPrefix was.places l) grown (prefix_more was.places was.places place (prefix_self was.places)),
      subst (λ (n : ℕ). was.word ≤ n) word (no_lower was.word (length was.places) place (omega (arith, ends))),
    )
step_rises first last (lose seat) was now run (v, at, some_seen, less, is) = stays was now (ap (λ (s : Standing). s.places) is) (ap (λ (s : Standing). s.word) is)
step_rises first last (split seat) was now run (v, at, is) = stays was now (ap (λ (s : Standing). s.places) is) (ap (λ (s : Standing). s.word) is)
step_rises first last (join seat other) was now run (v, u, at, there, apart, is) = stays was now (ap (λ (s : Standing). s.places) is) (ap (λ (s : Standing). s.word) is)

pub seats_agree : SeatsKnowOnePlace
seats_agree first last now one other v u run here there =
    let kept = run_kept first last now run in
    prefixes_agree v.seen u.seen now.places (kept.knows one v here).seen (kept.knows other u there).seen

-- the views of all other seats stay
pub step_leaves : OthersKeepTheirView
step_leaves last (look seat) was now by v (u, at, some_seen, is) apart here = subst (λ (s : Standing). IsSeat s by v) (sym is) (set_else was.views seat by (sees u was.places) apart ∙ here)
step_leaves last (win seat place) was now by v (u, at, all, room, small, is) apart here = subst (λ (s : Standing). IsSeat s by v) (sym is) (set_else was.views seat by (adds u (was.places ++ place ∷ [])) apart ∙ here)
step_leaves last (lose seat) was now by v (u, at, some_seen, less, is) apart here = subst (λ (s : Standing). IsSeat s by v) (sym is) (set_else was.views seat by (sees u was.places) apart ∙ here)
step_leaves last (split seat) was now by v (u, at, is) apart here = subst (λ (s : Standing). IsSeat s by v) (sym is) (at_longer (set was.views seat (parts u)) (parts u ∷ []) by v (set_else was.views seat by (parts u) apart ∙ here))
step_leaves last (join seat other) was now by v (u, t, at, there, distinct, is) apart here =
    subst
    (λ (s : Standing). IsSeat s by v)
    (sym is)
    (set_else (set was.views seat (informed u t)) other by nobody (λ e. apart (inr e)) ∙ (set_else was.views seat by (informed u t) (λ e. apart (inl e)) ∙ here))

-- one seat has one view
one_view : (views : List View) (by seat : ℕ) (v u : View) → by ≡ seat → get_elem? views by ≡ some v → get_elem? views seat ≡ some u → v ≡ u
one_view views by seat v u same here at = some-injective v u (sym here ∙ (ap (λ (k : ℕ). get_elem? views k) same ∙ at))

-- after one view has changed, a seat has seen what it had, if the seat of that view has
seen_set : (views : List View) (seat by : ℕ) (u x v w : View) → get_elem? views seat ≡ some u → IsPrefix u.seen x.seen → get_elem? views by ≡ some v → get_elem? (set views seat x) by ≡ some w → IsPrefix v.seen w.seen
seen_set views seat by u x v w at more here there =
    ⊎_elim
    (λ (e : (by ≡ seat) × (x ≡ w)). subst (λ (y : View × View). IsPrefix y.0.seen y.1.seen) (λ i. (sym (one_view views by seat v u e.0 here at) i, e.1 i)) more)
    (λ (e : (by ≢ seat) × (get_elem? views by ≡ some w)). subst (λ (y : View). IsPrefix v.seen y.seen) (some-injective v w (sym here ∙ e.1)) (prefix_self v.seen))
    (at_set views seat by x w there)

-- after one view has changed and another was added, a seat has seen what it had, if the seat of the changed view has
seen_split : (views : List View) (seat by : ℕ) (u x y v w : View) → get_elem? views seat ≡ some u → IsPrefix u.seen x.seen → get_elem? views by ≡ some v
    → get_elem? (set views seat x ++ y ∷ []) by ≡ some w → IsPrefix v.seen w.seen
seen_split [] seat by u x y v w at more here there = absurd (some-ne-none v (sym here))
seen_split (z ∷ zs) zero zero u x y v w at more here there =
    subst (λ (p : View × View). IsPrefix p.0.seen p.1.seen) (λ i. (some-injective u v (sym at ∙ here) i, some-injective x w there i)) more
seen_split (z ∷ zs) zero (suc by) u x y v w at more here there =
    subst (λ (q : View). IsPrefix v.seen q.seen) (some-injective v w (sym (at_longer zs (y ∷ []) by v here) ∙ there)) (prefix_self v.seen)
seen_split (z ∷ zs) (suc seat) zero u x y v w at more here there =
    subst (λ (q : View). IsPrefix v.seen q.seen) (some-injective v w (sym here ∙ there)) (prefix_self v.seen)
seen_split (z ∷ zs) (suc seat) (suc by) u x y v w at more here there = seen_split zs seat by u x y v w at more here there

pub step_remembers : NoSeatForgets
step_remembers first last (look seat) was now by v w run (u, at, some_seen, is) stays here there =
    let begins = ((run_kept first last was run).knows seat u at).seen in seen_set was.views seat by u (sees u was.places) v w at begins here (subst (λ (s : Standing). IsSeat s by w) is there)
step_remembers first last (win seat place) was now by v w run (u, at, all, room, small, is) stays here there =
    let begins = ((run_kept first last was run).knows seat u at).seen in
    seen_set was.views seat by u (adds u (was.places ++ place ∷ [])) v w at (prefix_more u.seen was.places place begins) here (subst (λ (s : Standing). IsSeat s by w) is there)
step_remembers first last (lose seat) was now by v w run (u, at, some_seen, less, is) stays here there =
    let begins = ((run_kept first last was run).knows seat u at).seen in seen_set was.views seat by u (sees u was.places) v w at begins here (subst (λ (s : Standing). IsSeat s by w) is there)
step_remembers first last (split seat) was now by v w run (u, at, is) stays here there =
    seen_split was.views seat by u (parts u) (parts u) v w at (prefix_self u.seen) here (subst (λ (s : Standing). IsSeat s by w) is there)
step_remembers first last (join seat other) was now by v w run (u, t, at, other_at, distinct, is) stays here there =
    let still : get_elem? (set (set was.views seat (informed u t)) other nobody) by ≡ some w = subst (λ (s : Standing). IsSeat s by w) is there in
    seen_set was.views seat by u (informed u t) v w at (prefix_self u.seen) here (sym (set_else (set was.views seat (informed u t)) other by nobody stays) ∙ still)
