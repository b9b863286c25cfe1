-- What the word's table asks of each step: it takes the run of steps one further, and tells what it is to tell.
use Rattle.std.proofs.Common.{◌≡◌, ◌≢◌, ℕ, ◌+◌, ◌%◌, ◌^◌, ◌<◌, ◌≤◌, ◌⊎◌, true, List, [], ◌∷◌, ◌++◌, length, set, slice_index, refl, sym, ap, subst, ⊎_elim, arith}
use mathlib.Core.Option.{some, none}
use mathlib.Core.List.{IsPrefix}
use lib.ListN.{get_elem?}
use Rattle.atomic_table.specs.Table as table
use Rattle.atomic_table.specs.Table.{State, Me, Act, keeps, step, Valid, carried_after, Allows, Splits, Joins}
use Rattle.atomic_table.proofs.Lists.{at_set, set_again}
use Rattle.af_tally.specs.declared.view.View.{View}
use Rattle.af_tally.specs.Steps.{Standing, keeping, copied, compared, informed, nobody, add, load, split, join, Run, opening, further, Ruled}
use Rattle.af_tally.specs.Tells.{Adds, Compares}
use Rattle.af_tally.proofs.RunLemmas.{prefix_shorter, run_kept}

module _ {E : Type 0} where
  -- the rule, as the table takes it
  abbrev pub Rule : State ℕ (View E) → Type 0
  Rule s = Ruled s.words s.views

  -- how things stand in a table that keeps the rule
  abbrev standing_of : (words : List ℕ) (views : List (View E)) → Ruled words views → Standing E
  standing_of words views kept = record { word = kept.word; entries = kept.entries; views = views }

  -- the opening
  pub opens : Rule (table.opening (0 ∷ []) [] (keeping []))
  opens = record { word = 0; entries = []; words_are = refl; run = opening }

  -- the keeper adds an entry
  add_at : (slots id : ℕ) (v : View E) (entry : E) (carried : List (ℕ × ℕ)) (s : State ℕ (View E)) → v.keeps ≡ true → length v.seen + 1 < 2 ^ 32 → (kept : Rule s) → get_elem? s.views id ≡ some v
      → (words : List ℕ) → words ≡ kept.word ∷ []
      → (w : View E) × (a : Act ℕ) × Valid s.homes carried a × Ruled (set words 0 ((slice_index words 0 + 1) % 2 ^ 64)) (set s.views id w)
      × Adds (entry ∷ []) (step slots 0 1 0 none) (v, carried) (slice_index words 0) (w, carried_after carried a)
  add_at slots id v entry carried s keeper room kept at words is =
      let was = standing_of s.words s.views kept in
      let all = run_kept was kept.run in
      let mine = (all.knows id v at).keeps keeper in
      let free : kept.word + 1 < 2 ^ 32 = omega (arith, all.counts, ap (λ (l : List E). length l) mine.1, room) in
      let w = keeping (v.seen ++ entry ∷ []) in
      let now : Standing E = record { word = kept.word + 1; entries = kept.entries ++ entry ∷ []; views = set s.views id w } in
      let next : (kept.word + 1) % 2 ^ 64 ≡ kept.word + 1 = omega (arith, free) in
      let P : List ℕ → Type 0 = λ ws. (w : View E) × (a : Act ℕ) × Valid s.homes carried a × Ruled (set ws 0 ((slice_index ws 0 + 1) % 2 ^ 64)) (set s.views id w) × Adds (entry ∷ []) (step slots 0 1 0 none) (v, carried) (slice_index ws 0) (w, carried_after carried a) in
      subst P (sym is) (
        w,
        keeps,
        tt,
        record { word = now.word; entries = now.entries; words_are = ap (λ (n : ℕ). n ∷ []) next; run = further (add id entry) was now kept.run (v, at, keeper, free, refl) },
        (refl, refl),
      )

  pub adds : (slots id : ℕ) (me : Me ℕ (View E)) (entries : List E) (entry : E) → me.0.keeps ≡ true → entries ≡ entry ∷ [] → length me.0.seen + 1 < 2 ^ 32
      → Allows Rule slots id me 0 (λ n. (n + 1) % 2 ^ 64) (Adds entries (step slots 0 1 0 none) me)
  adds slots id me entries entry keeper one room =
      subst
      (λ (es : List E). Allows Rule slots id me 0 (λ n. (n + 1) % 2 ^ 64) (Adds es (step slots 0 1 0 none) me))
      (sym one)
      (λ s kept sized at small. add_at slots id me.0 entry me.1 s keeper room kept at s.words kept.words_are)

  -- a seat compares
  compare_at : (slots id : ℕ) (v : View E) (carried : List (ℕ × ℕ)) (s : State ℕ (View E)) (kept : Rule s) → get_elem? s.views id ≡ some v
      → (words : List ℕ) → words ≡ kept.word ∷ []
      → (w : View E) × (a : Act ℕ) × Valid s.homes carried a × Ruled (set words 0 (slice_index words 0)) (set s.views id w)
      × Compares (step slots 0 0 0 none) (v, carried) (slice_index words 0) (w, carried_after carried a)
  compare_at slots id v carried s kept at words is =
      let was = standing_of s.words s.views kept in
      let mine = (run_kept was kept.run).knows id v at in
      let w = compared v in
      let now : Standing E = record was { views = set s.views id w } in
      let P : List ℕ → Type 0 = λ ws. (w : View E) × (a : Act ℕ) × Valid s.homes carried a × Ruled (set ws 0 (slice_index ws 0)) (set s.views id w) × Compares (step slots 0 0 0 none) (v, carried) (slice_index ws 0) (w, carried_after carried a) in
      let begins : (v.keeps ≡ true) ⊎ (length v.told ≤ length v.seen) → IsPrefix v.told v.seen = λ which.
      ⊎_elim
      (λ (keeper : v.keeps ≡ true). subst (λ (l : List E). IsPrefix v.told l) (sym (mine.keeps keeper).1) mine.told)
      (λ (le : length v.told ≤ length v.seen). prefix_shorter v.told v.seen kept.entries mine.told mine.seen le)
      which in
      subst P (sym is) (
        w,
        keeps,
        tt,
        record { word = kept.word; entries = kept.entries; words_are = refl; run = further (load id) was now kept.run (v, at, refl) },
        (refl, begins, refl),
      )

  pub compares : (slots id : ℕ) (me : Me ℕ (View E)) → Allows Rule slots id me 0 (λ n. n) (Compares (step slots 0 0 0 none) me)
  compares slots id me s kept sized at small = compare_at slots id me.0 me.1 s kept at s.words kept.words_are

  -- a split
  pub gives : (id : ℕ) (v : View E) → Splits Rule id v v (copied v)
  gives id v s kept at =
      let was = standing_of s.words s.views kept in
      let now : Standing E = record was { views = s.views ++ copied v ∷ [] } in
      record {
        word = kept.word;
        entries = kept.entries;
        words_are = kept.words_are;
        run = subst
            (λ (views : List (View E)). Run (record { word = kept.word; entries = kept.entries; views = views ++ copied v ∷ [] }))
            (sym (set_again s.views id v at))
            (further (split id) was now kept.run (v, at, refl));
      }

  -- a join
  pub joins : (id : ℕ) (v : View E) (other : ℕ) (u : View E) → Joins Rule id v other u (informed v u) nobody
  joins id v other u s kept at apart there =
      let was = standing_of s.words s.views kept in
      let now : Standing E = record was { views = set (set s.views id (informed v u)) other nobody } in
      let theirs : get_elem? s.views other ≡ some u = ⊎_elim (λ (t : (other ≡ id) × (informed v u ≡ u)). absurd (apart t.0)) (λ (t : (other ≢ id) × (get_elem? s.views other ≡ some u)). t.1) (at_set s.views id other (informed v u) u there) in
      record { word = kept.word; entries = kept.entries; words_are = kept.words_are; run = further (join id other) was now kept.run (v, u, at, theirs, apart, refl) }
