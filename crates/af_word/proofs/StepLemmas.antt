-- What the word's table asks of each step: it takes the run of steps one further, and tells what it is to tell.
use Rattle.std.proofs.Common.{◌≡◌, ◌≢◌, ℕ, ◌+◌, ◌/◌, ◌%◌, ◌^◌, ◌<◌, ◌≤◌, ◌==◌, Bool, true, false, List, [], ◌∷◌, ◌++◌, length, set, slice_get, slice_index, Some, MatchBool, refl, sym, ap, ◌∙◌, subst, ⊎_elim, lt_of_not-le, arith}
use Rattle.std.proofs.lemmas.Bool.Decides.{nat_tests}
use mathlib.Core.Option.{some, none}
use lib.ListN.{get_elem?}
use prog.Atomic.{either}
use Rattle.atomic_table.specs.Table.{State, Me, Act, keeps, step, Valid, carried_after, Allows, Splits, Joins}
use Rattle.atomic_table.specs.Table as table
use Rattle.atomic_table.proofs.Lists.{at_set}
use Rattle.af_prefixes.specs.Beginnings.{IsLonger}
use mathlib.Core.List.{IsPrefix}
use Rattle.af_prefixes.proofs.PrefixLemmas.{prefix_whole}
use Rattle.af_word.specs.declared.view.View.{View}
use Rattle.af_word.specs.Places.{Names, Within, word_of}
use Rattle.af_word.specs.Steps.{Standing, sight, sees, adds, parts, informed, nobody, looked, published, look, win, lose, split, join, opening, further, Ruled}
use Rattle.af_word.specs.Tells.{Now, Looks, Publishes}
use Rattle.af_word.proofs.RunLemmas.{run_kept}

-- the rule, as the table takes it
abbrev pub Rule : ℕ → ℕ → State ℕ View → Type 0
Rule first last s = Ruled first last s.words s.views

-- how things stand in a table that keeps the rule
abbrev standing_of : (first last : ℕ) (words : List ℕ) (views : List View) → Ruled first last words views → Standing
standing_of first last words views kept = record { word = kept.word; places = kept.places; views = views }

-- the opening
pub opens : (first last : ℕ) → first < 2 ^ 32 → Rule first last (table.opening (first ∷ []) [] (sight first last (first ∷ []) [] 0 0))
opens first last small = record { word = first; places = first ∷ []; words_are = refl; run = opening small }

-- what a seat's view says once it has seen a list
told_now : (first last : ℕ) (v : View) (places : List ℕ) (word : ℕ) → (v.first ≡ first) × (v.last ≡ last) → Within first last places → Names word places → Now v (sees v places) word
told_now first last v places word of within names = record {
  first_is = refl;
  last_is = refl;
  told = refl;
  counted = refl;
  within = subst (λ (x : ℕ × ℕ). Within x.0 x.1 places) (λ i. (sym of.0 i, sym of.1 i)) within;
  names = names;
}

-- what a seat's view says once it has published the last of a list
told_added : (first last : ℕ) (v : View) (places : List ℕ) (word : ℕ) → (v.first ≡ first) × (v.last ≡ last) → Within first last places → Names word places → Now v (adds v places) word
told_added first last v places word of within names = record {
  first_is = refl;
  last_is = refl;
  told = refl;
  counted = refl;
  within = subst (λ (x : ℕ × ℕ). Within x.0 x.1 places) (λ i. (sym of.0 i, sym of.1 i)) within;
  names = names;
}

-- a look
look_at : (first last slots id : ℕ) (v : View) (carried : List (ℕ × ℕ)) (s : State ℕ View) → 0 < length v.seen → (kept : Rule first last s) → get_elem? s.views id ≡ some v
    → (words : List ℕ) → words ≡ kept.word ∷ []
    → (w : View) × (a : Act ℕ) × Valid s.homes carried a × Ruled first last (set words 0 (slice_index words 0)) (set s.views id w)
    × Looks (step slots 0 0 0 none) (v, carried) (slice_index words 0) (w, carried_after carried a)
look_at first last slots id v carried s some_seen kept at words is =
    let was = standing_of first last s.words s.views kept in
    let all = run_kept first last was kept.run in
    let mine = all.knows id v at in
    let w = sees v kept.places in
    let P : List ℕ → Type 0 = λ ws. (w : View) × (a : Act ℕ) × Valid s.homes carried a × Ruled first last (set ws 0 (slice_index ws 0)) (set s.views id w) × Looks (step slots 0 0 0 none) (v, carried) (slice_index ws 0) (w, carried_after carried a) in
    subst P (sym is) (
      w,
      keeps,
      tt,
      record { word = kept.word; places = kept.places; words_are = refl; run = further (look id) was (looked was id v) kept.run (v, at, some_seen, refl) },
      (told_now first last v kept.places kept.word (mine.of some_seen) all.within all.names, mine.seen, mine.told, refl, refl),
    )

pub looks : (first last slots id : ℕ) (me : Me ℕ View) → 0 < length me.0.seen → Allows (Rule first last) slots id me 0 (λ n. n) (Looks (step slots 0 0 0 none) me)
looks first last slots id me some_seen s kept sized at small = look_at first last slots id me.0 me.1 s some_seen kept at s.words kept.words_are

-- a split
pub splits : (first last id : ℕ) (v : View) → Splits (Rule first last) id v (parts v) (parts v)
splits first last id v s kept at =
    let was = standing_of first last s.words s.views kept in
    let now : Standing = record was { views = set s.views id (parts v) ++ parts v ∷ [] } in
    record { word = kept.word; places = kept.places; words_are = kept.words_are; run = further (split id) was now kept.run (v, at, refl) }

-- a join
pub joins : (first last id : ℕ) (v : View) (other : ℕ) (u : View) → Joins (Rule first last) id v other u (informed v u) nobody
joins first last id v other u s kept at apart there =
    let was = standing_of first last s.words s.views kept in
    let now : Standing = record was { views = set (set s.views id (informed v u)) other nobody } in
    let theirs : get_elem? s.views other ≡ some u = ⊎_elim (λ (t : (other ≡ id) × (informed v u ≡ u)). absurd (apart t.0)) (λ (t : (other ≢ id) × (get_elem? s.views other ≡ some u)). t.1) (at_set s.views id other (informed v u) u there) in
    record { word = kept.word; places = kept.places; words_are = kept.words_are; run = further (join id other) was now kept.run (v, u, at, theirs, apart, refl) }

-- one word names one list, of two of which one begins the other
same_word : (places seen : List ℕ) (word old : ℕ) → Names word places → Names old seen → IsPrefix seen places → length places ≤ length seen → word ≡ old
same_word places seen word old here there begins le =
    let same : seen ≡ places = prefix_whole seen places begins le in
    let versions : word / 2 ^ 32 ≡ old / 2 ^ 32 = omega (arith, here.last, there.last, ap length same) in
    let entry : Some (word % 2 ^ 32) ≡ Some (old % 2 ^ 32) = sym here.place ∙ (ap (λ (k : ℕ). slice_get places k) versions ∙ (ap (λ (l : List ℕ). slice_get l (old / 2 ^ 32)) (sym same) ∙ there.place)) in
    let index : word % 2 ^ 32 ≡ old % 2 ^ 32 = cc entry in
    omega arith

-- what an exchange finds
module _ (first last slots id : ℕ) (v : View) (carried : List (ℕ × ℕ)) (old new : ℕ) (s : State ℕ View) where
  abbrev Goes : List ℕ → Type 0
  Goes ws =
      (w : View) × (a : Act ℕ) × Valid s.homes carried a
      × Ruled first last (set ws 0 (either (slice_index ws 0 == old) new (slice_index ws 0))) (set s.views id w)
      × Publishes (step slots 0 old new none) (v, carried) (slice_index ws 0) (w, carried_after carried a)

  publish_at : Names old v.seen → new / 2 ^ 32 ≡ old / 2 ^ 32 + 1 → old / 2 ^ 32 < v.last → (kept : Rule first last s) → get_elem? s.views id ≡ some v
      → (b : Bool) → (kept.word == old) ≡ b → Goes (kept.word ∷ [])
  publish_at ends next room kept at true is =
      let was = standing_of first last s.words s.views kept in
      let all = run_kept first last was kept.run in
      let mine = all.knows id v at in
      let whose = mine.of (omega (arith, ends.last)) in
      let here : kept.word ≡ old = grind (arith, nat_tests) in
      let same : v.seen ≡ kept.places = prefix_whole v.seen kept.places mine.seen (omega (arith, all.names.last, ends.last)) in
      let place : ℕ = new % 2 ^ 32 in
      let word : word_of (length kept.places) place ≡ new = omega (arith, all.names.last, next) in
      let free : length kept.places ≤ last = omega (arith, all.names.last, whose.1, room) in
      let now = published was id v place in
      let run = further (win id place) was now kept.run (v, at, same, free, omega arith, refl) in
      let after = run_kept first last now run in
      let w = adds v now.places in (
        w,
        keeps,
        tt,
        record { word = now.word; places = now.places; words_are = ap (λ (t : Bool). either t new kept.word ∷ []) is ∙ ap (λ (n : ℕ). n ∷ []) (sym word); run = run },
        (
          refl,
          subst
              (λ (t : Bool). MatchBool t (Now v w new × (now.places ≡ v.seen ++ place ∷ []) × (w.deeds ≡ v.deeds + 1)) (Now v w kept.word × IsLonger v.seen now.places × (w.deeds ≡ v.deeds)))
              (sym is)
              (told_added first last v now.places new whose after.within (subst (λ (n : ℕ). Names n now.places) word after.names), ap (λ (l : List ℕ). l ++ place ∷ []) (sym same), refl),
        ),
      )
  publish_at ends next room kept at false is =
      let was = standing_of first last s.words s.views kept in
      let all = run_kept first last was kept.run in
      let mine = all.knows id v at in
      let some_seen : 0 < length v.seen = omega (arith, ends.last) in
      let apart : kept.word ≢ old = λ e. absurd (grind (arith, nat_tests)) in
      let less : length v.seen < length kept.places = lt_of_not-le (λ le. apart (same_word kept.places v.seen kept.word old all.names ends mine.seen le)) in
      let w = sees v kept.places in (
        w,
        keeps,
        tt,
        record { word = kept.word; places = kept.places; words_are = ap (λ (t : Bool). either t new kept.word ∷ []) is; run = further (lose id) was (looked was id v) kept.run (v, at, some_seen, less, refl) },
        (
          refl,
          subst
              (λ (t : Bool). MatchBool t (Now v w new × (kept.places ≡ v.seen ++ new % 2 ^ 32 ∷ []) × (w.deeds ≡ v.deeds + 1)) (Now v w kept.word × IsLonger v.seen kept.places × (w.deeds ≡ v.deeds)))
              (sym is)
              (told_now first last v kept.places kept.word (mine.of some_seen) all.within all.names, (mine.seen, less), refl),
        ),
      )

pub publishes : (first last slots id : ℕ) (me : Me ℕ View) (old new : ℕ) → Names old me.0.seen → new / 2 ^ 32 ≡ old / 2 ^ 32 + 1 → old / 2 ^ 32 < me.0.last
    → Allows (Rule first last) slots id me 0 (λ n. either (n == old) new n) (Publishes (step slots 0 old new none) me)
publishes first last slots id me old new ends next room s kept sized at small =
    subst (Goes first last slots id me.0 me.1 old new s) (sym kept.words_are) (publish_at first last slots id me.0 me.1 old new s ends next room kept at (kept.word == old) refl)
