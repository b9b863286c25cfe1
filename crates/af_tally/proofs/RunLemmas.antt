-- Every run of steps keeps the rule.
use Rattle.std.proofs.Common.{◌≡◌, ◌≢◌, ℕ, zero, suc, ◌+◌, ◌≤◌, true, false, true≢false, List, [], ◌∷◌, ◌++◌, length, set, refl, sym, ap, ◌∙◌, subst, ⊎_elim, inl, inr, arith, length-append}
use Rattle.std.proofs.lemmas.List.{append-nil}
use mathlib.Core.Option.{some, some-injective, some-ne-none}
use mathlib.Core.List.{IsPrefix}
use lib.ListN.{get_elem?}
use Rattle.atomic_table.proofs.Lists.{at_set, at_snoc, at_longer, set_else}
use Rattle.af_prefixes.proofs.PrefixLemmas.{prefix_self, prefix_empty, prefix_more, prefix_whole, prefixes_agree, prefixes_in_a_row}
use Rattle.af_tally.specs.declared.view.View.{View}
use Rattle.af_tally.specs.Steps.{Standing, IsSeat, keeping, witness, copied, compared, informed, nobody, opened, Kind, add, load, split, join, Does, opening, further, Knows, IsKept}
use Rattle.af_tally.specs.Laws.{OthersKeepTheirView, NoSeatForgets, EveryRunKeepsTheRule, NoStepFalls, SeatsAgree}

off : false ≡ true → ⊥
off e = true≢false (sym e)

-- of two beginnings of one list the shorter begins the longer
pub prefix_shorter : {A : Type 0} (xs ys zs : List A) → IsPrefix xs zs → IsPrefix ys zs → length xs ≤ length ys → IsPrefix xs ys
prefix_shorter {A} xs ys zs p q le =
    ⊎_elim
    (λ (it : IsPrefix xs ys). it)
    (λ (it : IsPrefix ys xs). subst (λ (l : List A). IsPrefix l ys) (prefix_whole ys xs it le) (prefix_self ys))
    (prefixes_in_a_row xs ys zs p q)

module _ {E : Type 0} where
  -- a witness that has seen a beginning
  knows_witness : (entries seen : List E) (seat : ℕ) → IsPrefix seen entries → Knows entries seat (witness seen)
  knows_witness entries seen seat begins = record { keeps = λ t. absurd (off t); seen = begins; told = prefix_empty entries }

  -- after one view has changed, where those of the other seats still know what they should
  knows_set : (was now : List E) (views : List (View E)) (seat : ℕ) (w : View E)
      → ((j : ℕ) (u : View E) → j ≢ seat → Knows was j u → Knows now j u)
      → ((j : ℕ) (u : View E) → get_elem? views j ≡ some u → Knows was j u) → Knows now seat w
      → (j : ℕ) (u : View E) → get_elem? (set views seat w) j ≡ some u → Knows now j u
  knows_set was now views seat w on others mine j u e =
      ⊎_elim
      (λ (x : (j ≡ seat) × (w ≡ u)). subst (λ (y : ℕ × View E). Knows now y.0 y.1) (λ i. (sym x.0 i, x.1 i)) mine)
      (λ (x : (j ≢ seat) × (get_elem? views j ≡ some u)). on j u x.0 (others j u x.1))
      (at_set views seat j w u e)

  -- the opening
  opened_kept : IsKept (opened {E = E})
  opened_kept = record { counts = refl; knows = one }
    where
      one : (by : ℕ) (v : View E) → get_elem? (keeping [] ∷ []) by ≡ some v → Knows [] by v
      one zero v e = subst (Knows [] 0) (some-injective _ _ e) (record { keeps = λ _. (refl, refl); seen = prefix_empty []; told = prefix_empty [] })
      one (suc by) v e = absurd (some-ne-none v (sym e))

  -- the keeper adds an entry
  added_kept : (s : Standing E) (seat : ℕ) (v : View E) (entry : E) → IsKept s → IsSeat s seat v → v.keeps ≡ true
      → IsKept (record { word = s.word + 1; entries = s.entries ++ entry ∷ []; views = set s.views seat (keeping (v.seen ++ entry ∷ [])) })
  added_kept s seat v entry kept at keeps =
      let mine = (kept.knows seat v at).keeps keeps in
      let now : List E = s.entries ++ entry ∷ [] in
      let whole : v.seen ++ entry ∷ [] ≡ now = ap (λ (l : List E). l ++ entry ∷ []) mine.1 in
      record {
        counts = omega (arith, kept.counts, length-append s.entries (entry ∷ []));
        knows = knows_set s.entries now s.views seat (keeping (v.seen ++ entry ∷ []))
            (λ j u apart k. record { keeps = λ t. absurd (apart ((k.keeps t).0 ∙ sym mine.0)); seen = prefix_more u.seen s.entries entry k.seen; told = prefix_more u.told s.entries entry k.told })
            kept.knows
            (record { keeps = λ _. (mine.0, whole); seen = subst (λ (l : List E). IsPrefix l now) (sym whole) (prefix_self now); told = prefix_empty now });
      }

  -- a seat loads
  loaded_kept : (s : Standing E) (seat : ℕ) (v : View E) → IsKept s → IsSeat s seat v → IsKept (record s { views = set s.views seat (compared v) })
  loaded_kept s seat v kept at =
      let mine = kept.knows seat v at in
      record {
        counts = kept.counts;
        knows = knows_set s.entries s.entries s.views seat (compared v) (λ j u apart k. k) kept.knows (record { keeps = mine.keeps; seen = mine.seen; told = prefix_empty s.entries });
      }

  -- a seat is split
  split_kept : (s : Standing E) (seat : ℕ) (v : View E) → IsKept s → IsSeat s seat v → IsKept (record s { views = s.views ++ copied v ∷ [] })
  split_kept s seat v kept at = record {
    counts = kept.counts;
    knows = λ j u e. ⊎_elim
        (λ was. kept.knows j u was)
        (λ (same : copied v ≡ u). subst (Knows s.entries j) same (knows_witness s.entries v.seen j (kept.knows seat v at).seen))
        (at_snoc s.views (copied v) u j e);
  }

  -- two seats are joined
  joined_kept : (s : Standing E) (seat other : ℕ) (v u : View E) → IsKept s → IsSeat s seat v → IsSeat s other u
      → IsKept (record s { views = set (set s.views seat (informed v u)) other nobody })
  joined_kept s seat other v u kept at there =
      let mine = kept.knows seat v at in
      let theirs = kept.knows other u there in
      record {
        counts = kept.counts;
        knows = knows_set s.entries s.entries (set s.views seat (informed v u)) other nobody (λ j w apart k. k)
            (knows_set s.entries s.entries s.views seat (informed v u) (λ j w apart k. k) kept.knows (record { keeps = mine.keeps; seen = mine.seen; told = theirs.seen }))
            (knows_witness s.entries [] other (prefix_empty s.entries));
      }

  -- each kind of step keeps the rule
  step_kept : (kind : Kind E) (was now : Standing E) → IsKept was → Does kind was now → IsKept now
  step_kept (add seat entry) was now kept (v, at, keeps, room, is) = subst IsKept (sym is) (added_kept was seat v entry kept at keeps)
  step_kept (load seat) was now kept (v, at, is) = subst IsKept (sym is) (loaded_kept was seat v kept at)
  step_kept (split seat) was now kept (v, at, is) = subst IsKept (sym is) (split_kept was seat v kept at)
  step_kept (join seat other) was now kept (v, u, at, there, apart, is) = subst IsKept (sym is) (joined_kept was seat other v u kept at there)

  pub run_kept : EveryRunKeepsTheRule E
  run_kept _ opening = opened_kept
  run_kept _ (further kind was now run does) = step_kept kind was now (run_kept was run) does

  -- where the list and the word stay
  stays : (was now : Standing E) → now.entries ≡ was.entries → now.word ≡ was.word → (now.entries ≡ was.entries ++ []) × (was.word ≤ now.word)
  stays was now same word = (same ∙ sym (append-nil was.entries), omega (arith, word))

  pub step_rises : NoStepFalls E
  step_rises (add seat entry) was now (v, at, keeps, room, is) =
      let word : now.word ≡ was.word + 1 = ap (λ (s : Standing E). s.word) is in
      (ap (λ (s : Standing E). s.entries) is, omega (arith, word))
  step_rises (load seat) was now (v, at, is) = stays was now (ap (λ (s : Standing E). s.entries) is) (ap (λ (s : Standing E). s.word) is)
  step_rises (split seat) was now (v, at, is) = stays was now (ap (λ (s : Standing E). s.entries) is) (ap (λ (s : Standing E). s.word) is)
  step_rises (join seat other) was now (v, u, at, there, apart, is) = stays was now (ap (λ (s : Standing E). s.entries) is) (ap (λ (s : Standing E). s.word) is)

  pub seats_agreed : SeatsAgree E
  seats_agreed now one other v u run here there =
      let kept = run_kept now run in
      prefixes_agree v.seen u.seen now.entries (kept.knows one v here).seen (kept.knows other u there).seen

  -- the views of all other seats stay
  pub step_leaves : OthersKeepTheirView E
  step_leaves (add seat entry) was now by v (u, at, keeps, room, is) apart here = subst (λ (s : Standing E). IsSeat s by v) (sym is) (set_else was.views seat by (keeping (u.seen ++ entry ∷ [])) apart ∙ here)
  step_leaves (load seat) was now by v (u, at, is) apart here = subst (λ (s : Standing E). IsSeat s by v) (sym is) (set_else was.views seat by (compared u) apart ∙ here)
  step_leaves (split seat) was now by v (u, at, is) apart here = subst (λ (s : Standing E). IsSeat s by v) (sym is) (at_longer was.views (copied u ∷ []) by v here)
  step_leaves (join seat other) was now by v (u, t, at, there, distinct, is) apart here =
      subst
      (λ (s : Standing E). IsSeat s by v)
      (sym is)
      (set_else (set was.views seat (informed u t)) other by nobody (λ e. apart (inr e)) ∙ (set_else was.views seat by (informed u t) (λ e. apart (inl e)) ∙ here))

  -- one seat has one view
  one_view : (views : List (View E)) (by seat : ℕ) (v u : View E) → by ≡ seat → get_elem? views by ≡ some v → get_elem? views seat ≡ some u → v ≡ u
  one_view views by seat v u same here at = some-injective v u (sym here ∙ (ap (λ (k : ℕ). get_elem? views k) same ∙ at))

  -- after one view has changed, a seat has seen what it had, if the seat of that view has
  seen_set : (views : List (View E)) (seat by : ℕ) (u x v w : View E) → get_elem? views seat ≡ some u → IsPrefix u.seen x.seen → get_elem? views by ≡ some v → get_elem? (set views seat x) by ≡ some w → IsPrefix v.seen w.seen
  seen_set views seat by u x v w at more here there =
      ⊎_elim
      (λ (e : (by ≡ seat) × (x ≡ w)). subst (λ (y : View E × View E). IsPrefix y.0.seen y.1.seen) (λ i. (sym (one_view views by seat v u e.0 here at) i, e.1 i)) more)
      (λ (e : (by ≢ seat) × (get_elem? views by ≡ some w)). subst (λ (y : View E). IsPrefix v.seen y.seen) (some-injective v w (sym here ∙ e.1)) (prefix_self v.seen))
      (at_set views seat by x w there)

  pub step_remembers : NoSeatForgets E
  step_remembers (add seat entry) was now by v w (u, at, keeps, room, is) stays here there =
      seen_set was.views seat by u (keeping (u.seen ++ entry ∷ [])) v w at (prefix_more u.seen u.seen entry (prefix_self u.seen)) here (subst (λ (s : Standing E). IsSeat s by w) is there)
  step_remembers (load seat) was now by v w (u, at, is) stays here there =
      seen_set was.views seat by u (compared u) v w at (prefix_self u.seen) here (subst (λ (s : Standing E). IsSeat s by w) is there)
  step_remembers (split seat) was now by v w (u, at, is) stays here there =
      let still : get_elem? (was.views ++ copied u ∷ []) by ≡ some w = subst (λ (s : Standing E). IsSeat s by w) is there in
      subst (λ (y : View E). IsPrefix v.seen y.seen) (some-injective v w (sym (at_longer was.views (copied u ∷ []) by v here) ∙ still)) (prefix_self v.seen)
  step_remembers (join seat other) was now by v w (u, t, at, other_at, distinct, is) stays here there =
      let still : get_elem? (set (set was.views seat (informed u t)) other nobody) by ≡ some w = subst (λ (s : Standing E). IsSeat s by w) is there in
      seen_set was.views seat by u (informed u t) v w at (prefix_self u.seen) here (sym (set_else (set was.views seat (informed u t)) other by nobody stays) ∙ still)
