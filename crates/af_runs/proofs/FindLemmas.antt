-- A walk along the chain of what is wanted, from the last row of its code back to the first.
use Rattle.std.proofs.Common.{◌≡◌, ◌≢◌, refl, sym, ◌∙◌, ap, subst, ℕ, ◌<◌, ◌≤◌, List, [], ◌∷◌, map, length, get_or, take, Bool, true, false, ◌&&◌, ◌==◌, ◌⊎◌, inl, inr, ⊎_elim, arith, get_or-take, length-take-le, take_all}
use Rattle.std.proofs.lemmas.Bool.{cases_lt, false_from_ne_true}
use Rattle.std.proofs.lemmas.Bool.Decides.{nat_tests}
use Rattle.std.proofs.lemmas.List.{get_or-map, length-map, get_or_default}
use Rattle.std.proofs.lemmas.Slice.Eq.{slice_eq-Decides}
use Rattle.std.specs.Cmp.{unsigned_Decides}
use Rattle.af_graph.specs.Graph.{same_name}
use Rattle.af_runs.specs.Chains.{AreChains, last_after, last_of, no_row}
use Rattle.af_runs.specs.Codes.{ids_code, date_code}
use Rattle.af_runs.specs.Places.{IsMetAt, IsMetNowhere, StandsAt, StandsNowhere}
use Rattle.af_runs.specs.Runs.{AreRuns}
use Rattle.af_runs.specs.Wanted.{meets, code_of, key_of}
use Rattle.af_runs.specs.declared.chains.Chains.{Chains}
use Rattle.af_runs.specs.declared.run.Run.{Run}
use Rattle.af_runs.specs.declared.wanted.Wanted.{Wanted}
use Rattle.af_runs.specs.declared.wanted.Wanted.TheVariants.{Ids, Date}
use Rattle.af_runs.proofs.ChainLemmas.{LastAt, IsNone, last_row, earlier_at}
use Rattle.af_runs.proofs.PlaceLemmas.{rises, number_from}

name_is : (a b : List ℕ) → same_name a b ≡ true → a ≡ b
name_is a b same = (slice_eq-Decides unsigned_Decides a b (same_name a b) refl).0 same

and_both : (a b : Bool) → (a && b) ≡ true → (a ≡ true) × (b ≡ true)
and_both true true is = (refl, refl)
and_both true false is = absurd (cc)
and_both false b is = absurd (cc)

positive : (n : ℕ) → n ≢ 0 → 0 < n
positive n some = omega arith

apart_codes : (a b : ℕ) → (a == b) ≡ false → a ≢ b
apart_codes a b apart same = absurd (grind (arith, nat_tests))

some_run : (runs : List Run) → 0 < length runs → Run
some_run [] some = absurd (omega arith)
some_run (run ∷ runs) some = run

-- ---- what is wanted, by its code
key_number : (wanted : Wanted) (run : Run) → (key_of wanted run).0 ≡ run.number
key_number (Ids dag_id run_id) run = refl
key_number (Date dag_id date) run = refl

other_code : (wanted : Wanted) (run : Run) → ((key_of wanted run).1 == code_of wanted) ≡ false → meets wanted run ≡ false
other_code (Ids dag_id run_id) run other =
    false_from_ne_true (same_name run.dag_id dag_id.now && same_name run.run_id run_id.now) (λ is.
    let both = and_both (same_name run.dag_id dag_id.now) (same_name run.run_id run_id.now) is in
    apart_codes _ _ other (λ i. ids_code (name_is run.dag_id dag_id.now both.0 i) (name_is run.run_id run_id.now both.1 i)))
other_code (Date dag_id date) run other =
    false_from_ne_true (same_name run.dag_id dag_id.now && (run.logical_date == date)) (λ is.
    let both = and_both (same_name run.dag_id dag_id.now) (run.logical_date == date) is in
    apart_codes _ _ other (λ i. date_code (name_is run.dag_id dag_id.now both.0 i) (number_from run.logical_date date both.1 i)))

-- ---- the walk: what it looks for is not among the rows from m on, and it stands at the last row of the code before them
pub record Walks (wanted : Wanted) (runs : List Run) (m number : ℕ) : Type 0 where
  pub within : m ≤ length runs
  pub is : number ≡ last_after no_row (take m (map (key_of wanted) runs)) (code_of wanted)
  pub passed : (j : ℕ) (d : Run) → m ≤ j → j < length runs → meets wanted (get_or runs j d) ≡ false

-- where it stands
pub record WalksAt (wanted : Wanted) (runs : List Run) (m number place : ℕ) : Type 0 where
  pub below : place < m
  pub here : (d : Run) → key_of wanted (get_or runs place d) ≡ (number, code_of wanted)
  pub passed : (j : ℕ) (d : Run) → place < j → j < m → meets wanted (get_or runs j d) ≡ false

module _ (wanted : Wanted) (runs : List Run) (next : ℕ) (are : AreRuns runs next) where
  abbrev keys : List (ℕ × ℕ)
  keys = map (key_of wanted) runs

  key_at : (m k : ℕ) (d : Run) (e : ℕ × ℕ) → m ≤ length runs → k < m → get_or (take m keys) k e ≡ key_of wanted (get_or runs k d)
  key_at m k d e within below =
      get_or-take m keys k e below ∙ get_or-map (key_of wanted) runs k d e (omega arith)

  keys_long : (m : ℕ) → m ≤ length runs → length (take m keys) ≡ m
  keys_long m within = length-take-le m keys (omega (arith, length-map runs (key_of wanted)))

  pub walk_starts : (chains : Chains) → AreChains keys chains → (number : ℕ) → number ≡ last_of chains (code_of wanted) → Walks wanted runs (length runs) number
  walk_starts chains chained number is = record {
    within = omega arith;
    is = is ∙ chained.last (code_of wanted) ∙ ap (λ (rows : List (ℕ × ℕ)). last_after no_row rows (code_of wanted)) (sym (take_all (length runs) keys (omega (arith, length-map runs (key_of wanted)))));
    passed = λ j d above inside. absurd (omega arith);
  }

  -- it stands at a row, or no row is left
  walk_case : (m number : ℕ) → Walks wanted runs m number → ((number ≡ 0) × IsNone (code_of wanted) (take m keys)) ⊎ ((place : ℕ) × LastAt (code_of wanted) number (take m keys) place)
  walk_case m number walks =
      ⊎_elim
      (λ none. inl (walks.is ∙ none.0, none.1))
      (λ found. inr (found.0, subst (λ (n : ℕ). LastAt (code_of wanted) n (take m keys) found.0) (sym walks.is) found.1))
      (last_row (code_of wanted) no_row (take m keys))

  stands : (m number place : ℕ) → m ≤ length runs → LastAt (code_of wanted) number (take m keys) place → WalksAt wanted runs m number place
  stands m number place within at =
      let long = keys_long m within in
      record {
        below = omega (arith, at.within);
        here = λ d. sym (key_at m place d (0, 0) within (omega (arith, at.within))) ∙ at.here (0, 0);
        passed = λ j d above below.
            other_code wanted (get_or runs j d) (ap (λ (row : ℕ × ℕ). row.1 == code_of wanted) (sym (key_at m j d (0, 0) within below)) ∙ at.after j (0, 0) above (omega arith));
      }

  number_here : (m number place : ℕ) (d : Run) → WalksAt wanted runs m number place → (get_or runs place d).number ≡ number
  number_here m number place d at = sym (key_number wanted (get_or runs place d)) ∙ ap (λ (row : ℕ × ℕ). row.0) (at.here d)

  -- no row is left: none is met
  pub walk_ends : (m : ℕ) → Walks wanted runs m 0 → IsMetNowhere wanted runs
  walk_ends m walks = record {
    none = λ other d inside.
        ⊎_elim
        (λ below.
        ⊎_elim
        (λ none. other_code wanted (get_or runs other d) (ap (λ (row : ℕ × ℕ). row.1 == code_of wanted) (sym (key_at m other d (0, 0) walks.within below)) ∙ none.1 other (0, 0) (omega (arith, keys_long m walks.within))))
        (λ found.
        let at = stands m 0 found.0 walks.within found.1 in
        let here = number_here m 0 found.0 d at in
        let above = are.positive found.0 d (omega (arith, at.below, walks.within)) in
        absurd (omega arith))
        (walk_case m 0 walks))
        (λ above. walks.passed other d above inside)
        (cases_lt other m);
  }

  -- it stands where the row of its number stands
  walk_stands : (m number : ℕ) → Walks wanted runs m number → number ≢ 0 → (place : ℕ) × WalksAt wanted runs m number place
  walk_stands m number walks some =
      ⊎_elim
      (λ none. absurd (some none.0))
      (λ found. (found.0, stands m number found.0 walks.within found.1))
      (walk_case m number walks)

  pub walk_nowhere : (m number : ℕ) → Walks wanted runs m number → number ≢ 0 → StandsNowhere runs number → IsMetNowhere wanted runs
  walk_nowhere m number walks some nowhere =
      let at = walk_stands m number walks some in
      let d : Run = some_run runs (omega (arith, at.1.below, walks.within)) in
      let here = number_here m number at.0 d at.1 in
      let not_here = apart_codes _ _ (nowhere.none at.0 d (omega (arith, at.1.below, walks.within))) in
      absurd (not_here here)

  same_place : (number place other : ℕ) (d : Run) → StandsAt runs number place → other < length runs → (get_or runs other d).number ≡ number → other ≡ place
  same_place number place other d stands_at inside is =
      let here = number_from _ _ (stands_at.here d) in
      ⊎_elim
      (λ below. let up = rises runs next are other place d below stands_at.within in absurd (omega arith))
      (λ above.
      ⊎_elim
      (λ higher. let up = rises runs next are place other d higher inside in absurd (omega arith))
      (λ lower. omega arith)
      (cases_lt place other))
      (cases_lt other place)

  -- it goes on to the row of its code before
  pub walk_goes_on : (m number place : ℕ) (d : Run) (chains : Chains) → AreChains keys chains → Walks wanted runs m number → number ≢ 0 → StandsAt runs number place → meets wanted (get_or runs place d) ≡ false → (before : ℕ) → before ≡ get_or chains.earlier.items place before → Walks wanted runs place before × (before < number)
  walk_goes_on m number place d chains chained walks some stands_at unmet before before_is =
      let found = walk_stands m number walks some in
      let inside : found.0 < length runs = omega (arith, found.1.below, walks.within) in
      let same : found.0 ≡ place = same_place number place found.0 d stands_at inside (number_here m number found.0 d found.1) in
      let at : WalksAt wanted runs m number place = subst (λ (p : ℕ). WalksAt wanted runs m number p) same found.1 in
      let next_walk : Walks wanted runs place before = record {
        within = omega (arith, stands_at.within);
        is =
            before_is
            ∙ ap (λ (xs : List ℕ). get_or xs place before) chained.earlier
            ∙ earlier_at no_row keys place before (0, 0) (omega (arith, stands_at.within, length-map runs (key_of wanted)))
            ∙ ap (λ (row : ℕ × ℕ). last_after no_row (take place keys) row.1) (get_or-map (key_of wanted) runs place d (0, 0) stands_at.within ∙ at.here d);
        passed = λ j e from inside_j.
            ⊎_elim
            (λ above.
            ⊎_elim
            (λ below. at.passed j e above below)
            (λ beyond. walks.passed j e beyond inside_j)
            (cases_lt j m))
            (λ here.
            let j_is : place ≡ j = omega arith in
            subst (λ (p : ℕ). meets wanted (get_or runs p e) ≡ false) j_is (ap (meets wanted) (get_or_default runs place e d stands_at.within) ∙ unmet))
            (cases_lt place j);
      } in
      (next_walk, falls next_walk at)
    where
      falls : Walks wanted runs place before → WalksAt wanted runs m number place → before < number
      falls walk at =
          let here = number_here m number place d at in
          ⊎_elim
          (λ none. let above : 0 < number = positive number some in omega (arith, none.0))
          (λ found.
          let earlier = stands place before found.0 walk.within found.1 in
          let there = number_here place before found.0 d earlier in
          let up = rises runs next are found.0 place d earlier.below stands_at.within in
          omega arith)
          (walk_case place before walk)

  pub walk_meets : (place : ℕ) (e : Run) → place < length runs → meets wanted (get_or runs place e) ≡ true → IsMetAt wanted runs place
  walk_meets place e within met = record {
    within = within;
    here = λ d. ap (meets wanted) (get_or_default runs place d e within) ∙ met;
  }
