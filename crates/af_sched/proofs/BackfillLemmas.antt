-- What a backfill leaves: runs after those that were there, one for each point whose date and whose id are free.
use Rattle.std.proofs.Common.{◌≡◌, ◌∙◌, ◌<◌, ◌≤◌, ◌+◌, ◌^◌, ◌++◌, ◌&&◌, ◌||◌, ◌==◌, ℕ, List, [], ◌∷◌, length, refl, sym, ap, subst, arith, suc, Bool, true, false, cond, append_assoc, length-append, ⊎_elim}
use Rattle.std.specs.Prelude.{All, filter, fold, is_none, nat_le, not, Some, None}
use Rattle.std.specs.List.{list_any}
use Rattle.std.proofs.lemmas.Bool.{cases_Bool, cond-true, cond-false, false≢true, true≢false}
use Rattle.std.proofs.lemmas.Bool.Decides.{nat_tests}
use Rattle.std.proofs.lemmas.List.{append-nil}
use Rattle.std.proofs.lemmas.List.Elements.{All-append, All-cons, All-nil}
use Rattle.std.proofs.lemmas.List.Folds.{list_any-append}
use Rattle.std.specs.Cmp.Lexicographic.{nat_list_eq_equiv}
use Rattle.af_graph.specs.Graph.{same_name}
use Rattle.af_runs.specs.Runs.{add_fault, has_room, is_dated, is_full, is_of, is_run, queued_run, runs_of}
use Rattle.af_runs.specs.declared.new_run.NewRun.{NewRun}
use Rattle.af_runs.specs.declared.run.Run.{Run}
use Rattle.af_runs.specs.declared.run_fault.RunFault.TheVariants.{DateTaken, Full, RunExists}
use Rattle.af_sched.specs.Backfills.{is_free}
use Rattle.af_sched.specs.Create.{with_run}
use Rattle.af_sched.specs.State.{StateRows}

-- the state with this run last
abbrev pub more_of : StateRows → NewRun → StateRows
more_of state new = record state { runs = state.runs ++ queued_run state.next_run new ∷ []; next_run = state.next_run + 1 }

-- ---- it only grows
module _ (P : Run → Type 0) where
  -- a state with more runs after its own, numbered on, of each of which P holds; all else is the same
  pub record Grows (old new : StateRows) : Type 0 where
    pub more : List Run
    pub is : new ≡ record old { runs = old.runs ++ more; next_run = old.next_run + length more }
    pub each : All P more

  grows_not : (state : StateRows) → Grows state state
  grows_not state =
      let same : state.next_run ≡ state.next_run + 0 = omega arith in
      record { more = []; is = λ i. record state { runs = sym (append-nil state.runs) i; next_run = same i }; each = All-nil P }

  grows_more : (state : StateRows) (new : NewRun) → P (queued_run state.next_run new) → Grows state (more_of state new)
  grows_more state new here =
      record { more = queued_run state.next_run new ∷ []; is = refl; each = All-cons P (queued_run state.next_run new) [] here (All-nil P) }

  grows_one : (state : StateRows) (new : NewRun) → P (queued_run state.next_run new) → Grows state (with_run state new)
  grows_one state new here = by (is_none (add_fault state.runs state.next_run new.dag_id new.run_id new.logical_date))
    where
      by : (b : Bool) → Grows state (cond b (more_of state new) state)
      by true = grows_more state new here
      by false = grows_not state

  grows_trans : (a b c : StateRows) → Grows a b → Grows b c → Grows a c
  grows_trans a b c first second =
      let count : a.next_run + length first.more + length second.more ≡ a.next_run + length (first.more ++ second.more) = omega (arith, length-append first.more second.more) in
      record {
        more = first.more ++ second.more;
        is =
            second.is
            ∙ ap (λ (s : StateRows). record s { runs = s.runs ++ second.more; next_run = s.next_run + length second.more }) first.is
            ∙ (λ i. record a { runs = append_assoc a.runs first.more second.more i; next_run = count i });
        each = All-append P first.more second.more first.each second.each;
      }

  pub grows_by : (news : List NewRun) (state : StateRows) → All (λ new. (number : ℕ) → P (queued_run number new)) news → Grows state (fold with_run state news)
  grows_by [] state all = grows_not state
  grows_by (new ∷ news) state all =
      grows_trans state (with_run state new) (fold with_run (with_run state new) news) (grows_one state new (all 0 new (omega arith) state.next_run))
      (grows_by news (with_run state new) (λ k d inside. all (suc k) d (omega arith)))

-- ---- what is taken is passed over, and stays taken
passed : (a b f : Bool) (more state : StateRows) → not (a || b) ≡ false → cond (is_none (cond a (Some RunExists) (cond b (Some DateTaken) (cond f (Some Full) None)))) more state ≡ state
passed true b f more state taken = refl
passed false true f more state taken = refl
passed false false f more state taken = absurd (true≢false taken)

-- a run that is not free is passed over
pub passed_over : (state : StateRows) (new : NewRun) → is_free state new ≡ false → with_run state new ≡ state
passed_over state new taken =
    passed (list_any (is_run new.dag_id new.run_id) state.runs) (list_any (is_dated new.dag_id new.logical_date) state.runs) (is_full state.runs state.next_run new.dag_id) (more_of state new) state taken

added : (a b f : Bool) (more state : StateRows) → not (a || b) ≡ true → f ≡ false → cond (is_none (cond a (Some RunExists) (cond b (Some DateTaken) (cond f (Some Full) None)))) more state ≡ more
added true b f more state free room = absurd (false≢true free)
added false true f more state free room = absurd (false≢true free)
added false false true more state free room = absurd (true≢false room)
added false false false more state free room = refl

-- a free one is added where there is room
pub added_free : (state : StateRows) (new : NewRun) → is_free state new ≡ true → is_full state.runs state.next_run new.dag_id ≡ false → with_run state new ≡ more_of state new
added_free state new free room =
    added (list_any (is_run new.dag_id new.run_id) state.runs) (list_any (is_dated new.dag_id new.logical_date) state.runs) (is_full state.runs state.next_run new.dag_id) (more_of state new) state free room

stays_true : (a b : Bool) → a ≡ true → (a || b) ≡ true
stays_true true b is = refl
stays_true false b is = absurd (false≢true is)

either_stays : (a b c d : Bool) → (a ≡ true → c ≡ true) → (b ≡ true → d ≡ true) → not (a || b) ≡ false → not (c || d) ≡ false
either_stays true b c d first second taken = rw (first refl) refl
either_stays false true true d first second taken = refl
either_stays false true false d first second taken = rw (second refl) refl
either_stays false false c d first second taken = absurd (true≢false taken)

pub any_stays : (test : Run → Bool) (runs more : List Run) → list_any test runs ≡ true → list_any test (runs ++ more) ≡ true
any_stays test runs more is = list_any-append test runs more ∙ stays_true (list_any test runs) (list_any test more) is

-- what is not free is not free once there are more runs
taken_stays : (state : StateRows) (more : List Run) (next : ℕ) (new : NewRun) → is_free state new ≡ false → is_free (record state { runs = state.runs ++ more; next_run = next }) new ≡ false
taken_stays state more next new taken =
    either_stays (list_any (is_run new.dag_id new.run_id) state.runs) (list_any (is_dated new.dag_id new.logical_date) state.runs) (list_any (is_run new.dag_id new.run_id) (state.runs ++ more)) (list_any (is_dated new.dag_id new.logical_date) (state.runs ++ more))
    (any_stays (is_run new.dag_id new.run_id) state.runs more)
    (any_stays (is_dated new.dag_id new.logical_date) state.runs more)
    taken

taken_grown : (P : Run → Type 0) (old now : StateRows) (new : NewRun) → Grows P old now → is_free old new ≡ false → is_free now new ≡ false
taken_grown P old now new grows taken =
    subst (λ (s : StateRows). is_free s new ≡ false) (sym grows.is) (taken_stays old grows.more (old.next_run + length grows.more) new taken)

-- ---- where none is free, nothing changes
count_free : (state : StateRows) (new : NewRun) (news : List NewRun) → is_free state new ≡ true → length (filter (is_free state) (new ∷ news)) ≡ suc (length (filter (is_free state) news))
count_free state new news free = ap length (cond-true (is_free state new) (new ∷ filter (is_free state) news) (filter (is_free state) news) free)

count_taken : (state : StateRows) (new : NewRun) (news : List NewRun) → is_free state new ≡ false → length (filter (is_free state) (new ∷ news)) ≡ length (filter (is_free state) news)
count_taken state new news taken = ap length (cond-false (is_free state new) (new ∷ filter (is_free state) news) (filter (is_free state) news) taken)

pub none_free : (news : List NewRun) (state : StateRows) → length (filter (is_free state) news) ≡ 0 → fold with_run state news ≡ state
none_free [] state none = refl
none_free (new ∷ news) state none =
    ⊎_elim
    (λ (free : is_free state new ≡ true). let one = count_free state new news free in absurd (omega arith))
    (λ (taken : is_free state new ≡ false).
    ap (λ (s : StateRows). fold with_run s news) (passed_over state new taken) ∙ none_free news state (sym (count_taken state new news taken) ∙ none))
    (cases_Bool (is_free state new))

-- ---- where there is room, none that is free is passed over
both : (a b : Bool) → (a && b) ≡ true → (a ≡ true) × (b ≡ true)
both true b is = (refl, is)
both false b is = absurd (false≢true is)

not_either : (a b : Bool) → a ≡ false → b ≡ false → (a || b) ≡ false
not_either true b one other = one
not_either false b one other = other

-- there is room for one where there is room for more than none
room_for_one : (state : StateRows) (dag_id : List ℕ) (count : ℕ) → has_room state.runs state.next_run dag_id (suc count) ≡ true → is_full state.runs state.next_run dag_id ≡ false
room_for_one state dag_id count room =
    let long : ℕ = length (runs_of state.runs dag_id) in
    let parts = both (nat_le (long + suc count) 65_536) (nat_le (state.next_run + suc count) (2 ^ 64)) room in
    let few : nat_le (long + suc count) 65_536 ≡ true = parts.0 in
    let left : nat_le (state.next_run + suc count) (2 ^ 64) ≡ true = parts.1 in
    not_either (nat_le 65_536 long) (nat_le (2 ^ 64) state.next_run) (grind (arith, nat_tests)) (grind (arith, nat_tests))

-- all of them are of this DAG
abbrev pub AreOf : List ℕ → List NewRun → Type 0
AreOf dag_id news = All (λ new. new.dag_id ≡ dag_id) news

pub one_free : (news : List NewRun) (state : StateRows) (dag_id : List ℕ) → AreOf dag_id news → 0 < length (filter (is_free state) news) → has_room state.runs state.next_run dag_id (length (filter (is_free state) news)) ≡ true → length state.runs < length (fold with_run state news).runs
one_free [] state dag_id of some room = absurd (omega arith)
one_free (new ∷ news) state dag_id of some room =
    ⊎_elim
    (λ (free : is_free state new ≡ true).
    let count = count_free state new news free in
    let room_now : has_room state.runs state.next_run dag_id (suc (length (filter (is_free state) news))) ≡ true = subst (λ (n : ℕ). has_room state.runs state.next_run dag_id n ≡ true) count room in
    let full : is_full state.runs state.next_run new.dag_id ≡ false = ap (is_full state.runs state.next_run) (of 0 new (omega arith)) ∙ room_for_one state dag_id (length (filter (is_free state) news)) room_now in
    let grows = grows_by (λ run. Unit {0}) news (more_of state new) (λ k d inside number. tt) in
    let runs = ap (λ (s : StateRows). length (fold with_run s news).runs) (added_free state new free full) ∙ ap (λ (s : StateRows). length s.runs) grows.is in
    let all = length-append (more_of state new).runs grows.more in
    let one = length-append state.runs (queued_run state.next_run new ∷ []) in
    omega arith)
    (λ (taken : is_free state new ≡ false).
    let count = count_taken state new news taken in
    subst (λ (s : StateRows). length state.runs < length (fold with_run s news).runs) (sym (passed_over state new taken))
    (one_free news state dag_id (λ k d inside. of (suc k) d (omega arith)) (omega arith) (subst (λ (n : ℕ). has_room state.runs state.next_run dag_id n ≡ true) count room)))
    (cases_Bool (is_free state new))

-- ---- each is taken afterwards
fewer : (p q : NewRun → Bool) → ((new : NewRun) → p new ≡ false → q new ≡ false) → (news : List NewRun) → length (filter q news) ≤ length (filter p news)
fewer p q stays [] = omega arith
fewer p q stays (new ∷ news) = by (p new) (q new) (stays new) (fewer p q stays news)
  where
    by : (a b : Bool) → (a ≡ false → b ≡ false) → length (filter q news) ≤ length (filter p news) → length (cond b (new ∷ filter q news) (filter q news)) ≤ length (cond a (new ∷ filter p news) (filter p news))
    by true true here rest = omega (arith, rest)
    by true false here rest = omega (arith, rest)
    by false true here rest = absurd (true≢false (here refl))
    by false false here rest = rest

few_of : (runs : List Run) (run : Run) (dag_id : List ℕ) → length (runs_of (runs ++ run ∷ []) dag_id) ≤ suc (length (runs_of runs dag_id))
few_of [] run dag_id = by (is_of dag_id run)
  where
    by : (b : Bool) → length (cond b (run ∷ []) []) ≤ 1
    by true = omega arith
    by false = omega arith
few_of (x ∷ runs) run dag_id = by (is_of dag_id x) (few_of runs run dag_id)
  where
    by : (b : Bool) → length (runs_of (runs ++ run ∷ []) dag_id) ≤ suc (length (runs_of runs dag_id)) → length (cond b (x ∷ runs_of (runs ++ run ∷ []) dag_id) (runs_of (runs ++ run ∷ []) dag_id)) ≤ suc (length (cond b (x ∷ runs_of runs dag_id) (runs_of runs dag_id)))
    by true rest = omega (arith, rest)
    by false rest = rest

and_true : (a b : Bool) → a ≡ true → b ≡ true → (a && b) ≡ true
and_true true b one other = other
and_true false b one other = one

-- one more run takes the room of one
room_left : (state : StateRows) (new : NewRun) (dag_id : List ℕ) (count less : ℕ) → less ≤ count → has_room state.runs state.next_run dag_id (suc count) ≡ true → has_room (more_of state new).runs (more_of state new).next_run dag_id less ≡ true
room_left state new dag_id count less fits room =
    let long : ℕ = length (runs_of state.runs dag_id) in
    let longer : ℕ = length (runs_of (state.runs ++ queued_run state.next_run new ∷ []) dag_id) in
    let parts = both (nat_le (long + suc count) 65_536) (nat_le (state.next_run + suc count) (2 ^ 64)) room in
    let few : nat_le (long + suc count) 65_536 ≡ true = parts.0 in
    let left : nat_le (state.next_run + suc count) (2 ^ 64) ≡ true = parts.1 in
    let one : longer ≤ suc long = few_of state.runs (queued_run state.next_run new) dag_id in
    and_true (nat_le (longer + less) 65_536) (nat_le (state.next_run + 1 + less) (2 ^ 64)) (grind (arith, nat_tests)) (grind (arith, nat_tests))

same_itself : (number : ℕ) → (number == number) ≡ true
same_itself number = grind (arith, nat_tests)

last_any : (test : Run → Bool) (runs : List Run) (run : Run) → test run ≡ true → list_any test (runs ++ run ∷ []) ≡ true
last_any test [] run is = rw is refl
last_any test (x ∷ runs) run is = or_true (test x) (list_any test (runs ++ run ∷ [])) (last_any test runs run is)
  where
    or_true : (a b : Bool) → b ≡ true → (a || b) ≡ true
    or_true true b is = refl
    or_true false b is = is

taken_by_date : (a b : Bool) → b ≡ true → not (a || b) ≡ false
taken_by_date true b is = refl
taken_by_date false b is = ap not is

-- a run that was added is taken
taken_once_added : (state : StateRows) (new : NewRun) → is_free (more_of state new) new ≡ false
taken_once_added state new =
    let run : Run = queued_run state.next_run new in
    taken_by_date (list_any (is_run new.dag_id new.run_id) (state.runs ++ run ∷ [])) (list_any (is_dated new.dag_id new.logical_date) (state.runs ++ run ∷ []))
    (last_any (is_dated new.dag_id new.logical_date) state.runs run
    (and_true (same_name new.dag_id new.dag_id) (new.logical_date == new.logical_date) (nat_list_eq_equiv.refl new.dag_id) (same_itself new.logical_date)))

pub all_taken : (news : List NewRun) (state : StateRows) (dag_id : List ℕ) → AreOf dag_id news → has_room state.runs state.next_run dag_id (length (filter (is_free state) news)) ≡ true → All (λ new. is_free (fold with_run state news) new ≡ false) news
all_taken [] state dag_id of room = All-nil (λ new. is_free state new ≡ false)
all_taken (new ∷ news) state dag_id of room =
    ⊎_elim
    (λ (free : is_free state new ≡ true).
    let room_now : has_room state.runs state.next_run dag_id (suc (length (filter (is_free state) news))) ≡ true = subst (λ (n : ℕ). has_room state.runs state.next_run dag_id n ≡ true) (count_free state new news free) room in
    let full : is_full state.runs state.next_run new.dag_id ≡ false = ap (is_full state.runs state.next_run) (of 0 new (omega arith)) ∙ room_for_one state dag_id (length (filter (is_free state) news)) room_now in
    let next : StateRows = more_of state new in
    let less = fewer (is_free state) (is_free next) (λ other taken. taken_stays state (queued_run state.next_run new ∷ []) (state.next_run + 1) other taken) news in
    let rest = all_taken news next dag_id (λ k d inside. of (suc k) d (omega arith)) (room_left state new dag_id (length (filter (is_free state) news)) (length (filter (is_free next) news)) less room_now) in
    let grows = grows_by (λ run. Unit {0}) news next (λ k d inside number. tt) in
    subst (λ (s : StateRows). All (λ other. is_free (fold with_run s news) other ≡ false) (new ∷ news)) (sym (added_free state new free full))
    (All-cons (λ other. is_free (fold with_run next news) other ≡ false) new news (taken_grown (λ run. Unit {0}) next (fold with_run next news) new grows (taken_once_added state new)) rest))
    (λ (taken : is_free state new ≡ false).
    let rest = all_taken news state dag_id (λ k d inside. of (suc k) d (omega arith)) (subst (λ (n : ℕ). has_room state.runs state.next_run dag_id n ≡ true) (count_taken state new news taken) room) in
    let grows = grows_by (λ run. Unit {0}) news state (λ k d inside number. tt) in
    subst (λ (s : StateRows). All (λ other. is_free (fold with_run s news) other ≡ false) (new ∷ news)) (sym (passed_over state new taken))
    (All-cons (λ other. is_free (fold with_run state news) other ≡ false) new news (taken_grown (λ run. Unit {0}) state (fold with_run state news) new grows taken) rest))
    (cases_Bool (is_free state new))
