-- Instances queued seat by seat.
use Rattle.std.proofs.Common.{◌≡◌, ◌≢◌, ◌<◌, ◌≤◌, ◌+◌, ◌∙◌, ℕ, List, [], ◌∷◌, ◌++◌, length, map, get_or, set, refl, sym, ap, subst, arith, zero, suc, Bool, true, false, cond, ◌&&◌, ◌||◌, ◌==◌, ⊎_elim, length-set}
use Rattle.std.specs.List.{enumerate_from}
use Rattle.std.proofs.lemmas.Bool.Decides.{nat_tests}
use Rattle.std.proofs.lemmas.List.{get_or-set_other, get_or-set_same}
use Rattle.std.proofs.lemmas.Simd.{map-map}
use Rattle.af_runs.specs.declared.instance.Instance.{Instance}
use Rattle.af_runs.specs.declared.run.Run.{Run}
use Rattle.af_runs.specs.Places.{StandsAt, StandsNowhere}
use Rattle.af_sched.specs.Choosing.{is_at, is_among, with_seat}
use Rattle.af_sched.specs.Queue.{queued_instance, with_queued}
use Rattle.af_sched.specs.declared.seat.Seat.{Seat}
use Rattle.af_sched.proofs.PooledLemmas.{among_more}
use Rattle.af_sched.proofs.FinishLemmas.{map-from}
use Rattle.af_sched.proofs.SettleLemmas.{map-agree}
use Rattle.std.proofs.lemmas.Bool.{cases_lt}

-- ---- the instances at some places
abbrev pub queued_at : (ℕ → Bool) → ℕ → List Instance → List Instance
queued_at q n xs = map (λ row. cond (q row.0) (queued_instance row.1) row.1) (enumerate_from n xs)

pub queued_at-none : (q : ℕ → Bool) (n : ℕ) (xs : List Instance) → ((i : ℕ) → i < length xs → q (n + i) ≡ false) → queued_at q n xs ≡ xs
queued_at-none q n [] none = refl
queued_at-none q n (x ∷ xs) none =
    let here : q n ≡ false = let at : n + 0 ≡ n = omega arith in subst (λ (k : ℕ). q k ≡ false) at (none 0 (omega arith)) in
    let rest = queued_at-none q (n + 1) xs (λ i inside. let at : n + suc i ≡ n + 1 + i = omega arith in subst (λ (k : ℕ). q k ≡ false) at (none (suc i) (omega arith))) in
    rw here (ap (λ (ys : List Instance). x ∷ ys) rest)

pub queued_at-one : (q : ℕ → Bool) (n i : ℕ) (xs : List Instance) (d : Instance) → i < length xs → q (n + i) ≡ true → ((j : ℕ) → j < length xs → j ≢ i → q (n + j) ≡ false) → set xs i (queued_instance (get_or xs i d)) ≡ queued_at q n xs
queued_at-one q n i [] d inside here others = absurd (omega arith)
queued_at-one q n zero (x ∷ xs) d inside here others =
    let is : q n ≡ true = let at : n + 0 ≡ n = omega arith in subst (λ (k : ℕ). q k ≡ true) at here in
    let rest = queued_at-none q (n + 1) xs (λ j within. let at : n + suc j ≡ n + 1 + j = omega arith in subst (λ (k : ℕ). q k ≡ false) at (others (suc j) (omega arith) (omega arith))) in
    rw is (ap (λ (ys : List Instance). queued_instance x ∷ ys) (sym rest))
queued_at-one q n (suc i) (x ∷ xs) d inside here others =
    let not : q n ≡ false = let at : n + 0 ≡ n = omega arith in subst (λ (k : ℕ). q k ≡ false) at (others 0 (omega arith) (omega arith)) in
    let at_i : n + suc i ≡ n + 1 + i = omega arith in
    let rest = queued_at-one q (n + 1) i xs d (omega arith) (subst (λ (k : ℕ). q k ≡ true) at_i here) (λ j within other. let at : n + suc j ≡ n + 1 + j = omega arith in subst (λ (k : ℕ). q k ≡ false) at (others (suc j) (omega arith) (λ same. other (omega arith)))) in
    rw not (ap (λ (ys : List Instance). x ∷ ys) rest)

either : (a b : Bool) (x : Instance) → cond b (queued_instance (cond a (queued_instance x) x)) (cond a (queued_instance x) x) ≡ cond (a || b) (queued_instance x) x
either true true x = refl
either true false x = refl
either false true x = refl
either false false x = refl

queued_at-twice : (p q r : ℕ → Bool) (n : ℕ) (xs : List Instance) → ((place : ℕ) → r place ≡ (p place || q place)) → queued_at q n (queued_at p n xs) ≡ queued_at r n xs
queued_at-twice p q r n [] same = refl
queued_at-twice p q r n (x ∷ xs) same =
    let here = either (p n) (q n) x ∙ ap (λ (b : Bool). cond b (queued_instance x) x) (sym (same n)) in
    let rest = queued_at-twice p q r (n + 1) xs same in
    λ i. here i ∷ rest i

pub place_is : (place other : ℕ) → other ≢ place → (place == other) ≡ false
place_is place other apart = grind (arith, nat_tests)

pub place_same : (place : ℕ) → (place == place) ≡ true
place_same place = grind (arith, nat_tests)

-- where there is no such place, nothing is queued
pub none_queued : (xs : List Instance) (place : ℕ) → length xs ≤ place → xs ≡ queued_at (λ other. place == other) 0 xs
none_queued xs place past =
    sym (queued_at-none (λ other. place == other) 0 xs (λ i inside. place_is place (0 + i) (λ same. absurd (omega (arith, past, same)))))

pub set_queued : (xs : List Instance) (place : ℕ) (instance : Instance) → place < length xs → instance ≡ get_or xs place instance → set xs place (queued_instance instance) ≡ queued_at (λ other. place == other) 0 xs
set_queued xs place instance inside is =
    let at : 0 + place ≡ place = omega arith in
    ap (λ (x : Instance). set xs place (queued_instance x)) is
    ∙ queued_at-one (λ other. place == other) 0 place xs instance inside ((λ i. place == at i) ∙ place_same place) (λ j within apart. place_is place (0 + j) (λ same. apart (let e = same in omega arith)))

-- ---- the run of a seat
no_seat : (seat : Seat) (run : Run) → (seat.number == run.number) ≡ false → with_seat seat run ≡ run
no_seat seat run other =
    ap (λ (xs : List Instance). record run { instances = xs }) (queued_at-none (is_at seat run.number) 0 run.instances (λ i inside. ap (λ (b : Bool). b && (seat.place == 0 + i)) other))

seat_here : (seat : Seat) (run : Run) → (seat.number == run.number) ≡ true → with_seat seat run ≡ record run { instances = queued_at (λ place. seat.place == place) 0 run.instances }
seat_here seat run same = λ i. record run { instances = queued_at (λ place. same i && (seat.place == place)) 0 run.instances }

turned : (a b : ℕ) (v : Bool) → (a == b) ≡ v → (b == a) ≡ v
turned a b v is = flip a b ∙ is
  where
    flip : (x y : ℕ) → (y == x) ≡ (x == y)
    flip x y = grind (arith, nat_tests)

pub with_seat-is_set : (seat : Seat) (runs : List Run) (row : ℕ) (d new : Run) → StandsAt runs seat.number row → new ≡ record (get_or runs row d) { instances = queued_at (λ place. seat.place == place) 0 (get_or runs row d).instances } → set runs row new ≡ map (with_seat seat) runs
with_seat-is_set seat runs row d new stands made =
    map-from (with_seat seat) runs (set runs row new) (length-set runs row new) (λ k e inside.
    ⊎_elim
    (λ (less : k < row). other k e inside (omega arith))
    (λ (up : row ≤ k).
    ⊎_elim
    (λ (more : row < k). other k e inside (omega arith))
    (λ (last : k ≤ row).
    let same : row ≡ k = omega arith in
    subst (λ (n : ℕ). get_or (set runs row new) n e ≡ with_seat seat (get_or runs n e)) same
    (get_or-set_same runs row new e stands.within ∙ made ∙ sym (seat_here seat (get_or runs row d) (turned (get_or runs row d).number seat.number true (stands.here d))) ∙ ap (with_seat seat) (sames runs row d e stands.within)))
    (cases_lt row k))
    (cases_lt k row))
  where
    sames : (xs : List Run) (i : ℕ) (f e : Run) → i < length xs → get_or xs i f ≡ get_or xs i e
    sames = Rattle.af_sched.proofs.SettleLemmas.get_or-runs

    other : (k : ℕ) (e : Run) → k < length runs → k ≢ row → get_or (set runs row new) k e ≡ with_seat seat (get_or runs k e)
    other k e inside apart =
        get_or-set_other runs row k new e apart ∙ sym (no_seat seat (get_or runs k e) (turned (get_or runs k e).number seat.number false (stands.alone k e inside apart)))

pub with_seat-nowhere : (seat : Seat) (runs : List Run) → StandsNowhere runs seat.number → runs ≡ map (with_seat seat) runs
with_seat-nowhere seat runs nowhere =
    map-from (with_seat seat) runs runs refl (λ k e inside. sym (no_seat seat (get_or runs k e) (turned (get_or runs k e).number seat.number false (nowhere.none k e inside))))

-- ---- seats one after the other
abbrev pub seated : List Seat → Run → Run
seated seats run = with_queued (is_among seats run.number) run

pub seated-none : (runs : List Run) → runs ≡ map (seated []) runs
seated-none runs = map-from (seated []) runs runs refl (λ k e inside. sym (ap (λ (xs : List Instance). record (get_or runs k e) { instances = xs }) (queued_at-none (λ place. false) 0 (get_or runs k e).instances (λ i within. refl))))

pub seated-more : (seats : List Seat) (seat : Seat) (runs : List Run) → map (with_seat seat) (map (seated seats) runs) ≡ map (seated (seats ++ seat ∷ [])) runs
seated-more seats seat runs =
    map-map (with_seat seat) (seated seats) runs
    ∙ map-agree (λ run. with_seat seat (seated seats run)) (seated (seats ++ seat ∷ [])) runs (λ k d inside.
    ap (λ (xs : List Instance). record (get_or runs k d) { instances = xs })
    (queued_at-twice (is_among seats (get_or runs k d).number) (is_at seat (get_or runs k d).number) (is_among (seats ++ seat ∷ []) (get_or runs k d).number) 0 (get_or runs k d).instances (λ place. among_more seats seat (get_or runs k d).number place)))

pub numbers_kept : (seats : List Seat) (runs : List Run) → map (λ (run : Run). run.number) (map (seated seats) runs) ≡ map (λ (run : Run). run.number) runs
numbers_kept seats runs = map-map (λ (run : Run). run.number) (seated seats) runs
