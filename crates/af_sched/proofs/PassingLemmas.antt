-- The slots of the instances that pass a test.
use Rattle.std.proofs.Common.{◌≡◌, ◌<◌, ◌+◌, ◌∙◌, ℕ, List, [], ◌∷◌, length, map, get_or, refl, sym, ap, subst, arith, zero, suc, Bool, true, false, ◌&&◌, ◌||◌, ⊎_elim}
use Rattle.std.specs.Prelude.{All, Contains, filter, sum_by}
use Rattle.std.specs.List.{IsDistinct, AllByRecursion}
use Rattle.std.specs.Cmp.{IsEquivalence, and_equiv, on_equiv, nat_eq_equiv}
use Rattle.std.proofs.lemmas.Bool.{cases_Bool, false≢true}
use Rattle.std.proofs.lemmas.List.Sums.{sum_by-cons}
use Rattle.af_pool.specs.Occupants.{OccupantRow, occupies, slots_of_all}
use Rattle.af_sched.specs.Choosing.{same_seat, held_of}
use Rattle.af_sched.specs.Placed.{Placed}
use Rattle.af_sched.specs.Queue.{occupant_of}
use Rattle.af_sched.proofs.QueueLemmas.{filter-agree}

-- ---- tests
pub and_false : (a b : Bool) → (a && b && false) ≡ false
and_false true true = refl
and_false true false = refl
and_false false b = refl

pub or_end : (a : Bool) → (a || false) ≡ a
or_end true = refl
or_end false = refl

pub or_last : (a : Bool) → (a || false) ≡ (false || a)
or_last true = refl
or_last false = refl

pub or_assoc : (a b c : Bool) → (a || (b || c)) ≡ ((a || b) || c)
or_assoc true b c = refl
or_assoc false b c = refl

pub not_true : (b : Bool) → (b ≡ true → false ≡ true) → b ≡ false
not_true true never = absurd (false≢true (never refl))
not_true false never = refl

-- ---- the slots of the instances that pass a test
abbrev pub given : (Placed → Bool) → List Placed → ℕ
given q all = slots_of_all (map occupant_of (filter q all))

pub given-agree : (p q : Placed → Bool) (all : List Placed) → All (λ o. p o ≡ q o) all → given p all ≡ given q all
given-agree p q all same = ap (λ (xs : List Placed). slots_of_all (map occupant_of xs)) (filter-agree p q all same)

filter-never : (q : Placed → Bool) (all : List Placed) → All (λ o. q o ≡ false) all → filter q all ≡ []
filter-never q [] none = refl
filter-never q (x ∷ xs) none =
    rw (none 0 x (omega arith)) (filter-never q xs (λ k d inside. none (suc k) d (omega arith)))

pub given-none : (q : Placed → Bool) (all : List Placed) → All (λ o. q o ≡ false) all → given q all ≡ 0
given-none q all none = ap (λ (xs : List Placed). slots_of_all (map occupant_of xs)) (filter-never q all none)

pub held_as_given : (all : List Placed) (pool : List ℕ) → sum_by (λ placed. placed.task.pool_slots) (filter (λ placed. occupies pool (occupant_of placed)) all) ≡ held_of all pool
held_as_given [] pool = refl
held_as_given (x ∷ xs) pool =
    ⊎_elim
    (λ (is : occupies pool (occupant_of x) ≡ true).
    rw is
    (sum_by-cons (λ (placed : Placed). placed.task.pool_slots) x (filter (λ placed. occupies pool (occupant_of placed)) xs)
    ∙ ap (λ n. x.task.pool_slots + n) (held_as_given xs pool)
    ∙ sym (sum_by-cons (λ (o : OccupantRow). o.slots) (occupant_of x) (filter (occupies pool) (map occupant_of xs)))))
    (λ (not : occupies pool (occupant_of x) ≡ false). rw not (held_as_given xs pool))
    (cases_Bool (occupies pool (occupant_of x)))

-- ---- one instance
pub same_seat_laws : IsEquivalence same_seat
same_seat_laws = and_equiv (on_equiv (λ (p : Placed). p.run.number) nat_eq_equiv) (on_equiv (λ (p : Placed). p.place) nat_eq_equiv)

rec_at : {X : Type 0} (P : X → Type 0) (xs : List X) → AllByRecursion P xs → (k : ℕ) (d : X) → k < length xs → P (get_or xs k d)
rec_at P [] all k d inside = absurd (omega arith)
rec_at P (x ∷ xs) all zero d inside = all.0
rec_at P (x ∷ xs) all (suc k) d inside = rec_at P xs all.1 k d (omega arith)

pub given-add : (p q : Placed → Bool) (c : Placed) (all : List Placed) → IsDistinct same_seat all → (k : ℕ) (d : Placed) → k < length all → get_or all k d ≡ c → p c ≡ false → q c ≡ true → All (λ o. same_seat c o ≡ false → q o ≡ p o) all → given q all ≡ given p all + c.task.pool_slots
unfolding IsDistinct
given-add p q c [] distinct k d inside is not holds others = absurd (omega arith)
given-add p q c (x ∷ xs) distinct zero d inside is not holds others =
    let apart : All (λ o. p o ≡ q o) xs = λ j e within. sym (others (suc j) e (omega arith) (subst (λ (y : Placed). same_seat y (get_or xs j e) ≡ false) is (rec_at (λ z. same_seat x z ≡ false) xs distinct.0 j e within))) in
    let rest = given-agree p q xs apart in
    let here_p : p x ≡ false = ap p is ∙ not in
    let here_q : q x ≡ true = ap q is ∙ holds in
    let slots : x.task.pool_slots ≡ c.task.pool_slots = ap (λ (o : Placed). o.task.pool_slots) is in
    let more = sum_by-cons (λ (o : OccupantRow). o.slots) (occupant_of x) (map occupant_of (filter q xs)) in
    rw (here_p, here_q) (more ∙ (omega (arith, rest, slots)))
given-add p q c (x ∷ xs) distinct (suc k) d inside is not holds others =
    let apart : same_seat c x ≡ false = same_seat_laws.symm c x ∙ subst (λ (y : Placed). same_seat x y ≡ false) is (rec_at (λ z. same_seat x z ≡ false) xs distinct.0 k d (omega arith)) in
    let same : q x ≡ p x = others 0 x (omega arith) apart in
    let rest = given-add p q c xs distinct.1 k d (omega arith) is not holds (λ j e within. others (suc j) e (omega arith)) in
    ⊎_elim (λ (is_in : p x ≡ true).
    let more_q = sum_by-cons (λ (o : OccupantRow). o.slots) (occupant_of x) (map occupant_of (filter q xs)) in
    let more_p = sum_by-cons (λ (o : OccupantRow). o.slots) (occupant_of x) (map occupant_of (filter p xs)) in
    rw (same, is_in) (more_q ∙ (omega (arith, rest)) ∙ ap (λ n. n + c.task.pool_slots) (sym more_p))) (λ (out : p x ≡ false). rw (same, out) rest) (cases_Bool (p x))

one_of : (all : List Placed) → IsDistinct same_seat all → (i j : ℕ) (d e : Placed) → i < length all → j < length all → same_seat (get_or all i d) (get_or all j e) ≡ true → get_or all i d ≡ get_or all j e
unfolding IsDistinct
one_of [] distinct i j d e low high same = absurd (omega arith)
one_of (x ∷ xs) distinct zero zero d e low high same = refl
one_of (x ∷ xs) distinct zero (suc j) d e low high same =
    absurd (false≢true (sym (rec_at (λ z. same_seat x z ≡ false) xs distinct.0 j e (omega arith)) ∙ same))
one_of (x ∷ xs) distinct (suc i) zero d e low high same =
    absurd (false≢true (sym (rec_at (λ z. same_seat x z ≡ false) xs distinct.0 i d (omega arith)) ∙ same_seat_laws.symm x (get_or xs i d) ∙ same))
one_of (x ∷ xs) distinct (suc i) (suc j) d e low high same = one_of xs distinct.1 i j d e (omega arith) (omega arith) same

pub alike : (all : List Placed) (a b : Placed) → IsDistinct same_seat all → Contains all a → Contains all b → same_seat a b ≡ true → a ≡ b
alike all a b distinct has_a has_b same =
    let is_a : get_or all has_a.0 a ≡ a = has_a.2 in
    let is_b : get_or all has_b.0 b ≡ b = has_b.2 in
    sym is_a ∙ one_of all distinct has_a.0 has_b.0 a b has_a.1 has_b.1 ((λ i. same_seat (is_a i) (is_b i)) ∙ same) ∙ is_b
