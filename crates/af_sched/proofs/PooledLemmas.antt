-- The order of instances by pool, seats, and numbers that are cut off at the largest word.
use Rattle.std.proofs.Common.{◌≡◌, ◌<◌, ◌≤◌, ◌+◌, ◌-◌, ◌^◌, ◌∙◌, ℕ, List, [], ◌∷◌, ◌++◌, get_or, refl, sym, ap, arith, Bool, true, false, ◌&&◌, ◌||◌, ⊎_elim, ◌⊎◌, min, inl, inr}
use Rattle.std.specs.Prelude.{nat_le, sum_by}
use Rattle.std.specs.Ordering.{nat_cmp, is_lt, is_eq, ordering_then}
use Rattle.std.specs.declared.cmp.Ordering.TheVariants.{Less, Equal, Greater}
use Rattle.std.specs.declared.cmp.Ordering.{Ordering}
use Rattle.std.specs.Cmp.{IsTotalOrder, then_total, on_total}
use Rattle.std.specs.Cmp.Lexicographic.{slice_cmp, nat_list_cmp_total, nat_list_eq_equiv, texts_ties}
use Rattle.std.proofs.lemmas.Bool.{true≢false, false≢true}
use Rattle.std.proofs.lemmas.Bool.Decides.{nat_tests}
use Rattle.af_graph.specs.Graph.{same_name}
use Rattle.af_pool.specs.Occupants.{occupies}
use Rattle.af_sched.specs.Choosing.{is_at, is_among, pooled_cmp, held_of}
use Rattle.af_sched.specs.Placed.{Placed, placed_cmp, comes_before}
use Rattle.af_sched.specs.Queue.{occupant_of}
use Rattle.af_sched.specs.declared.seat.Seat.{Seat}
use Rattle.af_sched.proofs.PlacedLemmas.{placed_order, before_trans, before_itself}
use Rattle.af_sched.proofs.QueueLemmas.{filter-agree}
use Rattle.af_sched.proofs.PassingLemmas.{or_last, or_assoc, not_true, held_as_given}

-- ---- the order by pools
pub pooled_order : IsTotalOrder pooled_cmp
pooled_order = then_total (on_total (λ (placed : Placed). placed.task.pool) nat_list_cmp_total) placed_order

equal_from : (o : Ordering) → is_eq o ≡ true → o ≡ Equal
equal_from Less e = absurd (false≢true e)
equal_from Equal e = refl
equal_from Greater e = absurd (false≢true e)

less_from : (o : Ordering) → is_lt o ≡ true → o ≡ Less
less_from Less e = refl
less_from Equal e = absurd (false≢true e)
less_from Greater e = absurd (false≢true e)

abbrev pool_order : Placed → Placed → Ordering
pool_order a b = slice_cmp nat_cmp a.task.pool b.task.pool

one_pool : (a b : Placed) → same_name a.task.pool b.task.pool ≡ true → pool_order a b ≡ Equal
one_pool a b same = equal_from (pool_order a b) (sym (texts_ties a.task.pool b.task.pool) ∙ same)

pub before_of : (a b : Placed) → is_lt (pooled_cmp a b) ≡ true → same_name a.task.pool b.task.pool ≡ true → comes_before a b ≡ true
before_of a b less same = sym (ap (λ o. is_lt (ordering_then o (placed_cmp a b))) (one_pool a b same)) ∙ less

pub after_of : (a b : Placed) → is_lt (pooled_cmp b a) ≡ true → same_name a.task.pool b.task.pool ≡ true → comes_before a b ≡ false
after_of a b less same =
    let back : comes_before b a ≡ true = before_of b a less (nat_list_eq_equiv.symm b.task.pool a.task.pool ∙ same) in
    not_true (comes_before a b) (λ on. absurd (true≢false (sym (before_trans a b a on back) ∙ before_itself a)))

not_below : (o : Ordering) → o ≡ Rattle.std.specs.Ordering.ordering_reverse o → is_lt o ≡ false
not_below Less e = absurd (cc)
not_below Equal e = refl
not_below Greater e = refl

pub not_itself : (a : Placed) → is_lt (pooled_cmp a a) ≡ false
not_itself a = not_below (pooled_cmp a a) (pooled_order.antisymm a a)

then_less : (o p : Ordering) → is_lt (ordering_then o p) ≡ true → (o ≡ Less) ⊎ (o ≡ Equal)
then_less Less p less = inl refl
then_less Equal p less = inr refl
then_less Greater p less = absurd (false≢true less)

pub pools_apart : (a b c : Placed) → is_lt (pooled_cmp a b) ≡ true → is_lt (pooled_cmp b c) ≡ true → same_name b.task.pool c.task.pool ≡ false → same_name a.task.pool c.task.pool ≡ false
pools_apart a b c first second other =
    let below : pool_order b c ≡ Less =
    ⊎_elim (λ (less : pool_order b c ≡ Less). less) (λ (same : pool_order b c ≡ Equal). absurd (true≢false (sym (texts_ties b.task.pool c.task.pool ∙ ap is_eq same) ∙ other))) (then_less (pool_order b c) (placed_cmp b c) second) in
    let less : pool_order a c ≡ Less =
    ⊎_elim
    (λ (less : pool_order a b ≡ Less). nat_list_cmp_total.trans a.task.pool b.task.pool c.task.pool less below)
    (λ (same : pool_order a b ≡ Equal). nat_list_cmp_total.congr a.task.pool b.task.pool c.task.pool same ∙ below)
    (then_less (pool_order a b) (placed_cmp a b) first) in
    texts_ties a.task.pool c.task.pool ∙ ap is_eq less

-- a pool of the same name
pub named_alike : (p q r : List ℕ) → same_name p q ≡ true → same_name r p ≡ same_name r q
named_alike p q r same = nat_list_eq_equiv.symm r p ∙ nat_list_eq_equiv.congr p q r same ∙ nat_list_eq_equiv.symm q r

pub held_alike : (all : List Placed) (p q : List ℕ) → same_name p q ≡ true → held_of all p ≡ held_of all q
held_alike all p q same =
    sym (held_as_given all p)
    ∙ ap (sum_by (λ (placed : Placed). placed.task.pool_slots)) (filter-agree (λ placed. occupies p (occupant_of placed)) (λ placed. occupies q (occupant_of placed)) all (λ k d inside. ap (λ (b : Bool). b && Rattle.af_pool.specs.Occupants.holds_slots (get_or all k d).instance.state) (named_alike p q (get_or all k d).task.pool same)))
    ∙ held_as_given all q

-- ---- seats
pub among_more : (seats : List Seat) (seat : Seat) (number place : ℕ) → is_among (seats ++ seat ∷ []) number place ≡ (is_among seats number place || is_at seat number place)
among_more [] seat number place = or_last (is_at seat number place)
among_more (s ∷ seats) seat number place =
    ap (λ (b : Bool). is_at s number place || b) (among_more seats seat number place) ∙ or_assoc (is_at s number place) (is_among seats number place) (is_at seat number place)

-- ---- numbers that are cut off at the largest word
pub room_told : (h g s held needed slots : ℕ) → held ≡ min (h + g) (2 ^ 64 - 1) → needed ≡ min (held + s) (2 ^ 64 - 1) → slots < 2 ^ 32 → (needed ≤ slots → true ≡ nat_le (s + h + g) slots) × (slots < needed → false ≡ nat_le (s + h + g) slots) × (needed ≡ min (h + (g + s)) (2 ^ 64 - 1))
room_told h g s held needed slots first second few =
    (λ low. grind (arith, nat_tests), λ high. grind (arith, nat_tests), omega (arith, first, second))
