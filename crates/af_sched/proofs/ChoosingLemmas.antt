-- Candidates taken one after the other, by pool and in their order, are chosen as the fourth phase chooses.
use Rattle.std.proofs.Common.{◌≡◌, ◌<◌, ◌≤◌, ◌+◌, ◌-◌, ◌^◌, ◌∙◌, ℕ, List, [], ◌∷◌, ◌++◌, length, get_or, refl, sym, ap, subst, arith, Bool, true, false, ◌&&◌, ◌||◌, ⊎_elim, ◌⊎◌, min, inl, inr}
use Rattle.std.specs.Prelude.{Contains, nat_le}
use Rattle.std.specs.Ordering.{is_lt}
use Rattle.std.specs.Cmp.Lexicographic.{nat_list_eq_equiv}
use Rattle.std.proofs.lemmas.Bool.{cases_Bool, cases_lt, true≢false, false≢true}
use Rattle.af_graph.specs.Graph.{same_name}
use Rattle.af_pool.specs.Pools.{slots_of}
use Rattle.af_pool.specs.declared.pool.Pool.{Pool}
use Rattle.af_sched.specs.Choosing.{is_among, same_seat, pooled_cmp, held_of, fits, AreCandidates, Chooses}
use Rattle.af_sched.specs.Placed.{Placed, comes_before}
use Rattle.af_sched.specs.Queue.{queued_earlier}
use Rattle.af_sched.specs.declared.seat.Seat.{Seat}
use Rattle.af_sched.proofs.PlacedLemmas.{before_itself}
use Rattle.af_sched.proofs.StartLemmas.{get_or-same}
use Rattle.af_sched.proofs.PassingLemmas.{and_false, or_end, not_true, given, given-agree, given-none, same_seat_laws, given-add, alike}
use Rattle.af_sched.proofs.PooledLemmas.{before_of, after_of, not_itself, pools_apart, named_alike, held_alike, among_more, room_told}

-- ---- the first candidates have been looked at
module _ (pools : List Pool) (all cs : List Placed) (are : AreCandidates all cs) where
  abbrev among : List Seat → Placed → Bool
  among seats o = is_among seats o.run.number o.place

  abbrev pooled_given : List Seat → List ℕ → ℕ
  pooled_given seats pool = given (λ o. among seats o && same_name o.task.pool pool) all

  pub record Choosing (i held : ℕ) (seats : List Seat) : Type 0 where
    pub exact : (k : ℕ) (d : Placed) → k < i → k < length cs → among seats (get_or cs k d) ≡ fits pools all seats (get_or cs k d)
    pub only : (o : Placed) → Contains all o → among seats o ≡ true → (k : ℕ) × (k < i) × (k < length cs) × (get_or cs k o ≡ o)
    pub held_is : (k : ℕ) (d : Placed) → k + 1 ≡ i → k < length cs → held ≡ min (held_of all (get_or cs k d).task.pool + pooled_given seats (get_or cs k d).task.pool) (2 ^ 64 - 1)

  pub Choosing-init : (held : ℕ) → Choosing 0 held []
  Choosing-init held = record {
    exact = λ k d low inside. absurd (omega arith);
    only = λ o has is. absurd (false≢true is);
    held_is = λ k d last inside. absurd (omega arith);
  }

  pub Choosing-ends : (held : ℕ) (seats : List Seat) → Choosing (length cs) held seats → Chooses pools all cs seats
  Choosing-ends held seats so_far = record {
    exact = λ k d inside. so_far.exact k d inside inside;
    only = λ o has is. let found = so_far.only o has is in (found.0, found.2, found.3);
  }

  module _ (i : ℕ) (c : Placed) (inside : i < length cs) (here : (d : Placed) → get_or cs i d ≡ c) (held : ℕ) (seats : List Seat) (so_far : Choosing i held seats) where
    has_c : Contains all c
    has_c = subst (Contains all) (here c) (are.members i c inside)

    -- those chosen so far come before
    earlier_only : (o : Placed) → Contains all o → among seats o ≡ true → is_lt (pooled_cmp o c) ≡ true
    earlier_only o has is =
        let found = so_far.only o has is in
        (λ j. is_lt (pooled_cmp (sym found.3 j) (sym (here o) j))) ∙ are.in_order found.0 i o found.1 inside

    fresh : among seats c ≡ false
    fresh = not_true (among seats c) (λ is. sym (not_itself c) ∙ earlier_only c has_c is)

    -- what was held of the candidate's pool
    pub held_same : (before : ℕ) → before + 1 ≡ i → (d : Placed) → same_name (get_or cs before d).task.pool c.task.pool ≡ true → held ≡ min (held_of all c.task.pool + pooled_given seats c.task.pool) (2 ^ 64 - 1)
    held_same before last d same =
        let p : List ℕ = (get_or cs before d).task.pool in
        let one = held_alike all p c.task.pool same in
        let other : pooled_given seats p ≡ pooled_given seats c.task.pool = given-agree (λ o. among seats o && same_name o.task.pool p) (λ o. among seats o && same_name o.task.pool c.task.pool) all (λ k e within. ap (λ (b : Bool). among seats (get_or all k e) && b) (named_alike p c.task.pool (get_or all k e).task.pool same)) in
        so_far.held_is before d last (omega arith) ∙ (λ j. min (one j + other j) (2 ^ 64 - 1))

    -- nothing was chosen of the candidate's pool
    none_given : ((o : Placed) → Contains all o → among seats o ≡ true → same_name o.task.pool c.task.pool ≡ false) → pooled_given seats c.task.pool ≡ 0
    none_given apart =
        given-none (λ o. among seats o && same_name o.task.pool c.task.pool) all (λ k d within.
        let o : Placed = get_or all k d in
        let has : Contains all o = (k, within, get_or-same all k o d within) in
        ⊎_elim (λ (is : among seats o ≡ true). rw (is) (apart o has is)) (λ (not : among seats o ≡ false). rw not refl) (cases_Bool (among seats o)))

    pub held_first : i ≡ 0 → pooled_given seats c.task.pool ≡ 0
    held_first first = none_given (λ o has is. let found = so_far.only o has is in let low = found.1 in absurd (omega arith))

    pub held_other : (before : ℕ) → before + 1 ≡ i → (d : Placed) → same_name (get_or cs before d).task.pool c.task.pool ≡ false → pooled_given seats c.task.pool ≡ 0
    held_other before last d other =
        none_given (λ o has is.
        let found = so_far.only o has is in
        let low = found.1 in
        let b : Placed = get_or cs before d in
        let on : is_lt (pooled_cmp b c) ≡ true = (λ j. is_lt (pooled_cmp b (sym (here d) j))) ∙ are.in_order before i d (omega arith) inside in
        ⊎_elim
        (λ (less : found.0 < before).
        let up : is_lt (pooled_cmp o b) ≡ true = (λ j. is_lt (pooled_cmp (sym found.3 j) (get_or-same cs before d o (omega arith) j))) ∙ are.in_order found.0 before o less (omega arith) in
        pools_apart o b c up on other)
        (λ (last_one : before ≤ found.0).
        let same : found.0 ≡ before = omega arith in
        let is_b : o ≡ b = sym found.3 ∙ ap (λ n. get_or cs n o) same ∙ get_or-same cs before o d (omega arith) in
        ap (λ (p : Placed). same_name p.task.pool c.task.pool) is_b ∙ other)
        (cases_lt found.0 before))

    module _ (b : Bool) (new : List Seat) (more : (o : Placed) → among new o ≡ (among seats o || (b && same_seat c o))) (decides : b ≡ nat_le (c.task.pool_slots + held_of all c.task.pool + pooled_given seats c.task.pool) (slots_of pools c.task.pool)) where
      others : (o : Placed) → same_seat c o ≡ false → among new o ≡ among seats o
      others o apart = more o ∙ ap (λ (t : Bool). among seats o || (b && t)) apart ∙ drop_it (among seats o) b
        where
          drop_it : (x y : Bool) → (x || (y && false)) ≡ x
          drop_it true y = refl
          drop_it false true = refl
          drop_it false false = refl

      chosen_now : among new c ≡ b
      chosen_now = more c ∙ (λ j. fresh j || (b && same_seat_laws.refl c j)) ∙ only_it b
        where
          only_it : (y : Bool) → (y && true) ≡ y
          only_it true = refl
          only_it false = refl

      -- what comes before the candidate was chosen before
      given_before : pooled_given seats c.task.pool ≡ queued_earlier (is_among new) all c
      given_before =
          given-agree (λ o. among seats o && same_name o.task.pool c.task.pool) (λ o. among new o && same_name o.task.pool c.task.pool && comes_before o c) all (λ k d within.
          let o : Placed = get_or all k d in
          let has : Contains all o = (k, within, get_or-same all k o d within) in
          ⊎_elim
          (λ (same : same_seat c o ≡ true).
          let is_c : c ≡ o = alike all c o are.distinct has_c has same in
          let not : among seats o ≡ false = sym (ap (among seats) is_c) ∙ fresh in
          let last : comes_before o c ≡ false = sym (ap (λ (p : Placed). comes_before p c) is_c) ∙ before_itself c in
          ap (λ (x : Bool). x && same_name o.task.pool c.task.pool) not ∙ sym (ap (λ (x : Bool). among new o && same_name o.task.pool c.task.pool && x) last ∙ and_false (among new o) (same_name o.task.pool c.task.pool)))
          (λ (apart : same_seat c o ≡ false).
          ap (λ (x : Bool). x && same_name o.task.pool c.task.pool) (sym (others o apart))
          ∙ both (among new o) (same_name o.task.pool c.task.pool) (comes_before o c) (λ is named. before_of o c (earlier_only o has (sym (others o apart) ∙ is)) named))
          (cases_Bool (same_seat c o)))
        where
          both : (x y z : Bool) → (x ≡ true → y ≡ true → z ≡ true) → (x && y) ≡ (x && y && z)
          both true true z then = sym (then refl refl)
          both true false z then = refl
          both false y z then = refl

      exact_now : among new c ≡ fits pools all new c
      exact_now = chosen_now ∙ decides ∙ ap (λ n. nat_le (c.task.pool_slots + held_of all c.task.pool + n) (slots_of pools c.task.pool)) given_before

      -- what was decided before stays
      earlier : Placed → Type 0
      earlier p = Contains all p × (is_lt (pooled_cmp p c) ≡ true)

      not_c : (p : Placed) → Contains all p → is_lt (pooled_cmp p c) ≡ true → same_seat c p ≡ false
      not_c p has on = not_true (same_seat c p) (λ same. let is : c ≡ p = alike all c p are.distinct has_c has same in sym (not_itself c) ∙ (λ j. is_lt (pooled_cmp (is j) c)) ∙ on)

      given_kept : (p : Placed) → Contains all p → is_lt (pooled_cmp p c) ≡ true → queued_earlier (is_among seats) all p ≡ queued_earlier (is_among new) all p
      given_kept p has_p on =
          given-agree (λ o. among seats o && same_name o.task.pool p.task.pool && comes_before o p) (λ o. among new o && same_name o.task.pool p.task.pool && comes_before o p) all (λ k d within.
          let o : Placed = get_or all k d in
          let has : Contains all o = (k, within, get_or-same all k o d within) in
          ⊎_elim
          (λ (same : same_seat c o ≡ true).
          let is_c : c ≡ o = alike all c o are.distinct has_c has same in
          let none : (x : Bool) → (x && same_name o.task.pool p.task.pool && comes_before o p) ≡ false = λ x. sym (ap (λ (q : Placed). x && same_name q.task.pool p.task.pool && comes_before q p) is_c) ∙ never x (same_name c.task.pool p.task.pool) (comes_before c p) (after_of c p on) in
          none (among seats o) ∙ sym (none (among new o)))
          (λ (apart : same_seat c o ≡ false). ap (λ (x : Bool). x && same_name o.task.pool p.task.pool && comes_before o p) (sym (others o apart)))
          (cases_Bool (same_seat c o)))
        where
          never : (x y z : Bool) → (y ≡ true → z ≡ false) → (x && y && z) ≡ false
          never true true z then = then refl
          never true false z then = refl
          never false y z then = refl

      exact_before : (p : Placed) → Contains all p → is_lt (pooled_cmp p c) ≡ true → among seats p ≡ fits pools all seats p → among new p ≡ fits pools all new p
      exact_before p has on was =
          others p (not_c p has on) ∙ was ∙ ap (λ n. nat_le (p.task.pool_slots + held_of all p.task.pool + n) (slots_of pools p.task.pool)) (given_kept p has on)

      only_now : (o : Placed) → Contains all o → among new o ≡ true → (k : ℕ) × (k < i + 1) × (k < length cs) × (get_or cs k o ≡ o)
      only_now o has is =
          ⊎_elim
          (λ (old : among seats o ≡ true). let found = so_far.only o has old in let low = found.1 in (found.0, omega arith, found.2, found.3))
          (λ (fresh_one : among seats o ≡ false).
          let same : same_seat c o ≡ true = ⊎_elim (λ (s : same_seat c o ≡ true). s) (λ (apart : same_seat c o ≡ false). absurd (true≢false (sym is ∙ others o apart ∙ fresh_one))) (cases_Bool (same_seat c o)) in
          let is_c : c ≡ o = alike all c o are.distinct has_c has same in
          (i, omega arith, inside, here o ∙ is_c))
          (cases_Bool (among seats o))

      pub Choosing-more : (held_now : ℕ) → held_now ≡ min (held_of all c.task.pool + pooled_given new c.task.pool) (2 ^ 64 - 1) → Choosing (i + 1) held_now new
      Choosing-more held_now is = record {
        exact = λ k d low within. ⊎_elim
            (λ (less : k < i).
            let on : is_lt (pooled_cmp (get_or cs k d) c) ≡ true = (λ j. is_lt (pooled_cmp (get_or cs k d) (sym (here d) j))) ∙ are.in_order k i d less inside in
            exact_before (get_or cs k d) (are.members k d within) on (so_far.exact k d less within))
            (λ (last : i ≤ k).
            let same : i ≡ k = omega arith in
            let is_c : c ≡ get_or cs k d = sym (here d) ∙ ap (λ n. get_or cs n d) same in
            subst (λ (p : Placed). among new p ≡ fits pools all new p) is_c exact_now)
            (cases_lt k i);
        only = only_now;
        held_is = λ k d last within.
            let same : i ≡ k = omega arith in
            let is_c : c ≡ get_or cs k d = sym (here d) ∙ ap (λ n. get_or cs n d) same in
            subst (λ (p : Placed). held_now ≡ min (held_of all p.task.pool + pooled_given new p.task.pool) (2 ^ 64 - 1)) is_c is;
      }

      -- what is given of the pool, where the candidate is chosen
      pub given_more : b ≡ true → pooled_given new c.task.pool ≡ pooled_given seats c.task.pool + c.task.pool_slots
      given_more taken =
          given-add (λ o. among seats o && same_name o.task.pool c.task.pool) (λ o. among new o && same_name o.task.pool c.task.pool) c all are.distinct has_c.0 c has_c.1 has_c.2
          (ap (λ (x : Bool). x && same_name c.task.pool c.task.pool) fresh)
          ((λ j. (chosen_now ∙ taken) j && nat_list_eq_equiv.refl c.task.pool j))
          (λ k d within apart. ap (λ (x : Bool). x && same_name (get_or all k d).task.pool c.task.pool) (others (get_or all k d) apart))

    -- a step over one candidate
    abbrev seat_of : Seat
    seat_of = record { number = c.run.number; place = c.place }

    pub held_now : (now : ℕ) → ((d : Placed) → 0 < i → same_name (get_or cs (i - 1) d).task.pool (get_or cs i d).task.pool ≡ true → now ≡ held) → ((d : Placed) → (i ≡ 0) ⊎ (same_name (get_or cs (i - 1) d).task.pool (get_or cs i d).task.pool ≡ false) → now ≡ min (held_of all (get_or cs i d).task.pool) (2 ^ 64 - 1)) → now ≡ min (held_of all c.task.pool + pooled_given seats c.task.pool) (2 ^ 64 - 1)
    held_now now same other =
        ⊎_elim
        (λ (some : 0 < i).
        let last : i - 1 + 1 ≡ i = omega arith in
        let named : (v : Bool) → same_name (get_or cs (i - 1) c).task.pool c.task.pool ≡ v → same_name (get_or cs (i - 1) c).task.pool (get_or cs i c).task.pool ≡ v = λ v is. (λ j. same_name (get_or cs (i - 1) c).task.pool (here c j).task.pool) ∙ is in
        ⊎_elim
        (λ (is : same_name (get_or cs (i - 1) c).task.pool c.task.pool ≡ true). same c some (named true is) ∙ held_same (i - 1) last c is)
        (λ (not : same_name (get_or cs (i - 1) c).task.pool c.task.pool ≡ false). first (held_other (i - 1) last c not) (other c (inr (named false not))))
        (cases_Bool (same_name (get_or cs (i - 1) c).task.pool c.task.pool)))
        (λ (none : i ≤ 0). let zero_i : i ≡ 0 = omega arith in first (held_first zero_i) (other c (inl zero_i)))
        (cases_lt 0 i)
      where
        first : pooled_given seats c.task.pool ≡ 0 → now ≡ min (held_of all (get_or cs i c).task.pool) (2 ^ 64 - 1) → now ≡ min (held_of all c.task.pool + pooled_given seats c.task.pool) (2 ^ 64 - 1)
        first none is =
            let at : held_of all (get_or cs i c).task.pool ≡ held_of all c.task.pool = λ j. held_of all (here c j).task.pool in
            omega (arith, none, is, at)

    pub taken : (now needed : ℕ) → now ≡ min (held_of all c.task.pool + pooled_given seats c.task.pool) (2 ^ 64 - 1) → needed ≡ min (now + c.task.pool_slots) (2 ^ 64 - 1) → slots_of pools c.task.pool < 2 ^ 32 → needed ≤ slots_of pools c.task.pool → Choosing (i + 1) needed (seats ++ seat_of ∷ [])
    taken now needed is sums few low =
        let told = room_told (held_of all c.task.pool) (pooled_given seats c.task.pool) c.task.pool_slots now needed (slots_of pools c.task.pool) is sums few in
        let more : (o : Placed) → among (seats ++ seat_of ∷ []) o ≡ (among seats o || (true && same_seat c o)) = λ o. among_more seats seat_of o.run.number o.place in
        Choosing-more true (seats ++ seat_of ∷ []) more (told.0 low) needed
        (told.2 ∙ ap (λ n. min (held_of all c.task.pool + n) (2 ^ 64 - 1)) (sym (given_more true (seats ++ seat_of ∷ []) more (told.0 low) refl)))

    pub passed : (now needed : ℕ) → now ≡ min (held_of all c.task.pool + pooled_given seats c.task.pool) (2 ^ 64 - 1) → needed ≡ min (now + c.task.pool_slots) (2 ^ 64 - 1) → slots_of pools c.task.pool < 2 ^ 32 → slots_of pools c.task.pool < needed → Choosing (i + 1) now seats
    passed now needed is sums few high =
        let told = room_told (held_of all c.task.pool) (pooled_given seats c.task.pool) c.task.pool_slots now needed (slots_of pools c.task.pool) is sums few in
        Choosing-more false seats (λ o. sym (or_end (among seats o))) (told.1 high) now is
