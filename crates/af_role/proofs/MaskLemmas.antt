-- The sets of actions on whole kinds: what is there after an action, or the sets of another mask, are added.
use Rattle.std.proofs.Common.{◌≡◌, ℕ, zero, suc, ◌+◌, ◌*◌, ◌^◌, ◌<◌, ◌==◌, max, List, [], ◌∷◌, length, get_or, set, Bool, true, false, ◌&&◌, ◌||◌, nat_eq, nat_lt, refl, sym, ap, ◌∙◌, inl, inr, arith}
use Rattle.std.specs.Int.RustNames.{bit_and, bit_or}
use Rattle.std.proofs.lemmas.Bool.{cases_eq, eq-eqb, ne_eqb}
use Rattle.std.proofs.lemmas.Bool.Decides.{nat_tests}
use Rattle.std.specs.Int.{bit_at}
use Rattle.std.proofs.lemmas.Nat.Bits.{and_pow, bit_at_or, bit_at-lt}
use Rattle.af_role.specs.declared.action.Action.{Action}
use Rattle.af_role.specs.declared.action.Action.TheVariants.{Create, Read, Edit, Delete}
use Rattle.af_role.specs.declared.actions.Actions.{Actions}
use Rattle.af_role.specs.declared.resource.ResourceKind.{ResourceKind}
use Rattle.af_role.specs.declared.resource.ResourceKind.TheVariants.{Dags, DagRuns, TaskInstances, Pools, Variables, AuditLogs, Roles, Users}
use Rattle.af_role.specs.Resources.{action_rank, kind_rank}
use Rattle.af_role.specs.ActionSets.{bit_of, has}
use Rattle.af_role.specs.KindMasks.{has_at}

pub kind_rank_below : (kind : ResourceKind) → kind_rank kind < 8
kind_rank_below Dags = omega arith
kind_rank_below DagRuns = omega arith
kind_rank_below TaskInstances = omega arith
kind_rank_below Pools = omega arith
kind_rank_below Variables = omega arith
kind_rank_below AuditLogs = omega arith
kind_rank_below Roles = omega arith
kind_rank_below Users = omega arith

-- ---- bits

bit_of-pow : (action : Action) → bit_of action ≡ 2 ^ action_rank action
bit_of-pow Create = refl
bit_of-pow Read = refl
bit_of-pow Edit = refl
bit_of-pow Delete = refl

-- a bit is there, or it is not
tested : (x y p : ℕ) → x < 2 → y < 2 → (max x y * p == p) ≡ ((y * p == p) || (x * p == p))
tested x y p x_is y_is = grind (arith, nat_tests)

-- a bit of two numbers together is one of the one's, or one of the other's
or_has : (a b k : ℕ) → (bit_and (bit_or a b) (2 ^ k) == 2 ^ k) ≡ ((bit_and b (2 ^ k) == 2 ^ k) || (bit_and a (2 ^ k) == 2 ^ k))
or_has a b k =
    rw (and_pow (bit_or a b) k, and_pow a k, and_pow b k, bit_at_or a b k) (tested (bit_at a k) (bit_at b k) (2 ^ k) (bit_at-lt a k) (bit_at-lt b k))

pub union_has : (a b : ℕ) (action : Action) → (bit_and (bit_or a b) (bit_of action) == bit_of action) ≡ ((bit_and b (bit_of action) == bit_of action) || (bit_and a (bit_of action) == bit_of action))
union_has a b action = rw (bit_of-pow action) (or_has a b (action_rank action))

-- ---- sets at places

pub has_at-get : (sets : List Actions) (place : ℕ) (d : Actions) (action : Action) → place < length sets → has_at sets place action ≡ has (get_or sets place d) action
has_at-get [] place d action within = absurd (omega (arith, within))
has_at-get (x ∷ xs) zero d action within = refl
has_at-get (x ∷ xs) (suc place) d action within = has_at-get xs place d action (omega (arith, within))

pub has_at-set_same : (sets : List Actions) (place : ℕ) (put : Actions) (action : Action) → place < length sets → has_at (set sets place put) place action ≡ has put action
has_at-set_same [] place put action within = absurd (omega (arith, within))
has_at-set_same (x ∷ xs) zero put action within = refl
has_at-set_same (x ∷ xs) (suc place) put action within = has_at-set_same xs place put action (omega (arith, within))

pub has_at-set_other : (sets : List Actions) (place other : ℕ) (put : Actions) (action : Action) → (place ≡ other → ⊥) → has_at (set sets place put) other action ≡ has_at sets other action
has_at-set_other [] place other put action apart = refl
has_at-set_other (x ∷ xs) zero zero put action apart = absurd (apart refl)
has_at-set_other (x ∷ xs) zero (suc other) put action apart = refl
has_at-set_other (x ∷ xs) (suc place) zero put action apart = refl
has_at-set_other (x ∷ xs) (suc place) (suc other) put action apart = has_at-set_other xs place other put action (λ e. apart (ap suc e))

-- an action, or none, added at a place
pub has_at-added : (sets : List Actions) (place other : ℕ) (put : Actions) (b : Bool) (action : Action) → place < length sets → has put action ≡ (b || has_at sets place action) → has_at (set sets place put) other action ≡ ((nat_eq place other && b) || has_at sets other action)
has_at-added sets place other put b action within is = elim (cases_eq place other) [
  | inl e ↦
      ap (λ n. has_at (set sets place put) n action) (sym e)
      ∙ has_at-set_same sets place put action within
      ∙ is
      ∙ ap (λ n. b || has_at sets n action) e
      ∙ ap (λ t. (t && b) || has_at sets other action) (sym (eq-eqb place other e))
  | inr apart ↦
      has_at-set_other sets place other put action apart
      ∙ ap (λ t. (t && b) || has_at sets other action) (sym (ne_eqb place other apart))
]

-- the sets of one mask added to those of another, up to a place
or_once : (m s : Bool) → (m || (m || s)) ≡ (m || s)
or_once true s = refl
or_once false s = refl

pub joined_next : (own more start : List Actions) (place : ℕ) (put : Actions) → place < length own → ((n : ℕ) (a : Action) → has_at own n a ≡ ((nat_lt n place && has_at more n a) || has_at start n a)) → (m o : Actions) → ((a : Action) → has put a ≡ (has m a || has o a)) → ((a : Action) → has_at more place a ≡ has m a) → ((a : Action) → has_at own place a ≡ has o a) → (n : ℕ) (a : Action) → has_at (set own place put) n a ≡ ((nat_lt n (place + 1) && has_at more n a) || has_at start n a)
joined_next own more start place put within so m o is more_is own_is n a = elim (cases_eq place n) [
  | inl e ↦
      ap (λ m. has_at (set own place put) m a) (sym e)
      ∙ has_at-set_same own place put a within
      ∙ is a
      ∙ ap (λ b. b || has o a) (sym (more_is a))
      ∙ ap (λ b. has_at more place a || b) (sym (own_is a) ∙ so place a)
      ∙ ap (λ b. has_at more place a || ((b && has_at more place a) || has_at start place a)) lt_self
      ∙ ap (λ k. has_at more k a || has_at start k a) e
      ∙ ap (λ b. (b && has_at more n a) || has_at start n a) (sym (lt_next e))
  | inr apart ↦
      has_at-set_other own place n put a apart
      ∙ so n a
      ∙ ap (λ b. (b && has_at more n a) || has_at start n a) (lt_apart apart)
]
  where
    lt_self : nat_lt place place ≡ false
    lt_self = grind (arith, nat_tests)

    lt_next : place ≡ n → nat_lt n (place + 1) ≡ true
    lt_next e = grind (arith, nat_tests, e)

    lt_apart : (place ≡ n → ⊥) → nat_lt n place ≡ nat_lt n (place + 1)
    lt_apart apart = grind (arith, nat_tests, apart)
