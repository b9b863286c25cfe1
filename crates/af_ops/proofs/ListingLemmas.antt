-- Listings leave the state as it is, and their pages stand in order.
use Rattle.std.proofs.Common.{◌≡◌, ℕ, zero, suc, Bool, true, cond, List, [], ◌∷◌, refl, ap, ap₂, sym, map, drop, Ordering}
use Rattle.std.specs.Prelude.{Option, None, Result, Ok, Err}
use Rattle.std.specs.Cmp.{IsTotalOrder}
use Rattle.std.specs.List.Sorted.{IsStrictlySortedBy}
use Rattle.serde_json.specs.Data.{Data}
use Rattle.af_base.specs.Readings.{◌>>=◌}
use Rattle.af_listing.specs.Pages.{cut}
use Rattle.af_listing.specs.Windows.{Cut}
use Rattle.af_names.proofs.OrderLemmas.{order-take}
use Rattle.af_policy.specs.declared.bad_input.Parameter.{Parameter}
use Rattle.af_sched.specs.State.{StateRows}
use Rattle.af_ops.specs.declared.answer.OpFault.{OpFault}
use Rattle.af_ops.specs.EffectParts.{Effect, kept, window_or}
use Rattle.af_ops.specs.Listings.{read_rows}

-- the state after an operation, where that is another one
unfoldable pub next_in : Result Effect OpFault → Option StateRows
next_in (Ok e) = e.next
next_in (Err fault) = None

-- a reply alone
pub kept_next : (reply : Data) (effect : Effect) → ◌≡◌ {A = Result Effect OpFault} (Ok (kept reply)) (Ok effect) → effect.next ≡ None
unfolding next_in
kept_next reply effect is = ap (λ (r : Result Effect OpFault). next_in r) (sym is)

-- a page, whatever it tells
pub window_kept : (asked : Result Cut Parameter) (reply : Cut → Data) (effect : Effect) → (window_or asked >>= (λ window. Ok (kept (reply window)))) ≡ Ok effect → effect.next ≡ None
window_kept (Err parameter) reply effect is = cc
window_kept (Ok window) reply effect is = kept_next (reply window) effect is

module _ {K X : Type 0} (key : X → K) {R : K → K → Ordering} (total : IsTotalOrder R) where
  order_drop : (n : ℕ) (xs : List X) → IsStrictlySortedBy R (map key xs) → IsStrictlySortedBy R (map key (drop n xs))
  unfolding IsStrictlySortedBy
  order_drop zero xs order = order
  order_drop (suc n) [] order = tt
  order_drop (suc n) (x ∷ xs) order = order_drop n xs order.1

  -- a page of rows in order is in order
  pub order_cut : (window : Cut) (xs : List X) → IsStrictlySortedBy R (map key xs) → IsStrictlySortedBy R (map key (cut window xs))
  order_cut window xs order = order-take key total window.limit (drop window.offset xs) (order_drop window.offset xs order)

-- who reads each DAG is shown each row
pub all_read : {X : Type 0} (reads : List ℕ → Bool) (dag : X → List ℕ) (rows : List X) → ((dag_id : List ℕ) → reads dag_id ≡ true) → read_rows reads dag rows ≡ rows
all_read reads dag [] all = refl
all_read {X} reads dag (row ∷ rows) all =
    ap₂ (λ (shown : Bool) (rest : List X). cond shown (row ∷ rest) rest) (all (dag row)) (all_read reads dag rows all)
