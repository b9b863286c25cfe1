use Rattle.std.proofs.Common.{◌≡◌, ◌∙◌, ap, sym, arith, length, subst, Bool, List, ℕ, ◌<◌, ◌≤◌, get_or}
use Rattle.std.specs.List.Sorted.{IsStrictlySortedBy, IsPartitionPoint}
use Rattle.std.specs.Ordering.{nat_cmp}
use Rattle.std.specs.declared.cmp.Ordering.TheVariants.{Less, Equal, Greater}
use Rattle.std.proofs.lemmas.List.Edits.{length-insert}
use Rattle.af_runs.specs.Busy.{with_number}
use Rattle.af_runs.proofs.OkLemmas.{push_ok}
use Rattle.af_runs.proofs.BusyLemmas.{kept-found, taken-found, put-missed, left-missed, searched, same_from_cmp}
use Rattle.af_runs.proofs.busy.keep.Goals as goal

pub returns-then-not-among-clause-numbers : goal.returns-then-not-among-clause-numbers
returns-then-not-among-clause-numbers c =
    let within = subst (λ (xs : List ℕ). c.in-Ok.place < length xs) c.deref.ensures.value c.in-Ok.ensures.bound in
    let here = λ (d : ℕ). same_from_cmp _ _ (subst (λ (xs : List ℕ). nat_cmp (get_or xs c.in-Ok.place d) c.args.number ≡ Equal) c.deref.ensures.value (c.in-Ok.ensures.ok d)) in
    c.remove-number.ensures.items
    ∙ sym (taken-found c.args.number c.args.numbers.now.items c.requires.in_order c.in-Ok.place within here)
    ∙ ap (λ (b : Bool). with_number c.args.number b c.args.numbers.now.items) (sym c.if-not-among.true)

pub returns-else-not-among-clause-numbers : goal.returns-else-not-among-clause-numbers
returns-else-not-among-clause-numbers c =
    let within = subst (λ (xs : List ℕ). c.in-Ok.place < length xs) c.deref.ensures.value c.in-Ok.ensures.bound in
    let here = λ (d : ℕ). same_from_cmp _ _ (subst (λ (xs : List ℕ). nat_cmp (get_or xs c.in-Ok.place d) c.args.number ≡ Equal) c.deref.ensures.value (c.in-Ok.ensures.ok d)) in
    sym (kept-found c.args.number c.args.numbers.now.items c.requires.in_order c.in-Ok.place within here)
    ∙ ap (λ (b : Bool). with_number c.args.number b c.args.numbers.now.items) (sym c.if-not-among.false)

pub returns-then-among-clause-numbers : goal.returns-then-among-clause-numbers
returns-then-among-clause-numbers c =
    let order = subst (IsStrictlySortedBy nat_cmp) (sym c.deref.ensures.value) c.requires.in_order in
    let parted = subst (λ (xs : List ℕ). IsPartitionPoint (λ n. nat_cmp n c.args.number ≡ Less) (λ n. nat_cmp n c.args.number ≡ Greater) xs c.in-Err.place) c.deref.ensures.value (c.in-Err.ensures.position (searched c.args.number c.deref.result.now order c.in-Err.place)) in
    let put = put-missed c.args.number c.args.numbers.now.items c.requires.in_order c.in-Err.place parted in
    let among = ap (λ (b : Bool). with_number c.args.number b c.args.numbers.now.items) (sym c.if-among.true) in
    let at = subst (λ (xs : List ℕ). c.in-Err.place ≤ length xs) c.deref.ensures.value c.in-Err.ensures.bound in
    let long = length-insert c.args.numbers.now.items c.in-Err.place c.args.number at in
    push_ok _ _ _ _ c.insert-inserted.ensures.items (c.insert-inserted.ensures.succeeds (omega (arith, long, ap length (sym put ∙ among), c.requires.room, c.deref.ensures.len, ap length c.deref.ensures.value)))
    ∙ sym put ∙ among

pub returns-else-among-clause-numbers : goal.returns-else-among-clause-numbers
returns-else-among-clause-numbers c =
    let order = subst (IsStrictlySortedBy nat_cmp) (sym c.deref.ensures.value) c.requires.in_order in
    let parted = subst (λ (xs : List ℕ). IsPartitionPoint (λ n. nat_cmp n c.args.number ≡ Less) (λ n. nat_cmp n c.args.number ≡ Greater) xs c.in-Err.place) c.deref.ensures.value (c.in-Err.ensures.position (searched c.args.number c.deref.result.now order c.in-Err.place)) in
    sym (left-missed c.args.number c.args.numbers.now.items c.requires.in_order c.in-Err.place parted)
    ∙ ap (λ (b : Bool). with_number c.args.number b c.args.numbers.now.items) (sym c.if-among.false)
