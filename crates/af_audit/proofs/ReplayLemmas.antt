-- What entries make of a state.
use Rattle.std.proofs.Common.{◌≡◌, ◌∙◌, sym, ap, subst, refl, ℕ, suc, ◌+◌, ◌<◌, List, [], ◌∷◌, ◌++◌, length, get_or, drop, drop-cons, add-one}
use Rattle.std.specs.Prelude.{Some, None, Ok, Err}
use Rattle.af_sched.specs.Laws.{ClaimIsOne, TickIsOne}
use Rattle.af_sched.specs.State.{StateRows}
use Rattle.af_ops.specs.declared.op.Op.TheVariants as op
use Rattle.af_audit.specs.declared.act.Act.{Act}
use Rattle.af_audit.specs.declared.act.Act.TheVariants as act
use Rattle.af_audit.specs.declared.entry.Entry.{Entry}
use Rattle.af_audit.specs.Acts.{IsAfter, IsState}
use Rattle.af_audit.specs.Entries.{IsReplay}
use Rattle.af_audit.specs.Laws.{FrontsMakeTheStateAsItWas, NoChangeDependsOnTheReader, ReplayIsOne}

-- one act more, the last
pub replay_more : (entries : List Entry) (entry : Entry) (old was new : StateRows) → IsReplay old entries was → IsState new → IsAfter entry.act entry.moment was new → IsReplay old (entries ++ entry ∷ []) new
replay_more [] entry old was new is state after =
    (new, state, subst (λ (s : StateRows). IsAfter entry.act entry.moment s new) is after, refl)
replay_more (first ∷ entries) entry old was new is state after =
    (is.0, is.1, is.2, replay_more entries entry is.0 was new is.3 state after)

-- the act of the entry at a place, and those of the entries after it
pub replay_step : (entries : List Entry) (i : ℕ) (entry : Entry) (was new last : StateRows) → i < length entries → entry ≡ get_or entries i entry → IsState new → IsAfter entry.act entry.moment was new → IsReplay new (drop (i + 1) entries) last → IsReplay was (drop i entries) last
replay_step entries i entry was new last inside here state after later =
    let rest : drop i entries ≡ entry ∷ drop (i + 1) entries =
    drop-cons entries i entry inside
    ∙ ap (λ (e : Entry). e ∷ drop (suc i) entries) (sym here)
    ∙ ap (λ (n : ℕ). entry ∷ drop n entries) (sym (add-one i)) in
    rw rest (new, state, after, later)

-- an act leaves one state
after_is_one : TickIsOne → ClaimIsOne → (it : Act) (t : ℕ) (old one other : StateRows) → IsState old → IsAfter it t old one → IsAfter it t old other → one ≡ other
after_is_one ticks claims (act.Did asked) t old one other state first second = first ∙ sym second
after_is_one ticks claims act.Tick t old one other state first second = ticks t old one other state.rows first second
after_is_one ticks claims (act.Claim claimed) t old one other state first second =
    (claims t old one other first.0 second.0 state.runs first.1 second.1).0
after_is_one ticks claims (act.Report claimed outcome) t old one other state first second = first ∙ sym second

pub replay_is_one : TickIsOne → ClaimIsOne → ReplayIsOne
replay_is_one ticks claims [] old one other state first second = first ∙ sym second
replay_is_one ticks claims (entry ∷ entries) old one other state first second =
    let same : first.0 ≡ second.0 = after_is_one ticks claims entry.act entry.moment old first.0 second.0 state first.2 second.2 in
    replay_is_one ticks claims entries first.0 one other first.1 first.3
    (subst (λ (s : StateRows). IsReplay s entries other) (sym same) second.3)

-- the state between the first entries and the others
between : (front rest : List Entry) (old new : StateRows) → IsReplay old (front ++ rest) new → (was : StateRows) × IsReplay old front was × IsReplay was rest new
between [] rest old new is = (old, refl, is)
between (entry ∷ front) rest old new is =
    let later = between front rest is.0 new is.3 in
    (later.0, (is.0, is.1, is.2, later.1), later.2)

pub fronts_make : ReplayIsOne → FrontsMakeTheStateAsItWas
fronts_make one front rest opening state was opens is first =
    let there = between front rest opening state is in
    subst (λ (s : StateRows). IsReplay s rest state) (one front opening there.0 was opens there.1 first) there.2

pub no_change_depends : NoChangeDependsOnTheReader
no_change_depends reads others state (op.ListDags (Ok window)) t = refl
no_change_depends reads others state (op.ListDags (Err parameter)) t = refl
no_change_depends reads others state (op.ListRuns None (Ok window)) t = refl
no_change_depends reads others state (op.ListRuns None (Err parameter)) t = refl
no_change_depends reads others state (op.ListRuns (Some dag_id) asked) t = refl
no_change_depends reads others state asked t = refl
