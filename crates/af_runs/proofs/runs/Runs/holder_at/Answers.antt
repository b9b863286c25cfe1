use Rattle.std.proofs.Common.{◌∙◌, sym, ap, List, ℕ}
use Rattle.std.specs.Prelude.{slice_get}
use Rattle.af_runs.specs.Busy.{holders_of, holds_any}
use Rattle.af_runs.proofs.NthLemmas.{found_at, missed_at, none_at, numbered_at}
use Rattle.af_runs.proofs.runs.Runs.holder_at.Goals as goal

pub returns-in-Some : goal.returns-in-Some
returns-in-Some c =
    let is = c.self.invariant in
    let at = found_at c.deref.result.now c.args.place c.in-Some.number.now c.in-Some.ensures.lookup.0 c.in-Some.ensures.lookup.1 ∙ ap (λ (ns : List ℕ). slice_get ns c.args.place) (c.deref.ensures.value ∙ is.1.holders) in
    c.get-in-Some.ensures ∙ rw (← c.self.view_is) (numbered_at holds_any c.self.inside.rows.items c.args.place c.in-Some.number.now is.0.in_order (sym at))

pub returns-in-None : goal.returns-in-None
returns-in-None c =
    let is = c.self.invariant in
    let at = missed_at c.deref.result.now c.args.place c.in-None.ensures.lookup.0 ∙ ap (λ (ns : List ℕ). slice_get ns c.args.place) (c.deref.ensures.value ∙ is.1.holders) in
    rw (← c.self.view_is) (sym (none_at (holders_of c.self.inside.rows.items) c.args.place (sym at)))
