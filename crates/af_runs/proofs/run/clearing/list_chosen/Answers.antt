use Rattle.std.proofs.Common.{◌∙◌, ◌++◌, ◌<◌, ap, arith, ℕ, List, length, get_or, take_all, map, cond, ◌∷◌, []}
use Rattle.std.specs.Prelude.{filter}
use Rattle.std.specs.List.{enumerate_from}
use Rattle.std.proofs.lemmas.List.FromFn.{length-enumerate_from}
use Rattle.af_runs.specs.Clears.{ChosenRow, is_chosen}
use Rattle.af_runs.specs.declared.instance.Instance.{Instance}
use Rattle.af_runs.proofs.ChangeLemmas.{listed-more}
use Rattle.af_runs.proofs.run.clearing.list_chosen.Goals as goal

pub loop-place-preserved : goal.loop-place-preserved
loop-place-preserved c =
    let row : ℕ × Instance → ChosenRow = λ at. record { run = c.args.run.now; place = at.0 } in
    let within : c.loop-place.place < length c.args.run.now.instances = omega (arith, ap (length {A = Instance}) c.as_slice-instances.ensures) in
    listed-more c.args.selection.now c.loop-place.all.items c.args.all.now.items _ c.args.run.now.instances c.loop-place.place c.index-instances-place.result row within
    (c.index-instances-place.is ∙ ap (λ (xs : List Instance). get_or xs c.loop-place.place c.index-instances-place.result) c.as_slice-instances.ensures)
    (c.in_ok-push_if.ensures ∙ ap (λ b. c.loop-place.all.items ++ cond b (row (c.loop-place.place, c.index-instances-place.result) ∷ []) []) c.chooses-is_chosen.ensures)
    c.loop-place.invariant

pub returns : goal.returns
returns c =
    let row : ℕ × Instance → ChosenRow = λ at. record { run = c.args.run.now; place = at.0 } in
    let long = ap (length {A = Instance}) c.as_slice-instances.ensures in
    c.loop-place.invariant
    ∙ ap (λ (xs : List (ℕ × Instance)). c.args.all.now.items ++ map row (filter (is_chosen c.args.selection.now) xs)) (take_all c.loop-place.place (enumerate_from 0 c.args.run.now.instances) (omega (arith, long, length-enumerate_from 0 c.args.run.now.instances)))
