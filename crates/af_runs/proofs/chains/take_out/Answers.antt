use Rattle.std.proofs.Common.{◌∙◌, ap, map, length}
use Rattle.std.proofs.lemmas.List.{with_items_is, length-map}
use Rattle.af_runs.specs.Chains.{out}
use Rattle.af_runs.proofs.chains.take_out.Goals as goal

pub returns-clause-items : goal.returns-clause-items
returns-clause-items c =
    let same = c.replace.ensures ∙ ap (map (out c.args.other c.remove-taken.result)) c.as_mut_slice.ensures.value in
    with_items_is c.remove-taken.new.self c.replace.new.numbers (ap length c.replace.ensures ∙ length-map _ _ ∙ c.as_mut_slice.ensures.len)
    ∙ same ∙ ap (map (out c.args.other c.remove-taken.result)) c.remove-taken.ensures.items
