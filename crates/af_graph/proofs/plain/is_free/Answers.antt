use Rattle.std.proofs.Common.{◌≡◌, false, ap, ◌∙◌, arith}
use Rattle.std.specs.List.{list_all}
use Rattle.af_graph.specs.Rows.{is_among}
use Rattle.af_graph.specs.Steps.{is_done}
use Rattle.af_graph.proofs.PlainLemmas.{free_plain}
use Rattle.af_graph.proofs.plain.is_free.Goals as goal

pub returns-then-not-is_among : goal.returns-then-not-is_among
returns-then-not-is_among c =
    let fresh : is_among c.args.taken.now c.args.place ≡ false = grind (arith, c.is_among.ensures, c.if-not-is_among.true) in
    c.are_done.ensures
    ∙ ap (list_all (is_done c.args.tasks.now c.args.taken.now)) c.as_slice.ensures
    ∙ free_plain c.args.tasks.now c.args.taken.now c.args.place c.index-tasks-place.result c.requires fresh
