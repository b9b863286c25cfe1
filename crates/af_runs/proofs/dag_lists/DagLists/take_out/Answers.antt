use Rattle.std.proofs.Common.{◌∙◌, ap, rules, [], Some, not, ◌==◌}
use Rattle.std.specs.Prelude.{bytes_eq, filter}
use Rattle.std.specs.Option.{option_map_or}
use Rattle.std.specs.HashMap.{get_by_text}
use Rattle.std.proofs.lemmas.Fn.{filter_same}
use Rattle.std.proofs.lemmas.Map.Text.{hash_map_updates_text}
use Rattle.af_runs.proofs.DagListLemmas.{mapped, taken_out}
use Rattle.af_runs.proofs.dag_lists.DagLists.take_out.Goals as goal

pub returns-in-Some-clause-out : goal.returns-in-Some-clause-out
returns-in-Some-clause-out c = λ q.
    let id = c.args.dag_id.now in
    let kept = filter_same _ (λ other. not (other == c.args.number)) _ (λ x b f k. search rules) _ _ c.retain.ensures.filtered in
    ap (λ found. option_map_or (λ list. list.items) found []) (hash_map_updates_text id c.args.self.now.lists (c.get_mut.follows.lender c.retain.new.self) (Some c.retain.new.self) ((c.get_mut.follows.holds c.retain.new.self).3 (search rules)) q)
    ∙ mapped (λ list. list.items) (bytes_eq id q) c.retain.new.self (get_by_text c.args.self.now.lists q)
    ∙ taken_out c.args.self.now id c.retain.new.self.items c.args.number (kept ∙ ap (filter (λ other. not (other == c.args.number))) (ap (λ found. option_map_or (λ list. list.items) found []) c.in-Some.ensures.value)) q
