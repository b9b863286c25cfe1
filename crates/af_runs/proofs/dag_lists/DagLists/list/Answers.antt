use Rattle.std.proofs.Common.{◌≡◌, ◌∙◌, ap, sym, rules, List, [], ◌∷◌, ◌++◌, ℕ, Some, cond}
use Rattle.std.specs.Prelude.{bytes_eq, string_bytes}
use Rattle.std.specs.Option.{option_map_or}
use Rattle.std.specs.HashMap.{get_by_text}
use Rattle.std.proofs.lemmas.Map.Text.{hash_map_updates_text}
use Rattle.af_runs.specs.DagLists.{numbers_in}
use Rattle.af_runs.proofs.DagListLemmas.{mapped, listed_same, listed_more, on_err}
use Rattle.af_runs.proofs.dag_lists.DagLists.list.Goals as goal

pub returns-in_err-push-clause-err : goal.returns-in_err-push-clause-err
returns-in_err-push-clause-err c =
    let id = c.as_str.result.now in
    let kept : (q : List ℕ) → numbers_in (record c.args.self.now { lists = c.get_mut.follows.lender c.push.new.self }) q ≡ numbers_in c.args.self.now q = λ q.
    ap (λ found. option_map_or (λ list. list.items) found []) (hash_map_updates_text id c.args.self.now.lists (c.get_mut.follows.lender c.push.new.self) (Some c.push.new.self) ((c.get_mut.follows.holds c.push.new.self).3 (search rules)) q)
    ∙ mapped (λ list. list.items) (bytes_eq id q) c.push.new.self (get_by_text c.args.self.now.lists q)
    ∙ listed_same c.args.self.now id c.push.new.self.items (c.in_err-push.ensures.items ∙ ap (λ found. option_map_or (λ list. list.items) found []) c.in-Some.ensures.value) q in
    on_err _ kept

pub returns-in-Some-clause-ok : goal.returns-in-Some-clause-ok
returns-in-Some-clause-ok c = λ q.
    let id = c.as_str.result.now in
    ap (λ found. option_map_or (λ list. list.items) found []) (hash_map_updates_text id c.args.self.now.lists (c.get_mut.follows.lender c.push.new.self) (Some c.push.new.self) ((c.get_mut.follows.holds c.push.new.self).3 (search rules)) q)
    ∙ mapped (λ list. list.items) (bytes_eq id q) c.push.new.self (get_by_text c.args.self.now.lists q)
    ∙ listed_more c.args.self.now id c.push.new.self.items c.args.run.now c.as_str.ensures.text (c.in_ok-push.ensures.items ∙ ap (λ (xs : List ℕ). xs ++ c.args.run.now.number ∷ []) (ap (λ found. option_map_or (λ list. list.items) found []) c.in-Some.ensures.value)) q

pub returns-clause-ok : goal.returns-clause-ok
returns-clause-ok c = λ q.
    let id = string_bytes c.in_ok-key.key in
    let of : id ≡ c.args.run.now.dag_id = c.in_ok-key.ensures.ok ∙ c.as_str-2.ensures.text in
    let missing : [] ≡ numbers_in c.args.self.now id = ap (λ found. option_map_or (λ list. list.items) found []) c.in_default.ensures.value ∙ ap (numbers_in c.args.self.now) (c.as_str.ensures.text ∙ sym of) in
    ap (λ found. option_map_or (λ list. list.items) found []) (hash_map_updates_text id c.get_mut.follows.lender-at-none c.insert.new.self (Some c.in_ok-list.list) c.in_ok-insert.ensures.updates q)
    ∙ mapped (λ list. list.items) (bytes_eq id q) c.in_ok-list.list (get_by_text c.get_mut.follows.lender-at-none q)
    ∙ (λ i. cond (bytes_eq id q) c.in_ok-list.list.items (option_map_or (λ list. list.items) (get_by_text (c.get_mut.follows.holds-at-none i) q) []))
    ∙ listed_more c.args.self.now id c.in_ok-list.list.items c.args.run.now of (c.in_ok-list.ensures.items ∙ (λ i. missing i ++ c.args.run.now.number ∷ [])) q
