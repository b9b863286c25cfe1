use Rattle.std.proofs.Common.{◌≡◌, ◌+◌, sym, ap, ◌∙◌, arith, is_some}
use Rattle.af_policy.specs.SharedRows.{found}
use Rattle.af_policy.specs.Uses.{UseRow, count_at}
use Rattle.af_policy.proofs.UseLemmas.{count_put, not_counted, uncounted, use_counted, use_found, use_named}
use Rattle.af_policy.proofs.uses.Uses.add.Goals as goal

pub replace-requires : goal.replace-requires
replace-requires c =
    ap (λ (row : UseRow). is_some (found (λ (row : UseRow). row.name) c.self.inside.counts row.name)) c.in_ok-more-in-Some.ensures
    ∙ use_found c.self.inside.counts c.args.name.now c.as_bytes.result.now (c.as_bytes.ensures.value ∙ c.as_str.ensures.text) c.in-Some.row.now c.in-Some.ensures

pub returns-in_ok-replace-in-Some : goal.returns-in_ok-replace-in-Some
returns-in_ok-replace-in-Some c other is =
    let named = use_named c.self.inside.counts c.args.name.now c.as_bytes.result.now (c.as_bytes.ensures.value ∙ c.as_str.ensures.text) c.in-Some.row.now c.in-Some.ensures
    in let counted = use_counted c.self.inside.counts c.args.name.now c.as_bytes.result.now (c.as_bytes.ensures.value ∙ c.as_str.ensures.text) c.in-Some.row.now c.in-Some.ensures
    in let more : c.in-Some-checked_add.count ≡ count_at c.self.inside.counts c.args.name.now + 1 = omega (arith, c.in-Some-checked_add.ensures, c.count.ensures, counted)
    in rw (← c.self.view_is)
    (count_put (λ n. n + 1) c.self.inside.counts c.replace.new.self c.in_ok-more-in-Some.more c.args.name.now c.in_ok-replace-in-Some.ensures.ok
    (ap (λ (row : UseRow). row.name) c.in_ok-more-in-Some.ensures ∙ named) (ap (λ (row : UseRow). row.count) c.in_ok-more-in-Some.ensures ∙ more) other)

pub returns-in_ok-put-in-None : goal.returns-in_ok-put-in-None
returns-in_ok-put-in-None c other is =
    let none = not_counted c.self.inside.counts c.args.name.now c.as_bytes.result.now (c.as_bytes.ensures.value ∙ c.as_str.ensures.text) c.in-None.ensures
    in rw (← c.self.view_is)
    (count_put (λ n. n + 1) c.self.inside.counts c.put.new.self c.in_ok-first-in-None.first c.args.name.now c.in_ok-put-in-None.ensures.ok
    (ap (λ (row : UseRow). row.name) c.in_ok-first-in-None.ensures ∙ c.in_ok-copied-in-None.ensures) (ap (λ (row : UseRow). row.count) c.in_ok-first-in-None.ensures ∙ ap (λ n. n + 1) (sym none)) other)

pub returns-then-not-is_counted : goal.returns-then-not-is_counted
returns-then-not-is_counted c other is = uncounted (count_at c.args.self.now other + 1) (count_at c.args.self.now other) c.args.name.now other c.if-not-is_counted.ensures is
