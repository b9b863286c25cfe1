use Rattle.std.proofs.Common.{◌-◌, sym, ap, ◌∙◌, arith, is_some}
use Rattle.af_policy.specs.SharedRows.{found}
use Rattle.af_policy.specs.Uses.{UseRow, count_at}
use Rattle.af_policy.proofs.UseLemmas.{count_put, count_removed, none_taken, uncounted, use_counted, use_found, use_named}
use Rattle.af_policy.proofs.uses.Uses.take.Goals as goal

pub replace-requires : goal.replace-requires
replace-requires c =
    ap (λ (row : UseRow). is_some (found (λ (row : UseRow). row.name) c.self.inside.counts row.name)) c.in_ok-less-in-Some.ensures
    ∙ use_found c.self.inside.counts c.args.name.now c.as_bytes.result.now (c.as_bytes.ensures.value ∙ c.as_str.ensures.text) c.in-Some.row.now c.in-Some.ensures

pub returns-in_ok-remove-in-Some : goal.returns-in_ok-remove-in-Some
returns-in_ok-remove-in-Some c other is =
    let counted = use_counted c.self.inside.counts c.args.name.now c.as_bytes.result.now (c.as_bytes.ensures.value ∙ c.as_str.ensures.text) c.in-Some.row.now c.in-Some.ensures
    in rw (← c.self.view_is)
    (count_removed (λ n. n - 1) c.self.inside.counts c.remove.new.self c.as_bytes-then-count-lt2.result.now c.args.name.now c.in_ok-remove-in-Some.ensures.ok
    (c.as_bytes-then-count-lt2.ensures.value ∙ c.as_str-then-count-lt2.ensures.text) (omega (arith, counted, c.count-count.ensures, c.if-count-lt2.true)) other)

pub returns-in_ok-replace-in-Some : goal.returns-in_ok-replace-in-Some
returns-in_ok-replace-in-Some c other is =
    let named = use_named c.self.inside.counts c.args.name.now c.as_bytes.result.now (c.as_bytes.ensures.value ∙ c.as_str.ensures.text) c.in-Some.row.now c.in-Some.ensures
    in let counted = use_counted c.self.inside.counts c.args.name.now c.as_bytes.result.now (c.as_bytes.ensures.value ∙ c.as_str.ensures.text) c.in-Some.row.now c.in-Some.ensures
    in rw (← c.self.view_is)
    (count_put (λ n. n - 1) c.self.inside.counts c.replace.new.self c.in_ok-less-in-Some.less c.args.name.now c.in_ok-replace-in-Some.ensures.ok
    (ap (λ (row : UseRow). row.name) c.in_ok-less-in-Some.ensures ∙ named) (ap (λ (row : UseRow). row.count) c.in_ok-less-in-Some.ensures ∙ ap (λ n. n - 1) (c.count-count.ensures ∙ sym counted)) other)

pub returns-in-None : goal.returns-in-None
returns-in-None c other is = rw (← c.self.view_is)
    (none_taken c.self.inside.counts c.args.name.now c.as_bytes.result.now (c.as_bytes.ensures.value ∙ c.as_str.ensures.text) c.in-None.ensures other)

pub returns-then-not-is_counted : goal.returns-then-not-is_counted
returns-then-not-is_counted c other is = uncounted (count_at c.args.self.now other - 1) (count_at c.args.self.now other) c.args.name.now other c.if-not-is_counted.ensures is
