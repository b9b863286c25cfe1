use Rattle.std.proofs.Common.{◌≡◌, ◌∙◌, ap, sym, subst, is_some, true, map, take, drop}
use Rattle.std.specs.List.{AllByRecursion}
use Rattle.af_policy.specs.SharedRows.{seen}
use Rattle.af_policy.specs.Shown.{page_rows, shown_user}
use Rattle.af_policy.specs.Tables.{NameRow, digest_row, users_at}
use Rattle.af_policy.proofs.NamedTableLemmas.{page_led, page_of_names}
use Rattle.af_policy.proofs.ShownLemmas.{page_of_front}
use Rattle.af_policy.proofs.user_table.UserTable.page.Goals as goal

pub each_shown-requires : goal.each_shown-requires
each_shown-requires c =
    let shown : seen c.past.result.now ≡ page_rows c.args.span c.self.inside.by_name =
    ap seen (c.past.ensures ∙ ap (drop c.args.span.offset) c.as_slice.ensures.value)
    ∙ page_of_front c.in_ok-front.front.items c.self.inside.by_name c.args.span.offset c.args.span.limit (c.in_ok-front.ensures ∙ ap (λ n. take n c.self.inside.by_name) c.end.ensures)
    in subst (AllByRecursion (λ (own : NameRow). is_some (digest_row c.self.inside.by_digest own.digest) ≡ true)) (sym shown)
    (page_led c.self.inside.by_name c.self.inside.by_digest c.self.invariant c.args.span)

pub returns : goal.returns
returns c =
    let shown : seen c.past.result.now ≡ page_rows c.args.span c.self.inside.by_name =
    ap seen (c.past.ensures ∙ ap (drop c.args.span.offset) c.as_slice.ensures.value)
    ∙ page_of_front c.in_ok-front.front.items c.self.inside.by_name c.args.span.offset c.args.span.limit (c.in_ok-front.ensures ∙ ap (λ n. take n c.self.inside.by_name) c.end.ensures)
    in let rows =
    c.in_ok-rows.ensures
    ∙ ap (map shown_user) (ap (users_at c.self.inside.by_digest) shown ∙ page_of_names c.self.inside.by_digest c.self.inside.by_name c.args.span ∙ ap (page_rows c.args.span) c.self.view_is)
    in c.new.ensures ∙ (λ i. record { rows = rows i; total = c.len.ensures i })
