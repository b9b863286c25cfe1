use Rattle.std.proofs.Common.{◌≡◌, true, sym, ap, ◌∙◌}
use Rattle.std.specs.Cmp.Lexicographic.{bytes_decides}
use Rattle.af_policy.specs.Rows.{UserRow, same_digest}
use Rattle.af_policy.proofs.PlaceLemmas.{with_same_key}
use Rattle.af_policy.proofs.user_table.digests_with.Goals as goal

pub returns-then-is_same : goal.returns-then-is_same
returns-then-is_same c =
    let row = c.args.row
    in let digest = c.digest.ensures ∙ ap (λ (user : UserRow). user.digest) c.user.ensures
    in let same : same_digest c.args.before.now row.digest ≡ true = ap (same_digest c.args.before.now) (sym digest) ∙ sym c.is_same.ensures ∙ c.if-is_same.true
    in c.in_ok-made.ensures
    ∙ with_same_key (λ user. user.digest) c.args.before.now row c.args.digests.now c.facts.ensures ((bytes_decides c.args.before.now row.digest).0 same)
