use Rattle.std.proofs.Common.{◌≡◌, ◌∙◌, ap, sym, Some, true}
use Rattle.std.specs.Arc.{arc_value}
use Rattle.std.specs.Cmp.Lexicographic.{bytes_decides}
use Rattle.af_policy.specs.Rows.{UserRow, same_digest}
use Rattle.af_policy.specs.Tables.{NameRow, name_row}
use Rattle.af_policy.proofs.OrderLemmas.{with_itself}
use Rattle.af_policy.proofs.user_table.names_with.Goals as goal

pub returns-then-is_same : goal.returns-then-is_same
returns-then-is_same c =
    let user : UserRow = arc_value c.args.user.now
    in let digest : c.digest.result ≡ user.digest = c.digest.ensures ∙ ap (λ (user : UserRow). user.digest) c.deref.ensures
    in let same : same_digest c.args.before.now user.digest ≡ true = ap (same_digest c.args.before.now) (sym digest) ∙ sym c.is_same.ensures ∙ c.if-is_same.true
    in c.in_ok-same.ensures
    ∙ sym (with_itself (λ (own : NameRow). own.name) (name_row user) c.args.names.now c.facts.ensures
    (c.requires ∙ (λ i. Some (record { name = user.name; digest = (bytes_decides c.args.before.now user.digest).0 same i }))))
