use Rattle.std.proofs.Common.{◌∙◌, sym, ap, subst, map}
use Rattle.std.specs.List.Sorted.{IsStrictlySortedBy}
use Rattle.std.specs.Ordering.{nat_cmp}
use Rattle.std.specs.Cmp.Lexicographic.{slice_cmp}
use Rattle.af_policy.specs.Rows.{UserRow}
use Rattle.af_policy.proofs.EntryLemmas.{keys_of-keyed}
use Rattle.af_policy.proofs.user_draft.UserDraft.finish.Goals as goal

pub of_rows-requires-clause-users : goal.of_rows-requires-clause-users
of_rows-requires-clause-users c =
    subst (IsStrictlySortedBy (slice_cmp nat_cmp))
    (keys_of-keyed (λ (user : UserRow). user.name) c.self.inside.by_name.entries c.self.invariant.named ∙ ap (map (λ (user : UserRow). user.name)) (sym c.in_ok-users.ensures.rows) ∙ ap (map (λ (user : UserRow). user.name)) (sym c.as_slice-2.ensures.value))
    c.in_ok-users.ensures.ascend

pub of_rows-requires-clause-digests : goal.of_rows-requires-clause-digests
of_rows-requires-clause-digests c =
    subst (IsStrictlySortedBy (slice_cmp nat_cmp))
    (keys_of-keyed (λ (user : UserRow). user.digest) c.self.inside.by_digest.entries c.self.invariant.digested ∙ ap (map (λ (user : UserRow). user.digest)) (sym c.in_ok-digests.ensures.rows))
    c.in_ok-digests.ensures.ascend
