use Rattle.std.proofs.Common.{◌∙◌, ap, is_some}
use Rattle.std.specs.Map.{lookup}
use Rattle.std.specs.BTreeMap.{is_at}
use Rattle.std.specs.Ordering.{nat_cmp}
use Rattle.std.specs.Cmp.Lexicographic.{slice_cmp}
use Rattle.af_policy.specs.Rows.{has_digest}
use Rattle.af_policy.proofs.EntryLemmas.{is_some-digest_entry}
use Rattle.af_policy.proofs.user_draft.UserDraft.has_digest_of.Goals as goal

pub returns : goal.returns
returns c =
    c.contains_key.ensures
    ∙ ap (λ digest. is_some (lookup (is_at (slice_cmp nat_cmp digest)) c.self.inside.by_digest.entries)) c.fronted_digest.ensures
    ∙ is_some-digest_entry c.self.inside.by_name.entries c.self.inside.by_digest.entries c.args.user.now.digest c.self.invariant
    ∙ ap (λ users. has_digest users c.args.user.now.digest) c.self.view_is
