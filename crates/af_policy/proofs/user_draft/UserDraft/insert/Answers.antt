use Rattle.std.proofs.Common.{◌≡◌, ◌∙◌, ap, sym, true, false, is_some, None}
use Rattle.std.specs.Arc.{arc_value}
use Rattle.std.specs.Ordering.{nat_cmp}
use Rattle.std.specs.Cmp.Lexicographic.{slice_cmp}
use Rattle.std.specs.Map.{lookup, remove_entry, values_of}
use Rattle.std.specs.BTreeMap.{is_at}
use Rattle.af_policy.specs.Rows.{UserRow, has_digest, has_user, with_user}
use Rattle.af_policy.proofs.EntryLemmas.{IsUserDraft-insert, digest_found, is_found, is_some-digest_entry, is_some-name_entry, name_found, neither_found, not_found, remove_entry-insert_entry, values_of-insert_entry}
use Rattle.af_policy.proofs.OrderLemmas.{none_from}
use Rattle.af_policy.proofs.user_draft.UserDraft.insert.Goals as goal

pub returns-then-not-branch-clause-is_new : goal.returns-then-not-branch-clause-is_new
returns-then-not-branch-clause-is_new c =
    let digest : c.digest_key.result ≡ (arc_value c.args.user.now).digest = c.digest_key.ensures ∙ ap (λ (user : UserRow). user.digest) c.deref.ensures
    in let has : is_some (lookup (is_at (slice_cmp nat_cmp c.digest_key.result)) c.self.inside.by_digest.entries) ≡ has_digest c.args.self.now (arc_value c.args.user.now).digest =
    is_some-digest_entry c.self.inside.by_name.entries c.self.inside.by_digest.entries c.digest_key.result c.self.invariant ∙ (λ i. has_digest (c.self.view_is i) (digest i))
    in let was_taken : c.in_ok-put_digest.field-0 ≡ false = let fact = c.if-not-branch.true in cc
    in digest_found _ _ (is_found _ _ _ c.in_ok-put_digest.ensures.is_new has was_taken)

pub returns-in-Ok-true-clause-is_new : goal.returns-in-Ok-true-clause-is_new
returns-in-Ok-true-clause-is_new c =
    let digest : c.digest_key.result ≡ (arc_value c.args.user.now).digest = c.digest_key.ensures ∙ ap (λ (user : UserRow). user.digest) c.deref.ensures
    in let has : is_some (lookup (is_at (slice_cmp nat_cmp c.digest_key.result)) c.self.inside.by_digest.entries) ≡ has_digest c.args.self.now (arc_value c.args.user.now).digest =
    is_some-digest_entry c.self.inside.by_name.entries c.self.inside.by_digest.entries c.digest_key.result c.self.invariant ∙ (λ i. has_digest (c.self.view_is i) (digest i))
    in let name : c.name_of-key.result ≡ (arc_value c.args.user.now).name = c.name_of-key.ensures ∙ ap (λ (user : UserRow). user.name) c.in_ok-try_clone.ensures
    in let named : is_some (lookup (is_at (slice_cmp nat_cmp c.name_of-key.result)) c.self.inside.by_name.entries) ≡ has_user c.args.self.now (arc_value c.args.user.now).name =
    is_some-name_entry c.self.inside.by_name.entries c.name_of-key.result c.self.invariant.named ∙ (λ i. has_user (c.self.view_is i) (name i))
    in let was_new : c.in_ok-put_digest.field-0 ≡ true = let fact = c.if-not-branch.false in cc
    in neither_found _ _ (not_found _ _ _ c.in-Ok-true.ensures.is_new named c.in-Ok-true.field-0-test) (not_found _ _ _ c.in_ok-put_digest.ensures.is_new has was_new)

pub returns-in-Ok-false-clause-is_new : goal.returns-in-Ok-false-clause-is_new
returns-in-Ok-false-clause-is_new c =
    let name : c.name_of-key.result ≡ (arc_value c.args.user.now).name = c.name_of-key.ensures ∙ ap (λ (user : UserRow). user.name) c.in_ok-try_clone.ensures
    in let named : is_some (lookup (is_at (slice_cmp nat_cmp c.name_of-key.result)) c.self.inside.by_name.entries) ≡ has_user c.args.self.now (arc_value c.args.user.now).name =
    is_some-name_entry c.self.inside.by_name.entries c.name_of-key.result c.self.invariant.named ∙ (λ i. has_user (c.self.view_is i) (name i))
    in name_found _ _ (is_found _ _ _ c.in-Ok-false.ensures.is_new named c.in-Ok-false.field-0-test)

pub returns-in-Ok-true-clause-added : goal.returns-in-Ok-true-clause-added
returns-in-Ok-true-clause-added c always =
    let one : c.new-2.result ≡ arc_value c.args.user.now = c.new-2.ensures ∙ c.in_ok-named.ensures
    in let name : c.name_of-key.result ≡ (arc_value c.args.user.now).name = c.name_of-key.ensures ∙ ap (λ (user : UserRow). user.name) c.in_ok-try_clone.ensures
    in ap values_of (c.in-Ok-true.ensures.put c.in-Ok-true.field-0-test)
    ∙ values_of-insert_entry (λ (user : UserRow). user.name) c.name_of-key.result c.new-2.result (name ∙ ap (λ (user : UserRow). user.name) (sym one)) c.self.inside.by_name.entries c.self.invariant.named
    ∙ (λ i. with_user (c.self.view_is i) (one i))

pub invariant_of-self-in-Ok-true : goal.invariant_of-self-in-Ok-true
invariant_of-self-in-Ok-true c =
    let digest : c.digest_key.result ≡ (arc_value c.args.user.now).digest = c.digest_key.ensures ∙ ap (λ (user : UserRow). user.digest) c.deref.ensures
    in let has : is_some (lookup (is_at (slice_cmp nat_cmp c.digest_key.result)) c.self.inside.by_digest.entries) ≡ has_digest c.args.self.now (arc_value c.args.user.now).digest =
    is_some-digest_entry c.self.inside.by_name.entries c.self.inside.by_digest.entries c.digest_key.result c.self.invariant ∙ (λ i. has_digest (c.self.view_is i) (digest i))
    in let name : c.name_of-key.result ≡ (arc_value c.args.user.now).name = c.name_of-key.ensures ∙ ap (λ (user : UserRow). user.name) c.in_ok-try_clone.ensures
    in let named : is_some (lookup (is_at (slice_cmp nat_cmp c.name_of-key.result)) c.self.inside.by_name.entries) ≡ has_user c.args.self.now (arc_value c.args.user.now).name =
    is_some-name_entry c.self.inside.by_name.entries c.name_of-key.result c.self.invariant.named ∙ (λ i. has_user (c.self.view_is i) (name i))
    in let was_new : c.in_ok-put_digest.field-0 ≡ true = let fact = c.if-not-branch.false in cc
    in let one : c.new-2.result ≡ arc_value c.args.user.now = c.new-2.ensures ∙ c.in_ok-named.ensures
    in let other : c.new.result ≡ arc_value c.args.user.now = c.new.ensures ∙ c.in_ok-digested.ensures
    in rw (c.in-Ok-true.ensures.put c.in-Ok-true.field-0-test, c.in_ok-put_digest.ensures.put was_new)
    (IsUserDraft-insert c.self.inside.by_name.entries c.self.inside.by_digest.entries c.name_of-key.result c.digest_key.result c.new-2.result c.new.result
    (name ∙ ap (λ (user : UserRow). user.name) (sym one))
    (digest ∙ ap (λ (user : UserRow). user.digest) (sym other))
    (other ∙ sym one)
    c.self.invariant
    ((λ i. has_user (c.self.view_is i) (one i).name) ∙ not_found _ _ _ c.in-Ok-true.ensures.is_new named c.in-Ok-true.field-0-test)
    ((λ i. has_digest (c.self.view_is i) (one i).digest) ∙ not_found _ _ _ c.in_ok-put_digest.ensures.is_new has was_new))

pub invariant_of-self-in-Ok-false : goal.invariant_of-self-in-Ok-false
invariant_of-self-in-Ok-false c =
    let digest : c.digest_key.result ≡ (arc_value c.args.user.now).digest = c.digest_key.ensures ∙ ap (λ (user : UserRow). user.digest) c.deref.ensures
    in let has : is_some (lookup (is_at (slice_cmp nat_cmp c.digest_key.result)) c.self.inside.by_digest.entries) ≡ has_digest c.args.self.now (arc_value c.args.user.now).digest =
    is_some-digest_entry c.self.inside.by_name.entries c.self.inside.by_digest.entries c.digest_key.result c.self.invariant ∙ (λ i. has_digest (c.self.view_is i) (digest i))
    in let was_new : c.in_ok-put_digest.field-0 ≡ true = let fact = c.if-not-branch.false in cc
    in let again : c.digest_key.result ≡ c.digest_key-in-Ok-false.result = digest ∙ sym (c.digest_key-in-Ok-false.ensures ∙ ap (λ (user : UserRow). user.digest) c.deref-in-Ok-false.ensures)
    in let none : lookup (is_at (slice_cmp nat_cmp c.digest_key.result)) c.self.inside.by_digest.entries ≡ None =
    none_from (lookup (is_at (slice_cmp nat_cmp c.digest_key.result)) c.self.inside.by_digest.entries) (has ∙ not_found _ _ _ c.in_ok-put_digest.ensures.is_new has was_new)
    in let left : c.remove.new.self.entries ≡ c.self.inside.by_digest.entries =
    c.remove.ensures.entries
    ∙ (λ i. remove_entry (is_at (slice_cmp nat_cmp (sym again i))) (c.in_ok-put_digest.ensures.put was_new i))
    ∙ remove_entry-insert_entry c.digest_key.result c.new.result c.self.inside.by_digest.entries none
    in rw (c.in-Ok-false.ensures.taken c.in-Ok-false.field-0-test, left) c.self.invariant

pub invariant_of-self-in-Err : goal.invariant_of-self-in-Err
invariant_of-self-in-Err c =
    let digest : c.digest_key.result ≡ (arc_value c.args.user.now).digest = c.digest_key.ensures ∙ ap (λ (user : UserRow). user.digest) c.deref.ensures
    in let has : is_some (lookup (is_at (slice_cmp nat_cmp c.digest_key.result)) c.self.inside.by_digest.entries) ≡ has_digest c.args.self.now (arc_value c.args.user.now).digest =
    is_some-digest_entry c.self.inside.by_name.entries c.self.inside.by_digest.entries c.digest_key.result c.self.invariant ∙ (λ i. has_digest (c.self.view_is i) (digest i))
    in let was_new : c.in_ok-put_digest.field-0 ≡ true = let fact = c.if-not-branch.false in cc
    in let again : c.digest_key.result ≡ c.digest_key-in-Err.result = digest ∙ sym (c.digest_key-in-Err.ensures ∙ ap (λ (user : UserRow). user.digest) c.deref-in-Err.ensures)
    in let none : lookup (is_at (slice_cmp nat_cmp c.digest_key.result)) c.self.inside.by_digest.entries ≡ None =
    none_from (lookup (is_at (slice_cmp nat_cmp c.digest_key.result)) c.self.inside.by_digest.entries) (has ∙ not_found _ _ _ c.in_ok-put_digest.ensures.is_new has was_new)
    in let left : c.remove-in-Err.new.self.entries ≡ c.self.inside.by_digest.entries =
    c.remove-in-Err.ensures.entries
    ∙ (λ i. remove_entry (is_at (slice_cmp nat_cmp (sym again i))) (c.in_ok-put_digest.ensures.put was_new i))
    ∙ remove_entry-insert_entry c.digest_key.result c.new.result c.self.inside.by_digest.entries none
    in rw (c.in-Err.ensures.err, left) c.self.invariant
