use Rattle.std.proofs.Common.{◌≡◌, ◌∙◌, ◌+◌, ℕ, List, [], ◌∷◌, ◌++◌, take, take_all, map, Bor, Vec, Global, Result, Ok, Err, sym, ap, arith}
use Rattle.std.specs.Prelude.{IfOk}
use Rattle.std.specs.declared.alloc.AllocError.{AllocError}
use Rattle.std.proofs.lemmas.List.{take_more}
use Rattle.serde_json.specs.Data.{Members, put}
use Rattle.af_base.specs.JsonValue.{members_view, view}
use Rattle.af_base.specs.declared.json_value.Json.{Json}
use Rattle.af_ops.specs.AccessTexts.{entries_view, field_of, fields_of}
use Rattle.af_ops.proofs.InOrderLemmas.{Entry, fields_of-object_of, one_more_member}
use Rattle.af_ops.proofs.access_texts.many_in_order.Goals as goal

pub loop-member-preserved : goal.loop-member-preserved
loop-member-preserved c =
    let xs : List (Bor (List ℕ) × Json) = c.args.members.now in
    let i : ℕ = c.loop-member.member-index in
    let m : Bor (List ℕ) × Json = c.member-item.result in
    let front : take (i + 1) xs ≡ take i xs ++ m ∷ [] = take_more xs i m (omega arith) ∙ ap (λ y. take i xs ++ y ∷ []) (sym c.member-item.is) in
    c.in_ok-add_field.ensures
    ∙ ap (λ (ms : Members). put m.0.now (view m.1) ms) c.loop-member.invariant
    ∙ sym (one_more_member (take i xs) m)
    ∙ sym (ap members_view front)

-- what is listed is the members in order
are_fields : (entries : List Entry) (found : Members) (listed : Result (Vec Entry Global) AllocError) → entries_view entries ≡ found → IfOk listed (λ it. it.items ≡ entries) → IfOk listed (λ it. map field_of it.items ≡ fields_of found)
are_fields entries found (Err fault) is same = tt
are_fields entries found (Ok listed) is same =
    ap (map field_of) same ∙ sym (fields_of-object_of (map field_of entries)) ∙ ap fields_of is

pub returns : goal.returns
returns c =
    let xs : List (Bor (List ℕ) × Json) = c.args.members.now in
    let all : entries_view c.loop-member.fields.entries ≡ members_view xs = c.loop-member.invariant ∙ ap members_view (take_all c.loop-member.member-index xs (omega arith)) in
    are_fields c.loop-member.fields.entries (members_view xs) c.listed.result all c.listed.ensures
