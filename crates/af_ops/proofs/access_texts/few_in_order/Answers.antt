use Rattle.std.proofs.Common.{◌≡◌, ◌∙◌, ◌+◌, ℕ, List, [], ◌∷◌, ◌++◌, take, take_all, map, Bor, sym, ap, arith}
use Rattle.std.proofs.lemmas.List.{take_more}
use Rattle.serde_json.specs.Data.{put}
use Rattle.af_base.specs.JsonValue.{members_view, view}
use Rattle.af_base.specs.declared.json_value.Json.{Json}
use Rattle.af_ops.specs.AccessTexts.{entries_view, field_of, fields_of}
use Rattle.af_ops.proofs.InOrderLemmas.{Entry, fields_of-object_of, one_more_member}
use Rattle.af_ops.proofs.access_texts.few_in_order.Goals as goal

pub loop-member-preserved : goal.loop-member-preserved
loop-member-preserved c =
    let xs : List (Bor (List ℕ) × Json) = c.args.members.now in
    let i : ℕ = c.loop-member.member-index in
    let m : Bor (List ℕ) × Json = c.member-item.result in
    let front : take (i + 1) xs ≡ take i xs ++ m ∷ [] = take_more xs i m (omega arith) ∙ ap (λ y. take i xs ++ y ∷ []) (sym c.member-item.is) in
    c.in_ok-fields.ensures
    ∙ ap (λ (es : List Entry). put m.0.now (view m.1) (entries_view es)) c.as_slice.ensures.value
    ∙ ap (put m.0.now (view m.1)) c.loop-member.invariant
    ∙ sym (one_more_member (take i xs) m)
    ∙ sym (ap members_view front)

pub returns : goal.returns
returns c =
    let xs : List (Bor (List ℕ) × Json) = c.args.members.now in
    sym (fields_of-object_of (map field_of c.loop-member.fields.items))
    ∙ ap fields_of (c.loop-member.invariant ∙ ap members_view (take_all c.loop-member.member-index xs (omega arith)))
