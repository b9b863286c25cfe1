-- An object is empty where it has no member.
use Rattle.std.proofs.Common.{◌≡◌, ◌<◌, ◌==◌, ◌∙◌, ℕ, Bool, false, List, [], ◌∷◌, length, Ordering, Less, Equal, Greater, refl, sym, arith}
use Rattle.std.proofs.lemmas.Bool.Decides.{nat_tests}
use Rattle.std.specs.Borrow.{Bor}
use Rattle.std.specs.Cmp.Lexicographic.{slice_cmp}
use Rattle.std.specs.Ordering.{match_ordering, nat_cmp}
use Rattle.serde_json.specs.Data.{Data, Members, no_members, member, put}
use Rattle.af_base.specs.JsonValue.{members_view, put_all, seen_members, view}
use Rattle.af_base.specs.declared.json_value.Json.{Json}
use Rattle.af_ops.specs.Bodies.{has_none}

either : (o : Ordering) (a b c : Members) → has_none a ≡ false → has_none b ≡ false → has_none c ≡ false → has_none (match_ordering o a b c) ≡ false
either Less a b c p q r = p
either Equal a b c p q r = q
either Greater a b c p q r = r

-- where a member is put there is one
has_none-put : (k : List ℕ) (d : Data) (ms : Members) → has_none (put k d ms) ≡ false
has_none-put k d no_members = refl
has_none-put k d (member l e ms) = either (slice_cmp nat_cmp k l) _ _ _ refl refl refl

has_none-put_all : (es : List (Bor (List ℕ) × Data)) (ms : Members) → has_none ms ≡ false → has_none (put_all es ms) ≡ false
has_none-put_all [] ms some = some
has_none-put_all (e ∷ es) ms some = has_none-put_all es (put e.0.now e.1 ms) (has_none-put e.0.now e.1 ms)

above_zero : (n : ℕ) → 0 < n → (n == 0) ≡ false
above_zero n above = grind (arith, nat_tests)

pub empty_is : (b : Bool) (ms : List (Bor (List ℕ) × Json)) → b ≡ (length ms == 0) → b ≡ has_none (members_view ms)
empty_is b [] is = is
empty_is b (m ∷ ms) is =
    is ∙ above_zero (length (m ∷ ms)) (omega arith)
    ∙ sym (has_none-put_all (seen_members ms) (put m.0.now (view m.1) no_members) (has_none-put m.0.now (view m.1) no_members))
