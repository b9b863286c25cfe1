-- Lengths that are counted up to a limit.
use Rattle.std.proofs.Common.{zero, suc, length, get_or, ◌≡◌, ◌<◌, ◌≤◌, ◌+◌, ◌-◌, ◌*◌, ℕ, Bool, true, false, cond, nat_lt, List, [], ◌∷◌, drop, Option, Some, None, refl, sym, ap, ◌∙◌, arith, inl, inr}
use Rattle.std.specs.Prelude.{Result, Ok, Err, codes}
use Rattle.std.proofs.lemmas.Bool.{lt-ltb, le-ltb, ltb-true, ltb-false}
use Rattle.std.specs.Char.{is_ascii_digit}
use Rattle.af_http.specs.Limits.{body_limit}
use Rattle.af_http.specs.Requests.{digits_from, fields_of, has_host, is_head, length_in, length_or}
use Rattle.af_http.specs.Fields.{is_absent, values_named}
use Rattle.af_http.specs.Reading.{IsUnread, at_end}
use Rattle.af_http.specs.Lengths.{cap, capped}
use Rattle.af_http.specs.declared.refusal.Refusal.{Refusal}
use Rattle.af_http.specs.declared.refusal.Refusal.TheVariants.{BadHead, BodyTooLarge}

cap_over : (n : ℕ) → body_limit < n → cap n ≡ body_limit + 1
cap_over n over = ap (λ t. cond t (body_limit + 1) n) (lt-ltb body_limit n over)

cap_under : (n : ℕ) → n ≤ body_limit → cap n ≡ n
cap_under n under = ap (λ t. cond t (body_limit + 1) n) (le-ltb body_limit n under)

-- what is above the limit stays so
over_same : (bytes : List ℕ) (n m : ℕ) → body_limit < n → body_limit < m → capped (digits_from n bytes) ≡ capped (digits_from m bytes)
over_same [] n m p q = ap Some (cap_over n p ∙ sym (cap_over m q))
over_same (b ∷ bytes) n m p q = by (is_ascii_digit b) (over_same bytes (n * 10 + (b - 48)) (m * 10 + (b - 48)) (omega (arith, p)) (omega (arith, q)))
  where
    by : (t : Bool) → capped (digits_from (n * 10 + (b - 48)) bytes) ≡ capped (digits_from (m * 10 + (b - 48)) bytes) → capped (cond t (digits_from (n * 10 + (b - 48)) bytes) None) ≡ capped (cond t (digits_from (m * 10 + (b - 48)) bytes) None)
    by true e = e
    by false e = refl

pub cap_same : (bytes : List ℕ) (n : ℕ) → capped (digits_from (cap n) bytes) ≡ capped (digits_from n bytes)
cap_same bytes n = by (nat_lt body_limit n) refl
  where
    by : (t : Bool) → nat_lt body_limit n ≡ t → capped (digits_from (cap n) bytes) ≡ capped (digits_from n bytes)
    by true e =
        let over = ltb-true body_limit n e in
        let one : body_limit < body_limit + 1 = omega arith in
        ap (λ k. capped (digits_from k bytes)) (cap_over n over) ∙ over_same bytes (body_limit + 1) n one over
    by false e = ap (λ k. capped (digits_from k bytes)) (cap_under n (ltb-false body_limit n e))

-- a length that is right up to the limit says as much
pub length_capped : (head_only : Bool) (length : Option ℕ) (plain : Bool) → length_or head_only (capped length) plain ≡ length_or head_only length plain
length_capped head_only None plain = refl
length_capped head_only (Some n) false = refl
length_capped head_only (Some n) true = by (nat_lt body_limit n) refl
  where
    by : (t : Bool) → nat_lt body_limit n ≡ t → length_or head_only (Some (cap n)) true ≡ length_or head_only (Some n) true
    by true e =
        let one : nat_lt body_limit (body_limit + 1) ≡ true = refl in
        ap (λ k. length_or head_only (Some k) true) (cap_over n (ltb-true body_limit n e)) ∙ sym (ap (λ t. cond t (Err (BodyTooLarge head_only)) (Ok n)) e)
    by false e = ap (λ k. length_or head_only (Some k) true) (cap_under n (ltb-false body_limit n e))

-- one digit more
pub digit_more : (bytes : List ℕ) (i n b : ℕ) (all : Option ℕ) → drop i bytes ≡ b ∷ drop (i + 1) bytes → is_ascii_digit b ≡ true
    → capped (digits_from n (drop i bytes)) ≡ all → capped (digits_from (cap (n * 10 + (b - 48))) (drop (i + 1) bytes)) ≡ all
digit_more bytes i n b all e digit was =
    cap_same (drop (i + 1) bytes) (n * 10 + (b - 48))
    ∙ sym (ap (λ t. capped (digits_from n t)) e ∙ ap (λ t. capped (cond t (digits_from (n * 10 + (b - 48)) (drop (i + 1) bytes)) None)) digit)
    ∙ was

-- the length of a request with a right `Host`
pub host_length : (head_only host : Bool) (length : Option ℕ) (r : Option ℕ) (plain : Bool) (result : Result ℕ Refusal) → host ≡ true → r ≡ capped length
    → result ≡ length_or head_only r plain → result ≡ cond host (length_or head_only length plain) (Err (BadHead head_only))
host_length head_only host length r plain result right e is =
    is ∙ ap (λ t. length_or head_only t plain) e ∙ length_capped head_only length plain ∙ sym (ap (λ t. cond t (length_or head_only length plain) (Err (BadHead head_only))) right)

pub cap_within : (n : ℕ) → cap n ≤ body_limit + 1
cap_within n = by (nat_lt body_limit n) refl
  where
    by : (t : Bool) → nat_lt body_limit n ≡ t → cap n ≤ body_limit + 1
    by true e = let k = cap_over n (ltb-true body_limit n e) in omega (arith, k)
    by false e = let low = ltb-false body_limit n e in let k = cap_under n low in omega (arith, k, low)

-- what stands from an index on
pub drop_here : (bytes : List ℕ) (i : ℕ) → i < length bytes → drop i bytes ≡ get_or bytes i 0 ∷ drop (i + 1) bytes
drop_here [] i within = absurd (omega arith)
drop_here (b ∷ bytes) zero within = refl
drop_here (b ∷ bytes) (suc i) within =
    let k : suc (i + 1) ≡ suc i + 1 = omega arith in
    drop_here bytes i (omega arith) ∙ ap (λ n. get_or bytes i 0 ∷ drop n (b ∷ bytes)) k

-- a head is refused early, whether more comes or not
err_one : {A B : Type 0} {a b : B} {r : Result A B} → r ≡ Err a → r ≡ Err b → a ≡ b
err_one p q = let e = sym p ∙ q in cc

abbrev too_large : Bool → Result ℕ Refusal
too_large head_only = Err (BodyTooLarge head_only)

length_early : (head_only host plain : Bool) (o : Option ℕ) (r : Refusal) → cond host (length_or head_only o plain) (Err (BadHead head_only)) ≡ Err r → at_end r ≡ false
length_early head_only false plain o r e = ap at_end (err_one e refl)
length_early head_only true plain None r e = ap at_end (err_one e refl)
length_early head_only true false (Some n) r e = ap at_end (err_one e refl)
length_early head_only true true (Some n) r e = by (nat_lt body_limit n) e
  where
    by : (t : Bool) → cond t (too_large head_only) (Ok n) ≡ Err r → at_end r ≡ false
    by true e = ap at_end (err_one e refl)
    by false e = cc

pub unread_early : (head : List ℕ) (r : Refusal) → IsUnread head r → at_end r ≡ false
unread_early head r (inl (is, none)) = ap at_end is
unread_early head r (inr (h, parses, e)) =
    length_early (is_head h.method) (has_host h.minor (fields_of h)) (is_absent (values_named (codes "transfer-encoding") (fields_of h)))
    (length_in (values_named (codes "content-length") (fields_of h))) r e
