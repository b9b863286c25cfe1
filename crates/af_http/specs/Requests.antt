-- What the head of a request asks for.
use Rattle.std.specs.Prelude.{ℕ, ◌≤◌, ◌+◌, ◌-◌, ◌*◌, Bool, ◌==◌, ◌&&◌, ◌||◌, cond, nat_lt, List, [], ◌∷◌, map, length, Option, Some, None, Result, Ok, Err, codes, bytes_eq}
use Rattle.std.specs.Char.{is_ascii_digit}
use Rattle.std.specs.List.{list_any}
use Rattle.std.specs.Option.{option_copied}
use Rattle.httparse.specs.Grammar.{RequestHead}
use Rattle.httparse.specs.Spans.{name_and_value}
use Rattle.af_http.specs.Limits.{field_limit, body_limit}
use Rattle.af_http.specs.Fields.{Header, values_named, is_absent, is_only, bearer, lists, same_text}
use Rattle.af_http.specs.declared.request.Request.{Request}
use Rattle.af_http.specs.declared.refusal.Refusal.{Refusal}
use Rattle.af_http.specs.declared.refusal.Refusal.TheVariants.{BadHead, Coding, BodyTooLarge}

-- a request, as its bytes tell it
pub record Asked : Type 0 where
  pub method : List ℕ
  pub target : List ℕ
  pub token : Option (List ℕ)
  -- the client wants the connection closed after it
  pub closes : Bool
  pub body : List ℕ

-- the names and values of a head's fields
abbrev pub fields_of : RequestHead → List Header
fields_of h = map name_and_value h.fields

abbrev pub IsFew : RequestHead → Type 0
IsFew h = length h.fields ≤ field_limit

-- the number that decimal digits write behind this one, if all are digits
abbrev pub digits_from : ℕ → List ℕ → Option ℕ
digits_from n [] = Some n
digits_from n (b ∷ bytes) = cond (is_ascii_digit b) (digits_from (n * 10 + (b - 48)) bytes) None

-- the number that a text writes, if it is decimal digits, and one at least
abbrev pub number_in : List ℕ → Option ℕ
number_in [] = None
number_in (b ∷ bytes) = digits_from 0 (b ∷ bytes)

-- the length of a body, from the values of `Content-Length` (RFC 9112, section 6.2)
abbrev pub length_in : List (List ℕ) → Option ℕ
length_in [] = Some 0
length_in (value ∷ []) = number_in value
length_in (value ∷ other ∷ values) = None

-- The length of a body, or why the request is refused: first what is bad, then a coding of the transfer, then a length
-- above the limit.
abbrev pub length_or : Bool → Option ℕ → Bool → Result ℕ Refusal
length_or head_only None plain = Err (BadHead head_only)
length_or head_only (Some n) plain =
    cond plain (cond (nat_lt body_limit n) (Err (BodyTooLarge head_only)) (Ok n)) (Err (Coding head_only))

-- version 1.1 has exactly one `Host` (RFC 9112, section 3.2)
abbrev pub has_host : ℕ → List Header → Bool
has_host minor fields = minor == 0 || is_only (values_named (codes "host") fields)

-- no `Transfer-Encoding` is read (RFC 9112, section 6.1)
abbrev pub length_of : Bool → ℕ → List Header → Result ℕ Refusal
length_of head_only minor fields =
    cond (has_host minor fields)
    (length_or head_only (length_in (values_named (codes "content-length") fields)) (is_absent (values_named (codes "transfer-encoding") fields)))
    (Err (BadHead head_only))

-- a HEAD is answered without a body (RFC 9110, section 9.3.2)
abbrev pub is_head : List ℕ → Bool
is_head method = bytes_eq method (codes "HEAD")

abbrev pub body_length : RequestHead → Result ℕ Refusal
body_length h = length_of (is_head h.method) h.minor (fields_of h)

-- the token of the only `Authorization`
abbrev pub token_from : List (List ℕ) → Option (List ℕ)
token_from [] = None
token_from (value ∷ []) = bearer value
token_from (value ∷ other ∷ values) = None

abbrev pub token_of : List Header → Option (List ℕ)
token_of fields = token_from (values_named (codes "authorization") fields)

-- `close` is among the options of a `Connection` (RFC 9112, section 9.6)
abbrev pub says_close : Header → Bool
says_close field = same_text field.0 (codes "connection") && lists (codes "close") field.1

-- the client wants the connection closed: it speaks version 1.0, or says so
abbrev pub asks_to_close : ℕ → List Header → Bool
asks_to_close minor fields = minor == 0 || list_any says_close fields

-- what the head asks for, with this body
abbrev pub asked_by : RequestHead → List ℕ → Asked
asked_by h body = record {
  method = h.method;
  target = h.target;
  token = token_of (fields_of h);
  closes = asks_to_close h.minor (fields_of h);
  body = body;
}

-- the same request, where its bytes lie in memory
abbrev pub seen : Request → List ℕ → Asked
seen r body = record { method = r.method.now; target = r.target.now; token = option_copied r.token; closes = r.closes; body = body }
