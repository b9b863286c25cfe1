-- Which requests stand in a text of bytes, one after another, and how they end (RFC 9112, sections 2 and 9).
use Rattle.std.specs.Prelude.{◌≡◌, ◌+◌, ◌==◌, ◌<◌, ◌≤◌, ◌⊎◌, ◌||◌, ℕ, Bool, true, false, List, [], ◌∷◌, length, take, drop, codes, None, Ok, Err}
use Rattle.httparse.specs.Grammar.{RequestHead, ReadsRequest}
use Rattle.af_ops.specs.declared.status.Status.{Status}
use Rattle.af_ops.specs.declared.status.Status.TheVariants as status
use Rattle.af_http.specs.Limits.{request_limit}
use Rattle.af_http.specs.Fronts.{nothing, part, large, whole, front_of}
use Rattle.af_http.specs.Requests.{Asked, asked_by, IsFew, body_length, is_head}
use Rattle.af_http.specs.Answers.{problem, answer_text}
use Rattle.af_http.specs.declared.refusal.Refusal.{Refusal}
use Rattle.af_http.specs.declared.refusal.Refusal.TheVariants.{BadHead, Incomplete, HeadTooLarge, Coding, BodyTooLarge}

-- these bytes are a head that is a request's by the grammar of HTTP/1.1, and no field more than the limit
abbrev pub Parses : List ℕ → RequestHead → Type 0
Parses head h = ReadsRequest head h [] × IsFew h

-- A request stands at the front of the text, and rest follows it: after empty lines comes its head, the bytes up to
-- and with the first empty line, which is a request's and is taken, and then its body.
pub record Begins (text : List ℕ) (asked : Asked) (rest : List ℕ) : Type 0 where
  pub head : List ℕ
  pub parsed : RequestHead
  pub after : List ℕ
  pub size : ℕ
  pub framed : front_of text ≡ whole head after
  pub parses : Parses head parsed
  pub sized : body_length parsed ≡ Ok size
  pub fits : size ≤ length after
  pub asks : asked ≡ asked_by parsed (take size after)
  pub rest_is : rest ≡ drop size after

-- A request whose body is cut stands at the front of the text. Whether its method is HEAD.
pub record Cut (text : List ℕ) (head_only : Bool) : Type 0 where
  pub head : List ℕ
  pub parsed : RequestHead
  pub after : List ℕ
  pub size : ℕ
  pub framed : front_of text ≡ whole head after
  pub parses : Parses head parsed
  pub sized : body_length parsed ≡ Ok size
  pub short : length after < size
  pub method : head_only ≡ is_head parsed.method

-- The text is these requests, one after another, and then rest.
abbrev pub Stand : List ℕ → List Asked → List ℕ → Type 0
Stand text [] rest = text ≡ rest
Stand text (asked ∷ more) rest = (after : List ℕ) × Begins text asked after × Stand after more rest

-- A head is refused: it is no request's, or it is and is refused for its fields. The method is known in the second case
-- alone, and says whether the refusal leaves its body out.
abbrev pub IsUnread : List ℕ → Refusal → Type 0
IsUnread head refusal =
    ((refusal ≡ BadHead false) × ((h : RequestHead) → Parses head h → ⊥))
    ⊎ ((h : RequestHead) × Parses head h × (body_length h ≡ Err refusal))

-- Why no request stands at the front of the text: its head is too large, or is refused; or the text is a part of a
-- request, of its head or with a body that is cut.
abbrev pub IsRefused : List ℕ → Refusal → Type 0
IsRefused text refusal =
    ((front_of text ≡ large) × (refusal ≡ HeadTooLarge))
    ⊎ (((head : List ℕ) × (after : List ℕ) × (front_of text ≡ whole head after) × IsUnread head refusal)
    ⊎ (((front_of text ≡ part) × (refusal ≡ Incomplete false))
    ⊎ ((head_only : Bool) × Cut text head_only × (refusal ≡ Incomplete head_only))))

-- it is refused only where no byte follows the text
abbrev pub at_end : Refusal → Bool
at_end (BadHead head_only) = false
at_end (Incomplete head_only) = true
at_end (Coding head_only) = false
at_end (BodyTooLarge head_only) = false
at_end HeadTooLarge = false

-- no request has begun
abbrev pub IsEmpty : List ℕ → Type 0
IsEmpty text = front_of text ≡ nothing

-- no request is whole yet, and none is refused
abbrev pub IsOpen : List ℕ → Type 0
IsOpen text = (front_of text ≡ nothing) ⊎ ((front_of text ≡ part) ⊎ ((head_only : Bool) × Cut text head_only))

-- the connection closes after this request, which so many went before
abbrev pub closes_after : ℕ → Asked → Bool
closes_after count asked = asked.closes || count + 1 == request_limit

-- the status of a refusal, its detail, whether its body is left out, and its bytes; the connection closes after it
abbrev pub status_of : Refusal → Status
status_of (BadHead head_only) = status.BadRequest
status_of (Incomplete head_only) = status.BadRequest
status_of (Coding head_only) = status.NotImplemented
status_of (BodyTooLarge head_only) = status.ContentTooLarge
status_of HeadTooLarge = status.HeadTooLarge

abbrev pub detail_of : Refusal → List ℕ
detail_of (BadHead head_only) = codes "bad request head"
detail_of (Incomplete head_only) = codes "incomplete request"
detail_of (Coding head_only) = codes "transfer coding not supported"
detail_of (BodyTooLarge head_only) = codes "body too large"
detail_of HeadTooLarge = codes "request head too large"

abbrev pub leaves_out : Refusal → Bool
leaves_out (BadHead head_only) = head_only
leaves_out (Incomplete head_only) = head_only
leaves_out (Coding head_only) = head_only
leaves_out (BodyTooLarge head_only) = head_only
leaves_out HeadTooLarge = false

abbrev pub refusal_text : Refusal → List ℕ
refusal_text refusal = answer_text (problem (status_of refusal) None (detail_of refusal)) (leaves_out refusal) true
