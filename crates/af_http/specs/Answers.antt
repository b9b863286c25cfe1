-- The bytes of an answer (RFC 9112, section 4; RFC 9110, sections 8.3, 8.6, 10.2.1 and 11.6.1; RFC 9457; this product's own order of fields).
use Rattle.std.specs.Prelude.{ℕ, Bool, true, false, cond, List, [], ◌∷◌, ◌++◌, map, filter, length, Option, Some, None, codes, decimal}
use Rattle.std.specs.Option.{option_copied}
use Rattle.serde_json.specs.Written.{compact_text}
use Rattle.af_ops.specs.Replies.{fault_data}
use Rattle.af_ops.specs.Statuses.{code_of, reason_of, is_fault_status}
use Rattle.af_ops.specs.declared.status.Status.{Status}
use Rattle.af_ops.specs.declared.status.Status.TheVariants as status
use Rattle.af_ops.specs.declared.method.Method.{Method}
use Rattle.af_ops.specs.declared.method.Method.TheVariants as method
use Rattle.af_ops.specs.declared.methods.Methods.{Methods}
use Rattle.af_ops.specs.Methods.{methods, method_name}
use Rattle.af_http.specs.declared.answer.Answer.{Answer}

-- an answer: its status, the methods of the path, the policy version and the number of entries, where it tells them, and its body
pub record Told : Type 0 where
  pub status : Status
  pub allow : Option Methods
  pub version : Option ℕ
  pub seq : Option ℕ
  pub body : Option (List ℕ)

abbrev pub status_line : Status → List ℕ
status_line s = codes "HTTP/1.1 " ++ decimal (code_of s) ++ codes " " ++ reason_of s ++ codes "\r\n"

-- a body is JSON, and that of a fault a problem
abbrev pub type_line_of : Status → List ℕ
type_line_of s =
    cond (is_fault_status s) (codes "Content-Type: application/problem+json\r\n") (codes "Content-Type: application/json\r\n")

abbrev pub type_line : Status → Option (List ℕ) → List ℕ
type_line s None = []
type_line s (Some body) = type_line_of s

-- a field with this number
abbrev pub number_line : List ℕ → ℕ → List ℕ
number_line name n = name ++ (decimal n ++ codes "\r\n")

abbrev pub number_line_of : List ℕ → Option ℕ → List ℕ
number_line_of name None = []
number_line_of name (Some n) = number_line name n

abbrev pub length_line : Option (List ℕ) → List ℕ
length_line None = []
length_line (Some body) = number_line (codes "Content-Length: ") (length body)

abbrev pub has : Methods → Method → Bool
has allow method.Get = allow.get
has allow method.Post = allow.post
has allow method.Patch = allow.patch
has allow method.Delete = allow.delete

-- these texts, with a comma and a space between them
abbrev pub listed : List (List ℕ) → List ℕ
listed [] = []
listed (text ∷ []) = text
listed (text ∷ more ∷ texts) = text ++ (codes ", " ++ listed (more ∷ texts))

-- the methods of a path (RFC 9110, section 10.2.1)
abbrev pub allow_line : Option Methods → List ℕ
allow_line None = []
allow_line (Some allow) = codes "Allow: " ++ (listed (map method_name (filter (has allow) methods)) ++ codes "\r\n")

-- only 401 asks for a token
abbrev pub auth_line : Status → List ℕ
auth_line status.Unauthorized = codes "WWW-Authenticate: Bearer\r\n"
auth_line _ = []

abbrev pub close_line : Bool → List ℕ
close_line true = codes "Connection: close\r\n"
close_line false = []

-- the status line, the fields in their order, and the empty line
abbrev pub head_text : Told → Bool → List ℕ
head_text told closes =
    status_line told.status
    ++ (type_line told.status told.body ++ length_line told.body)
    ++ allow_line told.allow
    ++ auth_line told.status
    ++ number_line_of (codes "X-Policy-Version: ") told.version
    ++ number_line_of (codes "X-Plane-Seq: ") told.seq
    ++ close_line closes
    ++ codes "\r\n"

-- the body that is sent: none after a HEAD, whatever the fields say of it
abbrev pub body_text : Bool → Option (List ℕ) → List ℕ
body_text head_only None = []
body_text head_only (Some body) = cond head_only [] body

-- the bytes of an answer
abbrev pub answer_text : Told → Bool → Bool → List ℕ
answer_text told head_only closes = head_text told closes ++ body_text head_only told.body

-- the body of a fault: the compact text of its JSON value
unfoldable pub problem_body : Status → List ℕ → List ℕ
problem_body s detail = compact_text (fault_data s detail)

-- a fault that was decided under no policy version
abbrev pub problem : Status → Option Methods → List ℕ → Told
problem s allow detail = record { status = s; allow = allow; version = None; seq = None; body = Some (problem_body s detail) }

-- out of memory, with nothing done: a fixed text, after which the connection closes
unfoldable pub memory_text : List ℕ
memory_text = answer_text (problem status.Unavailable None (codes "out of memory")) false true

-- the same answer, where its body lies in memory
abbrev pub told : Answer → Told
told a = record { status = a.status; allow = a.allow; version = a.version; seq = a.seq; body = option_copied a.body }
