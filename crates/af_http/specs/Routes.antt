-- What a request asks for (Airflow 2, "Stable REST API"): its path is one of the table's, its parts are names of their
-- kinds, and its method is one that the path has.
use Rattle.std.specs.Prelude.{ℕ, ◌≡◌, ◌==◌, ◌&&◌, Bool, true, false, not, List, [], ◌∷◌, Option, Some, None, option_map, option_and_then, ok_or, Result, Ok, Err, cond, drop, if◌then◌else◌, bytes_eq, IsOk}
use Rattle.std.specs.List.{find}
use Rattle.std.specs.Str.{is_utf8}
use Rattle.percent_encoding.specs.Percent.{percent_decode}
use Rattle.af_ops.specs.declared.call.Call.{Call}
use Rattle.af_ops.specs.declared.endpoint.Endpoint.{Endpoint}
use Rattle.af_ops.specs.declared.path_template.PathTemplate.{PathTemplate}
use Rattle.af_ops.specs.Calls.{IsRead, call_of_row}
use Rattle.af_ops.specs.Endpoints.{are_names}
use Rattle.af_ops.specs.Methods.{method_of}
use Rattle.af_ops.specs.Table.{Segment, Text, Part, segments_of, templates, endpoint_at, methods_at}
use Rattle.af_http.specs.declared.route_fault.RouteFault.{RouteFault}
use Rattle.af_http.specs.declared.route_fault.RouteFault.TheVariants.{NoPath, BadMethod, OutOfMemory}

-- what stands before the first of these bytes, and from it on
abbrev pub before : ℕ → List ℕ → List ℕ
before byte [] = []
before byte (b ∷ text) = cond (b == byte) [] (b ∷ before byte text)

abbrev pub onward : ℕ → List ℕ → List ℕ
onward byte [] = []
onward byte (b ∷ text) = cond (b == byte) (b ∷ text) (onward byte text)

-- the path of a target: what stands before its first `?` (RFC 9112, section 3.2.1)
abbrev pub path_of : List ℕ → List ℕ
path_of target = before 63 target

-- its query: what stands behind that `?`, or nothing where there is none; `#` is a byte as any other
abbrev pub query_of : List ℕ → List ℕ
query_of target = drop 1 (onward 63 target)

-- ---- paths

abbrev pub is_empty : List ℕ → Bool
is_empty [] = true
is_empty (b ∷ text) = false

-- whether a segment stands for this text
abbrev pub stands_for : Segment → List ℕ → Bool
stands_for (Text text) piece = bytes_eq piece text
stands_for (Part name) piece = not (is_empty piece)

-- whether a path is these segments, a slash before each
abbrev pub has_form : List Segment → List ℕ → Bool
has_form [] path = is_empty path
has_form (segment ∷ segments) [] = false
has_form (segment ∷ segments) (b ∷ path) =
    (b == 47) && (stands_for segment (before 47 path) && has_form segments (onward 47 path))

-- the path of the table that this is
abbrev pub template_of : List ℕ → Option PathTemplate
template_of path = find (λ template. has_form (segments_of template) path) templates

-- ---- parts

-- a part's text, without its percent-encoding (RFC 3986, section 2.1)
abbrev pub decoded : List ℕ → Option (List ℕ)
decoded part = if is_utf8 (percent_decode part) then Some (percent_decode part) else None

abbrev pub with_first : Option (List ℕ) → Option (List (List ℕ)) → Option (List (List ℕ))
with_first None parts = None
with_first (Some part) parts = option_map (λ more. part ∷ more) parts

-- the texts of a path's parts; none where one of them is no text
abbrev pub parts_in : List Segment → List ℕ → Option (List (List ℕ))
parts_in [] path = Some []
parts_in (segment ∷ segments) [] = Some []
parts_in (Text text ∷ segments) (b ∷ path) = parts_in segments (onward 47 path)
parts_in (Part name ∷ segments) (b ∷ path) = with_first (decoded (before 47 path)) (parts_in segments (onward 47 path))

-- ---- operations

-- the operation of a method at a path; methods are case-sensitive (RFC 9110, section 9.1)
abbrev pub endpoint_of : List ℕ → PathTemplate → Option Endpoint
endpoint_of method template = option_and_then (λ it. endpoint_at it template) (method_of method)

-- what an operation reads
abbrev pub read : Endpoint → List (List ℕ) → List ℕ → List ℕ → Result Call RouteFault
read endpoint parts query body = ok_or (call_of_row endpoint parts query body) NoPath

-- at a path: what the operation of the method reads, if the path has that method
abbrev pub by_endpoint : PathTemplate → List (List ℕ) → List ℕ → List ℕ → Option Endpoint → Result Call RouteFault
by_endpoint template parts query body None = Err (BadMethod (methods_at template))
by_endpoint template parts query body (Some endpoint) = read endpoint parts query body

abbrev pub by_method : List ℕ → PathTemplate → List (List ℕ) → List ℕ → List ℕ → Result Call RouteFault
by_method method template parts query body = by_endpoint template parts query body (endpoint_of method template)

abbrev pub named : List ℕ → List ℕ → List ℕ → PathTemplate → List (List ℕ) → Result Call RouteFault
named method query body template parts = if are_names (method_of method) template parts then by_method method template parts query body else Err NoPath

abbrev pub with_parts : List ℕ → List ℕ → List ℕ → PathTemplate → Option (List (List ℕ)) → Result Call RouteFault
with_parts method query body template None = Err NoPath
with_parts method query body template (Some parts) = named method query body template parts

abbrev pub at_template : List ℕ → List ℕ → List ℕ → List ℕ → Option PathTemplate → Result Call RouteFault
at_template method path query body None = Err NoPath
at_template method path query body (Some template) = with_parts method query body template (parts_in (segments_of template) path)

-- What a method, a target and a body ask for, or why they ask for nothing: no such path, also where a part is no text or no name
-- of its kind; then no such method.
abbrev pub call_of : List ℕ → List ℕ → List ℕ → Result Call RouteFault
call_of method target body = at_template method (path_of target) (query_of target) body (template_of (path_of target))

abbrev pub IsAsked : Result Call RouteFault → Call → Type 0
IsAsked (Ok wanted) call = IsRead (Some wanted) (Some call)
IsAsked (Err fault) call = ⊥

-- This was read. There was no memory to read it with only where something is asked for, whose body may be unread for that too:
-- that there is no such path or no such method is told, memory or not.
abbrev pub IsRouted : Result Call RouteFault → Result Call RouteFault → Type 0
IsRouted expected (Ok call) = IsAsked expected call
IsRouted expected (Err NoPath) = expected ≡ Err NoPath
IsRouted expected (Err (BadMethod methods)) = expected ≡ Err (BadMethod methods)
IsRouted expected (Err OutOfMemory) = IsOk expected
