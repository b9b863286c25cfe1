-- The statuses of answers (RFC 9110, section 15; RFC 6585, section 5; RFC 4918, section 11.5).
use Rattle.std.specs.Prelude.{ℕ, List, Bool, nat_le, codes}
use Rattle.af_ops.specs.declared.status.Status.{Status}
use Rattle.af_ops.specs.declared.status.Status.TheVariants as status

abbrev pub code_of : Status → ℕ
code_of status.Ok = 200
code_of status.NoContent = 204
code_of status.BadRequest = 400
code_of status.Unauthorized = 401
code_of status.Forbidden = 403
code_of status.NotFound = 404
code_of status.MethodNotAllowed = 405
code_of status.Conflict = 409
code_of status.ContentTooLarge = 413
code_of status.HeadTooLarge = 431
code_of status.InternalError = 500
code_of status.NotImplemented = 501
code_of status.Unavailable = 503
code_of status.InsufficientStorage = 507

abbrev pub reason_of : Status → List ℕ
reason_of status.Ok = codes "OK"
reason_of status.NoContent = codes "No Content"
reason_of status.BadRequest = codes "Bad Request"
reason_of status.Unauthorized = codes "Unauthorized"
reason_of status.Forbidden = codes "Forbidden"
reason_of status.NotFound = codes "Not Found"
reason_of status.MethodNotAllowed = codes "Method Not Allowed"
reason_of status.Conflict = codes "Conflict"
reason_of status.ContentTooLarge = codes "Content Too Large"
reason_of status.HeadTooLarge = codes "Request Header Fields Too Large"
reason_of status.InternalError = codes "Internal Server Error"
reason_of status.NotImplemented = codes "Not Implemented"
reason_of status.Unavailable = codes "Service Unavailable"
reason_of status.InsufficientStorage = codes "Insufficient Storage"

-- a status of 400 or more tells a fault
abbrev pub is_fault_status : Status → Bool
is_fault_status s = nat_le 400 (code_of s)
