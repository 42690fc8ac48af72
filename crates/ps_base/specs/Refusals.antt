-- What a caller is told of a refusal: its code and status (google.rpc.Code and its mapping to HTTP), and its message.
use Rattle.std.specs.Prelude.{ℕ, List, codes}
use Rattle.ps_base.specs.declared.refusal.Refusal.{Refusal}
use Rattle.ps_base.specs.Reasons.{reason_text}
use Rattle.ps_base.specs.declared.refusal.Refusal.TheVariants.{InvalidArgument, NotFound, AlreadyExists, FailedPrecondition, Exhausted, Unimplemented}

-- the HTTP status code
abbrev pub code_of : Refusal → ℕ
code_of (InvalidArgument reason) = 400
code_of (NotFound name) = 404
code_of (AlreadyExists name) = 409
code_of (FailedPrecondition reason) = 400
code_of Exhausted = 429
code_of (Unimplemented field) = 501

-- the name in google.rpc.Code
abbrev pub status_of : Refusal → List ℕ
status_of (InvalidArgument reason) = codes "INVALID_ARGUMENT"
status_of (NotFound name) = codes "NOT_FOUND"
status_of (AlreadyExists name) = codes "ALREADY_EXISTS"
status_of (FailedPrecondition reason) = codes "FAILED_PRECONDITION"
status_of Exhausted = codes "RESOURCE_EXHAUSTED"
status_of (Unimplemented field) = codes "UNIMPLEMENTED"

-- what a caller reads: the reason, or what was named
abbrev pub message_of : Refusal → List ℕ
message_of (InvalidArgument reason) = reason_text reason
message_of (NotFound name) = name
message_of (AlreadyExists name) = name
message_of (FailedPrecondition reason) = reason_text reason
message_of Exhausted = codes "entries"
message_of (Unimplemented field) = field
