-- What answers calls over HTTP: a code and a body.
use Rattle.std.specs.Prelude.{ℕ, List, ◌++◌, ◌==◌, if◌then◌else◌, Result, Ok, Err, codes}
use Rattle.std.specs.Fmt.{decimal}
use Rattle.serde_json.specs.Written.{compact_text}
use Rattle.ps_base.specs.Refusals as refusal
use Rattle.ps_base.specs.declared.refusal.Refusal.{Refusal}
use Rattle.ps_model.specs.declared.reply.Reply.{Reply}
use Rattle.ps_book.specs.declared.book.Answer.{Answer}
use Rattle.ps_book.specs.declared.error.CallError.{CallError}
use Rattle.ps_book.specs.declared.error.CallError.TheVariants.{StoreFault, BadRow, OutOfMemory}
use Rattle.ps_json.specs.Replies.{body_of, code_of, refusal_data}

-- the body if out of memory
abbrev pub memory_body : List ℕ
memory_body = codes "{\"error\":{\"code\":507,\"message\":\"out of memory\",\"status\":\"OUT_OF_MEMORY\"}}"

-- the code of a call that met a fault
abbrev pub fault_code : CallError → ℕ
fault_code StoreFault = 503
fault_code (BadRow seq) = 500
fault_code OutOfMemory = 507

-- the body of the answer to a call that met a fault
abbrev pub fault_body : CallError → List ℕ
fault_body StoreFault = codes "{\"error\":{\"code\":503,\"message\":\"store fault\",\"status\":\"UNAVAILABLE\"}}"
fault_body (BadRow seq) = codes "{\"error\":{\"code\":500,\"message\":\"bad row " ++ decimal seq ++ codes "\",\"status\":\"INTERNAL\"}}"
fault_body OutOfMemory = memory_body

-- the code and the body that answer a fault
abbrev pub fault_answer : CallError → ℕ × List ℕ
fault_answer error = (fault_code error, fault_body error)

-- the code and the body that tell a reply
abbrev pub reply_answer : Reply → ℕ × List ℕ
reply_answer reply = (code_of reply, compact_text (body_of reply))

-- the code and the body that tell a refusal
abbrev pub refusal_answer : Refusal → ℕ × List ℕ
refusal_answer refused = (refusal.code_of refused, compact_text (refusal_data refused))

-- the code and the body that answer a call
abbrev pub answer_of : Result (Answer Reply) CallError → ℕ × List ℕ
answer_of (Ok answer) = reply_answer answer.reply
answer_of (Err error) = fault_answer error

-- the body of the answer to bytes that are no request, by its code; a code that no such answer has gives that of 501
abbrev pub framing_body : ℕ → List ℕ
framing_body code =
    if code == 400 then codes "{\"error\":{\"code\":400,\"message\":\"http\",\"status\":\"INVALID_ARGUMENT\"}}"
    else (if code == 413 then codes "{\"error\":{\"code\":413,\"message\":\"http\",\"status\":\"TOO_LARGE\"}}"
    else (if code == 415 then codes "{\"error\":{\"code\":415,\"message\":\"http\",\"status\":\"UNSUPPORTED_MEDIA_TYPE\"}}"
    else (if code == 431 then codes "{\"error\":{\"code\":431,\"message\":\"http\",\"status\":\"HEADERS_TOO_LARGE\"}}"
    else codes "{\"error\":{\"code\":501,\"message\":\"http\",\"status\":\"UNIMPLEMENTED\"}}")))
