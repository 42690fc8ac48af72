-- What the head of a request says (RFC 9110 and RFC 9112), and the table by which it is refused. The fields are read as
-- `known_fields` has them.
use Rattle.std.specs.Prelude.{◌≡◌, ◌≤◌, ◌⊎◌, ℕ, List, [], length, map, Bool, true, false, not, ◌&&◌, ◌||◌, ◌==◌, nat_lt, if◌then◌else◌, bytes_eq, codes, Option, Some, None, Result, Ok, Err, ⊤}
use Rattle.std.specs.List.{list_any}
use Rattle.httparse.specs.Grammar.{RequestHead, ReadsRequest}
use Rattle.httparse.specs.Spans.{name_and_value}
use Rattle.http1.specs.Text.{eq_ignore_case}
use Rattle.http1.specs.Fields.{Header, is_named, known_fields}
use Rattle.http1.specs.declared.fields.ContentLength.{ContentLength}
use Rattle.http1.specs.declared.fields.ContentLength.TheVariants as Stated
use Rattle.http1.specs.declared.fields.TransferEncoding.{TransferEncoding}
use Rattle.http1.specs.declared.fields.TransferEncoding.TheVariants as Coding
use Rattle.http1.specs.declared.fields.KnownFields.{KnownFields}
use Rattle.ps_http.specs.declared.heads.Head.{Head}
use Rattle.ps_http.specs.declared.heads.Length.{Length}
use Rattle.ps_http.specs.declared.heads.Length.TheVariants.{Fixed, Chunked}
use Rattle.ps_http.specs.declared.heads.Stop.{Stop}
use Rattle.ps_http.specs.declared.heads.Stop.TheVariants.{Refused, OutOfMemory}
use Rattle.ps_http.specs.Limits.{most_body, most_fields}

-- bytes that are one well-formed head and nothing more
abbrev pub IsWholeHead : List ℕ → RequestHead → Type 0
IsWholeHead bytes h = ReadsRequest bytes h [] × (length h.fields ≤ most_fields)

-- a method that this server knows
abbrev pub is_method : List ℕ → Bool
is_method method =
    bytes_eq method (codes "GET") || (bytes_eq method (codes "PUT") || (bytes_eq method (codes "POST")
    || (bytes_eq method (codes "DELETE") || bytes_eq method (codes "PATCH"))))

-- a field that tells that the body is encoded
abbrev pub is_encoding : Header → Bool
is_encoding f = is_named (codes "content-encoding") f && not (eq_ignore_case f.1 (codes "identity"))

-- the length fields are numbers that agree, or there is none
abbrev pub is_length : ContentLength → Bool
is_length Stated.Absent = true
is_length (Stated.Value n) = true
is_length Stated.Invalid = false

-- there is a length field
abbrev pub has_length : ContentLength → Bool
has_length Stated.Absent = false
has_length (Stated.Value n) = true
has_length Stated.Invalid = true

-- there is a transfer coding
abbrev pub has_coding : TransferEncoding → Bool
has_coding Coding.Absent = false
has_coding Coding.Chunked = true
has_coding Coding.Other = true
has_coding Coding.Blank = true
has_coding Coding.Invalid = true

-- the last transfer coding is `chunked`
abbrev pub ends_chunked : TransferEncoding → Bool
ends_chunked Coding.Absent = false
ends_chunked Coding.Chunked = true
ends_chunked Coding.Other = false
ends_chunked Coding.Blank = false
ends_chunked Coding.Invalid = false

-- the length of a body without a transfer coding
abbrev pub stated : ContentLength → ℕ
stated Stated.Absent = 0
stated (Stated.Value n) = n
stated Stated.Invalid = 0

-- how long the body is by the fields
abbrev pub length_of : KnownFields → Length
length_of k = if has_coding k.transfer_encoding then Chunked else Fixed (stated k.content_length)

-- a body follows
abbrev pub body_follows : Length → Bool
body_follows (Fixed n) = nat_lt 0 n
body_follows Chunked = true

-- a body by its length field is too long
abbrev pub is_too_long : Length → Bool
is_too_long (Fixed n) = nat_lt most_body n
is_too_long Chunked = false

-- the table of refusals: the code of the first rule that is broken
abbrev pub refusal_of : ℕ → Bool → KnownFields → Bool → Option ℕ
refusal_of minor known_method k encoded =
    if (minor == 1) && not (k.hosts == 1) then Some 400
    else (if not (is_length k.content_length) then Some 400
    else (if has_length k.content_length && has_coding k.transfer_encoding then Some 400
    else (if not known_method then Some 501
    else (if has_coding k.transfer_encoding && (not (ends_chunked k.transfer_encoding) || k.other_coding) then Some 501
    else (if encoded then Some 415
    else (if is_too_long (length_of k) then Some 413
    else None))))))

-- what a head asks for
abbrev pub taken : RequestHead → KnownFields → Head
taken h k = record {
  method = h.method;
  target = h.target;
  length = length_of k;
  close = (h.minor == 0) || k.close;
  waits = k.expect_continue && body_follows (length_of k);
}

abbrev pub judged_by : Option ℕ → Head → Result Head Stop
judged_by None head = Ok head
judged_by (Some code) head = Err (Refused code)

-- what a well-formed head comes to
abbrev pub judged : RequestHead → Result Head Stop
judged h =
    let fields = map name_and_value h.fields in
    let k = known_fields fields in
    judged_by (refusal_of h.minor (is_method h.method) k (list_any is_encoding fields)) (taken h k)

-- what bytes come to that should be a head
abbrev pub HeadSays : List ℕ → Result Head Stop → Type 0
HeadSays bytes result =
    ((h : RequestHead) × IsWholeHead bytes h × (result ≡ judged h))
    ⊎ (((h : RequestHead) → IsWholeHead bytes h → ⊥) × (result ≡ Err (Refused 400)))

-- the fact holds unless there is no memory left
abbrev pub UnlessMemory : {T : Type 0} → Result T Stop → Type 0 → Type 0
UnlessMemory (Ok value) P = P
UnlessMemory (Err (Refused code)) P = P
UnlessMemory (Err OutOfMemory) P = ⊤
