-- The text of an answer (RFC 9112, section 6), which always has JSON and a length.
use Rattle.std.specs.Prelude.{ℕ, List, [], ◌++◌, length, Bool, not, if◌then◌else◌, ◌==◌, codes, decimal}

-- the phrase that goes with a code
abbrev pub phrase : ℕ → List ℕ
phrase code =
    if code == 200 then codes "OK"
    else (if code == 400 then codes "Bad Request"
    else (if code == 404 then codes "Not Found"
    else (if code == 409 then codes "Conflict"
    else (if code == 413 then codes "Content Too Large"
    else (if code == 415 then codes "Unsupported Media Type"
    else (if code == 429 then codes "Too Many Requests"
    else (if code == 431 then codes "Request Header Fields Too Large"
    else (if code == 500 then codes "Internal Server Error"
    else (if code == 501 then codes "Not Implemented"
    else (if code == 503 then codes "Service Unavailable"
    else (if code == 507 then codes "Insufficient Storage"
    else [])))))))))))

-- the code is one that this server uses
abbrev pub has_phrase : ℕ → Bool
has_phrase code = not (length (phrase code) == 0)

-- the line by which the server tells that it closes the connection
abbrev pub close_line : Bool → List ℕ
close_line close = if close then codes "connection: close\r\n" else []

-- the first line
abbrev pub status_line : ℕ → List ℕ
status_line code = codes "HTTP/1.1 " ++ (decimal code ++ (codes " " ++ (phrase code ++ codes "\r\n")))

-- the lines on the body
abbrev pub body_lines : ℕ → List ℕ
body_lines count = codes "content-type: application/json\r\ncontent-length: " ++ (decimal count ++ codes "\r\n")

-- the lines before the body, the empty one too
abbrev pub head_text : ℕ → ℕ → Bool → List ℕ
head_text code count close = status_line code ++ (body_lines count ++ (close_line close ++ codes "\r\n"))

-- the head, and the body of JSON
abbrev pub answer_text : ℕ → List ℕ → Bool → List ℕ
answer_text code body close = head_text code (length body) close ++ body
