-- What stays of a request when more bytes come.
use Rattle.std.proofs.Common.{◌≤◌, ℕ, List, ◌++◌, length, Bool}
use Rattle.ps_http.specs.Requests.{Framed}
use Rattle.ps_http.proofs.RequestStays.{stays}
use Rattle.ps_http.proofs.WithinLemmas.{whole_due, whole_within}
use Rattle.ps_server.specs.declared.answer.Request.{Request}
use Rattle.ps_server.specs.Turns.{IsRequest}

pub request_stays : (bytes more : List ℕ) (r : Request) (due : Bool) (len : ℕ) → IsRequest bytes r due len → IsRequest (bytes ++ more) r due len
request_stays bytes more r due len is = record {
  frames = stays bytes more (Framed.whole r.method r.target r.body r.close len) is.frames (λ e. cc);
  is_due = whole_due bytes more r.method r.target r.body r.close len due is.frames is.is_due;
}

pub request_within : (bytes : List ℕ) (r : Request) (due : Bool) (len : ℕ) → IsRequest bytes r due len → len ≤ length bytes
request_within bytes r due len is = whole_within bytes r.method r.target r.body r.close len is.frames
