-- Requests that were served, one more after the others.
use Rattle.std.proofs.Common.{◌≡◌, ℕ, List, [], ◌∷◌, ◌++◌, drop, map, Option, refl, sym, ap, subst, ◌∙◌, append_assoc}
use Rattle.std.specs.List.{AllByRecursion}
use Rattle.std.proofs.lemmas.List.{append-nil, drop-append-le}
use Rattle.ps_base.proofs.Lists.{each-append}
use Rattle.ps_book.specs.declared.machine.Machine as machine
use Rattle.ps_run.specs.Fates.{Fate}
use Rattle.ps_server.specs.declared.protocol.HttpProtocol as protocol
use Rattle.ps_server.specs.Turns.{IsRequest, Reads, Turn, state_after, step, text_of, texts_of}
use Rattle.ps_server.proofs.Bytes.{request_stays, request_within}

-- the requests are read in the same way when more bytes come
pub reads_more : (bytes : List ℕ) (turns : List Turn) (rest more : List ℕ) → Reads bytes turns rest → Reads (bytes ++ more) turns (rest ++ more)
reads_more bytes [] rest more reads = ap (λ (b : List ℕ). b ++ more) reads
reads_more bytes (t ∷ turns) rest more reads =
    let same : drop reads.0 (bytes ++ more) ≡ drop reads.0 bytes ++ more = drop-append-le reads.0 bytes more (request_within bytes t.request t.continued reads.0 reads.1) in
    (reads.0, request_stays bytes more t.request t.continued reads.0 reads.1, subst (λ (b : List ℕ). Reads b turns (rest ++ more)) (sym same) (reads_more (drop reads.0 bytes) turns rest more reads.2))

-- one request more is read
pub reads_then : (bytes : List ℕ) (turns : List Turn) (t : Turn) (rest : List ℕ) (len : ℕ) → Reads bytes turns rest → IsRequest rest t.request t.continued len → Reads bytes (turns ++ t ∷ []) (drop len rest)
reads_then bytes [] t rest len reads is = (len, subst (λ (b : List ℕ). IsRequest b t.request t.continued len) (sym reads) is, ap (drop len) reads)
reads_then bytes (u ∷ turns) t rest len reads is = (reads.0, reads.1, reads_then (drop reads.0 bytes) turns t rest len reads.2 is)

pub all_then : (P : Turn → Type 0) (turns : List Turn) (t : Turn) → AllByRecursion P turns → P t → AllByRecursion P (turns ++ t ∷ [])
all_then P turns t all one = each-append P turns (t ∷ []) all (one, tt)

pub fates_then : (turns : List Turn) (t : Turn) → map (λ (u : Turn). u.fate) (turns ++ t ∷ []) ≡ map (λ (u : Turn). u.fate) turns ++ t.fate ∷ []
fates_then [] t = refl
fates_then (u ∷ turns) t = ap (λ (fates : List Fate). u.fate ∷ fates) (fates_then turns t)

module _ {M C E R : Type 0} (m : machine.Ghosts M C E R) (p : protocol.Ghosts M C E R) where
  pub texts_then : (s : m.World × Option m.World) (turns : List Turn) (t : Turn) → texts_of m p s (turns ++ t ∷ []) ≡ texts_of m p s turns ++ text_of m p (state_after m p s turns) t
  texts_then s [] t = append-nil (text_of m p s t)
  texts_then s (u ∷ turns) t = ap (λ (l : List ℕ). text_of m p s u ++ l) (texts_then (step m p s u) turns t) ∙ sym (append_assoc (text_of m p s u) (texts_of m p (step m p s u) turns) (text_of m p (state_after m p (step m p s u) turns) t))

  pub state_then : (s : m.World × Option m.World) (turns : List Turn) (t : Turn) → state_after m p s (turns ++ t ∷ []) ≡ step m p (state_after m p s turns) t
  state_then s [] t = refl
  state_then s (u ∷ turns) t = state_then (step m p s u) turns t
