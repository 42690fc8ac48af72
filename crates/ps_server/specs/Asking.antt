-- What requests ask, and what tells how their calls ended.
use Rattle.std.specs.Prelude.{◌≡◌, ℕ, List, Result, Ok, Err, Bool, true}
use Rattle.ps_book.specs.declared.book.Answer.{Answer}
use Rattle.ps_book.specs.declared.error.CallError.{CallError}
use Rattle.ps_http.specs.Answers.{answer_text, has_phrase}
use Rattle.ps_server.specs.declared.protocol.Asked.{Asked}
use Rattle.ps_server.specs.declared.protocol.Asked.TheVariants.{Command, Refused}

-- what was read is what is asked, and the code of a refusal has a phrase
abbrev pub asked_is : {C : Type 0} → Result C (ℕ × List ℕ) → Asked C → Type 0
asked_is asks (Command command) = asks ≡ Ok command
asked_is asks (Refused code body) = (asks ≡ Err (code, body)) × (has_phrase code ≡ true)

-- the code and the body that tell how a call ended
abbrev pub answer_told : {R : Type 0} → (R → ℕ × List ℕ) → (CallError → ℕ × List ℕ) → Result (Answer R) CallError → ℕ × List ℕ
answer_told reply_answer fault_answer (Ok a) = reply_answer a.reply
answer_told reply_answer fault_answer (Err error) = fault_answer error

-- the text of an answer with this code and this body
unfoldable pub text_with : Bool → ℕ × List ℕ → List ℕ
text_with close it = answer_text it.0 it.1 close
