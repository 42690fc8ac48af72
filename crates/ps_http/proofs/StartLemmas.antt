-- What a head comes to that ends.
use Rattle.std.proofs.Common.{◌≡◌, ◌≤◌, ℕ, Bool, List, take, drop, false, nat_lt, Err, sym, refl, subst, ap, ◌∙◌, arith}
use Rattle.std.proofs.lemmas.Bool.{le-ltb}
use Rattle.ps_http.specs.declared.heads.Stop.TheVariants as Stops
use Rattle.ps_http.specs.declared.sections.Section.{Section}
use Rattle.ps_http.specs.declared.sections.Section.TheVariants as Sections
use Rattle.ps_http.specs.declared.starts.Start.TheVariants as Starts
use Rattle.ps_http.specs.Heads.{HeadSays}
use Rattle.ps_http.specs.Limits.{head_lines, most_head}
use Rattle.ps_http.specs.Requests.{StartSays, StartSaysAfter, StartSaysBy}
use Rattle.ps_http.specs.Sections.{blank_len, find_section}

-- a head that is refused, from what was found of it
pub refused_head : (bytes rest : List ℕ) (skip end code : ℕ) → skip ≡ blank_len bytes → skip ≤ most_head → rest ≡ drop skip bytes → Sections.Ends end ≡ find_section head_lines rest → HeadSays (take end rest) (Err (Stops.Refused code)) → StartSays bytes (Starts.Refused code)
refused_head bytes rest skip end code is few cut ends says =
    let k = blank_len bytes in
    let s = Starts.Refused code in
    let from : rest ≡ drop k bytes = cut ∙ ap (λ (n : ℕ). drop n bytes) is in
    let below : nat_lt most_head k ≡ false = le-ltb most_head k (omega (arith, is, few)) in
    let found : find_section head_lines (drop k bytes) ≡ Sections.Ends end = ap (find_section head_lines) (sym from) ∙ sym ends in
    let head : HeadSays (take end (drop k bytes)) (Err (Stops.Refused code)) = subst (λ (l : List ℕ). HeadSays (take end l) (Err (Stops.Refused code))) from says in
    let by : StartSaysBy bytes k (Sections.Ends end) s = (Err (Stops.Refused code), head, (λ e. cc), refl) in
    subst (λ (b : Bool). StartSaysAfter bytes k b s) (sym below) (subst (λ (t : Section). StartSaysBy bytes k t s) (sym found) by)
