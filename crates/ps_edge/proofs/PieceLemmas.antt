-- Steps over pieces.
use Rattle.std.proofs.Common.{◌≡◌, ◌<◌, ◌≤◌, ℕ, zero, suc, ◌+◌, List, [], ◌∷◌, ◌++◌, length, take, drop, get_or, drop-cons, refl, sym, ap, ap₂, ◌∙◌, arith, append_assoc}
use Rattle.std.proofs.lemmas.List.{append-nil, drop-append-le, take-append-le}
use Rattle.std.proofs.lemmas.Grind.{common_steps}
use Rattle.std.proofs.Math.Seq.{take-length, drop-length, take-add}
use Rattle.ps_edge.specs.Pieces.{Stream, joined, front, cut, drop_empty, past_of}

-- a whole piece more was read
pub past-next : (items : List (List ℕ)) (at taken : ℕ) → at < length items → length (front (drop at items)) ≡ taken → past_of (suc at) 0 items ≡ past_of at taken items
past-next [] at taken below whole = absurd (omega arith)
past-next (p ∷ ps) zero taken below whole = grind (arith, common_steps, append-nil, take-length)
past-next (p ∷ ps) (suc at) taken below whole =
    append_assoc p (joined (take (suc at) ps)) (take 0 (front (drop (suc at) ps)))
    ∙ ap (λ (l : List ℕ). p ++ l) (past-next ps at taken (omega arith) whole)
    ∙ sym (append_assoc p (joined (take at ps)) (take taken (front (drop at ps))))

-- a piece of which nothing is left counts for nothing
pub left-next : (items : List (List ℕ)) (at taken : ℕ) → at < length items → length (front (drop at items)) ≡ taken → drop_empty (drop (suc at) items) ≡ drop_empty (cut taken (drop at items))
left-next [] at taken below whole = absurd (omega arith)
left-next (p ∷ ps) zero taken below whole =
    let none : drop taken p ≡ [] = grind (arith, common_steps, drop-length) in
    rw none refl
left-next (p ∷ ps) (suc at) taken below whole = left-next ps at taken (omega arith) whole

-- nothing was taken of the first piece
pub cut-none : (items : List (List ℕ)) → cut 0 items ≡ items
cut-none [] = refl
cut-none (p ∷ ps) = refl

-- a piece that has bytes stays
pub drop_empty-full : (p : List ℕ) (ps : List (List ℕ)) → 0 < length p → drop_empty (p ∷ ps) ≡ p ∷ ps
drop_empty-full [] ps some = absurd (omega arith)
drop_empty-full (b ∷ p) ps some = refl

-- the first piece from a place on
pub front-at : (items : List (List ℕ)) (at : ℕ) (x : List ℕ) → at < length items → x ≡ get_or items at x → front (drop at items) ≡ x
front-at items at x below is = ap front (drop-cons items at x below) ∙ sym is

-- a piece that isn't read to its end is the next one
pub drop_empty-here : (items : List (List ℕ)) (at taken : ℕ) → taken < length (front (drop at items)) → drop_empty (cut taken (drop at items)) ≡ cut taken (drop at items)
drop_empty-here [] zero taken some = refl
drop_empty-here [] (suc at) taken some = refl
drop_empty-here (p ∷ ps) zero taken some = drop_empty-full (drop taken p) ps (grind (arith, common_steps))
drop_empty-here (p ∷ ps) (suc at) taken some = drop_empty-here ps at taken some

-- what is left of the piece at a place
pub front-cut : (items : List (List ℕ)) (at taken : ℕ) (x : List ℕ) → at < length items → x ≡ get_or items at x → front (cut taken (drop at items)) ≡ drop taken x
front-cut items at taken x below is = ap (λ (l : List (List ℕ)). front (cut taken l)) (drop-cons items at x below) ∙ ap (drop taken) (sym is)

-- more bytes of a piece
pub cut-more : (items : List (List ℕ)) (taken n : ℕ) → cut (taken + n) items ≡ cut n (cut taken items)
cut-more [] taken n = refl
cut-more (p ∷ ps) taken n =
    let same : drop (taken + n) p ≡ drop n (drop taken p) = grind (arith, common_steps) in
    ap (λ (l : List ℕ). l ∷ ps) same

-- more bytes of a piece were read
pub past-more : (items : List (List ℕ)) (at taken n : ℕ) → past_of at (taken + n) items ≡ past_of at taken items ++ take n (drop taken (front (drop at items)))
past-more items at taken n =
    ap (λ (l : List ℕ). joined (take at items) ++ l) (take-add taken n (front (drop at items)))
    ∙ sym (append_assoc (joined (take at items)) (take taken (front (drop at items))) (take n (drop taken (front (drop at items)))))

-- two streams are the same by their parts
pub same_stream : (a b : Stream) → a.past ≡ b.past → a.pieces ≡ b.pieces → a ≡ b
same_stream a b past pieces = ap₂ (λ (p : List ℕ) (q : List (List ℕ)). let s : Stream = record { past = p; pieces = q } in s) past pieces

-- empty pieces hold no bytes
pub joined-drop_empty : (items : List (List ℕ)) → joined (drop_empty items) ≡ joined items
joined-drop_empty [] = refl
joined-drop_empty ([] ∷ more) = joined-drop_empty more
joined-drop_empty ((b ∷ piece) ∷ more) = refl

-- no byte is left in the next piece, so none is left at all
pub none-left : (items : List (List ℕ)) → length (front (drop_empty items)) ≡ 0 → joined items ≡ []
none-left [] none = refl
none-left ([] ∷ more) none = none-left more none
none-left ((b ∷ piece) ∷ more) none = absurd (omega arith)

-- the bytes without some of the first piece
pub joined-cut : (items : List (List ℕ)) (n : ℕ) → n ≤ length (front items) → joined (cut n items) ≡ drop n (joined items)
joined-cut [] n fits = let none : n ≡ 0 = omega arith in rw none refl
joined-cut (piece ∷ more) n fits = sym (drop-append-le n piece (joined more) fits)

-- the first bytes are those of the first piece
pub take-front : (items : List (List ℕ)) (n : ℕ) → n ≤ length (front items) → take n (joined items) ≡ take n (front items)
take-front [] n fits = refl
take-front (piece ∷ more) n fits = take-append-le n piece (joined more) fits

-- the first piece is a part of all bytes
pub front-fits : (items : List (List ℕ)) → length (front items) ≤ length (joined items)
front-fits [] = omega arith
front-fits (piece ∷ more) = grind (arith, common_steps)
