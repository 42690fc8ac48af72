-- Bytes that come in pieces.
use Rattle.std.specs.Prelude.{ℕ, List, [], ◌∷◌, ◌++◌, take, drop}

-- the bytes that were read, and the pieces that are left
pub record Stream : Type 0 where
  pub past : List ℕ
  pub pieces : List (List ℕ)

-- pieces of which nothing was read
abbrev pub pieces : List (List ℕ) → Stream
pieces items = record { past = []; pieces = items }

-- all bytes of the pieces
abbrev pub joined : List (List ℕ) → List ℕ
joined [] = []
joined (piece ∷ more) = piece ++ joined more

-- the first piece
abbrev pub front : List (List ℕ) → List ℕ
front [] = []
front (piece ∷ more) = piece

-- the pieces without so many bytes of the first
abbrev pub cut : ℕ → List (List ℕ) → List (List ℕ)
cut n [] = []
cut n (piece ∷ more) = drop n piece ∷ more

-- the pieces without the empty ones before the first byte
abbrev pub drop_empty : List (List ℕ) → List (List ℕ)
drop_empty [] = []
drop_empty ([] ∷ more) = drop_empty more
drop_empty ((b ∷ piece) ∷ more) = (b ∷ piece) ∷ more

-- the bytes before a place: that of the piece, and the number of bytes in it
abbrev pub past_of : ℕ → ℕ → List (List ℕ) → List ℕ
past_of at taken items = joined (take at items) ++ take taken (front (drop at items))

-- after n bytes of the next piece that has bytes were read
abbrev pub advanced : Stream → ℕ → Stream
advanced s n = record { past = s.past ++ take n (front (drop_empty s.pieces)); pieces = cut n (drop_empty s.pieces) }
