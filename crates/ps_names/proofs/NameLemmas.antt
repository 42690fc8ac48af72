-- A name is short and is ASCII.
use Rattle.std.proofs.Common.{◌≡◌, ◌+◌, ◌≤◌, ℕ, Bool, true, false, ◌&&◌, ◌==◌, not, nat_lt, nat_le, nat_eq, cond, List, [], ◌∷◌, length, codes, refl, ap, ◌∙◌, arith, lit≤}
use Rattle.std.specs.List.{list_all, starts_with, slice_split, onto_first}
use Rattle.std.specs.Char.{is_ascii_lowercase, is_ascii_alphabetic}
use Rattle.std.specs.Str.{bytes_eq, IsAscii, IsUtf8}
use Rattle.std.proofs.lemmas.Bool.{and_parts, and_from, eqb-true, ltb-true, leb-true, false≢true}
use Rattle.std.proofs.lemmas.Bool.Decides.{nat_tests}
use Rattle.std.proofs.lemmas.Str.{IsUtf8-from_ascii}
use Rattle.std.proofs.lemmas.Str.Ascii.{IsAscii-nil, IsAscii-cons}
use Rattle.ps_names.specs.Names.{is_project_byte, is_id_byte, starts_with_byte, is_project, is_id, parts_of, is_topic_name}
use Rattle.ps_names.specs.Parts.{is_parts_of}
use Rattle.ps_names.proofs.GrammarLemmas.{parts-are-name}
use Rattle.std.proofs.lemmas.Slice.Eq.{bytes_eq-Decides}

abbrev pub is_slash : ℕ → Bool
is_slash b = b == 47

-- the bytes of the parts, and one more for each
total : List (List ℕ) → ℕ
total [] = 0
total (part ∷ parts) = length part + 1 + total parts

total-onto_first : (x n : ℕ) (parts : List (List ℕ)) → total parts ≡ n + 1 → total (onto_first x parts) ≡ n + 2
unfolding total
total-onto_first x n [] h = absurd (omega arith)
total-onto_first x n (part ∷ parts) h = omega arith

total-split : (text : List ℕ) → total (slice_split is_slash text) ≡ length text + 1
unfolding total
total-split [] = omega arith
total-split (x ∷ xs) = by (is_slash x) (total-split xs)
  where
    by : (b : Bool) → total (slice_split is_slash xs) ≡ length xs + 1 → total (cond b ([] ∷ slice_split is_slash xs) (onto_first x (slice_split is_slash xs))) ≡ length (x ∷ xs) + 1
    by true h = omega arith
    by false h = omega (arith, total-onto_first x (length xs) (slice_split is_slash xs) h)

abbrev is_ascii_part : List ℕ → Bool
is_ascii_part part = list_all (λ b. nat_lt b 128) part

all_weaker : (p q : ℕ → Bool) → ((b : ℕ) → p b ≡ true → q b ≡ true) → (xs : List ℕ) → list_all p xs ≡ true → list_all q xs ≡ true
all_weaker p q h [] e = refl
all_weaker p q h (x ∷ xs) e = let parts = and_parts (p x) (list_all p xs) e in and_from (q x) (list_all q xs) (h x parts.0) (all_weaker p q h xs parts.1)

project_byte_ascii : (b : ℕ) → is_project_byte b ≡ true → nat_lt b 128 ≡ true
project_byte_ascii b h = grind (arith, nat_tests)

id_byte_ascii : (b : ℕ) → is_id_byte b ≡ true → nat_lt b 128 ≡ true
id_byte_ascii b h = grind (arith, nat_tests)

-- what the grammar says of the parts
record AreParts (parts : List (List ℕ)) : Type 0 where
  few : total parts ≤ 350
  ascii : list_all is_ascii_part parts ≡ true

are_parts : (kind : List ℕ) → length kind ≤ 20 → is_ascii_part kind ≡ true → (parts : List (List ℕ)) → is_parts_of kind parts ≡ true → AreParts parts
unfolding total
are_parts kind short plain [] h = absurd (false≢true h)
are_parts kind short plain (a ∷ []) h = absurd (false≢true h)
are_parts kind short plain (a ∷ b ∷ []) h = absurd (false≢true h)
are_parts kind short plain (a ∷ b ∷ c ∷ []) h = absurd (false≢true h)
are_parts kind short plain (a ∷ b ∷ c ∷ d ∷ e ∷ parts) h = absurd (false≢true h)
are_parts kind short plain (projects ∷ project ∷ named ∷ id ∷ []) h =
    let three = and_parts (bytes_eq projects (codes "projects") && is_project project && bytes_eq named kind) (is_id id) h in
    let two = and_parts (bytes_eq projects (codes "projects") && is_project project) (bytes_eq named kind) three.0 in
    let one = and_parts (bytes_eq projects (codes "projects")) (is_project project) two.0 in
    let project_parts = and_parts (starts_with_byte is_ascii_lowercase project && nat_le (length project) 63) (list_all is_project_byte project) one.1 in
    let project_short = and_parts (starts_with_byte is_ascii_lowercase project) (nat_le (length project) 63) project_parts.0 in
    let id_parts = and_parts (starts_with_byte is_ascii_alphabetic id && nat_le 3 (length id) && nat_le (length id) 255 && list_all is_id_byte id) (not (starts_with nat_eq id (codes "goog"))) three.1 in
    let id_bytes = and_parts (starts_with_byte is_ascii_alphabetic id && nat_le 3 (length id) && nat_le (length id) 255) (list_all is_id_byte id) id_parts.0 in
    let id_short = and_parts (starts_with_byte is_ascii_alphabetic id && nat_le 3 (length id)) (nat_le (length id) 255) id_bytes.0 in
    let first : projects ≡ codes "projects" = (bytes_eq-Decides projects (codes "projects")).0 one.0 in
    let third : named ≡ kind = (bytes_eq-Decides named kind).0 two.1 in
    record {
      few = omega (arith, ap length first, ap length third, short, leb-true (length project) 63 project_short.1, leb-true (length id) 255 id_short.1);
      ascii =
          and_from (is_ascii_part projects) _ (ap is_ascii_part first)
          (and_from (is_ascii_part project) _ (all_weaker is_project_byte (λ b. nat_lt b 128) project_byte_ascii project project_parts.1)
          (and_from (is_ascii_part named) _ (ap is_ascii_part third ∙ plain)
          (and_from (is_ascii_part id) _ (all_weaker is_id_byte (λ b. nat_lt b 128) id_byte_ascii id id_bytes.1) refl)));
    }

ascii-split : (text : List ℕ) → list_all is_ascii_part (slice_split is_slash text) ≡ true → IsAscii text
ascii-split [] h = IsAscii-nil
ascii-split (x ∷ xs) h = by (is_slash x) refl (ascii-split xs) h
  where
    onto : (parts : List (List ℕ)) → list_all is_ascii_part (onto_first x parts) ≡ true → (nat_lt x 128 ≡ true) × (list_all is_ascii_part parts ≡ true)
    onto [] h = let p = and_parts (is_ascii_part (x ∷ [])) true h in let q = and_parts (nat_lt x 128) true p.0 in (q.0, refl)
    onto (part ∷ parts) h =
        let p = and_parts (is_ascii_part (x ∷ part)) (list_all is_ascii_part parts) h in
        let q = and_parts (nat_lt x 128) (is_ascii_part part) p.0 in
        (q.0, and_from (is_ascii_part part) (list_all is_ascii_part parts) q.1 p.1)

    by : (b : Bool) → is_slash x ≡ b → (list_all is_ascii_part (slice_split is_slash xs) ≡ true → IsAscii xs)
        → list_all is_ascii_part (cond b ([] ∷ slice_split is_slash xs) (onto_first x (slice_split is_slash xs))) ≡ true → IsAscii (x ∷ xs)
    by true slash rest h = let at : x ≡ 47 = eqb-true x 47 slash in IsAscii-cons x xs (omega arith) (rest h)
    by false slash rest h = let p = onto (slice_split is_slash xs) h in IsAscii-cons x xs (ltb-true x 128 p.0) (rest p.1)

pub topic_name-short : (text : List ℕ) → is_topic_name text ≡ true → length text ≤ 349
topic_name-short text h = let split = are_parts (codes "topics") (lit≤ tt) refl (parts_of text) (parts-are-name (codes "topics") text refl ∙ h) in omega (arith, split.few, total-split text)

pub topic_name-ascii : (text : List ℕ) → is_topic_name text ≡ true → IsAscii text
topic_name-ascii text h = let split = are_parts (codes "topics") (lit≤ tt) refl (parts_of text) (parts-are-name (codes "topics") text refl ∙ h) in ascii-split text split.ascii

pub topic_name-utf8 : (text : List ℕ) → is_topic_name text ≡ true → IsUtf8 text
topic_name-utf8 text h = IsUtf8-from_ascii text (topic_name-ascii text h)
