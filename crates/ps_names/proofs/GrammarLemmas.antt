-- A text is a name exactly if its parts between the slashes are those of a name.
use Rattle.std.proofs.Common.{◌≡◌, ℕ, Bool, true, false, ◌&&◌, ◌==◌, ◌⊎◌, not, cond, List, [], ◌∷◌, ◌++◌, codes, refl, sym, ◌∙◌, ap, inl, inr, arith}
use Rattle.std.specs.List.{list_all, slice_split, onto_first, join_with_byte}
use Rattle.std.specs.Str.{bytes_eq}
use Rattle.std.proofs.lemmas.Bool.{and_parts, and_from, or_cases, or_left, or_right, or_from, or_parts, false≢true, both_ways, false_from_ne_true}
use Rattle.std.proofs.lemmas.Bool.Decides.{nat_tests}
use Rattle.std.proofs.lemmas.List.{append_assoc}
use Rattle.std.proofs.lemmas.List.Splits.{join_with_byte-slice_split}
use Rattle.std.proofs.lemmas.Slice.Eq.{bytes_eq-Decides}
use Rattle.std.specs.Char.{is_ascii_lowercase, is_ascii_alphabetic}
use Rattle.std.specs.Prelude.{nat_eq, nat_le, length}
use Rattle.std.specs.List.{starts_with}
use Rattle.ps_names.specs.Names.{is_project_byte, is_id_byte, starts_with_byte, is_project, is_id, is_joined, is_name_of, parts_of}
use Rattle.ps_names.specs.Parts.{has_slash, is_parts_of}

abbrev is_slash : ℕ → Bool
is_slash b = b == 47

-- a text cut in two
record Cut (front rest : List ℕ → Bool) (text : List ℕ) : Type 0 where
  first : List ℕ
  second : List ℕ
  text_is : text ≡ first ++ second
  front_is : front first ≡ true
  rest_is : rest second ≡ true

cut : (front rest : List ℕ → Bool) (text : List ℕ) → is_joined front rest text ≡ true → Cut front rest text
cut front rest [] h = let p = and_parts (front []) (rest []) h in record { first = []; second = []; text_is = refl; front_is = p.0; rest_is = p.1 }
cut front rest (b ∷ bytes) h = at (or_cases (front [] && rest (b ∷ bytes)) (is_joined (λ more. front (b ∷ more)) rest bytes) h) (cut (λ more. front (b ∷ more)) rest bytes)
  where
    at : ((front [] && rest (b ∷ bytes)) ≡ true) ⊎ (is_joined (λ more. front (b ∷ more)) rest bytes ≡ true) → (is_joined (λ more. front (b ∷ more)) rest bytes ≡ true → Cut (λ more. front (b ∷ more)) rest bytes) → Cut front rest (b ∷ bytes)
    at (inl here) later = let p = and_parts (front []) (rest (b ∷ bytes)) here in record { first = []; second = b ∷ bytes; text_is = refl; front_is = p.0; rest_is = p.1 }
    at (inr there) later = let c = later there in record { first = b ∷ c.first; second = c.second; text_is = ap (λ more. b ∷ more) c.text_is; front_is = c.front_is; rest_is = c.rest_is }

joined : (front rest : List ℕ → Bool) (first second : List ℕ) → front first ≡ true → rest second ≡ true → is_joined front rest (first ++ second) ≡ true
joined front rest [] [] f r = and_from (front []) (rest []) f r
joined front rest [] (b ∷ bytes) f r = or_left (front [] && rest (b ∷ bytes)) (is_joined (λ more. front (b ∷ more)) rest bytes) (and_from (front []) (rest (b ∷ bytes)) f r)
joined front rest (b ∷ first) second f r = or_right (front [] && rest (b ∷ (first ++ second))) (is_joined (λ more. front (b ∷ more)) rest (first ++ second)) (joined (λ more. front (b ∷ more)) rest first second f r)

-- what has no slash is one part
split-one : (text : List ℕ) → has_slash text ≡ false → slice_split is_slash text ≡ text ∷ []
split-one [] h = refl
split-one (x ∷ xs) h =
    let p = or_parts (is_slash x) (has_slash xs) h in
    ap (λ b. cond b ([] ∷ slice_split is_slash xs) (onto_first x (slice_split is_slash xs))) p.0 ∙ ap (onto_first x) (split-one xs p.1)

split-at : (first rest : List ℕ) → has_slash first ≡ false → slice_split is_slash (first ++ (47 ∷ rest)) ≡ first ∷ slice_split is_slash rest
split-at [] rest h = refl
split-at (x ∷ xs) rest h =
    let p = or_parts (is_slash x) (has_slash xs) h in
    ap (λ b. cond b ([] ∷ slice_split is_slash (xs ++ (47 ∷ rest))) (onto_first x (slice_split is_slash (xs ++ (47 ∷ rest))))) p.0 ∙ ap (onto_first x) (split-at xs rest p.1)

-- the bytes of a project and of an id are no slashes
no-slash : (test : ℕ → Bool) → ((b : ℕ) → test b ≡ true → is_slash b ≡ false) → (xs : List ℕ) → list_all test xs ≡ true → has_slash xs ≡ false
no-slash test k [] h = refl
no-slash test k (x ∷ xs) h = let p = and_parts (test x) (list_all test xs) h in or_from (is_slash x) (has_slash xs) (k x p.0) (no-slash test k xs p.1)

project_byte-no_slash : (b : ℕ) → is_project_byte b ≡ true → is_slash b ≡ false
project_byte-no_slash b h = grind (arith, nat_tests)

id_byte-no_slash : (b : ℕ) → is_id_byte b ≡ true → is_slash b ≡ false
id_byte-no_slash b h = grind (arith, nat_tests)

project-no_slash : (part : List ℕ) → is_project part ≡ true → has_slash part ≡ false
project-no_slash part h = no-slash is_project_byte project_byte-no_slash part (and_parts (starts_with_byte is_ascii_lowercase part && nat_le (length part) 63) (list_all is_project_byte part) h).1

id-no_slash : (part : List ℕ) → is_id part ≡ true → has_slash part ≡ false
id-no_slash part h = no-slash is_id_byte id_byte-no_slash part
    (and_parts (starts_with_byte is_ascii_alphabetic part && nat_le 3 (length part) && nat_le (length part) 255) (list_all is_id_byte part)
    (and_parts (starts_with_byte is_ascii_alphabetic part && nat_le 3 (length part) && nat_le (length part) 255 && list_all is_id_byte part) (not (starts_with nat_eq part (codes "goog"))) h).0).1

-- a name, as its parts stand in it
name-text : (kind project id : List ℕ) → codes "projects/" ++ (project ++ ((codes "/" ++ (kind ++ codes "/")) ++ id)) ≡ codes "projects" ++ (47 ∷ (project ++ (47 ∷ (kind ++ (47 ∷ id)))))
name-text kind project id = ap (λ rest. codes "projects" ++ (47 ∷ (project ++ (47 ∷ rest)))) (append_assoc kind (47 ∷ []) id)

-- a name is cut into its parts
name-parts : (kind text : List ℕ) → has_slash kind ≡ false → is_name_of kind text ≡ true → is_parts_of kind (parts_of text) ≡ true
name-parts kind text plain h =
    let one = cut (bytes_eq (codes "projects/")) (is_joined is_project (is_joined (bytes_eq (codes "/" ++ (kind ++ codes "/"))) is_id)) text h in
    let two = cut is_project (is_joined (bytes_eq (codes "/" ++ (kind ++ codes "/"))) is_id) one.second one.rest_is in
    let three = cut (bytes_eq (codes "/" ++ (kind ++ codes "/"))) is_id two.second two.rest_is in
    let front : codes "projects/" ≡ one.first = (bytes_eq-Decides (codes "projects/") one.first).0 one.front_is in
    let middle : (codes "/" ++ (kind ++ codes "/")) ≡ three.first = (bytes_eq-Decides (codes "/" ++ (kind ++ codes "/")) three.first).0 three.front_is in
    let whole : text ≡ codes "projects" ++ (47 ∷ (two.first ++ (47 ∷ (kind ++ (47 ∷ three.second))))) =
    one.text_is ∙ ap (λ first. first ++ one.second) (sym front) ∙ ap (λ rest. codes "projects/" ++ rest) (two.text_is ∙ ap (λ rest. two.first ++ rest) (three.text_is ∙ ap (λ first. first ++ three.second) (sym middle)))
    ∙ name-text kind two.first three.second in
    let parts : parts_of text ≡ codes "projects" ∷ (two.first ∷ (kind ∷ (three.second ∷ []))) =
    ap parts_of whole ∙ split-at (codes "projects") (two.first ++ (47 ∷ (kind ++ (47 ∷ three.second)))) refl
    ∙ ap (λ rest. codes "projects" ∷ rest) (split-at two.first (kind ++ (47 ∷ three.second)) (project-no_slash two.first two.front_is)
    ∙ ap (λ rest. two.first ∷ rest) (split-at kind three.second plain ∙ ap (λ rest. kind ∷ rest) (split-one three.second (id-no_slash three.second three.rest_is)))) in
    ap (is_parts_of kind) parts
    ∙ and_from (bytes_eq (codes "projects") (codes "projects") && is_project two.first && bytes_eq kind kind) (is_id three.second)
    (and_from (bytes_eq (codes "projects") (codes "projects") && is_project two.first) (bytes_eq kind kind) (and_from (bytes_eq (codes "projects") (codes "projects")) (is_project two.first) refl two.front_is) ((bytes_eq-Decides kind kind).1 refl))
    three.rest_is

-- what has the parts of a name is one
parts-name : (kind text : List ℕ) (parts : List (List ℕ)) → parts_of text ≡ parts → is_parts_of kind parts ≡ true → is_name_of kind text ≡ true
parts-name kind text [] same h = absurd (false≢true h)
parts-name kind text (a ∷ []) same h = absurd (false≢true h)
parts-name kind text (a ∷ b ∷ []) same h = absurd (false≢true h)
parts-name kind text (a ∷ b ∷ c ∷ []) same h = absurd (false≢true h)
parts-name kind text (a ∷ b ∷ c ∷ d ∷ e ∷ parts) same h = absurd (false≢true h)
parts-name kind text (projects ∷ project ∷ named ∷ id ∷ []) same h =
    let three = and_parts (bytes_eq projects (codes "projects") && is_project project && bytes_eq named kind) (is_id id) h in
    let two = and_parts (bytes_eq projects (codes "projects") && is_project project) (bytes_eq named kind) three.0 in
    let one = and_parts (bytes_eq projects (codes "projects")) (is_project project) two.0 in
    let first : projects ≡ codes "projects" = (bytes_eq-Decides projects (codes "projects")).0 one.0 in
    let third : named ≡ kind = (bytes_eq-Decides named kind).0 two.1 in
    let whole : text ≡ codes "projects/" ++ (project ++ ((codes "/" ++ (kind ++ codes "/")) ++ id)) =
    sym (join_with_byte-slice_split 47 text) ∙ ap (join_with_byte 47) same ∙ (λ i. first i ++ (47 ∷ (project ++ (47 ∷ (third i ++ (47 ∷ id)))))) ∙ sym (name-text kind project id) in
    ap (is_name_of kind) whole
    ∙ joined (bytes_eq (codes "projects/")) (is_joined is_project (is_joined (bytes_eq (codes "/" ++ (kind ++ codes "/"))) is_id)) (codes "projects/") (project ++ ((codes "/" ++ (kind ++ codes "/")) ++ id)) refl
    (joined is_project (is_joined (bytes_eq (codes "/" ++ (kind ++ codes "/"))) is_id) project ((codes "/" ++ (kind ++ codes "/")) ++ id) one.1
    (joined (bytes_eq (codes "/" ++ (kind ++ codes "/"))) is_id (codes "/" ++ (kind ++ codes "/")) id ((bytes_eq-Decides (codes "/" ++ (kind ++ codes "/")) (codes "/" ++ (kind ++ codes "/"))).1 refl) three.1))

-- both ways
pub parts-are-name : (kind text : List ℕ) → has_slash kind ≡ false → is_parts_of kind (parts_of text) ≡ is_name_of kind text
parts-are-name kind text plain = at (is_parts_of kind (parts_of text)) refl
  where
    at : (b : Bool) → is_parts_of kind (parts_of text) ≡ b → b ≡ is_name_of kind text
    at true e = sym (parts-name kind text (parts_of text) refl e)
    at false e = sym (false_from_ne_true (is_name_of kind text) (λ is. both_ways (is_parts_of kind (parts_of text)) e (name-parts kind text plain is)))
