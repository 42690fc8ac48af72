-- The names of a project's resources of a kind are those of the kind with the project's front.
use Rattle.std.proofs.Common.{◌≡◌, ◌≢◌, ℕ, Bool, true, false, ◌&&◌, ◌==◌, nat_eq, List, [], ◌∷◌, ◌++◌, codes, refl, sym, ap, ◌∙◌, arith}
use Rattle.std.specs.List.{list_all, starts_with, join_with_byte}
use Rattle.std.specs.Str.{bytes_eq}
use Rattle.std.specs.Char.{is_ascii_lowercase}
use Rattle.std.specs.Prelude.{nat_le, length, unwrap_or, slice_get}
use Rattle.std.specs.Cmp.Lexicographic.{slice_cmp}
use Rattle.std.specs.Ordering.{is_lt, nat_cmp, ordering_then}
use Rattle.std.specs.declared.cmp.Ordering.TheVariants.{Equal}
use Rattle.std.proofs.lemmas.Bool.{and_parts, and_from, false≢true, both_ways, false_from_ne_true, eqb-true, eq-eqb, or_parts, or_from}
use Rattle.std.proofs.lemmas.Bool.Decides.{nat_tests}
use Rattle.std.proofs.lemmas.List.{append_assoc}
use Rattle.std.proofs.lemmas.List.Splits.{join_with_byte-slice_split}
use Rattle.std.proofs.lemmas.Slice.Eq.{bytes_eq-Decides}
use Rattle.ps_base.specs.Keys.{is_below}
use Rattle.ps_core.specs.Pages.{front_of}
use Rattle.ps_names.specs.Names.{is_project_byte, starts_with_byte, is_project, is_id, is_name_of, parts_of, project_part}
use Rattle.ps_names.specs.Parts.{has_slash, is_parts_of}
use Rattle.ps_names.proofs.GrammarLemmas.{parts-are-name}
use Rattle.ps_tables.proofs.names.Paging.{begins, starts-begins}

-- ---- names by their parts

record IsNamed (kind text : List ℕ) : Type 0 where
  project : List ℕ
  id : List ℕ
  text_is : text ≡ codes "projects/" ++ (project ++ (47 ∷ (kind ++ (47 ∷ id))))
  part : project_part text ≡ project
  plain : has_slash project ≡ false
  some : id ≢ []

no-slash : (xs : List ℕ) → list_all is_project_byte xs ≡ true → has_slash xs ≡ false
no-slash [] h = refl
no-slash (x ∷ xs) h = let p = and_parts (is_project_byte x) (list_all is_project_byte xs) h in or_from (x == 47) (has_slash xs) (plain x p.0) (no-slash xs p.1)
  where
    plain : (b : ℕ) → is_project_byte b ≡ true → (b == 47) ≡ false
    plain b h = grind (arith, nat_tests)

project-plain : (part : List ℕ) → is_project part ≡ true → has_slash part ≡ false
project-plain part h = no-slash part (and_parts (starts_with_byte is_ascii_lowercase part && nat_le (length part) 63) (list_all is_project_byte part) h).1

id-some : (id : List ℕ) → is_id id ≡ true → id ≢ []
id-some [] h e = absurd (false≢true h)
id-some (x ∷ xs) h e = cc (e)

named : (kind text : List ℕ) → has_slash kind ≡ false → is_name_of kind text ≡ true → IsNamed kind text
named kind text plain h = by (parts_of text) refl (parts-are-name kind text plain ∙ h)
  where
    by : (parts : List (List ℕ)) → parts_of text ≡ parts → is_parts_of kind parts ≡ true → IsNamed kind text
    by [] same h = absurd (false≢true h)
    by (a ∷ []) same h = absurd (false≢true h)
    by (a ∷ b ∷ []) same h = absurd (false≢true h)
    by (a ∷ b ∷ c ∷ []) same h = absurd (false≢true h)
    by (a ∷ b ∷ c ∷ d ∷ e ∷ parts) same h = absurd (false≢true h)
    by (projects ∷ project ∷ word ∷ id ∷ []) same h =
        let three = and_parts (bytes_eq projects (codes "projects") && is_project project && bytes_eq word kind) (is_id id) h in
        let two = and_parts (bytes_eq projects (codes "projects") && is_project project) (bytes_eq word kind) three.0 in
        let one = and_parts (bytes_eq projects (codes "projects")) (is_project project) two.0 in
        let first : projects ≡ codes "projects" = (bytes_eq-Decides projects (codes "projects")).0 one.0 in
        let third : word ≡ kind = (bytes_eq-Decides word kind).0 two.1 in
        record {
          project = project;
          id = id;
          text_is = sym (join_with_byte-slice_split 47 text) ∙ ap (join_with_byte 47) same ∙ (λ i. first i ++ (47 ∷ (project ++ (47 ∷ (third i ++ (47 ∷ id))))));
          part = ap (λ parts. unwrap_or (slice_get parts 1) []) same;
          plain = project-plain project one.1;
          some = id-some id three.1;
        }

-- ---- fronts of names

-- one project's front stands before another's name only if it is the same project
front-project : (p q more rest : List ℕ) → has_slash p ≡ false → has_slash q ≡ false → begins (p ++ (47 ∷ more)) (q ++ (47 ∷ rest)) ≡ true → p ≡ q
front-project [] [] more rest hp hq h = refl
front-project [] (y ∷ q) more rest hp hq h =
    let parts = and_parts (nat_eq 47 y) (begins more (q ++ (47 ∷ rest))) h in
    let plain = or_parts (y == 47) (has_slash q) hq in
    absurd (both_ways (y == 47) plain.0 (eq-eqb y 47 (sym (eqb-true 47 y parts.0))))
front-project (x ∷ p) [] more rest hp hq h =
    let parts = and_parts (nat_eq x 47) (begins (p ++ (47 ∷ more)) rest) h in
    let plain = or_parts (x == 47) (has_slash p) hp in
    absurd (both_ways (x == 47) plain.0 parts.0)
front-project (x ∷ p) (y ∷ q) more rest hp hq h =
    let parts = and_parts (nat_eq x y) (begins (p ++ (47 ∷ more)) (q ++ (47 ∷ rest))) h in
    λ i. eqb-true x y parts.0 i ∷ front-project p q more rest (or_parts (x == 47) (has_slash p) hp).1 (or_parts (y == 47) (has_slash q) hq).1 parts.1 i

begins-own : (front more : List ℕ) → begins front (front ++ more) ≡ true
begins-own [] more = refl
begins-own (x ∷ front) more = and_from (nat_eq x x) (begins front (front ++ more)) (eq-eqb x x refl) (begins-own front more)

pub below-longer : (front more : List ℕ) → more ≢ [] → is_below front (front ++ more) ≡ true
below-longer [] [] ne = absurd (ne refl)
below-longer [] (x ∷ more) ne = refl
below-longer (x ∷ front) more ne = ap (λ o. is_lt (ordering_then o (slice_cmp nat_cmp front (front ++ more)))) (same x) ∙ below-longer front more ne
  where
    same : (x : ℕ) → nat_cmp x x ≡ Equal
    same x = grind (arith, nat_tests)

-- A name of a kind has a project's front, and is longer, exactly if it is of this project.
pub in-project : (kind project name : List ℕ) → has_slash kind ≡ false → is_project project ≡ true → is_name_of kind name ≡ true
    → (starts_with nat_eq name (front_of kind project) && is_below (front_of kind project) name) ≡ bytes_eq (project_part name) project
in-project kind project name plain good h =
    let n = named kind name plain h in
    let whole : front_of kind n.project ++ n.id ≡ name = joined n.project n.id ∙ sym n.text_is in
    by n whole (bytes_eq (project_part name) project) refl
  where
    joined : (p id : List ℕ) → front_of kind p ++ id ≡ codes "projects/" ++ (p ++ (47 ∷ (kind ++ (47 ∷ id))))
    joined p id = ap (λ rest. codes "projects/" ++ rest) (append_assoc p (47 ∷ (kind ++ codes "/")) id ∙ ap (λ rest. p ++ (47 ∷ rest)) (append_assoc kind (47 ∷ []) id))

    by : (n : IsNamed kind name) → front_of kind n.project ++ n.id ≡ name → (b : Bool) → bytes_eq (project_part name) project ≡ b → (starts_with nat_eq name (front_of kind project) && is_below (front_of kind project) name) ≡ b
    by n whole true is =
        let same : n.project ≡ project = sym n.part ∙ (bytes_eq-Decides (project_part name) project).0 is in
        let text : front_of kind project ++ n.id ≡ name = ap (λ p. front_of kind p ++ n.id) (sym same) ∙ whole in
        and_from (starts_with nat_eq name (front_of kind project)) (is_below (front_of kind project) name)
        (starts-begins (front_of kind project) name ∙ ap (begins (front_of kind project)) (sym text) ∙ begins-own (front_of kind project) n.id)
        (ap (is_below (front_of kind project)) (sym text) ∙ below-longer (front_of kind project) n.id n.some)
    by n whole false is =
        false_from_ne_true (starts_with nat_eq name (front_of kind project) && is_below (front_of kind project) name) (λ both.
        let start = (and_parts (starts_with nat_eq name (front_of kind project)) (is_below (front_of kind project) name) both).0 in
        let front : begins (front_of kind project) (codes "projects/" ++ (n.project ++ (47 ∷ (kind ++ (47 ∷ n.id))))) ≡ true = ap (begins (front_of kind project)) (sym n.text_is) ∙ sym (starts-begins (front_of kind project) name) ∙ start in
        let same : project ≡ n.project = front-project project n.project (kind ++ codes "/") (kind ++ (47 ∷ n.id)) (project-plain project good) n.plain front in
        both_ways (bytes_eq (project_part name) project) is ((bytes_eq-Decides (project_part name) project).1 (n.part ∙ sym same)))
