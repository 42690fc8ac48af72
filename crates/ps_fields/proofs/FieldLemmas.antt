-- Fields that are taken out, and those that stay.
use Rattle.std.proofs.Common.{◌≡◌, ℕ, List, [], ◌∷◌, Bool, true, false, cond, Option, Some, string_bytes, nat_cmp, is_eq, Ordering, Less, Equal, Greater, bytes_eq, true≢false, ◌&&◌, ◌==◌, not, length, ◌↔◌, IsTrue, if◌then◌else◌, arith, refl, ap, ◌∙◌, sym}
use Rattle.std.proofs.lemmas.Map.Text.{is_eq-slice_cmp}
use Rattle.std.proofs.lemmas.Slice.Eq.{bytes_eq-Decides}
use Rattle.std.specs.Cmp.Lexicographic.{slice_cmp}
use Rattle.std.specs.Map.{remove_entry, keys_of}
use Rattle.std.specs.List.{list_all}
use Rattle.std.specs.BTreeMap.{is_at}
use Rattle.std.specs.Ordering.{match_ordering}
use Rattle.serde_json.specs.Data.{Data, Members, no_members, member}
use Rattle.serde_json.specs.Find.{get_member}
use Rattle.serde_json.specs.View.{items_view, members_view}
use Rattle.serde_json.specs.declared.value.Value.{Value}
use Rattle.serde_json.proofs.Views.{Entry}
use Rattle.ps_fields.specs.Fields.{without, all_names, has_items, has_members}

members_view-cond : (b : Bool) (es fs : List Entry) → members_view (cond b es fs) ≡ cond b (members_view es) (members_view fs)
members_view-cond true es fs = refl
members_view-cond false es fs = refl

either : (o : Ordering) (a b : Option Data) → is_eq o ≡ false → match_ordering o a b a ≡ a
either Less a b e = refl
either Equal a b e = absurd (true≢false e)
either Greater a b e = refl

pub members_view-remove_entry : (name : List ℕ) (es : List Entry) → members_view (remove_entry (is_at (λ k. slice_cmp nat_cmp name (string_bytes k))) es) ≡ without name (members_view es)
members_view-remove_entry name [] = refl
members_view-remove_entry name (e ∷ es) =
    members_view-cond (is_eq (slice_cmp nat_cmp name (string_bytes e.0))) es _
    ∙ rw (is_eq-slice_cmp name (string_bytes e.0), members_view-remove_entry name es)

-- at two texts that differ, a look-up passes over the field
skips : (q k : List ℕ) (d : Data) (ms : Members) → bytes_eq q k ≡ false → get_member q (member k d ms) ≡ get_member q ms
skips q k d ms apart = either (slice_cmp nat_cmp q k) _ _ (is_eq-slice_cmp q k ∙ apart)

differ : (xs ys : List ℕ) (b : Bool) → bytes_eq xs ys ≡ b → (xs ≡ ys → ⊥) → b ≡ false
differ xs ys true e other = absurd (other ((bytes_eq-Decides xs ys).0 e))
differ xs ys false e other = refl

-- a text that differs from a name differs from each text that is equal to the name
apart_too : (q name k : List ℕ) → bytes_eq name q ≡ false → bytes_eq name k ≡ true → bytes_eq q k ≡ false
apart_too q name k apart same =
    differ q k _ refl
    (λ e. true≢false (sym ((bytes_eq-Decides name q).1 ((bytes_eq-Decides name k).0 same ∙ sym e)) ∙ apart))

kept : (b : Bool) (q name k : List ℕ) (d : Data) (ms : Members) → bytes_eq name k ≡ b → bytes_eq name q ≡ false → get_member q (without name ms) ≡ get_member q ms
    → get_member q (if b then ms else member k d (without name ms)) ≡ get_member q (member k d ms)
kept true q name k d ms same apart later = sym (skips q k d ms (apart_too q name k apart same))
kept false q name k d ms other apart later = ap (λ r. match_ordering (slice_cmp nat_cmp q k) r (Some d) r) later

-- taking a field out leaves the others
pub get_member-without : (q name : List ℕ) (ms : Members) → bytes_eq name q ≡ false → get_member q (without name ms) ≡ get_member q ms
get_member-without q name no_members apart = refl
get_member-without q name (member k d ms) apart = kept _ q name k d ms refl apart (get_member-without q name ms apart)

pub all_names-members_view : (test : List ℕ → Bool) (es : List Entry) → all_names test (members_view es) ≡ list_all (λ k. test (string_bytes k)) (keys_of es)
all_names-members_view test [] = refl
all_names-members_view test (e ∷ es) = ap (λ b. test (string_bytes e.0) && b) (all_names-members_view test es)

pub has_items-items_view : (n : ℕ) (vs : List Value) → n ≡ length vs → not (n == 0) ≡ has_items (items_view vs)
has_items-items_view n [] is = rw is
has_items-items_view n (v ∷ vs) is = grind (arith, is)

-- a map answers that it is empty exactly where its object has no member
pub has_members-members_view : (empty : Bool) (es : List Entry) → IsTrue empty ↔ (length es ≡ 0) → not empty ≡ has_members (members_view es)
has_members-members_view true [] is = refl
has_members-members_view false [] is = absurd (true≢false (sym (is.1 refl)))
has_members-members_view true (e ∷ es) is = let none : length (e ∷ es) ≡ 0 = is.0 refl in absurd (omega arith)
has_members-members_view false (e ∷ es) is = refl
