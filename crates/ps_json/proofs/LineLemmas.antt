-- A line whose fields are taken one by one.
use Rattle.std.proofs.Common.{◌≡◌, ℕ, List, Bool, true, false, if◌then◌else◌, Some, None, codes, option_and_then, refl, ap, ◌∙◌, sym}
use Rattle.std.specs.Str.{IsUtf8, is_utf8}
use Rattle.std.proofs.lemmas.Str.{IsUtf8-from_is_utf8, is_utf8-from_IsUtf8}
use Rattle.serde_json.specs.Data.{Data, Members}
use Rattle.serde_json.specs.Find.{get_member, as_str, as_object}
use Rattle.serde_json.specs.Read.{read}
use Rattle.ps_fields.specs.Fields.{all_names, without, whole_field, text_field}
use Rattle.ps_fields.proofs.FieldLemmas.{get_member-without}
use Rattle.ps_json.specs.Line.{is_line_field, line_of, line_of_members, line_with, body_or_empty}

abbrev pub after_at : Members → Members
after_at ms = without (codes "at") ms

abbrev pub after_verb : Members → Members
after_verb ms = without (codes "verb") (after_at ms)

abbrev pub after_path : Members → Members
after_path ms = without (codes "path") (after_verb ms)

verb_stays : (ms : Members) → get_member (codes "verb") (after_at ms) ≡ get_member (codes "verb") ms
verb_stays ms = get_member-without (codes "verb") (codes "at") ms refl

path_stays : (ms : Members) → get_member (codes "path") (after_verb ms) ≡ get_member (codes "path") ms
path_stays ms = get_member-without (codes "path") (codes "verb") (after_at ms) refl ∙ get_member-without (codes "path") (codes "at") ms refl

body_stays : (ms : Members) → get_member (codes "body") (after_path ms) ≡ get_member (codes "body") ms
body_stays ms =
    get_member-without (codes "body") (codes "path") (after_verb ms) refl
    ∙ (get_member-without (codes "body") (codes "verb") (after_at ms) refl ∙ get_member-without (codes "body") (codes "at") ms refl)

pub no_verb : (ms : Members) (at : ℕ) → all_names is_line_field ms ≡ true → whole_field (codes "at") ms ≡ Some at
    → text_field (codes "verb") (after_at ms) ≡ None → line_of_members ms ≡ None
no_verb ms at only is none = rw (only, is, sym (ap (option_and_then as_str) (verb_stays ms)) ∙ none)

pub no_path : (ms : Members) (at : ℕ) (verb : List ℕ) → all_names is_line_field ms ≡ true → whole_field (codes "at") ms ≡ Some at
    → text_field (codes "verb") (after_at ms) ≡ Some verb → text_field (codes "path") (after_verb ms) ≡ None → line_of_members ms ≡ None
no_path ms at verb only is has none =
    rw (only, is, sym (ap (option_and_then as_str) (verb_stays ms)) ∙ has, sym (ap (option_and_then as_str) (path_stays ms)) ∙ none)

pub whole_line : (ms : Members) (at : ℕ) (verb path : List ℕ) (body : Data) → all_names is_line_field ms ≡ true → whole_field (codes "at") ms ≡ Some at
    → text_field (codes "verb") (after_at ms) ≡ Some verb → text_field (codes "path") (after_verb ms) ≡ Some path → body ≡ body_or_empty (get_member (codes "body") (after_path ms))
    → Some (line_with at verb path body) ≡ line_of_members ms
whole_line ms at verb path body only is has goes holds =
    rw (only, is, sym (ap (option_and_then as_str) (verb_stays ms)) ∙ has, sym (ap (option_and_then as_str) (path_stays ms)) ∙ goes)
    (ap (λ d. Some (line_with at verb path d)) (holds ∙ ap body_or_empty (body_stays ms)))

-- bytes that are JSON
pub line_of_read : (bytes : List ℕ) (d : Data) → IsUtf8 bytes → read bytes ≡ Some d → line_of bytes ≡ option_and_then line_of_members (as_object d)
line_of_read bytes d utf8 is = rw (is_utf8-from_IsUtf8 bytes utf8, is)

refused_by : (b : Bool) (bytes : List ℕ) → is_utf8 bytes ≡ b → (IsUtf8 bytes → read bytes ≡ None) → (if b then option_and_then line_of_members (option_and_then as_object (read bytes)) else None) ≡ None
refused_by true bytes utf8 none = rw (none (IsUtf8-from_is_utf8 bytes utf8))
refused_by false bytes utf8 none = refl

-- bytes that are none
pub line_of_refused : (bytes : List ℕ) → (IsUtf8 bytes → read bytes ≡ None) → line_of bytes ≡ None
line_of_refused bytes none = refused_by _ bytes refl none
