-- A topic that a subscription leaves, and a subscription that is detached, as the maps keep them.
use Rattle.std.proofs.Common.{◌≡◌, ◌<◌, ℕ, Bool, true, false, ◌&&◌, nat_cmp, nat_eq, List, [], ◌∷◌, Option, Some, None, MatchOption, map, refl, sym, ap, ◌∙◌, subst, if◌then◌else◌}
use Rattle.std.specs.Map.{values_of, lookup, set_value}
use Rattle.std.specs.BTreeMap.{BTreeMap, get, get_by_text, is_at}
use Rattle.std.specs.List.{AllByRecursion, AllZip}
use Rattle.std.specs.Str.{bytes_eq}
use Rattle.ps_base.proofs.Lists.{each-then, none-found}
use Rattle.ps_model.specs.Sound.{Ordered}
use Rattle.ps_tables.specs.declared.name_index.NameIndex.{NameIndex}
use Rattle.ps_tables.specs.declared.tables.KeptTopic.{KeptTopic}
use Rattle.ps_core.specs.Changing.{AreLeft, IsLeft, kept_number}
use Rattle.ps_tables.specs.Numbers.{IsNumbered}
use Rattle.ps_tables.specs.TableEdits.{HasOtherSubs, LeavesTopic, RemovesName}
use Rattle.ps_tables.proofs.numbers.Changes.{same-number, set-changes}
use Rattle.ps_tables.proofs.numbers.Numbered.{numbered-found}

zip-map : {A : Type 0} (R : A → A → Type 0) (f : A → A) (xs : List A) → AllByRecursion (λ x. R x (f x)) xs → AllZip R xs (map f xs)
zip-map R f [] h = tt
zip-map R f (x ∷ xs) h = (h.0, zip-map R f xs h.1)

-- a topic of another number stays as it is
stays : (topic : ℕ) (name : List ℕ) (y : KeptTopic) → nat_eq y.row.number topic ≡ false → IsLeft topic name y y
stays topic name y other = record { row = refl; subs = λ n. sym (ap (λ (b : Bool). if b && bytes_eq name n then None else get_by_text y.subs.numbers n) other) }

-- the topic is there
pub one-left : (topic : ℕ) (name : List ℕ) (x : KeptTopic) (subs : NameIndex) (es : List (ℕ × KeptTopic)) → IsNumbered kept_number es → Ordered (λ a b. kept_number a < kept_number b) (values_of es)
    → lookup (is_at (nat_cmp topic)) es ≡ Some x → RemovesName x.subs name subs → AreLeft topic name (values_of es) (values_of (set_value (is_at (nat_cmp topic)) es (record x { subs = subs })))
one-left topic name x subs es h o is removed =
    let put : KeptTopic → KeptTopic = λ y. record y { subs = subs } in
    subst (AreLeft topic name (values_of es)) (sym (set-changes kept_number topic put x es h o is))
    (zip-map (IsLeft topic name) (λ y. if nat_eq (kept_number y) topic then put y else y) (values_of es)
    (each-then (λ y. nat_eq (kept_number y) topic ≡ true → y ≡ x) (λ y. IsLeft topic name y (if nat_eq (kept_number y) topic then put y else y)) (values_of es) (λ y own. one y (nat_eq (kept_number y) topic) refl own)
    (same-number kept_number topic x (values_of es) o (sym (numbered-found kept_number topic es h) ∙ is))))
  where
    one : (y : KeptTopic) (b : Bool) → nat_eq (kept_number y) topic ≡ b → (nat_eq (kept_number y) topic ≡ true → y ≡ x) → IsLeft topic name y (if nat_eq (kept_number y) topic then record y { subs = subs } else y)
    one y true e own = rw (e) (record {
      row = refl;
      subs = λ n. removed n ∙ sym (λ i. if e i && bytes_eq name n then None else get_by_text (own e i).subs.numbers n);
    })
    one y false e own = rw (e) (stays topic name y e)

-- it isn't
pub none-left : (topic : ℕ) (name : List ℕ) (es : List (ℕ × KeptTopic)) → IsNumbered kept_number es → lookup (is_at (nat_cmp topic)) es ≡ None → AreLeft topic name (values_of es) (values_of es)
none-left topic name es h is =
    all (values_of es) (none-found (λ y. nat_eq (kept_number y) topic) (values_of es) (sym (numbered-found kept_number topic es h) ∙ is))
  where
    all : (ys : List KeptTopic) → AllByRecursion (λ y. nat_eq (kept_number y) topic ≡ false) ys → AreLeft topic name ys ys
    all [] a = tt
    all (y ∷ ys) a = (stays topic name y a.0, all ys a.1)

-- what a topic that a subscription leaves comes to, whether it is there or not
pub left-topics : (topic : ℕ) (name : List ℕ) (old new : BTreeMap ℕ KeptTopic) → IsNumbered kept_number old.entries → Ordered (λ a b. kept_number a < kept_number b) (values_of old.entries) → LeavesTopic old topic name new
    → AreLeft topic name (values_of old.entries) (values_of new.entries)
left-topics topic name old new h o = by (get nat_cmp old topic) refl
  where
    by : (found : Option KeptTopic) → get nat_cmp old topic ≡ found → MatchOption found (new.entries ≡ old.entries) (λ was. HasOtherSubs (λ before after. RemovesName before name after) topic was old new) → AreLeft topic name (values_of old.entries) (values_of new.entries)
    by None is same = subst (λ es. AreLeft topic name (values_of old.entries) (values_of es)) (sym same) (none-left topic name old.entries h is)
    by (Some was) is other =
        let put : ◌≡◌ {A = KeptTopic} other.topic (record was { subs = other.topic.subs }) = λ i. record { row = other.row i; subs = other.topic.subs } in
        subst (λ es. AreLeft topic name (values_of old.entries) (values_of es)) (sym (other.entries ∙ ap (set_value (is_at (nat_cmp topic)) old.entries) put))
        (one-left topic name was other.topic.subs old.entries h o is other.subs)
