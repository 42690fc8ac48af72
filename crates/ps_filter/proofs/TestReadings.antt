-- The readers of single tokens and of tests, against the grammar.
use Rattle.std.proofs.Common.{◌≡◌, ℕ, ◌⊎◌, inl, inr, Bool, true, false, List, [], ◌∷◌, ◌++◌, ap, refl, ◌∙◌, codes, eqb-true}
use Rattle.std.proofs.lemmas.Slice.Eq.{bytes_eq-Decides}
use Rattle.ps_base.specs.declared.reason.Reason.TheVariants.{FilterSyntax}
use Rattle.ps_filter.specs.declared.token.Token.{Token}
use Rattle.ps_filter.specs.declared.token.Token.TheVariants.{Word, Quoted, Symbol, Differs, Strange, End}
use Rattle.ps_filter.specs.declared.token.Placed.{Placed}
use Rattle.ps_filter.specs.Tokens.{place}
use Rattle.ps_filter.specs.Filters.{Tree, Has, Equals, Begins, Negated, Read, Found, Fails, then_read, is_word, is_mark, is_differs, one_token, one_key, one_text, comparison, attribute_test, prefix_test, simple_test}
use Rattle.ps_filter.specs.Grammar.{IsKey, IsTest, is_there, is_value, is_no_value, is_front}
use Rattle.ps_filter.proofs.Reading.{is_last, IsLanguage, Reads, InTurn, reads_in_turn, reads_head, reads_fail, reads_none, NothingMore, reads_nothing, reads_wider}

pub decided : (b : Bool) → (b ≡ true) ⊎ (b ≡ false)
decided true = inl refl
decided false = inr refl

pub same_word : (word : List ℕ) (token : Token) → is_word word token ≡ true → token ≡ Word word
same_word word (Word own) is = ap (λ (x : List ℕ). Word x) ((bytes_eq-Decides own word).0 is)
same_word word (Quoted text) is = cc
same_word word (Symbol b) is = cc
same_word word Differs is = cc
same_word word Strange is = cc
same_word word End is = cc

pub same_mark : (b : ℕ) (token : Token) → is_mark b token ≡ true → token ≡ Symbol b
same_mark b (Symbol own) is = ap (λ (x : ℕ). Symbol x) (eqb-true own b is)
same_mark b (Word word) is = cc
same_mark b (Quoted text) is = cc
same_mark b Differs is = cc
same_mark b Strange is = cc
same_mark b End is = cc

same_differs : (token : Token) → is_differs token ≡ true → token ≡ Differs
same_differs Differs is = refl
same_differs (Word word) is = cc
same_differs (Quoted text) is = cc
same_differs (Symbol b) is = cc
same_differs Strange is = cc
same_differs End is = cc

-- one token of this form
abbrev pub OneToken : Token → Bool → List Placed → Unit {0} → Type 0
OneToken form mixing own u = (t : Placed) × (own ≡ t ∷ []) × (t.token ≡ form)

abbrev OneKey : Bool → List Placed → List ℕ → Type 0
OneKey mixing own key = (t : Placed) × (own ≡ t ∷ []) × IsKey t.token key

abbrev OneText : Bool → List Placed → List ℕ → Type 0
OneText mixing own text = (t : Placed) × (own ≡ t ∷ []) × (t.token ≡ Quoted text)

pub token_language : (form : Token) → IsLanguage (OneToken form)
token_language form = record { has = (place 0 form ∷ [], tt, (place 0 form, refl, refl)); loosens = λ own a within. within }

key_language : IsLanguage OneKey
key_language = record { has = (place 0 (Word []) ∷ [], [], (place 0 (Word []), refl, inl refl)); loosens = λ own a within. within }

text_language : IsLanguage OneText
text_language = record { has = (place 0 (Quoted []) ∷ [], [], (place 0 (Quoted []), refl, refl)); loosens = λ own a within. within }

pub nothing_language : {A : Type 0} (a : A) → IsLanguage (NothingMore a)
nothing_language a = record { has = ([], a, (refl, refl)); loosens = λ own a within. within }

module _ (test : Token → Bool) (form : Token) (only : (token : Token) → test token ≡ true → token ≡ form) where
  passes_token : (t : Placed) → test t.token ≡ true → (rest : List Placed) → one_token test (t ∷ rest) ≡ Found tt rest
  passes_token t yes_is rest = rw yes_is refl

  pub fails_token : (t : Placed) → test t.token ≡ false → (rest : List Placed) → one_token test (t ∷ rest) ≡ Fails (FilterSyntax t.at)
  fails_token t no_is rest = rw no_is refl

  module _ (plain : is_last form ≡ false) where
    reads_decided : (t : Placed) (rest : List Placed) → (test t.token ≡ true) ⊎ (test t.token ≡ false) → Reads (one_token test) (OneToken form) (t ∷ rest)
    reads_decided t rest (inl is) =
        reads_head (one_token test) (OneToken form) (λ (ts : List Placed). Found tt ts) (NothingMore tt) t (passes_token t is)
        (λ mixing own a within. (t, ap (λ (x : List Placed). t ∷ x) within.0, only t.token is))
        (rw (only t.token is) plain) rest (reads_nothing tt rest)
    reads_decided t rest (inr is) = reads_fail (one_token test) (OneToken form) t (fails_token t is) (token_language form).has rest

    pub reads_token : (ts : List Placed) → Reads (one_token test) (OneToken form) ts
    reads_token [] = reads_none (one_token test) (OneToken form) (FilterSyntax 0) refl
    reads_token (t ∷ rest) = reads_decided t rest (decided (test t.token))

pub reads_word : (word : List ℕ) (ts : List Placed) → Reads (one_token (is_word word)) (OneToken (Word word)) ts
reads_word word = reads_token (is_word word) (Word word) (same_word word) refl

pub reads_mark : (b : ℕ) (ts : List Placed) → Reads (one_token (is_mark b)) (OneToken (Symbol b)) ts
reads_mark b = reads_token (is_mark b) (Symbol b) (same_mark b) refl

-- a token that is found to be this value
module _ (R : List Placed → Read (List ℕ)) (L : Bool → List Placed → List ℕ → Type 0) (t : Placed) (value : List ℕ) (goes : (rest : List Placed) → R (t ∷ rest) ≡ Found value rest) (within : (mixing : Bool) → L mixing (t ∷ []) value) where
  reads_value : is_last t.token ≡ false → (rest : List Placed) → Reads R L (t ∷ rest)
  reads_value plain rest =
      reads_head R L (λ (ts : List Placed). Found value ts) (NothingMore value) t goes
      (λ mixing own a inside. rw (inside.0, inside.1) (within mixing)) plain rest (reads_nothing value rest)

reads_key_at : (at : ℕ) (token : Token) (rest : List Placed) → Reads one_key OneKey (place at token ∷ rest)
reads_key_at at (Word word) rest = reads_value one_key OneKey (place at (Word word)) word (λ rest. refl) (λ mixing. (place at (Word word), refl, inl refl)) refl rest
reads_key_at at (Quoted text) rest = reads_value one_key OneKey (place at (Quoted text)) text (λ rest. refl) (λ mixing. (place at (Quoted text), refl, inr refl)) refl rest
reads_key_at at (Symbol b) rest = reads_fail one_key OneKey (place at (Symbol b)) (λ rest. refl) key_language.has rest
reads_key_at at Differs rest = reads_fail one_key OneKey (place at Differs) (λ rest. refl) key_language.has rest
reads_key_at at Strange rest = reads_fail one_key OneKey (place at Strange) (λ rest. refl) key_language.has rest
reads_key_at at End rest = reads_fail one_key OneKey (place at End) (λ rest. refl) key_language.has rest

reads_key : (ts : List Placed) → Reads one_key OneKey ts
reads_key [] = reads_none one_key OneKey (FilterSyntax 0) refl
reads_key (t ∷ rest) = reads_key_at t.at t.token rest

reads_text_at : (at : ℕ) (token : Token) (rest : List Placed) → Reads one_text OneText (place at token ∷ rest)
reads_text_at at (Quoted text) rest = reads_value one_text OneText (place at (Quoted text)) text (λ rest. refl) (λ mixing. (place at (Quoted text), refl, refl)) refl rest
reads_text_at at (Word word) rest = reads_fail one_text OneText (place at (Word word)) (λ rest. refl) text_language.has rest
reads_text_at at (Symbol b) rest = reads_fail one_text OneText (place at (Symbol b)) (λ rest. refl) text_language.has rest
reads_text_at at Differs rest = reads_fail one_text OneText (place at Differs) (λ rest. refl) text_language.has rest
reads_text_at at Strange rest = reads_fail one_text OneText (place at Strange) (λ rest. refl) text_language.has rest
reads_text_at at End rest = reads_fail one_text OneText (place at End) (λ rest. refl) text_language.has rest

reads_text : (ts : List Placed) → Reads one_text OneText ts
reads_text [] = reads_none one_text OneText (FilterSyntax 0) refl
reads_text (t ∷ rest) = reads_text_at t.at t.token rest

-- behind `attributes`, a point and a key
abbrev BehindKey : List ℕ → Bool → List Placed → Tree → Type 0
BehindKey key mixing own tree = (attributes dot k : Placed) → attributes.token ≡ Word (codes "attributes") → dot.token ≡ Symbol 46 → IsKey k.token key → IsTest (attributes ∷ dot ∷ k ∷ own) tree

-- behind `attributes`
abbrev BehindAttributes : Bool → List Placed → Tree → Type 0
BehindAttributes mixing own tree = (attributes : Placed) → attributes.token ≡ Word (codes "attributes") → IsTest (attributes ∷ own) tree

-- behind `hasPrefix`
abbrev BehindPrefix : Bool → List Placed → Tree → Type 0
BehindPrefix mixing own tree = (prefix : Placed) → prefix.token ≡ Word (codes "hasPrefix") → IsTest (prefix ∷ own) tree

key_compared : (key : List ℕ) → IsLanguage (BehindKey key)
key_compared key = record {
  has = (place 0 (Symbol 61) ∷ place 0 (Quoted []) ∷ [], Equals key [], λ attributes dot k named points keyed. is_value attributes dot k (place 0 (Symbol 61)) (place 0 (Quoted [])) named points keyed refl refl);
  loosens = λ own a within. within;
}

module _ (key : List ℕ) where
  abbrev value_then : (List ℕ → Tree) → List Placed → Read Tree
  value_then made ts = then_read (one_text ts) (λ value behind. Found (made value) behind)

  abbrev ValueThen : (List ℕ → Tree) → Bool → List Placed → Tree → Type 0
  ValueThen made = InTurn one_text OneText (λ value behind. Found (made value) behind) (λ value. NothingMore (made value))

  reads_value_then : (made : List ℕ → Tree) (ts : List Placed) → Reads (value_then made) (ValueThen made) ts
  reads_value_then made ts = reads_in_turn one_text OneText (λ value behind. Found (made value) behind) (λ value. NothingMore (made value)) ts (reads_text ts) (λ value. nothing_language (made value)) text_language.loosens (λ value one rest is within plain. reads_nothing (made value) rest)

  value_behind : (t : Placed) → t.token ≡ Symbol 61 → (mixing : Bool) (own : List Placed) (tree : Tree) → ValueThen (λ value. Equals key value) mixing own tree → BehindKey key mixing (t ∷ own) tree
  value_behind t equal mixing own tree (one, other, value, is, (s, single, quoted), (none, is_tree)) attributes dot k named points keyed =
      rw (is, single, none, is_tree) (is_value attributes dot k t s named points keyed equal quoted)

  no_value_behind : (t : Placed) → t.token ≡ Differs → (mixing : Bool) (own : List Placed) (tree : Tree) → ValueThen (λ value. Negated (Equals key value)) mixing own tree → BehindKey key mixing (t ∷ own) tree
  no_value_behind t differs mixing own tree (one, other, value, is, (s, single, quoted), (none, is_tree)) attributes dot k named points keyed =
      rw (is, single, none, is_tree) (is_no_value attributes dot k t s named points keyed differs quoted)

  reads_comparison_at : (t : Placed) (rest : List Placed) → (is_mark 61 t.token ≡ true) ⊎ (is_mark 61 t.token ≡ false) → (is_differs t.token ≡ true) ⊎ (is_differs t.token ≡ false) → Reads (comparison key) (BehindKey key) (t ∷ rest)
  reads_comparison_at t rest (inl equal) either =
      reads_head (comparison key) (BehindKey key) (value_then (λ value. Equals key value)) (ValueThen (λ value. Equals key value)) t
      (λ rest. rw equal refl) (value_behind t (same_mark 61 t.token equal)) (rw (same_mark 61 t.token equal) refl) rest (reads_value_then (λ value. Equals key value) rest)
  reads_comparison_at t rest (inr other) (inl differs) =
      reads_head (comparison key) (BehindKey key) (value_then (λ value. Negated (Equals key value))) (ValueThen (λ value. Negated (Equals key value))) t
      (λ rest. rw (other, differs) refl) (no_value_behind t (same_differs t.token differs)) (rw (same_differs t.token differs) refl) rest (reads_value_then (λ value. Negated (Equals key value)) rest)
  reads_comparison_at t rest (inr other) (inr same) = reads_fail (comparison key) (BehindKey key) t (λ rest. rw (other, same) refl) (key_compared key).has rest

  reads_comparison : (ts : List Placed) → Reads (comparison key) (BehindKey key) ts
  reads_comparison [] = reads_none (comparison key) (BehindKey key) (FilterSyntax 0) refl
  reads_comparison (t ∷ rest) = reads_comparison_at t rest (decided (is_mark 61 t.token)) (decided (is_differs t.token))

abbrev compared_then : List Placed → Read Tree
compared_then ts = then_read (one_key ts) comparison

abbrev ComparedThen : Bool → List Placed → Tree → Type 0
ComparedThen = InTurn one_key OneKey comparison BehindKey

reads_compared : (ts : List Placed) → Reads compared_then ComparedThen ts
reads_compared ts = reads_in_turn one_key OneKey comparison BehindKey ts (reads_key ts) key_compared key_language.loosens (λ key one rest is within plain. reads_comparison key rest)

compared_behind : (t : Placed) → t.token ≡ Symbol 46 → (mixing : Bool) (own : List Placed) (tree : Tree) → ComparedThen mixing own tree → BehindAttributes mixing (t ∷ own) tree
compared_behind t points mixing own tree (one, other, key, is, (k, single, keyed), compared) attributes named =
    rw (is, single) (compared attributes t k named points keyed)

abbrev there_then : List Placed → Read Tree
there_then ts = then_read (one_key ts) (λ key behind. Found (Has key) behind)

abbrev ThereThen : Bool → List Placed → Tree → Type 0
ThereThen = InTurn one_key OneKey (λ key behind. Found (Has key) behind) (λ key. NothingMore (Has key))

reads_there : (ts : List Placed) → Reads there_then ThereThen ts
reads_there ts = reads_in_turn one_key OneKey (λ key behind. Found (Has key) behind) (λ key. NothingMore (Has key)) ts (reads_key ts) (λ key. nothing_language (Has key)) key_language.loosens (λ key one rest is within plain. reads_nothing (Has key) rest)

there_behind : (t : Placed) → t.token ≡ Symbol 58 → (mixing : Bool) (own : List Placed) (tree : Tree) → ThereThen mixing own tree → BehindAttributes mixing (t ∷ own) tree
there_behind t colon mixing own tree (one, other, key, is, (k, single, keyed), (none, is_tree)) attributes named =
    rw (is, single, none, is_tree) (is_there attributes t k named colon keyed)

attributes_tested : IsLanguage BehindAttributes
attributes_tested = record {
  has = (place 0 (Symbol 58) ∷ place 0 (Word []) ∷ [], Has [], λ attributes named. is_there attributes (place 0 (Symbol 58)) (place 0 (Word [])) named refl (inl refl));
  loosens = λ own a within. within;
}

reads_attributes_at : (t : Placed) (rest : List Placed) → (is_mark 58 t.token ≡ true) ⊎ (is_mark 58 t.token ≡ false) → (is_mark 46 t.token ≡ true) ⊎ (is_mark 46 t.token ≡ false) → Reads attribute_test BehindAttributes (t ∷ rest)
reads_attributes_at t rest (inl colon) either =
    reads_head attribute_test BehindAttributes there_then ThereThen t
    (λ rest. rw colon refl) (there_behind t (same_mark 58 t.token colon)) (rw (same_mark 58 t.token colon) refl) rest (reads_there rest)
reads_attributes_at t rest (inr other) (inl points) =
    reads_head attribute_test BehindAttributes compared_then ComparedThen t
    (λ rest. rw (other, points) refl) (compared_behind t (same_mark 46 t.token points)) (rw (same_mark 46 t.token points) refl) rest (reads_compared rest)
reads_attributes_at t rest (inr other) (inr same) = reads_fail attribute_test BehindAttributes t (λ rest. rw (other, same) refl) attributes_tested.has rest

reads_attributes : (ts : List Placed) → Reads attribute_test BehindAttributes ts
reads_attributes [] = reads_none attribute_test BehindAttributes (FilterSyntax 0) refl
reads_attributes (t ∷ rest) = reads_attributes_at t rest (decided (is_mark 58 t.token)) (decided (is_mark 46 t.token))

-- one language after another
pub language_in_turn : {A B : Type 0} (R : List Placed → Read A) (L : Bool → List Placed → A → Type 0) (S : A → List Placed → Read B) (M : A → Bool → List Placed → B → Type 0)
    → IsLanguage L → ((a : A) → IsLanguage (M a)) → IsLanguage (InTurn R L S M)
language_in_turn R L S M first next =
    let (one, a, within) = first.has in
    let (other, b, inside) = (next a).has in
    record {
      has = (one ++ other, b, (one, other, a, refl, within, inside));
      loosens = λ own c w. (w.0, w.1, w.2, w.3, first.loosens w.0 w.2 w.4, (next w.2).loosens w.1 c w.5);
    }

-- the parts of the test `hasPrefix`, from the last one
module _ (form : Token) (test : Token → Bool) (reads_it : (ts : List Placed) → Reads (one_token test) (OneToken form) ts) (S : List Placed → Read Tree) (M : Bool → List Placed → Tree → Type 0) where
  abbrev pub token_then : List Placed → Read Tree
  token_then ts = then_read (one_token test ts) (λ u behind. S behind)

  abbrev pub TokenThen : Bool → List Placed → Tree → Type 0
  TokenThen = InTurn (one_token test) (OneToken form) (λ u behind. S behind) (λ u. M)

  pub token_then_language : IsLanguage M → IsLanguage TokenThen
  token_then_language next = language_in_turn (one_token test) (OneToken form) (λ u behind. S behind) (λ u. M) (token_language form) (λ u. next)

  pub reads_token_then : IsLanguage M → ((ts : List Placed) → Reads S M ts) → (ts : List Placed) → Reads token_then TokenThen ts
  reads_token_then next reads_next ts = reads_in_turn (one_token test) (OneToken form) (λ u behind. S behind) (λ u. M) ts (reads_it ts) (λ u. next) (token_language form).loosens (λ u one rest is within plain. reads_next rest)

module _ (key : List ℕ) where
  module _ (front : List ℕ) where
    abbrev closed : List Placed → Read Tree
    closed ts = then_read (one_token (is_mark 41) ts) (λ closing rest. Found (Begins key front) rest)

    abbrev CloseTest : Bool → List Placed → Tree → Type 0
    CloseTest = TokenThen (Symbol 41) (is_mark 41) (reads_mark 41) (λ rest. Found (Begins key front) rest) (NothingMore (Begins key front))

    closed_language : IsLanguage CloseTest
    closed_language = token_then_language (Symbol 41) (is_mark 41) (reads_mark 41) (λ rest. Found (Begins key front) rest) (NothingMore (Begins key front)) (nothing_language (Begins key front))

    reads_closed : (ts : List Placed) → Reads closed CloseTest ts
    reads_closed = reads_token_then (Symbol 41) (is_mark 41) (reads_mark 41) (λ rest. Found (Begins key front) rest) (NothingMore (Begins key front)) (nothing_language (Begins key front)) (reads_nothing (Begins key front))

  abbrev fronted : List Placed → Read Tree
  fronted ts = then_read (one_text ts) closed

  abbrev FrontTest : Bool → List Placed → Tree → Type 0
  FrontTest = InTurn one_text OneText closed CloseTest

  fronted_language : IsLanguage FrontTest
  fronted_language = language_in_turn one_text OneText closed CloseTest text_language closed_language

  reads_fronted : (ts : List Placed) → Reads fronted FrontTest ts
  reads_fronted ts = reads_in_turn one_text OneText closed CloseTest ts (reads_text ts) closed_language text_language.loosens (λ front one rest is within plain. reads_closed front rest)

  abbrev parted : List Placed → Read Tree
  parted ts = then_read (one_token (is_mark 44) ts) (λ comma rest. fronted rest)

  abbrev CommaTest : Bool → List Placed → Tree → Type 0
  CommaTest = TokenThen (Symbol 44) (is_mark 44) (reads_mark 44) fronted FrontTest

  parted_language : IsLanguage CommaTest
  parted_language = token_then_language (Symbol 44) (is_mark 44) (reads_mark 44) fronted FrontTest fronted_language

  reads_parted : (ts : List Placed) → Reads parted CommaTest ts
  reads_parted = reads_token_then (Symbol 44) (is_mark 44) (reads_mark 44) fronted FrontTest fronted_language reads_fronted

abbrev keyed_then : List Placed → Read Tree
keyed_then ts = then_read (one_key ts) parted

abbrev KeyedThen : Bool → List Placed → Tree → Type 0
KeyedThen = InTurn one_key OneKey parted CommaTest

keyed_language : IsLanguage KeyedThen
keyed_language = language_in_turn one_key OneKey parted CommaTest key_language parted_language

reads_keyed : (ts : List Placed) → Reads keyed_then KeyedThen ts
reads_keyed ts = reads_in_turn one_key OneKey parted CommaTest ts (reads_key ts) parted_language key_language.loosens (λ key one rest is within plain. reads_parted key rest)

abbrev pointed : List Placed → Read Tree
pointed ts = then_read (one_token (is_mark 46) ts) (λ dot rest. keyed_then rest)

abbrev PointTest : Bool → List Placed → Tree → Type 0
PointTest = TokenThen (Symbol 46) (is_mark 46) (reads_mark 46) keyed_then KeyedThen

pointed_language : IsLanguage PointTest
pointed_language = token_then_language (Symbol 46) (is_mark 46) (reads_mark 46) keyed_then KeyedThen keyed_language

reads_pointed : (ts : List Placed) → Reads pointed PointTest ts
reads_pointed = reads_token_then (Symbol 46) (is_mark 46) (reads_mark 46) keyed_then KeyedThen keyed_language reads_keyed

abbrev named_then : List Placed → Read Tree
named_then ts = then_read (one_token (is_word (codes "attributes")) ts) (λ attributes rest. pointed rest)

abbrev NamedThen : Bool → List Placed → Tree → Type 0
NamedThen = TokenThen (Word (codes "attributes")) (is_word (codes "attributes")) (reads_word (codes "attributes")) pointed PointTest

named_language : IsLanguage NamedThen
named_language = token_then_language (Word (codes "attributes")) (is_word (codes "attributes")) (reads_word (codes "attributes")) pointed PointTest pointed_language

reads_named : (ts : List Placed) → Reads named_then NamedThen ts
reads_named = reads_token_then (Word (codes "attributes")) (is_word (codes "attributes")) (reads_word (codes "attributes")) pointed PointTest pointed_language reads_pointed

abbrev Opened : Bool → List Placed → Tree → Type 0
Opened = TokenThen (Symbol 40) (is_mark 40) (reads_mark 40) named_then NamedThen

reads_opened : (ts : List Placed) → Reads prefix_test Opened ts
reads_opened = reads_token_then (Symbol 40) (is_mark 40) (reads_mark 40) named_then NamedThen named_language reads_named

opened_behind : (mixing : Bool) (own : List Placed) (tree : Tree) → Opened mixing own tree → BehindPrefix mixing own tree
opened_behind mixing own tree (
  o1,
  r1,
  u1,
  is1,
  (opening, single1, opens),
  (
    o2,
    r2,
    u2,
    is2,
    (attributes, single2, named),
    (
      o3,
      r3,
      u3,
      is3,
      (dot, single3, points),
      (
        o4,
        r4,
        key,
        is4,
        (k, single4, keyed),
        (
          o5,
          r5,
          u5,
          is5,
          (comma, single5, parts),
          (
            o6,
            r6,
            front,
            is6,
            (s, single6, quoted),
            (
              o7,
              r7,
              u7,
              is7,
              (closing, single7, closes),
              (none, is_tree),
            ),
          ),
        ),
      ),
    ),
  ),
) prefix begins =
    rw (is1, single1, is2, single2, is3, single3, is4, single4, is5, single5, is6, single6, is7, single7, none, is_tree)
    (is_front prefix opening attributes dot k comma s closing begins opens named points keyed parts quoted closes)

reads_prefix : (ts : List Placed) → Reads prefix_test BehindPrefix ts
reads_prefix ts = reads_wider prefix_test Opened BehindPrefix opened_behind ts (reads_opened ts)

pub some_test : (own : List Placed) × (tree : Tree) × IsTest own tree
some_test = (place 0 (Word (codes "attributes")) ∷ place 0 (Symbol 58) ∷ place 0 (Word []) ∷ [], Has [], is_there (place 0 (Word (codes "attributes"))) (place 0 (Symbol 58)) (place 0 (Word [])) refl refl (inl refl))

-- a reader that reads a test at this token
module _ (R : List Placed → Read Tree) (L : Bool → List Placed → Tree → Type 0) (t : Placed) (goes : (rest : List Placed) → R (t ∷ rest) ≡ simple_test t rest) (wider : (mixing : Bool) (own : List Placed) (tree : Tree) → IsTest own tree → L mixing own tree) where
  reads_simple_at : (rest : List Placed) → (is_word (codes "attributes") t.token ≡ true) ⊎ (is_word (codes "attributes") t.token ≡ false) → (is_word (codes "hasPrefix") t.token ≡ true) ⊎ (is_word (codes "hasPrefix") t.token ≡ false) → Reads R L (t ∷ rest)
  reads_simple_at rest (inl named) either =
      reads_head R L attribute_test BehindAttributes t (λ rest. goes rest ∙ rw named refl)
      (λ mixing own tree within. wider mixing (t ∷ own) tree (within t (same_word (codes "attributes") t.token named))) (rw (same_word (codes "attributes") t.token named) refl) rest (reads_attributes rest)
  reads_simple_at rest (inr other) (inl begins) =
      reads_head R L prefix_test BehindPrefix t (λ rest. goes rest ∙ rw (other, begins) refl)
      (λ mixing own tree within. wider mixing (t ∷ own) tree (within t (same_word (codes "hasPrefix") t.token begins))) (rw (same_word (codes "hasPrefix") t.token begins) refl) rest (reads_prefix rest)
  reads_simple_at rest (inr other) (inr same) =
      reads_fail R L t (λ rest. goes rest ∙ rw (other, same) refl) (let (own, tree, test) = some_test in (own, tree, wider false own tree test)) rest

  pub reads_simple : (rest : List Placed) → Reads R L (t ∷ rest)
  reads_simple rest = reads_simple_at rest (decided (is_word (codes "attributes") t.token)) (decided (is_word (codes "hasPrefix") t.token))
