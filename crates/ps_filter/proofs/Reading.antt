-- Readers of tokens against languages: what a reader that finds a value has read, and what can follow where it fails.
use Rattle.std.proofs.Common.{◌≡◌, Bool, true, false, ◌||◌, sym, List, [], ◌∷◌, ◌++◌, ap, refl, subst, ◌∙◌, append_assoc}
use Rattle.ps_base.specs.declared.reason.Reason.{Reason}
use Rattle.ps_base.specs.declared.reason.Reason.TheVariants.{FilterMixed, FilterSyntax}
use Rattle.ps_filter.specs.declared.token.Placed.{Placed}
pub use Rattle.ps_filter.specs.GrammarLaws.{is_last}
use Rattle.ps_filter.specs.Filters.{Read, Found, Fails, then_read}

abbrev pub has_last : List Placed → Bool
has_last [] = false
has_last (t ∷ ts) = is_last t.token || has_last ts

or_no : (a b : Bool) → (a || b) ≡ false → (a ≡ false) × (b ≡ false)
or_no true b none = cc
or_no false b none = (refl, none)

pub last_behind : (own rest : List Placed) → has_last own ≡ false → has_last (own ++ rest) ≡ has_last rest
last_behind [] rest none = refl
last_behind (t ∷ own) rest none =
    let parts : (is_last t.token ≡ false) × (has_last own ≡ false) = or_no (is_last t.token) (has_last own) none in
    rw parts.0 (last_behind own rest parts.1)

pub no_last : (one other : List Placed) → has_last one ≡ false → has_last other ≡ false → has_last (one ++ other) ≡ false
no_last one other none none_here = rw (last_behind one other none) none_here

-- both lists begin with one token
pub data SameHead : List Placed → List Placed → Type 0 where
  same_head : {t : Placed} {one other : List Placed} → SameHead (t ∷ one) (t ∷ other)

pub same_front : (front : List Placed) (t : Placed) (behind other : List Placed) → SameHead (front ++ t ∷ behind) (front ++ t ∷ other)
same_front [] t behind other = same_head
same_front (x ∷ front) t behind other = same_head

pub same_behind : (front rest other : List Placed) → SameHead rest other → SameHead (front ++ rest) (front ++ other)
same_behind [] rest other same = same
same_behind (x ∷ front) rest other same = same_head

pub parts_behind : (ts one behind two rest : List Placed) → ts ≡ one ++ behind → behind ≡ two ++ rest → ts ≡ (one ++ two) ++ rest
parts_behind ts one behind two rest is is_behind = rw (append_assoc one two rest, sym is_behind) is

module _ {A : Type 0} (L : List Placed → A → Type 0) where
  -- these tokens can be continued to some of the language
  abbrev pub Completes : List Placed → Type 0
  Completes front = (more : List Placed) × (a : A) × L (front ++ more) a

module _ {A : Type 0} (R : List Placed → Read A) (L : Bool → List Placed → A → Type 0) where
  -- what is found is of the language, and is found again before any tokens that begin alike
  pub record Finds (ts : List Placed) (a : A) (rest : List Placed) : Type 0 where
    pub own : List Placed
    pub is : ts ≡ own ++ rest
    pub within : L false own a
    pub plain : has_last own ≡ false
    pub again : (other : List Placed) → SameHead rest other → R (own ++ other) ≡ Found a other

  -- the reason names this token, and if both words mix, the tokens up to it can be continued with both words mixing
  pub data Tells (before : List Placed) (t : Placed) : Reason → Type 0 where
    by_syntax : Tells before t (FilterSyntax t.at)
    by_mixing : Completes (L true) (before ++ t ∷ []) → Tells before t (FilterMixed t.at)

  -- a reader fails at a token: the tokens before it can be continued, and those after it don't count
  pub record Breaks (ts : List Placed) (reason : Reason) : Type 0 where
    pub before : List Placed
    pub t : Placed
    pub behind : List Placed
    pub is : ts ≡ before ++ t ∷ behind
    pub tells : Tells before t reason
    pub begun : Completes (L false) before
    pub again : (other : List Placed) → R (before ++ t ∷ other) ≡ Fails reason

  -- what the reader does at these tokens, which have a last one
  pub record Reads (ts : List Placed) : Type 0 where
    pub finds : (a : A) (rest : List Placed) → R ts ≡ Found a rest → Finds ts a rest
    pub breaks : (reason : Reason) → has_last ts ≡ true → R ts ≡ Fails reason → Breaks ts reason

module _ {A : Type 0} (L : Bool → List Placed → A → Type 0) where
  pub record IsLanguage : Type 0 where
    pub has : (own : List Placed) × (a : A) × L false own a
    pub loosens : (own : List Placed) (a : A) → L false own a → L true own a

-- one reader after another
module _ {A B : Type 0} (R : List Placed → Read A) (L : Bool → List Placed → A → Type 0) (S : A → List Placed → Read B) (M : A → Bool → List Placed → B → Type 0) where
  abbrev pub in_turn : List Placed → Read B
  in_turn ts = then_read (R ts) S

  abbrev pub InTurn : Bool → List Placed → B → Type 0
  InTurn mixing own b = (one : List Placed) × (other : List Placed) × (a : A) × (own ≡ one ++ other) × L mixing one a × M a mixing other b

  module _ (ts : List Placed) (first : Reads R L ts) where
    module _ (next : (a : A) (one rest : List Placed) → ts ≡ one ++ rest → L false one a → has_last one ≡ false → Reads (S a) (M a) rest) where
      finds_from : (r : Read A) (b : B) (rest : List Placed) → R ts ≡ r → then_read r S ≡ Found b rest → Finds in_turn InTurn ts b rest
      finds_from (Fails reason) b rest is found = cc
      finds_from (Found a behind) b rest is found =
          let f : Finds R L ts a behind = first.finds a behind is in
          let g : Finds (S a) (M a) behind b rest = (next a f.own behind f.is f.within f.plain).finds b rest found in
          record {
            own = f.own ++ g.own;
            is = parts_behind ts f.own behind g.own rest f.is g.is;
            within = (f.own, g.own, a, refl, f.within, g.within);
            plain = no_last f.own g.own f.plain g.plain;
            again = λ other same. rw (append_assoc f.own g.own other, f.again (g.own ++ other) (subst (λ (x : List Placed). SameHead x (g.own ++ other)) (sym g.is) (same_behind g.own rest other same))) (g.again other same);
          }

    module _ (each : (a : A) → IsLanguage (M a)) (loosens : (own : List Placed) (a : A) → L false own a → L true own a) where
      completed : (mixing : Bool) (front : List Placed) → Completes (L mixing) front → ((a : A) → (own : List Placed) × (b : B) × M a mixing own b) → Completes (InTurn mixing) front
      completed mixing front (more, a, within) some =
          let (own, b, after) = some a in
          (more ++ own, b, (front ++ more, own, a, sym (append_assoc front more own), within, after))

      completed_behind : (mixing : Bool) (one front : List Placed) (a : A) → L mixing one a → Completes (M a mixing) front → Completes (InTurn mixing) (one ++ front)
      completed_behind mixing one front a within (more, b, after) =
          (more, b, (one, front ++ more, a, append_assoc one front more, within, after))

      some_loose : (a : A) → (own : List Placed) × (b : B) × M a true own b
      some_loose a = let (own, b, within) = (each a).has in (own, b, (each a).loosens own b within)

      tells_first : (before : List Placed) (t : Placed) (reason : Reason) → Tells R L before t reason → Tells in_turn InTurn before t reason
      tells_first before t reason by_syntax = by_syntax
      tells_first before t reason (by_mixing more) = by_mixing (completed true (before ++ t ∷ []) more some_loose)

      tells_behind : (one before : List Placed) (t : Placed) (a : A) (reason : Reason) → L true one a → Tells (S a) (M a) before t reason → Tells in_turn InTurn (one ++ before) t reason
      tells_behind one before t a reason within by_syntax = by_syntax
      tells_behind one before t a reason within (by_mixing more) = by_mixing (rw (append_assoc one before (t ∷ [])) (completed_behind true one (before ++ t ∷ []) a within more))

      module _ (next : (a : A) (one rest : List Placed) → ts ≡ one ++ rest → L false one a → has_last one ≡ false → (reason : Reason) → has_last rest ≡ true → S a rest ≡ Fails reason → Breaks (S a) (M a) rest reason) where
        breaks_from : (r : Read A) (reason : Reason) → has_last ts ≡ true → R ts ≡ r → then_read r S ≡ Fails reason → Breaks in_turn InTurn ts reason
        breaks_from (Fails own) reason last is fails =
            let f : Breaks R L ts reason = let same : own ≡ reason = cc in first.breaks reason last (is ∙ ap (λ (r : Reason). Fails r) same) in
            record {
              before = f.before;
              t = f.t;
              behind = f.behind;
              is = f.is;
              tells = tells_first f.before f.t reason f.tells;
              begun = completed false f.before f.begun (λ a. (each a).has);
              again = λ other. rw (f.again other) refl;
            }
        breaks_from (Found a behind) reason last is fails =
            let f : Finds R L ts a behind = first.finds a behind is in
            let has : has_last behind ≡ true = rw (sym (last_behind f.own behind f.plain), sym f.is) last in
            let g : Breaks (S a) (M a) behind reason = next a f.own behind f.is f.within f.plain reason has fails in
            record {
              before = f.own ++ g.before;
              t = g.t;
              behind = g.behind;
              is = parts_behind ts f.own behind g.before (g.t ∷ g.behind) f.is g.is;
              tells = tells_behind f.own g.before g.t a reason (loosens f.own a f.within) g.tells;
              begun = completed_behind false f.own g.before a f.within g.begun;
              again = λ other. rw (append_assoc f.own g.before (g.t ∷ other), f.again (g.before ++ g.t ∷ other) (subst (λ (x : List Placed). SameHead x (g.before ++ g.t ∷ other)) (sym g.is) (same_front g.before g.t g.behind other))) (g.again other);
            }

        pub breaks_in_turn : (reason : Reason) → has_last ts ≡ true → then_read (R ts) S ≡ Fails reason → Breaks in_turn InTurn ts reason
        breaks_in_turn reason last fails = breaks_from (R ts) reason last refl fails

  pub reads_in_turn : (ts : List Placed) → Reads R L ts → (each : (a : A) → IsLanguage (M a)) (loosens : (own : List Placed) (a : A) → L false own a → L true own a)
      → (next : (a : A) (one rest : List Placed) → ts ≡ one ++ rest → L false one a → has_last one ≡ false → Reads (S a) (M a) rest) → Reads in_turn InTurn ts
  reads_in_turn ts first each loosens next = record {
    finds = λ b rest found. finds_from ts first next (R ts) b rest refl found;
    breaks = breaks_in_turn ts first each loosens (λ a one rest is within plain. (next a one rest is within plain).breaks);
  }

-- a first token, and a reader for what is behind it
module _ {A : Type 0} (R : List Placed → Read A) (L : Bool → List Placed → A → Type 0) where
  module _ (S : List Placed → Read A) (M : Bool → List Placed → A → Type 0) (t : Placed) (goes : (rest : List Placed) → R (t ∷ rest) ≡ S rest)
      (behind : (mixing : Bool) (own : List Placed) (a : A) → M mixing own a → L mixing (t ∷ own) a) where
    tells_behind_head : (before : List Placed) (b : Placed) (reason : Reason) → Tells S M before b reason → Tells R L (t ∷ before) b reason
    tells_behind_head before b reason by_syntax = by_syntax
    tells_behind_head before b reason (by_mixing (more, a, within)) = by_mixing (more, a, behind true ((before ++ b ∷ []) ++ more) a within)

    begun_behind : (before : List Placed) → Completes (M false) before → Completes (L false) (t ∷ before)
    begun_behind before (more, a, within) = (more, a, behind false (before ++ more) a within)

    finds_head : (rest : List Placed) (a : A) (end : List Placed) → is_last t.token ≡ false → Finds S M rest a end → Finds R L (t ∷ rest) a end
    finds_head rest a end plain f = record {
      own = t ∷ f.own;
      is = ap (λ (x : List Placed). t ∷ x) f.is;
      within = behind false f.own a f.within;
      plain = rw plain f.plain;
      again = λ other same. goes (f.own ++ other) ∙ f.again other same;
    }

    breaks_head : (rest : List Placed) (reason : Reason) → Breaks S M rest reason → Breaks R L (t ∷ rest) reason
    breaks_head rest reason g = record {
      before = t ∷ g.before;
      t = g.t;
      behind = g.behind;
      is = ap (λ (x : List Placed). t ∷ x) g.is;
      tells = tells_behind_head g.before g.t reason g.tells;
      begun = begun_behind g.before g.begun;
      again = λ other. goes (g.before ++ g.t ∷ other) ∙ g.again other;
    }

    pub reads_head : is_last t.token ≡ false → (rest : List Placed) → Reads S M rest → Reads R L (t ∷ rest)
    reads_head plain rest known = record {
      finds = λ a end found. finds_head rest a end plain (known.finds a end (sym (goes rest) ∙ found));
      breaks = λ reason last fails. breaks_head rest reason (known.breaks reason (rw plain at last) (sym (goes rest) ∙ fails));
    }

  pub breaks_here : (t : Placed) → ((rest : List Placed) → R (t ∷ rest) ≡ Fails (FilterSyntax t.at)) → Completes (L false) []
      → (rest : List Placed) (reason : Reason) → R (t ∷ rest) ≡ Fails reason → Breaks R L (t ∷ rest) reason
  breaks_here t fails some rest reason is =
      let same : FilterSyntax t.at ≡ reason = (let whole : ◌≡◌ {A = Read A} (Fails (FilterSyntax t.at)) (Fails reason) = sym (fails rest) ∙ is in cc) in
      record {
        before = [];
        t = t;
        behind = rest;
        is = refl;
        tells = subst (λ (r : Reason). Tells R L [] t r) same by_syntax;
        begun = some;
        again = λ other. fails other ∙ ap (λ (r : Reason). Fails r) same;
      }

  pub reads_fail : (t : Placed) → ((rest : List Placed) → R (t ∷ rest) ≡ Fails (FilterSyntax t.at)) → Completes (L false) []
      → (rest : List Placed) → Reads R L (t ∷ rest)
  reads_fail t fails some rest = record {
    finds = λ a end found. (let whole : Fails (FilterSyntax t.at) ≡ Found a end = sym (fails rest) ∙ found in cc);
    breaks = λ reason last is. breaks_here t fails some rest reason is;
  }

  pub reads_none : (r : Reason) → R [] ≡ Fails r → Reads R L []
  reads_none r none = record {
    finds = λ a end found. (let whole : Fails r ≡ Found a end = sym none ∙ found in cc);
    breaks = λ reason last is. cc;
  }

-- a value that is found before any tokens
abbrev pub NothingMore : {A : Type 0} → A → Bool → List Placed → A → Type 0
NothingMore a mixing own b = (own ≡ []) × (b ≡ a)

pub reads_nothing : {A : Type 0} (a : A) (rest : List Placed) → Reads (λ (ts : List Placed). Found a ts) (NothingMore a) rest
reads_nothing a rest = record {
  finds = λ b end found. record { own = []; is = cc; within = (refl, cc); plain = refl; again = λ other same. cc };
  breaks = λ reason last fails. cc;
}

-- a reader of a larger language
module _ {A : Type 0} (R : List Placed → Read A) (L M : Bool → List Placed → A → Type 0) (wider : (mixing : Bool) (own : List Placed) (a : A) → L mixing own a → M mixing own a) where
  tells_wider : (before : List Placed) (t : Placed) (reason : Reason) → Tells R L before t reason → Tells R M before t reason
  tells_wider before t reason by_syntax = by_syntax
  tells_wider before t reason (by_mixing (more, a, within)) = by_mixing (more, a, wider true ((before ++ t ∷ []) ++ more) a within)

  begun_wider : (before : List Placed) → Completes (L false) before → Completes (M false) before
  begun_wider before (more, a, within) = (more, a, wider false (before ++ more) a within)

  finds_wider : (ts : List Placed) (a : A) (rest : List Placed) → Finds R L ts a rest → Finds R M ts a rest
  finds_wider ts a rest f = record { own = f.own; is = f.is; within = wider false f.own a f.within; plain = f.plain; again = f.again }

  pub breaks_wider : (ts : List Placed) (reason : Reason) → Breaks R L ts reason → Breaks R M ts reason
  breaks_wider ts reason g = record { before = g.before; t = g.t; behind = g.behind; is = g.is; tells = tells_wider g.before g.t reason g.tells; begun = begun_wider g.before g.begun; again = g.again }

  pub reads_wider : (ts : List Placed) → Reads R L ts → Reads R M ts
  reads_wider ts known = record {
    finds = λ a rest found. finds_wider ts a rest (known.finds a rest found);
    breaks = λ reason last fails. breaks_wider ts reason (known.breaks reason last fails);
  }
