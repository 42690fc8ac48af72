-- What a topic has without one of its subscriptions.
use Rattle.std.proofs.Common.{◌≡◌, ℕ, Bool, true, false, ◌&&◌, not, cond, nat_eq, List, [], ◌∷◌, Option, Some, None, option_map, find, filter, map, refl, sym, ap, ◌∙◌, if◌then◌else◌}
use Rattle.std.specs.List.{AllByRecursion}
use Rattle.std.specs.Str.{bytes_eq}
use Rattle.std.proofs.lemmas.Bool.{eq-eqb, eqb-true, false≢true}
use Rattle.ps_base.proofs.Lists.{each-then-both, found-passes}
use Rattle.ps_model.proofs.SameLemmas.{exact-bytes}
use Rattle.ps_tables.specs.declared.kept_subscription.KeptSubscription.{KeptSubscription}
use Rattle.ps_tables.specs.declared.tables.KeptTopic.{KeptTopic}
use Rattle.ps_core.specs.Changing.{AreLeft}
use Rattle.ps_tables.specs.Numbers.{changed_at}
use Rattle.ps_tables.specs.Subscriptions.{detach_subscription, is_attached, number_of}
use Rattle.ps_tables.specs.Members.{HasMembers, attached_at, has_name}
use Rattle.ps_core.specs.Keeping.{the_row}
use Rattle.ps_core.specs.State.{State}
use Rattle.ps_core.specs.Steady.{IsSteady}
use Rattle.ps_tables.proofs.numbers.Changes.{found-by-number, same-number}
use Rattle.ps_core.proofs.changing.Lists.{same-name}

-- whatever has its name or its number is this subscription
abbrev pub IsAlone : KeptSubscription → KeptSubscription → Type 0
IsAlone x y = (bytes_eq y.name x.name ≡ true → y ≡ x) × (nat_eq y.number x.number ≡ true → y ≡ x)

pub name-is : (s : State) (name : List ℕ) (x : KeptSubscription) → find (has_name name) s.subscriptions ≡ Some x → x.name ≡ name
name-is s name x is = exact-bytes.one x.name name (found-passes (has_name name) s.subscriptions x is)

pub all-alone : (s : State) (name : List ℕ) (x : KeptSubscription) → IsSteady s → find (has_name name) s.subscriptions ≡ Some x → AllByRecursion (IsAlone x) s.subscriptions
all-alone s name x h is =
    let own : find (has_name x.name) s.subscriptions ≡ Some x = ap (λ n. find (has_name n) s.subscriptions) (name-is s name x is) ∙ is in
    each-then-both (λ (y : KeptSubscription). bytes_eq y.name x.name ≡ true → y ≡ x) (λ (y : KeptSubscription). nat_eq y.number x.number ≡ true → y ≡ x) (IsAlone x) s.subscriptions (λ y named numbered. (named, numbered))
    (same-name number_of (λ (y : KeptSubscription). y.name) x.name x s.subscriptions h.subscription_names own)
    (same-number number_of x.number x s.subscriptions h.subscriptions (found-by-number number_of (has_name name) s.subscriptions x h.subscriptions is))

module _ (x : KeptSubscription) (topic : ℕ) (name : List ℕ) where
  abbrev is_member : KeptSubscription → Bool
  is_member y = has_name name y && is_attached topic y

  -- whether it is the subscription of the topic that has the name
  abbrev its : Bool
  its = nat_eq topic x.topic && bytes_eq x.name name

  abbrev without : Option ℕ → Option ℕ
  without o = if its then None else o

  -- it is no member if it isn't the topic's, or has another name
  closed : its ≡ false → is_member x ≡ false
  closed e = by (bytes_eq x.name name) refl (nat_eq x.topic topic) refl
    where
      by : (b : Bool) → bytes_eq x.name name ≡ b → (c : Bool) → nat_eq x.topic topic ≡ c → (b && (c && not x.detached)) ≡ false
      by false f c g = refl
      by true f false g = refl
      by true f true g = absurd (false≢true (sym e ∙ (λ i. eq-eqb topic x.topic (sym (eqb-true x.topic topic g)) i && f i)))

  -- a member is it if its name and topic are those
  same-named : (y : KeptSubscription) → is_member y ≡ true → its ≡ true → bytes_eq y.name x.name ≡ true
  same-named y member e =
      let mine : bytes_eq x.name name ≡ true = right (nat_eq topic x.topic) (bytes_eq x.name name) e in
      let named : bytes_eq y.name name ≡ true = left (bytes_eq y.name name) (is_attached topic y) member in
      ap (λ n. bytes_eq y.name n) (exact-bytes.one x.name name mine) ∙ named
    where
      left : (a b : Bool) → (a && b) ≡ true → a ≡ true
      left true b h = refl
      left false b h = h

      right : (a b : Bool) → (a && b) ≡ true → b ≡ true
      right true b h = h
      right false b h = absurd (false≢true h)

  found : (b : Bool) (y : KeptSubscription) (ys : List KeptSubscription) → is_member y ≡ b → attached_at topic name (y ∷ ys) ≡ (if b then Some y.number else attached_at topic name ys)
  found true y ys e = ap (λ (b : Bool). option_map number_of (cond b (Some y) (find is_member ys))) e
  found false y ys e = ap (λ (b : Bool). option_map number_of (cond b (Some y) (find is_member ys))) e

  -- it goes
  goes : (y : KeptSubscription) (ys new : List KeptSubscription) → y ≡ x → attached_at topic name new ≡ without (attached_at topic name ys) → attached_at topic name new ≡ without (attached_at topic name (y ∷ ys))
  goes y ys new same rest = by its refl
    where
      by : (b : Bool) → its ≡ b → attached_at topic name new ≡ without (attached_at topic name (y ∷ ys))
      by true e = rest ∙ ap (λ (b : Bool). if b then None else attached_at topic name ys) e ∙ sym (ap (λ (b : Bool). if b then None else attached_at topic name (y ∷ ys)) e)
      by false e =
          rest ∙ ap without (sym (found false y ys (ap is_member same ∙ closed e)))

  -- another stays
  stays : (y : KeptSubscription) (ys new : List KeptSubscription) → nat_eq y.number x.number ≡ false → IsAlone x y → attached_at topic name new ≡ without (attached_at topic name ys)
      → attached_at topic name (y ∷ new) ≡ without (attached_at topic name (y ∷ ys))
  stays y ys new other alone rest = by (is_member y) refl its refl
    where
      by : (m : Bool) → is_member y ≡ m → (b : Bool) → its ≡ b → attached_at topic name (y ∷ new) ≡ without (attached_at topic name (y ∷ ys))
      by true m true e = absurd (false≢true (sym other ∙ eq-eqb y.number x.number (ap number_of (alone.0 (same-named y m e)))))
      by true m false e = found true y new m ∙ sym (found true y ys m) ∙ sym (ap (λ (b : Bool). if b then None else attached_at topic name (y ∷ ys)) e)
      by false m b e = found false y new m ∙ rest ∙ ap without (sym (found false y ys m))

  none : None ≡ without None
  none = by its
    where
      by : (b : Bool) → ◌≡◌ {A = Option ℕ} None (if b then None else None)
      by true = refl
      by false = refl

  -- the subscription goes
  pub attached-dropped : (ys : List KeptSubscription) → AllByRecursion (IsAlone x) ys → attached_at topic name (filter (λ (y : KeptSubscription). not (nat_eq y.number x.number)) ys) ≡ (if nat_eq topic x.topic && bytes_eq x.name name then None else attached_at topic name ys)
  attached-dropped [] h = none
  attached-dropped (y ∷ ys) h = by (nat_eq y.number x.number) refl (attached-dropped ys h.1)
    where
      test : KeptSubscription → Bool
      test z = not (nat_eq z.number x.number)

      by : (b : Bool) → nat_eq y.number x.number ≡ b → attached_at topic name (filter test ys) ≡ without (attached_at topic name ys)
          → attached_at topic name (filter test (y ∷ ys)) ≡ without (attached_at topic name (y ∷ ys))
      by true e rest = ap (λ (b : Bool). attached_at topic name (cond (not b) (y ∷ filter test ys) (filter test ys))) e ∙ goes y ys (filter test ys) (h.0.1 e) rest
      by false e rest = ap (λ (b : Bool). attached_at topic name (cond (not b) (y ∷ filter test ys) (filter test ys))) e ∙ stays y ys (filter test ys) e h.0 rest

  -- the subscription stays, and is detached
  pub attached-detached : (ys : List KeptSubscription) → AllByRecursion (IsAlone x) ys → attached_at topic name (changed_at number_of x.number detach_subscription ys) ≡ (if nat_eq topic x.topic && bytes_eq x.name name then None else attached_at topic name ys)
  attached-detached [] h = none
  attached-detached (y ∷ ys) h = by (nat_eq y.number x.number) refl (attached-detached ys h.1)
    where
      news : List KeptSubscription
      news = changed_at number_of x.number detach_subscription ys

      no : (a b : Bool) → (a && (b && false)) ≡ false
      no true true = refl
      no true false = refl
      no false b = refl

      by : (b : Bool) → nat_eq y.number x.number ≡ b → attached_at topic name news ≡ without (attached_at topic name ys)
          → attached_at topic name ((if nat_eq y.number x.number then detach_subscription y else y) ∷ news) ≡ without (attached_at topic name (y ∷ ys))
      by true e rest =
          ap (λ (b : Bool). attached_at topic name ((if b then detach_subscription y else y) ∷ news)) e
          ∙ found false (detach_subscription y) news (no (bytes_eq y.name name) (nat_eq y.topic topic)) ∙ goes y ys news (h.0.1 e) rest
      by false e rest = ap (λ (b : Bool). attached_at topic name ((if b then detach_subscription y else y) ∷ news)) e ∙ stays y ys news e h.0 rest

-- no topic has this subscription any more
abbrev pub IsWithout : KeptSubscription → List KeptSubscription → List KeptSubscription → Type 0
IsWithout x xs new = (topic : ℕ) (name : List ℕ) → attached_at topic name new ≡ (if nat_eq topic x.topic && bytes_eq x.name name then None else attached_at topic name xs)

-- the topics after the subscription left its topic have their members
pub members-left : (x : KeptSubscription) (xs new : List KeptSubscription) → IsWithout x xs new
    → (before after : List KeptTopic) → AreLeft x.topic x.name before after → AllByRecursion (HasMembers xs) before → AllByRecursion (HasMembers new) after
members-left x xs new attached [] [] left has = tt
members-left x xs new attached [] (b ∷ vs) left has = absurd left
members-left x xs new attached (a ∷ us) [] left has = absurd left
members-left x xs new attached (a ∷ us) (b ∷ vs) left has = (one, members-left x xs new attached us vs left.1 has.1)
  where
    one : HasMembers new b
    one name =
        left.0.subs name ∙ ap (λ (o : Option ℕ). if nat_eq a.row.number x.topic && bytes_eq x.name name then None else o) (has.0 name)
        ∙ sym (attached a.row.number name) ∙ ap (λ (n : ℕ). attached_at n name new) (sym (ap (λ r. r.number) left.0.row))

-- the topics stay
pub rows-same : (topic : ℕ) (name : List ℕ) (before after : List KeptTopic) → AreLeft topic name before after → map the_row after ≡ map the_row before
rows-same topic name [] [] left = refl
rows-same topic name [] (b ∷ vs) left = absurd left
rows-same topic name (a ∷ us) [] left = absurd left
rows-same topic name (a ∷ us) (b ∷ vs) left = λ i. left.0.row i ∷ rows-same topic name us vs left.1 i
