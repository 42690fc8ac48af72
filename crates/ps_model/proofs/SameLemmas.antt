-- The tests of sameness say what equality says.
use Rattle.std.proofs.Common.{◌≡◌, Bool, true, false, ◌&&◌, nat_eq, List, [], ◌∷◌, Option, Some, None, refl, sym, ◌∙◌, ap, subst}
use Rattle.ps_model.specs.declared.world.World.{World}
use Rattle.std.specs.Cmp.Lexicographic.{pointwise}
use Rattle.std.proofs.lemmas.Bool.{eqb-true, eq-eqb, and_parts, and_from, false≢true}
use Rattle.ps_model.specs.declared.mark.Mark.{Mark}
use Rattle.ps_model.specs.declared.mark.Mark.TheVariants.{Backlog, Leased, Ahead, Done, Gone}
use Rattle.ps_model.specs.declared.mark.DoneCause.{DoneCause}
use Rattle.ps_model.specs.declared.mark.DoneCause.TheVariants as done
use Rattle.ps_model.specs.declared.mark.GoneCause.{GoneCause}
use Rattle.ps_model.specs.declared.mark.GoneCause.TheVariants as gone
use Rattle.std.specs.Str.{bytes_eq}
use Rattle.ps_model.specs.Same.{same_bool, same_option, same_pair, same_by, same_labels, same_done, same_gone, same_mark, same_policy, policy_parts, same_retry, retry_parts, same_topic_config, topic_config_parts, same_sub_config, sub_config_parts, same_message, message_parts, same_topic, topic_parts, same_sub, sub_parts, same_snap, snap_parts, same_message_row, message_row_parts, same_mark_row, mark_row_parts, WorldParts, world_parts, same_world}

-- a test that passes only at one value, and at each value with itself
pub record IsExact {A : Type 0} (same : A → A → Bool) : Type 0 where
  pub one : (a b : A) → same a b ≡ true → a ≡ b
  pub own : (a : A) → same a a ≡ true

pub exact-number : IsExact nat_eq
exact-number = record { one = λ a b e. eqb-true a b e; own = λ a. eq-eqb a a refl }

pub exact-list : {A : Type 0} (same : A → A → Bool) → IsExact same → IsExact (pointwise same)
exact-list {A} same h = record { one = lists; own = owns }
  where
    lists : (xs ys : List A) → pointwise same xs ys ≡ true → xs ≡ ys
    lists [] [] e = refl
    lists [] (y ∷ ys) e = absurd (false≢true e)
    lists (x ∷ xs) [] e = absurd (false≢true e)
    lists (x ∷ xs) (y ∷ ys) e = let p = and_parts (same x y) (pointwise same xs ys) e in λ i. h.one x y p.0 i ∷ lists xs ys p.1 i

    owns : (xs : List A) → pointwise same xs xs ≡ true
    owns [] = refl
    owns (x ∷ xs) = and_from (same x x) (pointwise same xs xs) (h.own x) (owns xs)

pub exact-option : {A : Type 0} (same : A → A → Bool) → IsExact same → IsExact (same_option same)
exact-option {A} same h = record { one = options; own = owns }
  where
    options : (a b : Option A) → same_option same a b ≡ true → a ≡ b
    options None None e = refl
    options (Some x) (Some y) e = ap Some (h.one x y e)
    options None (Some y) e = absurd (false≢true e)
    options (Some x) None e = absurd (false≢true e)

    owns : (a : Option A) → same_option same a a ≡ true
    owns None = refl
    owns (Some x) = h.own x

pub exact-bytes : IsExact bytes_eq
exact-bytes = exact-list nat_eq exact-number

pub exact-bool : IsExact same_bool
exact-bool = record { one = ones; own = owns }
  where
    ones : (a b : Bool) → same_bool a b ≡ true → a ≡ b
    ones true true e = refl
    ones false false e = refl
    ones true false e = absurd (false≢true e)
    ones false true e = absurd (false≢true e)

    owns : (a : Bool) → same_bool a a ≡ true
    owns true = refl
    owns false = refl

pub exact-pair : {A B : Type 0} (first : A → A → Bool) (second : B → B → Bool) → IsExact first → IsExact second → IsExact (same_pair first second)
exact-pair first second f g = record {
  one = λ a b e. let p = and_parts (first a.0 b.0) (second a.1 b.1) e in λ i. (f.one a.0 b.0 p.0 i, g.one a.1 b.1 p.1 i);
  own = λ a. and_from (first a.0 a.0) (second a.1 a.1) (f.own a.0) (g.own a.1);
}

-- of a value that shows all of itself
pub exact-by : {A B : Type 0} (shows : A → B) (back : B → A) (same : B → B → Bool) → ((a : A) → back (shows a) ≡ a) → IsExact same → IsExact (same_by shows same)
exact-by shows back same whole h = record {
  one = λ a b e. sym (whole a) ∙ ap back (h.one (shows a) (shows b) e) ∙ whole b;
  own = λ a. h.own (shows a);
}

pub exact-labels : IsExact same_labels
exact-labels = exact-list _ (exact-pair _ _ exact-bytes exact-bytes)

one_done : (a b : DoneCause) → same_done a b ≡ true → a ≡ b
one_done done.Acknowledged done.Acknowledged e = refl
one_done done.Dead done.Dead e = refl
one_done done.Acknowledged done.Dead e = absurd (false≢true e)
one_done done.Dead done.Acknowledged e = absurd (false≢true e)

own_done : (a : DoneCause) → same_done a a ≡ true
own_done done.Acknowledged = refl
own_done done.Dead = refl

one_gone : (a b : GoneCause) → same_gone a b ≡ true → a ≡ b
one_gone gone.Acknowledged gone.Acknowledged e = refl
one_gone gone.Dead gone.Dead e = refl
one_gone gone.Expired gone.Expired e = refl
one_gone _ _ e = absurd (false≢true e)

own_gone : (a : GoneCause) → same_gone a a ≡ true
own_gone gone.Acknowledged = refl
own_gone gone.Dead = refl
own_gone gone.Expired = refl

one_mark : (a b : Mark) → same_mark a b ≡ true → a ≡ b
one_mark (Backlog f u l) (Backlog g v m) e =
    let p = and_parts (nat_eq f g && nat_eq u v) (same_option nat_eq l m) e in
    let q = and_parts (nat_eq f g) (nat_eq u v) p.0 in
    λ i. Backlog (eqb-true f g q.0 i) (eqb-true u v q.1 i) ((exact-option nat_eq exact-number).one l m p.1 i)
one_mark (Leased f l d) (Leased g m e') e =
    let p = and_parts (nat_eq f g && nat_eq l m) (nat_eq d e') e in
    let q = and_parts (nat_eq f g) (nat_eq l m) p.0 in
    λ i. Leased (eqb-true f g q.0 i) (eqb-true l m q.1 i) (eqb-true d e' p.1 i)
one_mark (Ahead f) (Ahead g) e = ap Ahead (eqb-true f g e)
one_mark (Done c) (Done d) e = ap Done (one_done c d e)
one_mark (Gone c) (Gone d) e = ap Gone (one_gone c d e)
one_mark _ _ e = absurd (false≢true e)

own_mark : (a : Mark) → same_mark a a ≡ true
own_mark (Backlog f u l) = and_from _ _ (and_from _ _ (eq-eqb f f refl) (eq-eqb u u refl)) ((exact-option nat_eq exact-number).own l)
own_mark (Leased f l d) = and_from _ _ (and_from _ _ (eq-eqb f f refl) (eq-eqb l l refl)) (eq-eqb d d refl)
own_mark (Ahead f) = eq-eqb f f refl
own_mark (Done c) = own_done c
own_mark (Gone c) = own_gone c

pub exact-mark : IsExact same_mark
exact-mark = record { one = one_mark; own = own_mark }

pub exact-mark-row : IsExact same_mark_row
exact-mark-row = exact-by mark_row_parts (λ p. record { sub = p.0; message = p.1.0; mark = p.1.1 }) _ (λ a. refl) (exact-pair _ _ exact-number (exact-pair _ _ exact-number exact-mark))

pub exact-policy : IsExact same_policy
exact-policy = exact-by policy_parts (λ p. record { topic = p.0; attempts = p.1 }) _ (λ a. refl) (exact-pair _ _ exact-bytes exact-number)

pub exact-retry : IsExact same_retry
exact-retry = exact-by retry_parts (λ p. record { least = p.0; most = p.1 }) _ (λ a. refl) (exact-pair _ _ exact-number exact-number)

pub exact-topic-config : IsExact same_topic_config
exact-topic-config = exact-by topic_config_parts (λ p. record { labels = p.0; retention = p.1 }) _ (λ a. refl) (exact-pair _ _ exact-labels (exact-option _ exact-number))

pub exact-sub-config : IsExact same_sub_config
exact-sub-config =
    exact-by sub_config_parts
    (λ p. record { ack_seconds = p.0; retain_acked = p.1.0; retention = p.1.1.0; labels = p.1.1.1.0; ordering = p.1.1.1.1.0; expiration = p.1.1.1.1.1.0; filter = p.1.1.1.1.1.1.0; dead_letter = p.1.1.1.1.1.1.1.0; retry = p.1.1.1.1.1.1.1.1.0; exactly_once = p.1.1.1.1.1.1.1.1.1 })
    _ (λ a. refl)
    (exact-pair _ _ exact-number (exact-pair _ _ exact-bool (exact-pair _ _ exact-number (exact-pair _ _ exact-labels (exact-pair _ _ exact-bool (exact-pair _ _ (exact-option _ exact-number)
    (exact-pair _ _ exact-bytes (exact-pair _ _ (exact-option _ exact-policy) (exact-pair _ _ (exact-option _ exact-retry) exact-bool)))))))))

pub exact-message : IsExact same_message
exact-message = exact-by message_parts (λ p. record { payload = p.0; attributes = p.1.0; key = p.1.1 }) _ (λ a. refl) (exact-pair _ _ exact-bytes (exact-pair _ _ exact-labels exact-bytes))

pub exact-topic : IsExact same_topic
exact-topic = exact-by topic_parts (λ p. record { number = p.0; name = p.1.0; config = p.1.1 }) _ (λ a. refl) (exact-pair _ _ exact-number (exact-pair _ _ exact-bytes exact-topic-config))

pub exact-sub : IsExact same_sub
exact-sub =
    exact-by sub_parts (λ p. record { number = p.0; name = p.1.0; topic = p.1.1.0; config = p.1.1.1.0; detached = p.1.1.1.1.0; next_lease = p.1.1.1.1.1 }) _ (λ a. refl)
    (exact-pair _ _ exact-number (exact-pair _ _ exact-bytes (exact-pair _ _ exact-number (exact-pair _ _ exact-sub-config (exact-pair _ _ exact-bool exact-number)))))

pub exact-snap : IsExact same_snap
exact-snap =
    exact-by snap_parts (λ p. record { number = p.0; name = p.1.0; topic = p.1.1.0; labels = p.1.1.1.0; listed = p.1.1.1.1.0; bound = p.1.1.1.1.1.0; expiry = p.1.1.1.1.1.1 }) _ (λ a. refl)
    (exact-pair _ _ exact-number (exact-pair _ _ exact-bytes (exact-pair _ _ exact-number (exact-pair _ _ exact-labels (exact-pair _ _ exact-bytes (exact-pair _ _ exact-number exact-number))))))

pub exact-message-row : IsExact same_message_row
exact-message-row =
    exact-by message_row_parts (λ p. record { number = p.0; topic = p.1.0; publish = p.1.1.0; message = p.1.1.1.0; kept = p.1.1.1.1 }) _ (λ a. refl)
    (exact-pair _ _ exact-number (exact-pair _ _ exact-number (exact-pair _ _ exact-number (exact-pair _ _ exact-message exact-bool))))

exact-parts : IsExact (same_pair nat_eq (same_pair nat_eq (same_pair nat_eq (same_pair nat_eq
    (same_pair (pointwise same_topic) (same_pair (pointwise same_sub) (same_pair (pointwise same_snap) (same_pair (pointwise same_message_row) (pointwise same_mark_row)))))))))
exact-parts =
    exact-pair _ _ exact-number (exact-pair _ _ exact-number (exact-pair _ _ exact-number (exact-pair _ _ exact-number
    (exact-pair _ _ (exact-list _ exact-topic) (exact-pair _ _ (exact-list _ exact-sub) (exact-pair _ _ (exact-list _ exact-snap) (exact-pair _ _ (exact-list _ exact-message-row) (exact-list _ exact-mark-row))))))))

-- The test of worlds passes exactly where all but `now` and `count` is one.
pub same-world : (a b : World) → same_world a b ≡ true → world_parts a ≡ world_parts b
same-world a b e = exact-parts.one (world_parts a) (world_parts b) e

pub world-same : (a b : World) → world_parts a ≡ world_parts b → same_world a b ≡ true
world-same a b e = subst (λ (p : WorldParts). parts_same (world_parts a) p ≡ true) e (exact-parts.own (world_parts a))
  where
    parts_same : WorldParts → WorldParts → Bool
    parts_same = same_pair nat_eq (same_pair nat_eq (same_pair nat_eq (same_pair nat_eq
        (same_pair (pointwise same_topic) (same_pair (pointwise same_sub) (same_pair (pointwise same_snap) (same_pair (pointwise same_message_row) (pointwise same_mark_row))))))))
