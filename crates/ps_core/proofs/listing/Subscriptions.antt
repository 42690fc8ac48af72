-- A page of subscriptions is the rules' page.
use Rattle.std.proofs.Common.{◌≡◌, ◌≢◌, ◌<◌, ◌^◌, ℕ, Bool, true, false, not, ◌&&◌, cond, nat_eq, nat_lt, List, [], ◌∷◌, map, find, filter, take, length, codes, Option, Some, None, option_map, refl, sym, ap, subst, ◌∙◌, if◌then◌else◌}
use Rattle.std.specs.List.{AllByRecursion, starts_with}
use Rattle.std.specs.Map.{lookup, values_of}
use Rattle.std.specs.BTreeMap.{is_at, IsOrdered}
use Rattle.std.specs.Ordering.{nat_cmp}
use Rattle.std.specs.Str.{bytes_eq}
use Rattle.std.specs.String.{string_cmp}
use Rattle.ps_base.specs.Keys.{is_below}
use Rattle.ps_base.proofs.Lists.{each-then, each-map, each-left, each-always}
use Rattle.ps_names.specs.Names.{is_project, is_sub_name, project_part}
use Rattle.ps_model.specs.declared.command.Command.TheVariants.{ListSubscriptions, ListTopicSubscriptions}
use Rattle.ps_model.specs.declared.command.Paging.{Paging}
use Rattle.ps_model.specs.declared.reply.PageItems.TheVariants.{Subscriptions, SubscriptionNames}
use Rattle.ps_model.specs.declared.reply.Reply.TheVariants.{Page, Refused}
use Rattle.ps_base.specs.declared.refusal.Refusal.TheVariants.{NotFound}
use Rattle.ps_model.specs.Worlds.{topic_named}
use Rattle.std.proofs.lemmas.Bool.{false≢true}
use Rattle.ps_model.specs.declared.world.SubRow.{SubRow}
use Rattle.ps_model.specs.Listing.{after_token, last_name, page_size}
use Rattle.ps_model.specs.Outcomes.{Shows}
use Rattle.ps_model.specs.Showing.{sub_shown}
use Rattle.ps_tables.specs.declared.name_index.NameIndex.{NameIndex}
use Rattle.ps_tables.specs.declared.tables.KeptTopic.{KeptTopic}
use Rattle.ps_tables.specs.declared.tables.Tables.{Tables}
use Rattle.ps_core.specs.Carrying.{IsCarried}
use Rattle.ps_core.specs.Keeping.{IsKept, subscription_at}
use Rattle.ps_tables.specs.Members.{HasMembers, numbered, has_name, attached_at}
use Rattle.ps_core.specs.Pages.{front_of, rows_at, sub_name, sub_number, HasSubscriptionsOf}
use Rattle.ps_tables.specs.Pages.{named_numbers, range_of, is_in_range, page_numbers, page_next}
use Rattle.ps_core.specs.State.{State, sub_row, seen}
use Rattle.ps_tables.specs.Subscriptions.{number_of, is_attached}
use Rattle.ps_tables.proofs.lists.Filtered.{filter-all}
use Rattle.ps_core.proofs.carrying.Outcomes.{outcome-open, carried-shown}
use Rattle.ps_core.proofs.listing.Fronts.{in-project}
use Rattle.ps_core.proofs.listing.Listed.{entry, entries-rows, range-rows, next-listed, page-rows}
use Rattle.ps_tables.proofs.names.Paging.{bytes-up}
use Rattle.ps_tables.proofs.lists.Ordered.{ordered-map, ordered-filter}
use Rattle.ps_core.proofs.listing.Topics.{index-found}
use Rattle.ps_core.proofs.carrying.Kept.{find-in-map, IsTopicAt}
use Rattle.ps_tables.specs.declared.kept_subscription.KeptSubscription.{KeptSubscription}
use Rattle.ps_core.specs.Steady.{IsSteady}
use Rattle.ps_model.specs.Sound.{Ordered}
use Rattle.ps_model.specs.Listing.{topic_subs_at}

-- the rows of a state's subscriptions
abbrev rows : State → List SubRow
rows s = map sub_row s.subscriptions

names-differ : (s : State) → IsSteady s → Ordered (λ (a b : SubRow). a.name ≢ b.name) (rows s)
names-differ s h = ordered-map (λ (a b : KeptSubscription). a.name ≢ b.name) (λ (a b : SubRow). a.name ≢ b.name) sub_row s.subscriptions (λ a b differ. differ) h.subscription_names

numbers-rise : (s : State) → IsSteady s → Ordered (λ (a b : SubRow). a.number < b.number) (rows s)
numbers-rise s h = ordered-map (λ (a b : KeptSubscription). a.number < b.number) (λ (a b : SubRow). a.number < b.number) sub_row s.subscriptions (λ a b up. up) h.subscriptions

grammar : (s : State) → IsSteady s → AllByRecursion (λ (r : SubRow). is_sub_name r.name ≡ true) (rows s)
grammar s h = each-map (λ (x : KeptSubscription). is_sub_name x.name ≡ true) (λ (r : SubRow). is_sub_name r.name ≡ true) sub_row s.subscriptions (λ x is. is) h.subscription_grammar

row-number : (o : Option KeptSubscription) → option_map sub_number (option_map sub_row o) ≡ option_map number_of o
row-number None = refl
row-number (Some x) = refl

-- the rows are found as the subscriptions are
named-rows : (q : List ℕ) (xs : List KeptSubscription) → subscription_at q xs ≡ option_map sub_number (find (λ (r : SubRow). bytes_eq r.name q) (map sub_row xs))
named-rows q xs = sym (ap (option_map sub_number) (find-in-map sub_row (λ (r : SubRow). bytes_eq r.name q) xs) ∙ row-number (find (has_name q) xs))

abbrev pub is_row_of : ℕ → SubRow → Bool
is_row_of topic r = nat_eq r.topic topic && not r.detached

attached-rows : (topic : ℕ) (q : List ℕ) (xs : List KeptSubscription) → attached_at topic q xs ≡ option_map sub_number (find (λ (r : SubRow). bytes_eq r.name q) (filter (is_row_of topic) (map sub_row xs)))
attached-rows topic q [] = refl
attached-rows topic q (x ∷ xs) = by (bytes_eq x.name q) (is_attached topic x) refl (attached-rows topic q xs)
  where
    left : List SubRow
    left = filter (is_row_of topic) (map sub_row xs)

    by : (a b : Bool) → bytes_eq x.name q ≡ a → attached_at topic q xs ≡ option_map sub_number (find (λ (r : SubRow). bytes_eq r.name q) (filter (is_row_of topic) (map sub_row xs)))
        → option_map number_of (cond (a && b) (Some x) (find (λ (x : KeptSubscription). has_name q x && is_attached topic x) xs))
        ≡ option_map sub_number (find (λ (r : SubRow). bytes_eq r.name q) (cond b (sub_row x ∷ filter (is_row_of topic) (map sub_row xs)) (filter (is_row_of topic) (map sub_row xs))))
    by true true is ih = sym (ap (λ (c : Bool). option_map sub_number (cond c (Some (sub_row x)) (find (λ (r : SubRow). bytes_eq r.name q) (filter (is_row_of topic) (map sub_row xs))))) is)
    by false true is ih = ih ∙ sym (ap (λ (c : Bool). option_map sub_number (cond c (Some (sub_row x)) (find (λ (r : SubRow). bytes_eq r.name q) (filter (is_row_of topic) (map sub_row xs))))) is)
    by true false is ih = ih
    by false false is ih = ih

-- what an index has in a range, and what a page of it comes to
abbrev rows_after : (SubRow → Bool) → List ℕ → State → List SubRow
rows_after kept after s = after_token (λ (r : SubRow). r.name) after (filter kept (rows s))

abbrev entries_after : (SubRow → Bool) → List ℕ → State → List (List ℕ × ℕ)
entries_after kept after s = map (entry (λ (r : SubRow). r.name) sub_number) (rows_after kept after s)

record IsPage (s : State) (kept : SubRow → Bool) (paging : Paging) (numbers : List ℕ) (next : Option (List ℕ)) : Type 0 where
  rows_are : rows_at sub_number numbers (rows s) ≡ take (page_size paging.size) (rows_after kept paging.after s)
  next_is : next ≡ (if nat_lt (length (take (page_size paging.size) (rows_after kept paging.after s))) (length (rows_after kept paging.after s)) then last_name (λ (r : SubRow). r.name) (take (page_size paging.size) (rows_after kept paging.after s)) else None)

page-of : (s : State) (kept : SubRow → Bool) (paging : Paging) (numbers : List ℕ) (most : ℕ) (next : Option (List ℕ)) (range : List (List ℕ × ℕ)) → IsSteady s → most ≡ page_size paging.size → range ≡ entries_after kept paging.after s
    → numbers ≡ page_numbers most range → next ≡ page_next most range → IsPage s kept paging numbers next
page-of s kept paging numbers most next range steady sizes is are follows = record {
  rows_are = ap (λ ns. rows_at sub_number ns (rows s)) (are ∙ (λ i. page_numbers (sizes i) (is i))) ∙ page-rows (λ (r : SubRow). r.name) sub_number kept paging.after (page_size paging.size) (rows s) (numbers-rise s steady);
  next_is = follows ∙ (λ i. page_next (sizes i) (is i)) ∙ next-listed (λ (r : SubRow). r.name) sub_number (page_size paging.size) (rows_after kept paging.after s);
}

-- ---- the subscriptions of a project

abbrev is_in : List ℕ → SubRow → Bool
is_in project r = bytes_eq (project_part r.name) project

subscriptions-range : (s : State) (next_end : ℕ) (tables : Tables) (project after : List ℕ) → IsKept s next_end tables → IsOrdered string_cmp tables.subscription_numbers.numbers → is_project project ≡ true
    → range_of (front_of (codes "subscriptions") project) after tables.subscription_numbers ≡ entries_after (is_in project) after s
subscriptions-range s next_end tables project after kept ordered good =
    let front = front_of (codes "subscriptions") project in
    ap (filter (λ (e : List ℕ × ℕ). is_in_range front after e.0))
    (entries-rows (λ (r : SubRow). r.name) sub_number (named_numbers tables.subscription_numbers) (rows s) (bytes-up tables.subscription_numbers.numbers.entries ordered) (names-differ s kept.steady)
    (λ q. index-found tables.subscription_numbers q ∙ kept.subscription_numbers q ∙ named-rows q s.subscriptions))
    ∙ range-rows (λ (r : SubRow). r.name) sub_number (is_in project) (λ n. starts_with nat_eq n front && is_below front n) after (rows s) (names-differ s kept.steady)
    (each-then (λ (r : SubRow). is_sub_name r.name ≡ true) (λ (r : SubRow). (starts_with nat_eq r.name front && is_below front r.name) ≡ is_in project r) (rows s) (λ r is. in-project (codes "subscriptions") project r.name refl good is) (grammar s kept.steady))

pub subscriptions-page : (at : ℕ) (project : List ℕ) (paging : Paging) (s : State) (next_end : ℕ) (tables : Tables) → IsKept s next_end tables → IsOrdered string_cmp tables.subscription_numbers.numbers → is_project project ≡ true → s.count < 2 ^ 50
    → (front after numbers : List ℕ) (most : ℕ) (next : Option (List ℕ)) → front ≡ front_of (codes "subscriptions") project → after ≡ paging.after → most ≡ page_size paging.size
    → numbers ≡ page_numbers most (range_of front after tables.subscription_numbers) → next ≡ page_next most (range_of front after tables.subscription_numbers)
    → IsCarried at (ListSubscriptions project paging) s s (Page (Subscriptions (map (sub_shown (seen s)) (rows_at sub_number numbers (seen s).subs))) next) false
subscriptions-page at project paging s next_end tables kept ordered good room front after numbers most next fronts afters sizes are follows =
    let page = page-of s (is_in project) paging numbers most next (range_of front after tables.subscription_numbers) kept.steady sizes ((λ i. range_of (fronts i) (afters i) tables.subscription_numbers) ∙ subscriptions-range s next_end tables project paging.after kept ordered good) are follows in
    carried-shown at (ListSubscriptions project paging) s (Page (Subscriptions (map (sub_shown (seen s)) (rows_at sub_number numbers (seen s).subs))) next)
    (outcome-open s at (ListSubscriptions project paging) room refl ∙ (λ i. Shows (Page (Subscriptions (map (sub_shown (seen s)) (sym page.rows_are i))) (sym page.next_is i))))

-- ---- the subscriptions of a topic

behind-nothing : (name : List ℕ) → is_sub_name name ≡ true → (starts_with nat_eq name [] && is_below [] name) ≡ true
behind-nothing [] h = absurd (false≢true h)
behind-nothing (x ∷ xs) h = refl

members-range : (s : State) (topic : ℕ) (index : NameIndex) (after : List ℕ) → IsSteady s → IsOrdered string_cmp index.numbers → ((q : List ℕ) → numbered index q ≡ attached_at topic q s.subscriptions) → range_of [] after index ≡ entries_after (is_row_of topic) after s
members-range s topic index after steady ordered members =
    let there = filter (is_row_of topic) (rows s) in
    let differ = ordered-filter (λ (a b : SubRow). a.name ≢ b.name) (is_row_of topic) (rows s) (names-differ s steady) in
    ap (filter (λ (e : List ℕ × ℕ). is_in_range [] after e.0))
    (entries-rows (λ (r : SubRow). r.name) sub_number (named_numbers index) there (bytes-up index.numbers.entries ordered) differ (λ q. index-found index q ∙ members q ∙ attached-rows topic q s.subscriptions))
    ∙ range-rows (λ (r : SubRow). r.name) sub_number (λ (r : SubRow). true) (λ n. starts_with nat_eq n [] && is_below [] n) after there differ
    (each-then (λ (r : SubRow). is_sub_name r.name ≡ true) (λ (r : SubRow). (starts_with nat_eq r.name [] && is_below [] r.name) ≡ true) there (λ r is. behind-nothing r.name is)
    (each-left (λ (r : SubRow). is_sub_name r.name ≡ true) (is_row_of topic) (rows s) (grammar s steady)))
    ∙ ap (λ rs. map (entry (λ (r : SubRow). r.name) sub_number) (after_token (λ (r : SubRow). r.name) after rs)) (filter-all (λ (r : SubRow). true) there (each-always (λ (r : SubRow). ◌≡◌ {A = Bool} true true) there (λ r. refl)))

pub members-page : (at : ℕ) (name : List ℕ) (paging : Paging) (s : State) (index : NameIndex) → IsSteady s → HasSubscriptionsOf s name index → IsOrdered string_cmp index.numbers → s.count < 2 ^ 50
    → (after numbers : List ℕ) (most : ℕ) (next : Option (List ℕ)) → after ≡ paging.after → most ≡ page_size paging.size → numbers ≡ page_numbers most (range_of [] after index) → next ≡ page_next most (range_of [] after index)
    → IsCarried at (ListTopicSubscriptions name paging) s s (Page (SubscriptionNames (map sub_name (rows_at sub_number numbers (seen s).subs))) next) false
members-page at name paging s index steady has ordered room after numbers most next afters sizes are follows =
    let topic = has.topic.number in
    let page = page-of s (is_row_of topic) paging numbers most next (range_of [] after index) steady sizes ((λ i. range_of [] (afters i) index) ∙ members-range s topic index paging.after steady ordered has.members) are follows in
    carried-shown at (ListTopicSubscriptions name paging) s (Page (SubscriptionNames (map sub_name (rows_at sub_number numbers (seen s).subs))) next)
    (outcome-open s at (ListTopicSubscriptions name paging) room refl ∙ ap (topic_subs_at (seen s) paging name) has.named ∙ (λ i. Shows (Page (SubscriptionNames (map sub_name (sym page.rows_are i))) (sym page.next_is i))))

pub members-missing : (at : ℕ) (name : List ℕ) (paging : Paging) (s : State) → s.count < 2 ^ 50 → topic_named (seen s) name ≡ None → IsCarried at (ListTopicSubscriptions name paging) s s (Refused (NotFound name)) false
members-missing at name paging s room missing =
    carried-shown at (ListTopicSubscriptions name paging) s (Refused (NotFound name)) (outcome-open s at (ListTopicSubscriptions name paging) room refl ∙ ap (topic_subs_at (seen s) paging name) missing)

-- ---- the subscriptions that a topic has beside its row

each-looked : {A : Type 0} (P : A → Type 0) (test : ℕ → Bool) (es : List (ℕ × A)) (x : A) → lookup test es ≡ Some x → AllByRecursion P (values_of es) → P x
each-looked P test [] x is h = absurd (cc (is))
each-looked P test (e ∷ es) x is h = by (test e.0) is (λ there. each-looked P test es x there h.1)
  where
    by : (b : Bool) → cond b (Some e.1) (lookup test es) ≡ Some x → (lookup test es ≡ Some x → P x) → P x
    by true is ih = let same : e.1 ≡ x = cc (is) in subst P same h.0
    by false is ih = ih is

pub members-found : (s : State) (next_end : ℕ) (tables : Tables) (name : List ℕ) (n : ℕ) (x : KeptTopic) → IsKept s next_end tables → IsTopicAt s tables name n x → HasSubscriptionsOf s name x.subs
members-found s next_end tables name n x kept at = record {
  topic = x.row;
  named = at.named;
  members = each-looked (HasMembers s.subscriptions) (is_at (nat_cmp n)) tables.topics.entries x at.got kept.members;
}
