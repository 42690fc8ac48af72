use Rattle.std.proofs.Common.{◌≡◌, ◌++◌, ◌⊎◌, inl, inr, ℕ, None, nat_eq, List, drop, find, length, map, refl, sym, ap, subst, ◌∙◌}
use Rattle.std.specs.BTreeMap.{values}
use Rattle.std.specs.List.{AllByRecursion}
use Rattle.std.proofs.lemmas.Bool.{both_ways}
use Rattle.std.proofs.lemmas.Result.{on_ok_weaker}
use Rattle.ps_base.proofs.Lists.{any-none, each-then, none-found}
use Rattle.ps_model.specs.Forwarding.{message_rows}
use Rattle.ps_tables.specs.declared.tables.KeptTopic.{KeptTopic}
use Rattle.ps_tables.specs.Subscriptions.{enter_subscription}
use Rattle.ps_tables.specs.Entering.{IsDistinct, count_each, enter_among, has_topic, kept_rows}
use Rattle.ps_tables.proofs.numbers.Numbered.{numbered-found}
use Rattle.ps_tables.proofs.publishing.Members.{AreMembers, entered-members, topic-members}
use Rattle.ps_tables.proofs.publishing.Holders.{counts-are, wanting}
use Rattle.ps_tables.proofs.publishing.Tables.{both-ok, published-rows, written-back}
use Rattle.ps_tables.proofs.tables.Tables.publish.Goals as goal

pub returns-in_default : goal.returns-in_default
returns-in_default c =
    let number = λ (x : KeptTopic). x.row.number in
    let none : find (λ (x : KeptTopic). nat_eq x.row.number c.args.topic) (values c.args.self.now.topics) ≡ None = sym (numbered-found number c.args.topic c.args.self.now.topics.entries c.requires.can.topics) ∙ sym c.in_default.ensures.value in
    let absent = any-none (λ (x : KeptTopic). nat_eq x.row.number c.args.topic) (values c.args.self.now.topics) (none-found (λ (x : KeptTopic). nat_eq x.row.number c.args.topic) (values c.args.self.now.topics) none) in
    absurd (both_ways (has_topic c.args.topic c.args.self.now) absent c.requires.there)

pub enter_each-requires-clause-distinct : goal.enter_each-requires-clause-distinct
enter_each-requires-clause-distinct c =
    let can = c.requires.can in
    let tables = c.args.self.now in
    let found = sym (numbered-found (λ (x : KeptTopic). x.row.number) c.args.topic tables.topics.entries can.topics) ∙ sym c.in-Some.ensures.value in
    subst IsDistinct (sym (c.as_slice.ensures.value ∙ c.in_ok-numbers.ensures.numbers)) (topic-members c.args.topic (values tables.subscriptions) (values tables.topics) can.ordered can.names can.members c.in-Some.kept.now found c.in_ok-numbers.ensures.ordered).distinct

pub enter_each-requires-clause-nobody : goal.enter_each-requires-clause-nobody
enter_each-requires-clause-nobody c =
    subst (AllByRecursion (λ n. n ≡ 0)) (sym c.as_mut_slice.ensures.value)
    (each-then (λ n. (n ≡ 0) ⊎ (n ≡ 0)) (λ n. n ≡ 0) c.in_ok-holders.holders.items (λ n h. elim h [ inl e ↦ e | inr e ↦ e ]) c.in_ok-holders.ensures.items)

pub returns : goal.returns
returns c =
    let can = c.requires.can in
    let tables = c.args.self.now in
    let topic = c.args.topic in
    let first = c.args.first in
    let at = c.args.at in
    let messages = c.args.messages.now in
    let xs = values tables.subscriptions in
    let numbers = values c.in-Some.kept.now.subs.numbers in
    let found = sym (numbered-found (λ (x : KeptTopic). x.row.number) topic tables.topics.entries can.topics) ∙ sym c.in-Some.ensures.value in
    let are : AreMembers topic xs numbers = topic-members topic xs (values tables.topics) can.ordered can.names can.members c.in-Some.kept.now found c.in_ok-numbers.ensures.ordered in
    let listed : c.as_slice.result.now ≡ numbers = c.as_slice.ensures.value ∙ c.in_ok-numbers.ensures.numbers in
    let long : length c.as_mut_slice.result.now ≡ length messages = c.as_mut_slice.ensures.len ∙ c.in_ok-holders.ensures.len in
    let nobody : AllByRecursion (λ n. n ≡ 0) c.as_mut_slice.result.now =
    subst (AllByRecursion (λ n. n ≡ 0)) (sym c.as_mut_slice.ensures.value)
    (each-then (λ n. (n ≡ 0) ⊎ (n ≡ 0)) (λ n. n ≡ 0) c.in_ok-holders.holders.items (λ n h. elim h [ inl e ↦ e | inr e ↦ e ]) c.in_ok-holders.ensures.items) in
    let back = written-back c.enter_each.new.holders (drop (length c.enter_each.new.holders) c.in_ok-holders.holders.items) c.in_ok-holders.holders.len (c.enter_each.auto.holders ∙ c.as_mut_slice.ensures.len) in
    let counts : c.as_slice-holders.result.now ≡ count_each messages xs numbers c.as_mut_slice.result.now = c.as_slice-holders.ensures.value ∙ back ∙ c.in_ok-enter_each.ensures.holders ∙ ap (λ (ns : List ℕ). count_each messages xs ns c.as_mut_slice.result.now) listed in
    let made : values c.enter_each.new.subscriptions ≡ map (enter_subscription topic (message_rows topic first at messages)) xs = c.in_ok-enter_each.ensures.subscriptions ∙ ap (λ (ns : List ℕ). map (enter_among first at messages ns) xs) listed ∙ entered-members topic first at messages numbers xs are.right in
    let total : c.as_slice-holders.result.now ≡ map (wanting topic xs) messages = counts ∙ counts-are topic messages xs numbers c.as_mut_slice.result.now can.ordered are.distinct are.right long nobody in
    record {
      published = on_ok_weaker c.keep_each.result
          (λ kept. record {
            topics = refl;
            topic_numbers = refl;
            subscription_numbers = refl;
            subscriptions = made;
            subscription_keys = c.in_ok-enter_each.ensures.keys;
            kept = published-rows first at topic messages xs (values tables.messages) (values c.keep_each.new.kept) (values c.enter_each.new.subscriptions) can.ready (kept.0 ∙ ap (λ (ns : List ℕ). values tables.messages ++ kept_rows (message_rows topic first at messages) ns) total) made;
            message_keys = kept.1;
          })
          (both-ok _ _ c.keep_each.result c.keep_each.ensures.kept c.keep_each.ensures.keys);
    }
