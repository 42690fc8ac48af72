-- No reply has a float, so its text is known.
use Rattle.std.proofs.Common.{◌≡◌, ℕ, List, [], ◌∷◌, ◌++◌, Bool, true, false, codes, Option, Some, None, option_map, map, fold, Ordering, Less, Equal, Greater, nat_cmp, refl}
use Rattle.std.proofs.lemmas.Bool.{or_parts, or_from}
use Rattle.std.specs.Cmp.Lexicographic.{slice_cmp}
use Rattle.std.specs.Ordering.{match_ordering}
use Rattle.serde_json.specs.Data.{Data, string, Members, no_members, member, put}
use Rattle.serde_json.specs.View.{items_of}
use Rattle.serde_json.specs.Written.{has_float, items_have_float, members_have_float}
use Rattle.ps_base.specs.declared.ack_id.AckId.{AckId}
use Rattle.ps_config.specs.declared.config.RetryPolicy.{RetryPolicy}
use Rattle.ps_model.specs.declared.reply.TopicShown.{TopicShown}
use Rattle.ps_model.specs.declared.reply.SubShown.{SubShown}
use Rattle.ps_model.specs.declared.reply.SnapShown.{SnapShown}
use Rattle.ps_model.specs.declared.reply.ReceivedMessage.{ReceivedMessage}
use Rattle.ps_model.specs.declared.reply.PageItems.{PageItems}
use Rattle.ps_model.specs.declared.reply.PageItems.TheVariants.{Topics, Subscriptions, Snapshots, SubscriptionNames, SnapshotNames}
use Rattle.ps_model.specs.declared.reply.Reply.{Reply}
use Rattle.ps_model.specs.declared.reply.Reply.TheVariants.{Empty, Topic, Subscription, Snapshot, Page, Published, Received, Acked, Modified, Refused}
use Rattle.ps_json.specs.Objects.{Field, with_field, with_fields, object_of, whole, filled_text, flag, filled_list, filled_labels}
use Rattle.ps_json.specs.Times.{duration_data, moment_data}
use Rattle.ps_json.specs.Resources.{topic_fields, topic_data, expiration_fields, expiration_data, dead_letter_data, retry_fields, retry_data, setting_fields, flag_fields, policy_fields, subscription_data, snapshot_fields, snapshot_data}
use Rattle.ps_json.specs.Messages.{message_id, numbers_from, published_fields, payload_data, message_fields, message_data, received_fields, received_data, received_list_fields}
use Rattle.ps_json.specs.Replies.{body_of, detail_data, details_of, acked_data, items_field, page_fields}

-- it has no float
abbrev pub IsPlain : Data → Type 0
IsPlain d = has_float d ≡ false

-- a field's value has one
abbrev pub field_has_float : Option Data → Bool
field_has_float None = false
field_has_float (Some d) = has_float d

-- no field has one
abbrev pub PlainFields : List Field → Type 0
PlainFields [] = Unit {0}
PlainFields (f ∷ fs) = (field_has_float f.1 ≡ false) × PlainFields fs

put_at : (o : Ordering) (k l : List ℕ) (d e : Data) (ms : Members) → IsPlain d → members_have_float (member l e ms) ≡ false → members_have_float (put k d ms) ≡ false
    → members_have_float (match_ordering o (member k d (member l e ms)) (member l d ms) (member l e (put k d ms))) ≡ false
put_at Less k l d e ms plain rest later = or_from _ _ plain rest
put_at Equal k l d e ms plain rest later = or_from _ _ plain (or_parts (has_float e) (members_have_float ms) rest).1
put_at Greater k l d e ms plain rest later = or_from _ _ (or_parts (has_float e) (members_have_float ms) rest).0 later

plain-put : (k : List ℕ) (d : Data) (ms : Members) → IsPlain d → members_have_float ms ≡ false → members_have_float (put k d ms) ≡ false
plain-put k d no_members plain rest = or_from _ _ plain refl
plain-put k d (member l e ms) plain rest =
    put_at (slice_cmp nat_cmp k l) k l d e ms plain rest (plain-put k d ms plain (or_parts (has_float e) (members_have_float ms) rest).1)

plain-with_field : (k : List ℕ) (o : Option Data) (ms : Members) → field_has_float o ≡ false → members_have_float ms ≡ false → members_have_float (with_field k o ms) ≡ false
plain-with_field k None ms plain rest = rest
plain-with_field k (Some d) ms plain rest = plain-put k d ms plain rest

plain-with_fields : (fs : List Field) (ms : Members) → PlainFields fs → members_have_float ms ≡ false → members_have_float (with_fields fs ms) ≡ false
plain-with_fields [] ms plain rest = rest
plain-with_fields (f ∷ fs) ms plain rest = plain-with_fields fs (with_field f.0 f.1 ms) plain.1 (plain-with_field f.0 f.1 ms plain.0 rest)

plain-object_of : (fs : List Field) → PlainFields fs → IsPlain (object_of fs)
plain-object_of fs plain = plain-with_fields fs no_members plain refl

plain-labels : (ps : List (List ℕ × List ℕ)) (ms : Members) → members_have_float ms ≡ false → members_have_float (fold (λ rest p. put p.0 (string p.1) rest) ms ps) ≡ false
plain-labels [] ms rest = rest
plain-labels (p ∷ ps) ms rest = plain-labels ps (put p.0 (string p.1) ms) (plain-put p.0 (string p.1) ms refl rest)

plain-filled_labels : (ps : List (List ℕ × List ℕ)) → field_has_float (filled_labels ps) ≡ false
plain-filled_labels [] = refl
plain-filled_labels (p ∷ ps) = plain-labels (p ∷ ps) no_members refl

plain-filled_text : (text : List ℕ) → field_has_float (filled_text text) ≡ false
plain-filled_text [] = refl
plain-filled_text (c ∷ cs) = refl

plain-flag : (set : Bool) → field_has_float (flag set) ≡ false
plain-flag true = refl
plain-flag false = refl

plain-option : {A : Type 0} (f : A → Data) (plain : (x : A) → IsPlain (f x)) (o : Option A) → field_has_float (option_map f o) ≡ false
plain-option f plain None = refl
plain-option f plain (Some x) = plain x

plain-items : {A : Type 0} (f : A → Data) (plain : (x : A) → IsPlain (f x)) (xs : List A) → items_have_float (items_of (map f xs)) ≡ false
plain-items f plain [] = refl
plain-items f plain (x ∷ xs) = or_from _ _ (plain x) (plain-items f plain xs)

plain-list : {A : Type 0} (f : A → Data) (plain : (x : A) → IsPlain (f x)) (xs : List A) → field_has_float (filled_list (map f xs)) ≡ false
plain-list f plain [] = refl
plain-list f plain (x ∷ xs) = plain-items f plain (x ∷ xs)

plain-duration : (ms : ℕ) → IsPlain (duration_data ms)
unfolding duration_data
plain-duration ms = refl

plain-moment : (ms : ℕ) → IsPlain (moment_data ms)
unfolding moment_data
plain-moment ms = refl

plain-topic : (t : TopicShown) → IsPlain (topic_data t)
plain-topic t = plain-object_of (topic_fields t) (plain-filled_labels t.config.labels, (plain-option duration_data plain-duration t.config.retention, (refl, tt)))

plain-expiration : (o : Option ℕ) → IsPlain (expiration_data o)
plain-expiration o = plain-object_of (expiration_fields o) (plain-option duration_data plain-duration o, tt)

plain-retry : (policy : RetryPolicy) → IsPlain (retry_data policy)
plain-retry policy = plain-object_of (retry_fields policy) (plain-duration policy.most, (plain-duration policy.least, tt))

plain-settings : (s : SubShown) → PlainFields (setting_fields s)
plain-settings s = (refl, (plain-expiration s.config.expiration, (plain-duration s.config.retention, (refl, (refl, tt)))))

plain-flags : (s : SubShown) → PlainFields (flag_fields s)
plain-flags s = (plain-flag s.detached, (plain-flag s.config.exactly_once, (plain-flag s.config.ordering, (plain-flag s.config.retain_acked, tt))))

plain-policies : (s : SubShown) → PlainFields (policy_fields s)
plain-policies s = (
  plain-option dead_letter_data (λ policy. refl) s.config.dead_letter,
  (
    plain-filled_text s.config.filter,
    (
      plain-filled_labels s.config.labels,
      (
        plain-option retry_data plain-retry s.config.retry,
        (plain-option duration_data plain-duration s.topic_retention, tt),
      ),
    ),
  ),
)

plain-subscription : (s : SubShown) → IsPlain (subscription_data s)
plain-subscription s =
    plain-with_fields (policy_fields s) _ (plain-policies s) (plain-with_fields (flag_fields s) _ (plain-flags s) (plain-with_fields (setting_fields s) no_members (plain-settings s) refl))

plain-snapshot : (s : SnapShown) → IsPlain (snapshot_data s)
plain-snapshot s = plain-object_of (snapshot_fields s) (plain-moment s.expiry, (plain-filled_labels s.labels, (refl, (refl, tt))))

plain-payload : (bytes : List ℕ) → field_has_float (payload_data bytes) ≡ false
plain-payload [] = refl
plain-payload (b ∷ bytes) = refl

plain-message : (r : ReceivedMessage) → IsPlain (message_data r)
plain-message r =
    plain-object_of (message_fields r)
    (plain-filled_labels r.message.attributes, (plain-payload r.message.payload, (refl, (plain-filled_text r.message.key, (plain-moment r.publish, tt)))))

plain-received : (r : ReceivedMessage) → IsPlain (received_data r)
plain-received r = plain-object_of (received_fields r) (refl, (plain-option whole (λ n. refl) r.attempt, (plain-message r, tt)))

plain-append : (ds es : List Data) → items_have_float (items_of ds) ≡ false → items_have_float (items_of es) ≡ false → items_have_float (items_of (ds ++ es)) ≡ false
plain-append [] es plain later = later
plain-append (d ∷ ds) es plain later =
    let parts = or_parts (has_float d) (items_have_float (items_of ds)) plain in
    or_from _ _ parts.0 (plain-append ds es parts.1 later)

plain-details : (invalid unordered : List AckId) → items_have_float (items_of (details_of invalid unordered)) ≡ false
plain-details invalid unordered =
    let first = detail_data (codes "PERMANENT_FAILURE_INVALID_ACK_ID") in
    let second = detail_data (codes "UNORDERED_ACK_ID") in
    plain-append (map first invalid) (map second unordered) (plain-items first (λ id. refl) invalid) (plain-items second (λ id. refl) unordered)

plain-acked : (ds : List Data) → items_have_float (items_of ds) ≡ false → IsPlain (acked_data ds)
plain-acked [] plain = refl
plain-acked (d ∷ ds) plain = rw plain

plain-items_field : (items : PageItems) → field_has_float (items_field items).1 ≡ false
plain-items_field (Topics topics) = plain-list topic_data plain-topic topics
plain-items_field (Subscriptions subs) = plain-list subscription_data plain-subscription subs
plain-items_field (Snapshots snaps) = plain-list snapshot_data plain-snapshot snaps
plain-items_field (SubscriptionNames names) = plain-list string (λ name. refl) names
plain-items_field (SnapshotNames names) = plain-list string (λ name. refl) names

pub plain-body_of : (reply : Reply) → IsPlain (body_of reply)
unfolding body_of
plain-body_of Empty = refl
plain-body_of (Topic topic) = plain-topic topic
plain-body_of (Subscription sub) = plain-subscription sub
plain-body_of (Snapshot snap) = plain-snapshot snap
plain-body_of (Page items next) = plain-object_of (page_fields items next) (plain-items_field items, (plain-option string (λ name. refl) next, tt))
plain-body_of (Published first count) = plain-object_of (published_fields first count) (plain-list message_id (λ n. refl) (numbers_from first count), tt)
plain-body_of (Received exactly_once ordering items) = plain-object_of (received_list_fields items) (plain-list received_data plain-received items, tt)
plain-body_of (Acked exactly_once invalid unordered) = plain-acked (details_of invalid unordered) (plain-details invalid unordered)
plain-body_of (Modified exactly_once invalid) = plain-acked (details_of invalid []) (plain-details invalid [])
plain-body_of (Refused refused) = refl
