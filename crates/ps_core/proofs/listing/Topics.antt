-- A page of topics is the rules' page.
use Rattle.std.proofs.Common.{◌≡◌, ◌<◌, ◌^◌, ℕ, true, false, ◌&&◌, cond, nat_eq, nat_lt, List, [], ◌∷◌, map, filter, take, length, codes, Option, Some, None, String, refl, sym, ap, ◌∙◌, if◌then◌else◌}
use Rattle.std.specs.List.{starts_with}
use Rattle.std.specs.Map.{lookup}
use Rattle.std.specs.BTreeMap.{is_at, IsOrdered}
use Rattle.std.specs.Cmp.Lexicographic.{slice_cmp}
use Rattle.std.specs.Ordering.{nat_cmp}
use Rattle.std.specs.Str.{bytes_eq}
use Rattle.std.specs.String.{string_cmp, string_bytes}
use Rattle.ps_base.specs.Keys.{is_below}
use Rattle.ps_base.proofs.Lists.{each-then}
use Rattle.ps_names.specs.Names.{is_project, is_topic_name, project_part}
use Rattle.ps_model.specs.declared.command.Command.TheVariants.{ListTopics}
use Rattle.ps_model.specs.declared.command.Paging.{Paging}
use Rattle.ps_model.specs.declared.reply.PageItems.TheVariants.{Topics}
use Rattle.ps_model.specs.declared.reply.Reply.TheVariants.{Page}
use Rattle.ps_model.specs.declared.world.TopicRow.{TopicRow}
use Rattle.ps_model.specs.Listing.{after_token, last_name, page_size}
use Rattle.ps_model.specs.Outcomes.{Shows}
use Rattle.ps_model.specs.Showing.{topic_shown}
use Rattle.ps_tables.specs.declared.name_index.NameIndex.{NameIndex}
use Rattle.ps_tables.specs.declared.tables.Tables.{Tables}
use Rattle.ps_core.specs.Carrying.{IsCarried}
use Rattle.ps_core.specs.Keeping.{IsKept}
use Rattle.ps_tables.specs.Members.{numbered}
use Rattle.ps_core.specs.Pages.{front_of, rows_at}
use Rattle.ps_tables.specs.Pages.{named_numbers, with_bytes, range_of, is_in_range, page_numbers, page_next}
use Rattle.ps_core.specs.State.{State, topic_number}
use Rattle.ps_core.proofs.carrying.Outcomes.{outcome-open, carried-shown}
use Rattle.ps_core.proofs.listing.Fronts.{in-project}
use Rattle.ps_core.proofs.listing.Listed.{entry, entries-rows, range-rows, next-listed, page-rows}
use Rattle.ps_tables.proofs.names.Paging.{bytes-up}

-- what is found among the bytes
lookup-bytes : {Y : Type 0} (q : List ℕ) (es : List (String Y × ℕ)) → lookup (is_at (slice_cmp nat_cmp q)) (with_bytes es) ≡ lookup (is_at (λ k. slice_cmp nat_cmp q (string_bytes k))) es
lookup-bytes q [] = refl
lookup-bytes q (e ∷ es) = ap (cond (is_at (slice_cmp nat_cmp q) (string_bytes e.0)) (Some e.1)) (lookup-bytes q es)

pub index-found : (index : NameIndex) (q : List ℕ) → lookup (is_at (slice_cmp nat_cmp q)) (named_numbers index) ≡ numbered index q
index-found index q = lookup-bytes q index.numbers.entries

-- the topics of a project after a name
topics-range : (s : State) (next_end : ℕ) (tables : Tables) (project after : List ℕ) → IsKept s next_end tables → IsOrdered string_cmp tables.topic_numbers.numbers → is_project project ≡ true
    → range_of (front_of (codes "topics") project) after tables.topic_numbers ≡ map (entry (λ (r : TopicRow). r.name) topic_number) (after_token (λ (r : TopicRow). r.name) after (filter (λ (r : TopicRow). bytes_eq (project_part r.name) project) s.topics))
topics-range s next_end tables project after kept ordered good =
    let front = front_of (codes "topics") project in
    ap (filter (λ (e : List ℕ × ℕ). is_in_range front after e.0))
    (entries-rows (λ (r : TopicRow). r.name) topic_number (named_numbers tables.topic_numbers) s.topics (bytes-up tables.topic_numbers.numbers.entries ordered) kept.steady.topic_names (λ q. index-found tables.topic_numbers q ∙ kept.topic_numbers q))
    ∙ range-rows (λ (r : TopicRow). r.name) topic_number (λ (r : TopicRow). bytes_eq (project_part r.name) project) (λ n. starts_with nat_eq n front && is_below front n) after s.topics kept.steady.topic_names
    (each-then (λ (r : TopicRow). is_topic_name r.name ≡ true) (λ (r : TopicRow). (starts_with nat_eq r.name front && is_below front r.name) ≡ bytes_eq (project_part r.name) project) s.topics (λ r is. in-project (codes "topics") project r.name refl good is) kept.steady.topic_grammar)

pub topics-page : (at : ℕ) (project : List ℕ) (paging : Paging) (s : State) (next_end : ℕ) (tables : Tables) → IsKept s next_end tables → IsOrdered string_cmp tables.topic_numbers.numbers → is_project project ≡ true → s.count < 2 ^ 50
    → (front after numbers : List ℕ) (most : ℕ) (next : Option (List ℕ)) → front ≡ front_of (codes "topics") project → after ≡ paging.after → most ≡ page_size paging.size
    → numbers ≡ page_numbers most (range_of front after tables.topic_numbers) → next ≡ page_next most (range_of front after tables.topic_numbers)
    → IsCarried at (ListTopics project paging) s s (Page (Topics (map topic_shown (rows_at topic_number numbers s.topics))) next) false
topics-page at project paging s next_end tables kept ordered good room front after numbers asked next fronts afters sizes are follows =
    let most = page_size paging.size in
    let of = λ (r : TopicRow). bytes_eq (project_part r.name) project in
    let name = λ (r : TopicRow). r.name in
    let rest = after_token name paging.after (filter of s.topics) in
    let range : range_of front after tables.topic_numbers ≡ map (entry name topic_number) rest = (λ i. range_of (fronts i) (afters i) tables.topic_numbers) ∙ topics-range s next_end tables project paging.after kept ordered good in
    let rows : rows_at topic_number numbers s.topics ≡ take most rest =
    ap (λ ns. rows_at topic_number ns s.topics) (are ∙ (λ i. page_numbers (sizes i) (range i))) ∙ page-rows name topic_number of paging.after most s.topics kept.steady.topics in
    let last : next ≡ (if nat_lt (length (take most rest)) (length rest) then last_name name (take most rest) else None) =
    follows ∙ (λ i. page_next (sizes i) (range i)) ∙ next-listed name topic_number most rest in
    carried-shown at (ListTopics project paging) s (Page (Topics (map topic_shown (rows_at topic_number numbers s.topics))) next)
    (outcome-open s at (ListTopics project paging) room refl ∙ (λ i. Shows (Page (Topics (map topic_shown (sym rows i))) (sym last i))))
