-- Which call a line's verb and path name.
use Rattle.std.specs.Prelude.{ℕ, List, [], ◌∷◌, drop, Bool, true, false, ◌&&◌, eqb, nat_eq, nat_lt, length, Option, Some, None, option_map, find, if◌then◌else◌, codes, Result, Ok, Err}
use Rattle.std.specs.List.{starts_with, position_or_len, before_first, after_first}
use Rattle.std.specs.Str.{bytes_eq}
use Rattle.ps_base.specs.declared.reason.Reason.TheVariants.{Path}
use Rattle.ps_base.specs.declared.refusal.Refusal.{Refusal}
use Rattle.ps_base.specs.declared.refusal.Refusal.TheVariants.{InvalidArgument, NotFound}
use Rattle.ps_names.specs.Names.{parts_of}
use Rattle.ps_json.specs.declared.call.CallKind.{CallKind}
use Rattle.ps_json.specs.declared.call.CallKind.TheVariants.{CreateTopic, UpdateTopic, GetTopic, DeleteTopic, ListTopics, ListTopicSubscriptions, ListTopicSnapshots, Publish, CreateSubscription, UpdateSubscription, GetSubscription, DeleteSubscription, ListSubscriptions, Pull, Acknowledge, ModifyAckDeadline, Seek, Detach, CreateSnapshot, UpdateSnapshot, GetSnapshot, DeleteSnapshot, ListSnapshots}
use Rattle.ps_rest.specs.declared.routes.Route.{Route}
use Rattle.ps_rest.specs.declared.routes.Subject.{Subject as Given}
use Rattle.ps_rest.specs.declared.routes.Subject.TheVariants as given
use Rattle.ps_rest.specs.Targets.{decoded}

-- ---- the calls

-- what a path names in a collection of a project: all of it, a resource, a resource with a custom verb behind a `:`, or a list of a resource behind a `/`
pub data Subject : Type 0 where
  Collection : Subject
  Resource : Subject
  Custom : List ℕ → Subject
  Sublist : List ℕ → Subject

abbrev pub subject_in : Given → Subject
subject_in given.Collection = Collection
subject_in given.Resource = Resource
subject_in (given.Custom verb) = Custom verb.now
subject_in (given.Sublist list) = Sublist list.now

abbrev pub is_same : Subject → Subject → Bool
is_same Collection Collection = true
is_same Resource Resource = true
is_same (Custom own) (Custom verb) = bytes_eq verb own
is_same (Sublist own) (Sublist list) = bytes_eq list own
is_same _ _ = false

-- a call, with its verb and what it is made on
pub record Row : Type 0 where
  pub verb : List ℕ
  pub collection : List ℕ
  pub subject : Subject
  pub call : CallKind

abbrev pub row : List ℕ → List ℕ → Subject → CallKind → Row
row verb collection subject call = record { verb = verb; collection = collection; subject = subject; call = call }

abbrev pub rows : List Row
rows =
    row (codes "PUT") (codes "topics") Resource CreateTopic
    ∷ row (codes "PATCH") (codes "topics") Resource UpdateTopic
    ∷ row (codes "GET") (codes "topics") Resource GetTopic
    ∷ row (codes "DELETE") (codes "topics") Resource DeleteTopic
    ∷ row (codes "GET") (codes "topics") Collection ListTopics
    ∷ row (codes "GET") (codes "topics") (Sublist (codes "subscriptions")) ListTopicSubscriptions
    ∷ row (codes "GET") (codes "topics") (Sublist (codes "snapshots")) ListTopicSnapshots
    ∷ row (codes "POST") (codes "topics") (Custom (codes "publish")) Publish
    ∷ row (codes "PUT") (codes "subscriptions") Resource CreateSubscription
    ∷ row (codes "PATCH") (codes "subscriptions") Resource UpdateSubscription
    ∷ row (codes "GET") (codes "subscriptions") Resource GetSubscription
    ∷ row (codes "DELETE") (codes "subscriptions") Resource DeleteSubscription
    ∷ row (codes "GET") (codes "subscriptions") Collection ListSubscriptions
    ∷ row (codes "POST") (codes "subscriptions") (Custom (codes "pull")) Pull
    ∷ row (codes "POST") (codes "subscriptions") (Custom (codes "acknowledge")) Acknowledge
    ∷ row (codes "POST") (codes "subscriptions") (Custom (codes "modifyAckDeadline")) ModifyAckDeadline
    ∷ row (codes "POST") (codes "subscriptions") (Custom (codes "seek")) Seek
    ∷ row (codes "POST") (codes "subscriptions") (Custom (codes "detach")) Detach
    ∷ row (codes "PUT") (codes "snapshots") Resource CreateSnapshot
    ∷ row (codes "PATCH") (codes "snapshots") Resource UpdateSnapshot
    ∷ row (codes "GET") (codes "snapshots") Resource GetSnapshot
    ∷ row (codes "DELETE") (codes "snapshots") Resource DeleteSnapshot
    ∷ row (codes "GET") (codes "snapshots") Collection ListSnapshots
    ∷ []

abbrev pub is_row : List ℕ → List ℕ → Subject → Row → Bool
is_row verb collection subject row = bytes_eq verb row.verb && (bytes_eq collection row.collection && is_same row.subject subject)

-- the call of the row that has them
abbrev pub call_of : List ℕ → List ℕ → Subject → Option CallKind
call_of verb collection subject = option_map (λ (r : Row). r.call) (find (is_row verb collection subject) rows)

-- ---- paths

abbrev pub is_colon : ℕ → Bool
is_colon b = eqb b 58

-- what stands before the first `:` of a path's last part
abbrev pub id_of : List ℕ → List ℕ
id_of last = before_first is_colon last

-- a resource, with the custom verb behind that `:` if there is one
abbrev pub subject_of : List ℕ → Subject
subject_of last = if nat_lt (position_or_len is_colon last) (length last) then Custom (after_first is_colon last) else Resource

abbrev pub route_with : List ℕ → List ℕ → CallKind → Route
route_with project id call = record { call = call; path = record { project = project; id = id } }

-- a call with the names in its path
abbrev pub route_to : List ℕ → List ℕ → Option CallKind → Option Route
route_to project id call = option_map (route_with project id) call

-- behind `projects`: `{project}/{collection}`, `{project}/{collection}/{id}` with a custom verb behind a `:` or none, and `{project}/{collection}/{id}/{list}`, whatever the project and the id
abbrev pub route_in : List ℕ → List (List ℕ) → Option Route
route_in verb (project ∷ collection ∷ []) = route_to project [] (call_of verb collection Collection)
route_in verb (project ∷ collection ∷ last ∷ []) = route_to project (id_of last) (call_of verb collection (subject_of last))
route_in verb (project ∷ collection ∷ id ∷ list ∷ []) = route_to project id (call_of verb collection (Sublist list))
route_in verb _ = None

abbrev pub route_at : List ℕ → List (List ℕ) → Option Route
route_at verb [] = None
route_at verb (projects ∷ parts) = if bytes_eq projects (codes "projects") then route_in verb parts else None

-- the parts behind `/v1/`, cut at `/` first and then decoded each
abbrev pub parts_in : List ℕ → Option (List (List ℕ))
parts_in rest = decoded (parts_of rest)

-- without a route the path is told as it was given
abbrev pub known_route : List ℕ → Option Route → Result Route Refusal
known_route path None = Err (NotFound path)
known_route path (Some route) = Ok route

abbrev pub route_by : List ℕ → List ℕ → Option (List (List ℕ)) → Result Route Refusal
route_by verb path None = Err (InvalidArgument Path)
route_by verb path (Some parts) = known_route path (route_at verb parts)

-- the call that a line's verb and path name, with the names in the path: `/v1/` and such parts
abbrev pub route_of : List ℕ → List ℕ → Result Route Refusal
route_of verb path = if starts_with nat_eq path (codes "/v1/") then route_by verb path (parts_in (drop 4 path)) else Err (NotFound path)
