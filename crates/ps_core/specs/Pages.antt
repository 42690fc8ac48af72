-- Which names a list shows, and the rows that they stand for.
use Rattle.std.specs.Prelude.{◌≡◌, ℕ, nat_eq, List, Some, find, flat_map, codes, ◌++◌}
use Rattle.std.specs.Option.{option_to_list}
use Rattle.ps_model.specs.declared.world.SubRow.{SubRow}
use Rattle.ps_model.specs.declared.world.TopicRow.{TopicRow}
use Rattle.ps_model.specs.Worlds.{topic_named}
use Rattle.ps_tables.specs.Members.{numbered, attached_at}
use Rattle.ps_core.specs.State.{State, seen}
use Rattle.ps_tables.specs.declared.name_index.NameIndex.{NameIndex}

-- what the names of a project's resources of a kind begin with
abbrev pub front_of : List ℕ → List ℕ → List ℕ
front_of kind project = codes "projects/" ++ (project ++ (codes "/" ++ (kind ++ codes "/")))

abbrev pub sub_number : SubRow → ℕ
sub_number r = r.number

abbrev pub sub_name : SubRow → List ℕ
sub_name r = r.name

-- the rows with these numbers, without those that aren't there
abbrev pub rows_at : {A : Type 0} → (A → ℕ) → List ℕ → List A → List A
rows_at number numbers rows = flat_map (λ n. option_to_list (find (λ r. nat_eq (number r) n) rows)) numbers

-- the attached subscriptions of the topic with a name
pub record HasSubscriptionsOf (s : State) (name : List ℕ) (index : NameIndex) : Type 0 where
  pub topic : TopicRow
  pub named : topic_named (seen s) name ≡ Some topic
  pub members : (other : List ℕ) → numbered index other ≡ attached_at topic.number other s.subscriptions
