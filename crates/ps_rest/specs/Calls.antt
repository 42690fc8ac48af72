-- What a verb, a target and a body ask.
use Rattle.std.specs.Prelude.{ℕ, List, Result, codes}
use Rattle.serde_json.specs.Data.{Data}
use Rattle.ps_base.specs.declared.refusal.Refusal.{Refusal}
use Rattle.ps_model.specs.declared.command.Command.{Command}
use Rattle.ps_json.specs.declared.named.Query.{Query}
use Rattle.ps_json.specs.Checks.{and_then}
use Rattle.ps_json.specs.Commands.{command_of}
use Rattle.ps_rest.specs.Bodies.{body_in}
use Rattle.ps_rest.specs.Routes.{route_of}
use Rattle.ps_rest.specs.Targets.{path_of, query_of, value_of}

-- the pairs that lists use; all others are ignored
abbrev pub query_read : List ℕ → Query
query_read query = record { page_size = value_of (codes "pageSize") query; page_token = value_of (codes "pageToken") query }

-- the command that they ask, or the first check that is broken: the path is looked at first
abbrev pub asked_by : List ℕ → List ℕ → Data → Result Command Refusal
asked_by verb target body = and_then (route_of verb (path_of target)) (λ route. command_of route.call route.path (query_read (query_of target)) body)

-- the same, with the bytes of a body
abbrev pub routed : List ℕ → List ℕ → List ℕ → Result Command Refusal
routed method target body = asked_by method target (body_in body)
