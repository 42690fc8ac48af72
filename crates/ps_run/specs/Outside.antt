-- What is known of the outside of a command, at one moment.
use Rattle.std.specs.Prelude.{ℕ, List, Option, Bool, None, false}
use Rattle.std.specs.Str.{bytes_eq}
use Rattle.ps_keeper.specs.Log.{Log}
use Rattle.ps_keeper.specs.declared.keeper.Keeper as keeper
use Rattle.ps_edge.specs.declared.edge.Source as source
use Rattle.ps_edge.specs.declared.edge.Sink as sink
use Rattle.ps_edge.specs.declared.cabinet.Cabinet as cabinet
use Rattle.ps_edge.specs.Files.{dash}

pub record Outside (I O : Type 0) : Type 1 where
  -- the input and the output themselves
  pub input : I
  pub output : O
  -- the bytes that are left to read, if they are known
  pub left : Option (List ℕ)
  -- how often a read failed
  pub read_faults : ℕ
  -- the bytes that were written, if they are known
  pub written : Option (List ℕ)
  -- how often a write failed
  pub write_faults : ℕ
  -- whether a command begins with an empty log, as over `-`
  pub begins_empty : Bool
  -- whether the log is known
  pub known : Bool
  -- the log, if it can be read
  pub log : Option Log
  -- which logs a crash now may leave
  pub may_leave : Log → Type 0
  -- how often the store failed
  pub store_faults : ℕ

-- the outside of a command over a keeper's log
abbrev pub around : {I O K : Type 0} → source.Ghosts I → sink.Ghosts O → keeper.Ghosts K → I → O → K → Outside I O
around i o k input output it = record {
  input = input;
  output = output;
  left = i.left input;
  read_faults = i.faults input;
  written = o.holds output;
  write_faults = o.faults output;
  begins_empty = false;
  known = k.known it;
  log = k.log it;
  may_leave = k.may_leave it;
  store_faults = k.faults it;
}

-- the outside of a command over the log under a path
abbrev pub outside : {I O S K : Type 0} → source.Ghosts I → sink.Ghosts O → cabinet.Ghosts S K → List ℕ → I → O → S → Outside I O
outside i o s file input output it = record {
  input = input;
  output = output;
  left = i.left input;
  read_faults = i.faults input;
  written = o.holds output;
  write_faults = o.faults output;
  begins_empty = bytes_eq file dash;
  known = s.known it file;
  log = s.log it file;
  may_leave = s.may_leave it file;
  store_faults = s.faults it;
}

-- the input of a command that reads none
abbrev pub no_input : source.Ghosts (Unit {0})
no_input = record { left = λ _. None; faults = λ _. 0 }

-- the output of a command that writes none
abbrev pub no_output : sink.Ghosts (Unit {0})
no_output = record { holds = λ _. None; faults = λ _. 0 }
