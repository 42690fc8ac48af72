-- What is printed for a line that has no reply.
use Rattle.std.specs.Prelude.{ℕ, List, ◌++◌, codes}
use Rattle.std.specs.Fmt.{decimal}
use Rattle.ps_book.specs.declared.error.CallError.{CallError}
use Rattle.ps_book.specs.declared.error.CallError.TheVariants.{StoreFault, BadRow, OutOfMemory}

-- for a line of more than 2 ^ 24 bytes
abbrev pub too_long_text : List ℕ
too_long_text = codes "{\"body\":{\"error\":{\"code\":413,\"message\":\"line\",\"status\":\"TOO_LARGE\"}},\"code\":413}\n"

-- for a fault of the store, a bad row of the log, or if out of memory
abbrev pub fault_text : CallError → List ℕ
fault_text StoreFault = codes "{\"body\":{\"error\":{\"code\":503,\"message\":\"store fault\",\"status\":\"UNAVAILABLE\"}},\"code\":503}\n"
fault_text (BadRow seq) = codes "{\"body\":{\"error\":{\"code\":500,\"message\":\"bad row " ++ decimal seq ++ codes "\",\"status\":\"INTERNAL\"}},\"code\":500}\n"
fault_text OutOfMemory = codes "{\"body\":{\"error\":{\"code\":507,\"message\":\"out of memory\",\"status\":\"OUT_OF_MEMORY\"}},\"code\":507}\n"
