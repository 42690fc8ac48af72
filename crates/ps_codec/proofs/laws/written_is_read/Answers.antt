use Rattle.ps_codec.proofs.FieldLemmas.{u8_again, u32_again, u64_again, flag_again, bytes_again}
use Rattle.ps_codec.proofs.laws.written_is_read.Goals as goal

pub returns : goal.returns
returns c = record { u8 = u8_again; u32 = u32_again; u64 = u64_again; flag = flag_again; bytes = bytes_again }
