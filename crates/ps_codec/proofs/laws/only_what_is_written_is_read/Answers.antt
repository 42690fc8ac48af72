use Rattle.ps_codec.proofs.FieldLemmas.{u8_only, u32_only, u64_only, flag_only, bytes_only}
use Rattle.ps_codec.proofs.laws.only_what_is_written_is_read.Goals as goal

pub returns : goal.returns
returns c = record { u8 = u8_only; u32 = u32_only; u64 = u64_only; flag = flag_only; bytes = bytes_only }
