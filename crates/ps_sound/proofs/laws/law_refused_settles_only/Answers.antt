use Rattle.ps_sound.proofs.histories.Recording.{refused_only_settles}
use Rattle.ps_sound.proofs.laws.law_refused_settles_only.Goals as goal

pub returns : goal.returns
returns c = record { settles_only = refused_only_settles }
