-- What settings lack, if all of them are built.
use Rattle.std.proofs.Common.{◌≡◌, [], ◌∷◌, None, is_some}
use Rattle.std.specs.Prelude.{codes}
use Rattle.ps_config.specs.declared.config.TopicConfig.{TopicConfig}
use Rattle.ps_config.specs.declared.config.SubConfig.{SubConfig}
use Rattle.ps_core.specs.Built.{sub_settings, unbuilt_topic_setting, unbuilt_sub_setting}
use Rattle.ps_tables.proofs.lists.Options.{none-of}
use Rattle.ps_core.proofs.checking.Faults.{first-none}

-- a topic retains nothing
pub no-window : (config : TopicConfig) → unbuilt_topic_setting config ≡ None → config.retention ≡ None
no-window config built = none-of config.retention (first-none ((is_some config.retention, codes "messageRetentionDuration") ∷ []) built).0

-- a subscription has no dead-letter topic
pub no-dead-letter : (config : SubConfig) → unbuilt_sub_setting config ≡ None → config.dead_letter ≡ None
no-dead-letter config built = none-of config.dead_letter (first-none (sub_settings config) built).0
