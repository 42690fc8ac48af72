-- What settings are compared by.
use Rattle.std.specs.Prelude.{Bool, ◌&&◌, nat_eq}
use Rattle.ps_config.specs.declared.config.SubConfig.{SubConfig}
use Rattle.ps_model.specs.Same.{same_bool, same_option, same_retry}

-- the settings that are numbers and flags are the same
abbrev pub same_numbers : SubConfig → SubConfig → Bool
same_numbers a b = nat_eq a.ack_seconds b.ack_seconds
    && (same_bool a.retain_acked b.retain_acked
    && (nat_eq a.retention b.retention
    && (same_bool a.ordering b.ordering
    && (same_option nat_eq a.expiration b.expiration
    && (same_option same_retry a.retry b.retry && same_bool a.exactly_once b.exactly_once)))))
