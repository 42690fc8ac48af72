use Rattle.std.proofs.Common.{◌≡◌, ap, ap₂, true, ◌∙◌}
use Rattle.std.proofs.lemmas.Result.{IfOk-weaker}
use Rattle.clap.specs.Words.{App, app_of, with_rule}
use Rattle.clap.specs.Simple.{app_of_fields}
use Rattle.ps_words.specs.Serve.{bare_app, serve_app}
use Rattle.ps_words.proofs.command.serve_command.Goals as goal

pub returns : goal.returns
unfolding serve_app
returns c =
    let bare : app_of c.disable_help_flag-start.result ≡ bare_app =
    ap app_of_fields c.disable_help_flag-start.ensures ∙ ap (λ (a : App). record a { top = record a.top { disable_help_flag = true } }) c.new.ensures.app in
    IfOk-weaker c.arg-3.result _ _
    (λ command adds. adds.shape c.file_argument-file.ensures.own
    ∙ ap₂ with_rule (c.in_ok-with_tick.ensures.shape c.tick_option-tick.ensures.own
    ∙ ap₂ with_rule (c.in_ok-with_http.ensures.shape c.http_option-http.ensures.own ∙ ap₂ with_rule bare c.http_option-http.ensures.rule) c.tick_option-tick.ensures.rule)
    c.file_argument-file.ensures.rule)
    c.arg-3.ensures
