use Rattle.std.proofs.Common.{◌≡◌, ◌∙◌, ap, true}
use Rattle.std.proofs.lemmas.Result.{IfOk-weaker}
use Rattle.std.specs.Prelude.{codes}
use Rattle.clap.specs.Words.{app_of, new_app}
use Rattle.clap.specs.Simple.{app_of_fields, on_top}
use Rattle.impose_words.specs.Command.{with_top}
use Rattle.impose_words.proofs.Commands.{impose_is_made, made}
use Rattle.impose_words.proofs.arguments.command.Goals as goal

pub returns : goal.returns
returns c =
    let shown = ap app_of_fields c.version.ensures in
    let about = ap app_of_fields c.about.ensures in
    let helped = ap app_of_fields c.after_help.ensures in
    let needs = ap app_of_fields c.subcommand_required.ensures in
    let asks = ap app_of_fields c.arg_required_else_help-bare.ensures in
    let bare : app_of c.arg_required_else_help-bare.result ≡ on_top with_top (new_app (codes "impose")) =
    asks ∙ ap (on_top (λ s. record s { arg_required_else_help = true })) (needs ∙ ap (on_top (λ s. record s { subcommand_required = true }))
    (helped ∙ (about ∙ (shown ∙ ap (on_top (λ s. record s { has_version = true })) c.new.ensures.app)))) in
    IfOk-weaker c.with_subcommands.result _ _ (λ d is. is ∙ (ap made bare ∙ impose_is_made)) c.with_subcommands.ensures
