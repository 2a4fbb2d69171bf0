use Rattle.std.proofs.Common.{◌≡◌, ◌∙◌, ap}
use Rattle.std.specs.List.{fold}
use Rattle.clap.specs.Words.{app_of, new_app, with_rule}
use Rattle.clap.specs.Simple.{app_of_fields}
use Rattle.impose_words.specs.Command.{with_group}
use Rattle.impose_words.proofs.Commands.{one_more, rows_added}
use Rattle.impose_words.proofs.arguments.command_of.Goals as goal

pub loop-group-init : goal.loop-group-init
loop-group-init c =
    let bare : app_of c.about-command.result ≡ new_app c.args.row.now.name.now = ap app_of_fields c.about-command.ensures ∙ c.new.ensures.app in
    ap (λ a. fold with_group a c.args.row.now.groups.now) bare

pub loop-group-preserved : goal.loop-group-preserved
loop-group-preserved c =
    one_more with_group _ _ _ c.args.row.now.groups.now c.loop-group.group-index _ c.loop-group-test.true
    (c.in_ok-command.ensures ∙ rows_added _ c.arguments_in.result.now ∙ ap (fold with_rule (app_of c.loop-group.command)) c.arguments_in.ensures)
    c.loop-group.invariant
