use Rattle.std.proofs.Common.{◌∙◌, [], ap, get_or}
use Rattle.clap.specs.Words.{rule_of}
use Rattle.impose_words.specs.Command.{with_row}
use Rattle.impose_words.specs.declared.arguments.Argument.{Argument}
use Rattle.impose_words.specs.declared.arguments.Argument.TheVariants as argument
use Rattle.impose_words.proofs.Commands.{adds_row, one_more}
use Rattle.impose_words.proofs.arguments.with_arguments.Goals as goal

abbrev none : Argument
none = argument.Required (record { ref_ptr = (0, 0); now = [] }) (record { ref_ptr = (0, 0); now = [] }) (record { ref_ptr = (0, 0); now = [] })

pub loop-argument-preserved : goal.loop-argument-preserved
loop-argument-preserved c =
    one_more with_row _ _ _ c.args.arguments.now c.loop-argument.argument-index none c.loop-argument-test.true
    (adds_row c.loop-argument.command _ _ (get_or c.args.arguments.now c.loop-argument.argument-index none) c.in_ok-command.ensures
    (ap rule_of c.hide.ensures ∙ c.arg_of.ensures)) c.loop-argument.invariant
