use Rattle.std.proofs.Common.{[], get_or}
use Rattle.impose_words.specs.Command.{with_app}
use Rattle.impose_words.specs.declared.arguments.Subcommand.{Subcommand}
use Rattle.impose_words.proofs.Commands.{adds_command, one_more}
use Rattle.impose_words.proofs.arguments.with_subcommands.Goals as goal

abbrev none : Subcommand
none = record {
  name = record { ref_ptr = (0, 0); now = [] };
  about = record { ref_ptr = (0, 0); now = [] };
  groups = record { ref_ptr = (0, 0); now = [] };
  hidden = record { ref_ptr = (0, 0); now = [] };
}

pub loop-row-preserved : goal.loop-row-preserved
loop-row-preserved c =
    one_more with_app _ _ _ c.args.rows.now c.loop-row.row-index none c.loop-row-test.true
    (adds_command c.loop-row.command c.in_ok-added.added _ (get_or c.args.rows.now c.loop-row.row-index none) c.in_ok-command.ensures c.in_ok-added.ensures)
    c.loop-row.invariant
