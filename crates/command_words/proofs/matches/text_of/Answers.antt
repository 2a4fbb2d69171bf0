use Rattle.std.proofs.Common.{◌∙◌}
use Rattle.clap.specs.Words.{found_of}
use Rattle.clap.proofs.WalkLemmas.{first_value-rows}
use Rattle.command_words.proofs.matches.text_of.Goals as goal

pub returns-clause-text : goal.returns-clause-text
returns-clause-text c = c.get_str.ensures ∙ first_value-rows (found_of c.args.matches.now) c.args.id.now
