use Rattle.impose_words.proofs.Commands.{impose_is_made}
use Rattle.impose_words.proofs.options.OptionTable.new.Goals as goal

pub returns-clause-commands : goal.returns-clause-commands
returns-clause-commands c = impose_is_made
