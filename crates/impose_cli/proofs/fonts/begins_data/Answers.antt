use Rattle.std.proofs.Common.{rules}
use Rattle.impose_cli.proofs.SomePages.{first_holds}
use Rattle.impose_cli.proofs.fonts.begins_data.Goals as goal

pub returns-then-is_comment_of : goal.returns-then-is_comment_of
returns-then-is_comment_of c = first_holds c.is_comment_of.result _ _ (search rules) c.is_comment_of.ensures
