use Rattle.impose_cli.proofs.printed.append_comment.Goals as goal

pub returns : goal.returns
returns c = c.append_if.ensures
