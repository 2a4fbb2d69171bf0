use Rattle.pagespec.proofs.GroupLoops.{handed_on}
use Rattle.pagespec.proofs.Modulos.{written_parsed, written_stuck}
use Rattle.pagespec.proofs.read.read_written.Goals as goal

pub returns : goal.returns
returns c = written_parsed c.args.bytes.now _ _ _ c.split_modulo-modulo.ensures c.in_ok-parsed.ensures

pub returns-in_err-parsed : goal.returns-in_err-parsed
returns-in_err-parsed c = handed_on _ _ _ _ c.from_residual.ensures.1 (written_stuck c.args.bytes.now _ _ _ c.split_modulo-modulo.ensures c.in_err-parsed.ensures)
