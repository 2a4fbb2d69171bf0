use Rattle.std.proofs.Common.{arith, ℕ, List}
use Rattle.std.proofs.lemmas.List.{length-map}
use Rattle.sheet_text.specs.Texts.{sheets_of}
use Rattle.sheet_writer.proofs.InRow.{last_next, last_found}
use Rattle.sheet_writer.proofs.reorder_buffer.last.Goals as goal

pub loop-nth-init : goal.loop-nth-init
loop-nth-init c = omega arith

pub loop-nth-preserved : goal.loop-nth-preserved
loop-nth-preserved c = last_next c.loop-nth.nth _ c.loop-nth.last _ _ _ c.sheet.ensures c.max-last.ensures c.loop-nth.invariant

pub returns : goal.returns
returns c =
    let len = length-map c.args.finished.now (λ (t : ℕ × List ℕ). t.0) in
    last_found c.loop-nth.nth (sheets_of c.args.finished.now) _ (omega (arith, len, c.len-nth-end.ensures, c.loop-nth-test.false)) c.loop-nth.invariant
