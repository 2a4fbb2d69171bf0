use Rattle.std.proofs.Common.{arith, ap, ◌≡◌, ◌∙◌, length}
use Rattle.std.specs.Prelude.{flat_map}
use Rattle.std.specs.List.{range_with_len}
use Rattle.rows.proofs.InBlocks.{ceil, signature_of, signature_more}
use Rattle.rows.proofs.signatures.in_signatures.Goals as goal

pub loop-signature-preserved : goal.loop-signature-preserved
loop-signature-preserved c =
    signature_more c.args.row.now c.args.sides c.loop-signature.signature c.loop-signature.printed.items _ c.loop-signature.invariant c.in_ok-append_signature.ensures

pub returns : goal.returns
returns c =
    let last : c.loop-signature.signature ≡ c.div_ceil-signature-end.result = omega arith in
    c.loop-signature.invariant
    ∙ ap (λ n. flat_map (signature_of c.args.row.now c.args.sides) (range_with_len 0 n)) (last ∙ c.div_ceil-signature-end.ensures ∙ ceil (length c.args.row.now) c.args.sides c.requires.0)
