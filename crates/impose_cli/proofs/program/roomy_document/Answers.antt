use Rattle.std.proofs.Common.{◌≡◌, ◌∙◌, ap, drop, sym}
use Rattle.std.proofs.lemmas.List.{drop-drop}
use Rattle.world.specs.Input.{document_in}
use Rattle.impose_cli.proofs.program.roomy_document.Goals as goal

pub returns : goal.returns
returns c =
    let input : c.split_at.result.1.now ≡ drop 2560 c.args.bytes.items = c.split_at.ensures.back ∙ ap (drop 2560) c.as_slice.ensures.value in
    c.with_headroom.ensures ∙ (sym (drop-drop c.padding.result 2560 c.args.bytes.items) ∙ (ap (drop c.padding.result) (sym input)
    ∙ (c.padding.ensures.document ∙ ap document_in input)))
