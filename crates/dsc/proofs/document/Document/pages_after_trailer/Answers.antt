use Rattle.std.proofs.Common.{◌∙◌, ap}
use Rattle.rules.specs.Parts.{trailer}
use Rattle.dsc.specs.PagesAfter.{page_lines}
use Rattle.dsc.proofs.Trailers.{trailer_found, stop_within}
use Rattle.dsc.proofs.document.Document.pages_after_trailer.Goals as goal

pub split_at-requires : goal.split_at-requires
split_at-requires c =
    let d = c.self.inside in
    let i = c.self.invariant in
    stop_within d.text.now d.stop i.is_cut i.stop_is

pub returns : goal.returns
returns c =
    let d = c.self.inside in
    let i = c.self.invariant in
    let found = trailer_found d.text.now c.split_at.result.1.now d.stop i.is_cut i.stop_is c.split_at.ensures.back in
    c.page_lines.ensures ∙ ap page_lines found.1 ∙ ap (λ us. page_lines (trailer us)) c.self.view_is
