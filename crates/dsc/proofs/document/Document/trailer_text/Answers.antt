use Rattle.std.proofs.Common.{◌∙◌, ◌++◌, ap}
use Rattle.rules.specs.Parts.{bytes_of, trailer}
use Rattle.rules.specs.Filters.{kept, drops_in_header}
use Rattle.dsc.specs.Units.{units_of}
use Rattle.dsc.proofs.Cases.{if_ok}
use Rattle.dsc.proofs.Trailers.{trailer_found, stop_within}
use Rattle.dsc.proofs.document.Document.trailer_text.Goals as goal

pub split_at-requires : goal.split_at-requires
split_at-requires c =
    let d = c.self.inside in
    let i = c.self.invariant in
    stop_within d.text.now d.stop i.is_cut i.stop_is

pub filter_header-requires : goal.filter_header-requires
filter_header-requires c =
    let d = c.self.inside in
    let i = c.self.invariant in
    (trailer_found d.text.now c.split_at.result.1.now d.stop i.is_cut i.stop_is c.split_at.ensures.back).0

pub returns : goal.returns
returns c =
    let d = c.self.inside in
    let i = c.self.invariant in
    let found = trailer_found d.text.now c.split_at.result.1.now d.stop i.is_cut i.stop_is c.split_at.ensures.back in
    record {
      text = if_ok c.filter_header.result
          (λ v e. e ∙ ap (λ t. t ++ bytes_of (kept drops_in_header (units_of c.split_at.result.1.now))) c.new.ensures.items
          ∙ ap (λ us. bytes_of (kept drops_in_header us)) found.1 ∙ ap (λ us. bytes_of (kept drops_in_header (trailer us))) c.self.view_is)
          c.filter_header.ensures;
    }
