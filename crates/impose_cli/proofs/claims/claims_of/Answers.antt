use Rattle.std.proofs.Common.{◌∙◌, ap}
use Rattle.std.specs.Prelude.{option_map}
use Rattle.rules.specs.Parts.{bytes_of}
use Rattle.impose_messages.specs.Said.{shown_name}
use Rattle.row_runs.specs.DeclaredPages.{declared_page_count}
use Rattle.impose_cli.specs.Claims.{dependence_by, unknown_paper}
use Rattle.impose_cli.specs.Copies.{loses_copies}
use Rattle.impose_cli.proofs.claims.claims_of.Goals as goal

pub returns : goal.returns
returns c =
    let r = c.args.request.now in
    let text = c.text-input.ensures.text in
    record {
      pages = c.declared_page_count-pages.ensures ∙ ap declared_page_count text;
      is_ended = c.is_ended.ensures;
      unknown = c.unknown_paper-unknown.ensures ∙ ap (λ t. option_map shown_name (unknown_paper r.page_paper r.default_paper t)) text;
      dependence = c.dependence_of.ensures ∙ ap (λ t. dependence_by t c.borrows_font.result) text ∙ ap (dependence_by (bytes_of c.args.document.now)) c.borrows_font.ensures;
      copies = c.loses_copies.ensures ∙ ap loses_copies text;
    }
