use Rattle.std.specs.Prelude.{Ok, codes, decimal}
use Rattle.std.proofs.Common.{ap, sym, subst, ◌∙◌, ◌≡◌, ◌≤◌, ◌-◌, ◌++◌, length, take, drop, List, ℕ}
use Rattle.rules.specs.Bytes.{line}
use Rattle.rules.specs.Units.{cut}
use Rattle.rules.specs.Parts.{bytes_of}
use Rattle.rules.specs.Filters.{kept, ended}
use Rattle.rules.specs.MadeOutput.{drops_with, dressed_preamble}
use Rattle.dsc.specs.Filters.{drops_of}
use Rattle.dsc.specs.Units.{or_none, units_of}
use Rattle.dsc.proofs.Preambles.{PreambleFound, preamble_at}
use Rattle.dsc.proofs.document.Document.dressed_preamble.Goals as goal

pub overflow_sub-entry : goal.overflow_sub-entry
overflow_sub-entry c =
    let found : PreambleFound c.self.inside.text.now c.line_end_after-line_len.result c.entry.result c.args.sheets =
    preamble_at c.self.inside.text.now _ c.as_slice.result.now _ _ _ _ c.self.invariant c.line_end_after-line_len.ensures.value c.as_slice.ensures.value c.entry.ensures in
    found.0

pub split_at-requires-2 : goal.split_at-requires-2
split_at-requires-2 c =
    let found : PreambleFound c.self.inside.text.now c.line_end_after-line_len.result c.entry.result c.args.sheets =
    preamble_at c.self.inside.text.now _ c.as_slice.result.now _ _ _ _ c.self.invariant c.line_end_after-line_len.ensures.value c.as_slice.ensures.value c.entry.ensures in
    subst (λ t. c.entry.result - c.line_end_after-line_len.result ≤ length t) (sym c.split_at.ensures.back) found.1

pub filter_header-requires : goal.filter_header-requires
filter_header-requires c =
    let found : PreambleFound c.self.inside.text.now c.line_end_after-line_len.result c.entry.result c.args.sheets =
    preamble_at c.self.inside.text.now _ c.as_slice.result.now _ _ _ _ c.self.invariant c.line_end_after-line_len.ensures.value c.as_slice.ensures.value c.entry.ensures in
    let rest = c.split_at-2.ensures.front ∙ ap (take (c.entry.result - c.line_end_after-line_len.result)) c.split_at.ensures.back in
    subst (λ t. cut t ≡ Ok (or_none (cut t))) (sym rest) found.2

pub returns : goal.returns
returns c =
    let found : PreambleFound c.self.inside.text.now c.line_end_after-line_len.result c.entry.result c.args.sheets =
    preamble_at c.self.inside.text.now _ c.as_slice.result.now _ _ _ _ c.self.invariant c.line_end_after-line_len.ensures.value c.as_slice.ensures.value c.entry.ensures in
    let rest = c.split_at-2.ensures.front ∙ ap (take (c.entry.result - c.line_end_after-line_len.result)) c.split_at.ensures.back in
    let count : List ℕ = line (codes "%%Pages: " ++ decimal c.args.sheets) in
    let header : c.in_ok-header.header.items ≡ (take c.line_end_after-line_len.result c.self.inside.text.now ++ count) ++ c.args.lines.now = c.in_ok-header.ensures ∙ ap (λ t. (t ++ count) ++ c.args.lines.now) c.split_at.ensures.front in
    record {
      text = λ rows is.
          c.in_ok-end_line.ensures ∙ ap ended (c.in_ok-text.ensures ∙ ap (λ t. t ++ bytes_of (kept (drops_of c.drops_with.result) (units_of c.split_at-2.result.0.now))) header
          ∙ ap (λ f. ((take c.line_end_after-line_len.result c.self.inside.text.now ++ count) ++ c.args.lines.now) ++ bytes_of (kept f (units_of c.split_at-2.result.0.now))) (c.drops_with.ensures rows is)
          ∙ ap (λ t. ((take c.line_end_after-line_len.result c.self.inside.text.now ++ count) ++ c.args.lines.now) ++ bytes_of (kept (drops_with rows) (units_of t))) rest
          ∙ ap (λ ls. ((take c.line_end_after-line_len.result c.self.inside.text.now ++ count) ++ ls) ++ bytes_of (kept (drops_with rows) (units_of (take (c.entry.result - c.line_end_after-line_len.result) (drop c.line_end_after-line_len.result c.self.inside.text.now))))) is)
          ∙ found.3 rows ∙ ap (dressed_preamble c.args.sheets rows) c.self.view_is;
    }
