use Rattle.std.proofs.Common.{rules, ap, sym, ℕ, length, ◌<◌, ◌∙◌}
use Rattle.std.specs.Prelude.{Some, slice_get}
use Rattle.std.proofs.lemmas.Option.{same_Some}
use Rattle.sheet_text.specs.Texts.{sheets_of, texts_in}
use Rattle.sheet_text.proofs.TextsBehind.{has_sheet}
use Rattle.sheet_text.proofs.texts.Texts.joined.Goals as goal

pub returns-then-index-sheet-clause-none : goal.returns-then-index-sheet-clause-none
returns-then-index-sheet-clause-none c = λ none at.
    let lt : c.args.nth < length c.self.inside.parts.items = search rules in
    c.if-index-sheet.true
    (same_Some _ _ (sym (has_sheet c.self.inside.own.items _ c.args.nth _ lt c.index.ensures) ∙ ap (λ xs. slice_get (sheets_of xs) c.args.nth) c.self.view_is ∙ at))

pub neighbours-requires-clause-sheet : goal.neighbours-requires-clause-sheet
neighbours-requires-clause-sheet c =
    let lt : c.args.nth < length c.self.inside.parts.items = search rules in
    ap (λ xs. slice_get (sheets_of (texts_in xs c.as_slice-2.result.now)) c.args.nth) c.as_slice.ensures.value
    ∙ ap (λ ps. slice_get (sheets_of (texts_in c.self.inside.own.items ps)) c.args.nth) c.as_slice-2.ensures.value
    ∙ has_sheet _ _ c.args.nth _ lt c.index.ensures ∙ ap (λ (s : ℕ). Some s) c.if-index-sheet.false

pub returns-clause-found : goal.returns-clause-found
returns-clause-found c =
    let lt : c.args.nth < length c.self.inside.parts.items = search rules in
    ap (λ xs. slice_get (sheets_of xs) c.args.nth) (sym c.self.view_is) ∙ has_sheet _ _ c.args.nth _ lt c.index.ensures ∙ ap (λ (s : ℕ). Some s) c.if-index-sheet.false
