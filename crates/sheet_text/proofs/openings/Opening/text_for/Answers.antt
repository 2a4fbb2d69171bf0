use Rattle.std.proofs.Common.{rules, ap, sym, ◌∙◌}
use denote.Enum.Bare.{same_true}
use Rattle.rules.specs.Output.{opening_text}
use Rattle.pagespec.specs.Items.{item_of, measure_of, turn_of}
use Rattle.pagespec.specs.contracts.item.Turn.{the_type}
use Rattle.sheet_text.specs.Jobs.{JobView}
use Rattle.sheet_text.proofs.Opened.{alike, border_same, int_same, option_same, paper_same}
use Rattle.sheet_text.proofs.openings.Opening.text_for.Goals as goal

pub returns-then-eq-5 : goal.returns-then-eq-5
returns-then-eq-5 c =
    alike _ _ _ _ (item_of c.args.self.now.item) (item_of c.args.item.now) _ (c.as_slice.ensures.value ∙ c.args.self.now.opens)
    (ap (λ t. turn_of t) (same_true the_type (search rules) _ _ (sym c.eq.ensures ∙ c.if-eq.true)))
    (int_same _ _ _ c.eq-then-eq.ensures c.if-eq-2.true)
    (ap (λ m. measure_of m) (c.are_equal_measures.ensures c.if-are_equal_measures.true))
    (ap (λ m. measure_of m) (c.are_equal_measures-then-are_equal_measures.ensures c.if-are_equal_measures-2.true))
    (paper_same _ _ _ c.eq-then-are_equal_measures-2.ensures c.if-eq-3.true)
    (border_same _ _ _ _ (int_same _ _ _ c.eq-then-eq-4.ensures c.if-eq-5.true) (option_same _ _ _ c.eq-then-eq-3.ensures c.if-eq-4.true))
    ∙ ap (λ (j : JobView). opening_text (record { paper = c.args.paper.now; border = j.border }) (item_of c.args.item.now)) c.job.view_is
