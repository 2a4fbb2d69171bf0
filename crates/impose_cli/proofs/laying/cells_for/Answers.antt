use Rattle.std.proofs.Common.{◌≡◌, ◌∙◌, ℕ, Bool, refl, sym}
use Rattle.layouts.specs.declared.arrangement.Cells.{Cells}
use Rattle.impose_words.specs.Spacings.{zine_in}
use Rattle.impose_words.specs.declared.request.Layout.{Layout}
use Rattle.impose_words.specs.declared.request.Layout.TheVariants as layout
use Rattle.impose_words.specs.declared.request.Spacing.{Spacing}
use Rattle.impose_cli.specs.RowTasks.{cells_of_layout}
use Rattle.impose_cli.proofs.laying.cells_for.Goals as goal

-- layouts without cells of their own have those of a zine
others : (l : Layout) (s : Spacing) → ((cells : Cells) → l ≡ layout.NUp cells → ⊥) → ((cells : Cells) → l ≡ layout.Cards cells → ⊥)
    → ((cells : Cells) (duplex : Bool) → l ≡ layout.Stack cells duplex → ⊥) → ((pages : ℕ) → l ≡ layout.Notes pages → ⊥) → cells_of_layout l s ≡ zine_in s
others (layout.NUp cells) s no_nup no_cards no_stack no_notes = absurd (no_nup cells refl)
others (layout.Cards cells) s no_nup no_cards no_stack no_notes = absurd (no_cards cells refl)
others (layout.Stack cells duplex) s no_nup no_cards no_stack no_notes = absurd (no_stack cells duplex refl)
others (layout.Notes pages) s no_nup no_cards no_stack no_notes = absurd (no_notes pages refl)
others other s no_nup no_cards no_stack no_notes = refl

pub returns-in_default : goal.returns-in_default
returns-in_default c =
    c.zine.ensures
    ∙ sym (others c.args.layout.now c.args.spacing.now c.in_default.not-NUp c.in_default.not-Cards c.in_default.not-Stack c.in_default.not-Notes)
