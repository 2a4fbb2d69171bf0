-- Options of a request that are refused.
use Rattle.std.proofs.Common.{◌≡◌, ◌∙◌, sym, subst, true≢false, Bool, true, false, Option, Some}
use Rattle.std.specs.Prelude.{◌↔◌, IfSome, IsTrue}
use Rattle.rows.specs.Sewing.{MayBeSewn}
use Rattle.rows.specs.declared.sewing.Signing.{Signing}
use Rattle.sheet_text.specs.Jobs.{is_border}
use Rattle.impose_words.specs.declared.request.ImposeRequest.{ImposeRequest}
use Rattle.impose_cli.specs.RowTasks.{HasOptions}
use Rattle.impose_cli.specs.RowsAsked.{signing_in}

-- signatures and a border that may be
pub has_options : (r : ImposeRequest) (found : Option Signing) → found ≡ signing_in r.layout → IfSome found MayBeSewn → is_border r.border ≡ true → HasOptions r
has_options r found is sewn drawn = (subst (λ o. IfSome o MayBeSewn) is sewn, drawn)

-- a border as wide as nothing
pub no_border : (r : ImposeRequest) (drawn : Bool) → drawn ≡ is_border r.border → drawn ≡ false → HasOptions r → ⊥
no_border r drawn is none h = true≢false (sym (is ∙ h.1) ∙ none)

-- a signature of so many sides
pub not_sewn : (r : ImposeRequest) (found : Option Signing) (how : Signing) (may : Bool) → found ≡ signing_in r.layout → found ≡ Some how
    → (IsTrue may ↔ MayBeSewn how) → may ≡ false → HasOptions r → ⊥
not_sewn r found how may is some decides none h =
    let sewn : MayBeSewn how = subst (λ o. IfSome o MayBeSewn) (sym is ∙ some) h.0 in
    true≢false (sym (decides.1 sewn) ∙ none)
