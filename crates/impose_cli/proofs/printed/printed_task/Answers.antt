use Rattle.std.proofs.Common.{◌≡◌, ◌∙◌, Bool, Bor, true, false, Option, Some, None, ap, inr, refl, rules, subst, sym}
use Rattle.std.specs.Prelude.{◌&&◌, if◌then◌else◌, length, option_map}
use Rattle.rules.specs.Choice.{sides_for}
use Rattle.rules.specs.Papers.{Paper}
use Rattle.rules.specs.Specification.{Spec, canonical}
use Rattle.rows.specs.Printed.{is_plain}
use Rattle.rows.specs.Sewing.{signing_of}
use Rattle.impose_words.specs.declared.request.Layout.{Layout}
use Rattle.impose_words.specs.declared.request.Layout.TheVariants as layout
use Rattle.impose_words.specs.declared.request.Spacing.{Spacing}
use Rattle.impose_cli.specs.Printed.{is_named, is_unturned, printed_text, spec_in}
use Rattle.impose_cli.specs.RowTasks.{IsLaidSo, TakesNamed}
use Rattle.impose_cli.specs.RowsAsked.{row_asked, signing_in}
use Rattle.impose_cli.specs.declared.laying.RowLaying.{RowLaying}
use Rattle.impose_cli.specs.declared.laying.RowLaying.TheVariants as row
use Rattle.impose_cli.proofs.printed.printed_task.Goals as goal

same : (one other : Spec) → Some one ≡ Some other → one ≡ other
same one other e = cc

-- what is laid by a specification names it
said : (b : Bool) (l : Layout) (s : Spacing) (page sheet : Paper) (own : RowLaying) (spec : Spec) → IsLaidSo l s page sheet own → Some spec ≡ (if b then spec_in own else None) → (b && is_named l ≡ true) × TakesNamed l spec
said true (layout.Spec specs signing) s page sheet (row.Named named of paper) spec is e = (refl, subst (TakesNamed (layout.Spec specs signing)) (same named spec (sym e)) is.0)
said true other s page sheet (row.Named named of paper) spec is e = absurd is.0
said true l s page sheet (row.Plain how) spec is e = absurd (cc (e))
said false l s page sheet own spec is e = absurd (cc (e))

-- and what names one is laid by it
unsaid : (b : Bool) (l : Layout) (s : Spacing) (page sheet : Paper) (own : RowLaying) → IsLaidSo l s page sheet own → None ≡ (if b then spec_in own else None) → b && is_named l ≡ false
unsaid true l s page sheet (row.Named named of paper) is e = absurd (cc (e))
unsaid true (layout.Spec specs signing) s page sheet (row.Plain how) is e = absurd (cc (is))
unsaid true other s page sheet (row.Plain how) is e = refl
unsaid false l s page sheet own is e = refl

pub returns-in_ok-lines-in-Some-clause-printed : goal.returns-in_ok-lines-in-Some-clause-printed
returns-in_ok-lines-in-Some-clause-printed c =
    let r = c.args.request.now in
    let t = c.args.task.now in
    let spec = c.in-Some.spec.now in
    let found = sym c.spec_said.ensures ∙ ap (λ (found : Option (Bor Spec)). option_map (λ s. s.now) found) c.in-Some.is in
    let names = said (is_plain (row_asked r) && is_unturned r.turn) r.layout r.spacing _ _ t.laying spec c.requires.laying (sym found) in
    let sides : c.signature_sides-sides.result ≡ option_map (λ how. sides_for (signing_of how) (length t.papers.items)) (signing_in r.layout) = search rules in
    let text : c.as_str.result.now ≡ canonical spec = c.as_str.ensures.value ∙ c.in_ok-specs-in-Some.ensures.canonical in (
      spec,
      names.0,
      names.1,
      c.in_ok-lines-in-Some.ensures
          ∙ (ap (λ x. printed_text r x t.findings.page_paper c.signature_sides-sides.result) text ∙ ap (printed_text r (canonical spec) t.findings.page_paper) sides),
    )

pub returns-in-None-clause-refused : goal.returns-in-None-clause-refused
returns-in-None-clause-refused c =
    let r = c.args.request.now in
    let none = sym c.spec_said.ensures ∙ ap (λ (found : Option (Bor Spec)). option_map (λ s. s.now) found) c.in-None.is in
    inr (refl, unsaid (is_plain (row_asked r) && is_unturned r.turn) r.layout r.spacing _ _ c.args.task.now.laying c.requires.laying (sym none))
