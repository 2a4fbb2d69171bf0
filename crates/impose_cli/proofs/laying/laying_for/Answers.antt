use Rattle.std.proofs.Common.{◌≡◌, ◌∙◌, ap, inl, refl, rules, subst, sym, true, Bool, None, Option, Some, String, Global}
use Rattle.std.specs.Prelude.{⊤, if◌then◌else◌, option_map, string_bytes}
use Rattle.rules.specs.Admissible.{Takes, most_slots}
use Rattle.rules.specs.Papers.{Paper}
use Rattle.rows.specs.declared.sewing.Signing.{Signing}
use Rattle.layouts.proofs.Fitting.{handed_on}
use Rattle.layouts.specs.Refusals.{why_not_arranged}
use Rattle.layouts.specs.declared.error.ArrangementError.TheVariants as why
use Rattle.impose_words.specs.declared.request.Layout.{Layout}
use Rattle.impose_words.specs.declared.request.Layout.TheVariants as layout
use Rattle.impose_words.specs.declared.request.PosterSize.{PosterSize}
use Rattle.impose_words.specs.declared.request.Spacing.{Spacing}
use Rattle.impose_messages.specs.declared.fault.ImposeFault.{ImposeFault}
use Rattle.impose_messages.specs.declared.fault.ImposeFault.TheVariants as fault
use Rattle.impose_cli.specs.Refusals.{HasGoodName, RefusesRowLayout}
use Rattle.impose_cli.specs.RowTasks.{TakesNamed, cells_of_layout, filled_in, is_even_enough, laying_in, why_no_layout, why_not_placed}
use Rattle.impose_cli.proofs.laying.laying_for.Goals as goal

-- layouts with cells, but for booklets
abbrev IsInCells : Layout → Type 0
IsInCells (layout.Spec specs signing) = ⊥
IsInCells (layout.Booklet signing long_edge) = ⊥
IsInCells (layout.Poster size) = ⊥
IsInCells layout.Selection = ⊥
IsInCells other = ⊤

is_in_cells : (l : Layout) → ((specs : String Global) (signing : Option Signing) → l ≡ layout.Spec specs signing → ⊥)
    → ((signing : Signing) (long_edge : Bool) → l ≡ layout.Booklet signing long_edge → ⊥) → ((size : PosterSize) → l ≡ layout.Poster size → ⊥)
    → (l ≡ layout.Selection → ⊥) → IsInCells l
is_in_cells (layout.Spec specs signing) a b c d = a specs signing refl
is_in_cells (layout.Booklet signing long_edge) a b c d = b signing long_edge refl
is_in_cells (layout.Poster size) a b c d = c size refl
is_in_cells layout.Selection a b c d = d refl
is_in_cells other a b c d = tt

laid : (l : Layout) (s : Spacing) (page sheet : Paper) → IsInCells l → laying_in l s page sheet ≡ Some (filled_in l s (cells_of_layout l s) page sheet)
laid (layout.Spec specs signing) s page sheet h = absurd h
laid (layout.Booklet signing long_edge) s page sheet h = absurd h
laid (layout.Poster size) s page sheet h = absurd h
laid layout.Selection s page sheet h = absurd h
laid other s page sheet h = refl

placed : (l : Layout) (s : Spacing) (page sheet : Paper) → IsInCells l
    → why_not_placed l s page sheet ≡ option_map fault.Layout (why_not_arranged page sheet (cells_of_layout l s))
placed (layout.Spec specs signing) s page sheet h = absurd h
placed (layout.Booklet signing long_edge) s page sheet h = absurd h
placed (layout.Poster size) s page sheet h = absurd h
placed layout.Selection s page sheet h = absurd h
placed other s page sheet h = refl

unnamed : (l : Layout) → IsInCells l → HasGoodName l
unnamed (layout.Spec specs signing) h = absurd h
unnamed other h = tt

-- with even margins the cells say why it can't be laid
unlaid : (l : Layout) (s : Spacing) (page sheet : Paper) (found : Option ImposeFault) → IsInCells l → is_even_enough l s.free ≡ true
    → option_map fault.Layout (why_not_arranged page sheet (cells_of_layout l s)) ≡ found → why_no_layout l s page sheet ≡ found
unlaid l s page sheet found is even h =
    ap (λ b. if b then why_not_placed l s page sheet else Some (fault.Layout why.UnevenMargins)) even ∙ placed l s page sheet is ∙ h

pub returns-in_err-laying-in_default : goal.returns-in_err-laying-in_default
returns-in_err-laying-in_default c =
    let l = c.args.layout.now in
    let papers = c.args.papers.now in
    let is = is_in_cells l c.in_default.not-Spec c.in_default.not-Booklet c.in_default.not-Poster c.in_default.not-Selection in
    let even : is_even_enough l c.args.spacing.now.free ≡ true = search rules in
    record {
      laying = search rules;
      may_be = search rules;
      possible = search rules;
      named = search rules;
      refused = handed_on c.from_residual-in_err-laying-in_default.result _ (RefusesRowLayout l c.args.spacing.now papers.page papers.sheet)
          c.from_residual-in_err-laying-in_default.ensures.1
          (inl (unlaid l c.args.spacing.now papers.page papers.sheet (Some c.in_err-laying-in_default.field-0.0) is even c.in_err-laying-in_default.ensures.refused));
    }

pub returns-in_ok-laying-in_default : goal.returns-in_ok-laying-in_default
returns-in_ok-laying-in_default c =
    let l = c.args.layout.now in
    let papers = c.args.papers.now in
    let is = is_in_cells l c.in_default.not-Spec c.in_default.not-Booklet c.in_default.not-Poster c.in_default.not-Selection in
    let even : is_even_enough l c.args.spacing.now.free ≡ true = search rules in
    record {
      laying = laid l c.args.spacing.now papers.page papers.sheet is ∙ ap Some (sym c.in_ok-laying-in_default.ensures.laying);
      may_be = c.in_ok-laying-in_default.ensures.may_be;
      possible = unlaid l c.args.spacing.now papers.page papers.sheet None is even c.in_ok-laying-in_default.ensures.possible;
      named = unnamed l is;
      refused = tt;
    }

pub returns-in_ok-spec-in-Spec-clause-laying : goal.returns-in_ok-spec-in-Spec-clause-laying
returns-in_ok-spec-in-Spec-clause-laying c =
    let takes : Takes most_slots (string_bytes c.in-Spec.specs) c.in_ok-spec-in-Spec.spec = rw c.as_str.ensures.value at c.in_ok-spec-in-Spec.ensures.taken in
    (subst (λ l. TakesNamed l c.in_ok-spec-in-Spec.spec) (sym c.in-Spec.is) takes, refl, refl)

pub returns-in_ok-spec-in-Spec-clause-named : goal.returns-in_ok-spec-in-Spec-clause-named
returns-in_ok-spec-in-Spec-clause-named c =
    let takes : Takes most_slots (string_bytes c.in-Spec.specs) c.in_ok-spec-in-Spec.spec = rw c.as_str.ensures.value at c.in_ok-spec-in-Spec.ensures.taken in
    subst HasGoodName (sym c.in-Spec.is) (c.in_ok-spec-in-Spec.spec, takes)
