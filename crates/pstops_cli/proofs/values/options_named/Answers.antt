use Rattle.std.proofs.Common.{◌≡◌, ◌∙◌, ap, refl, sym, ok_or, ℕ, ℤ, List, Option, Ok, Err}
use Rattle.rules.specs.Papers.{Paper}
use Rattle.imposer.specs.declared.worker_counts.Workers.{Workers}
use Rattle.command_words.specs.Borders.{border_named}
use Rattle.pstops_cli.specs.declared.command.CommandFault.{CommandFault}
use Rattle.pstops_cli.specs.declared.command.CommandFault.TheVariants.{BadLength, UnknownPaper}
use Rattle.pstops_cli.specs.Values.{letter_d, letter_h, letter_w, options_named, paper_or_a4, with_height, with_width}
use Rattle.pstops_cli.proofs.ValueFaults.{handed_on}
use Rattle.pstops_cli.proofs.values.options_named.Goals as goal

module _ (p w h d : Option (List ℕ)) (signature : Option ℕ) (workers : Workers) where
  no_paper : (f : CommandFault) → Err f ≡ ok_or (paper_or_a4 p) UnknownPaper → Err f ≡ options_named p w h d signature workers
  unfolding options_named
  no_paper f e = rw (sym e) refl

  no_width : (f : CommandFault) (named : Paper) → Ok named ≡ ok_or (paper_or_a4 p) UnknownPaper
      → Err f ≡ ok_or (with_width named w) (BadLength letter_w) → Err f ≡ options_named p w h d signature workers
  unfolding options_named
  no_width f named ep ew = rw (sym ep, sym ew) refl

  no_height : (f : CommandFault) (named wide : Paper) → Ok named ≡ ok_or (paper_or_a4 p) UnknownPaper
      → Ok wide ≡ ok_or (with_width named w) (BadLength letter_w)
      → Err f ≡ ok_or (with_height wide h) (BadLength letter_h) → Err f ≡ options_named p w h d signature workers
  unfolding options_named
  no_height f named wide ep ew eh = rw (sym ep, sym ew, sym eh) refl

  no_border : (f : CommandFault) (named wide paper : Paper) → Ok named ≡ ok_or (paper_or_a4 p) UnknownPaper
      → Ok wide ≡ ok_or (with_width named w) (BadLength letter_w)
      → Ok paper ≡ ok_or (with_height wide h) (BadLength letter_h)
      → Err f ≡ ok_or (border_named paper d) (BadLength letter_d) → Err f ≡ options_named p w h d signature workers
  unfolding options_named
  no_border f named wide paper ep ew eh ed = rw (sym ep, sym ew, sym eh, sym ed) refl

  all_named : (named wide paper : Paper) (border : Option ℤ) → Ok named ≡ ok_or (paper_or_a4 p) UnknownPaper
      → Ok wide ≡ ok_or (with_width named w) (BadLength letter_w)
      → Ok paper ≡ ok_or (with_height wide h) (BadLength letter_h)
      → Ok border ≡ ok_or (border_named paper d) (BadLength letter_d)
      → Ok (record { paper = paper; border = border; sides = signature; workers = workers }) ≡ options_named p w h d signature workers
  unfolding options_named
  all_named named wide paper border ep ew eh ed = rw (sym ep, sym ew, sym eh, sym ed) refl

pub returns-in_err-named : goal.returns-in_err-named
returns-in_err-named c =
    let stops = c.in_err-named.ensures.value ∙ ap (λ o. ok_or o UnknownPaper) c.paper_or_a4.ensures in
    handed_on _ _ c.from_residual.ensures.1 ∙ no_paper _ _ _ _ _ _ _ stops

pub returns-in_err-wide : goal.returns-in_err-wide
returns-in_err-wide c =
    let named = c.in_ok-named.ensures.value ∙ ap (λ o. ok_or o UnknownPaper) c.paper_or_a4.ensures in
    let stops = c.in_err-wide.ensures.value ∙ ap (λ o. ok_or o (BadLength letter_w)) c.with_width.ensures in
    handed_on _ _ c.from_residual-in_err-wide.ensures.1 ∙ no_width _ _ _ _ _ _ _ _ named stops

pub returns-in_err-paper : goal.returns-in_err-paper
returns-in_err-paper c =
    let named = c.in_ok-named.ensures.value ∙ ap (λ o. ok_or o UnknownPaper) c.paper_or_a4.ensures in
    let wide = c.in_ok-wide.ensures.value ∙ ap (λ o. ok_or o (BadLength letter_w)) c.with_width.ensures in
    let stops = c.in_err-paper.ensures.value ∙ ap (λ o. ok_or o (BadLength letter_h)) c.with_height.ensures in
    handed_on _ _ c.from_residual-in_err-paper.ensures.1 ∙ no_height _ _ _ _ _ _ _ _ _ named wide stops

pub returns-in_err-border : goal.returns-in_err-border
returns-in_err-border c =
    let named = c.in_ok-named.ensures.value ∙ ap (λ o. ok_or o UnknownPaper) c.paper_or_a4.ensures in
    let wide = c.in_ok-wide.ensures.value ∙ ap (λ o. ok_or o (BadLength letter_w)) c.with_width.ensures in
    let paper = c.in_ok-paper.ensures.value ∙ ap (λ o. ok_or o (BadLength letter_h)) c.with_height.ensures in
    let stops = c.in_err-border.ensures.value ∙ ap (λ o. ok_or o (BadLength letter_d)) c.border_named.ensures in
    handed_on _ _ c.from_residual-in_err-border.ensures.1 ∙ no_border _ _ _ _ _ _ _ _ _ _ named wide paper stops

pub returns : goal.returns
returns c =
    let named = c.in_ok-named.ensures.value ∙ ap (λ o. ok_or o UnknownPaper) c.paper_or_a4.ensures in
    let wide = c.in_ok-wide.ensures.value ∙ ap (λ o. ok_or o (BadLength letter_w)) c.with_width.ensures in
    let paper = c.in_ok-paper.ensures.value ∙ ap (λ o. ok_or o (BadLength letter_h)) c.with_height.ensures in
    let border = c.in_ok-border.ensures.value ∙ ap (λ o. ok_or o (BadLength letter_d)) c.border_named.ensures in
    all_named _ _ _ _ _ _ _ _ _ _ named wide paper border
