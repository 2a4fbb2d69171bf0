-- The options' values: their faults, and what they leave as it is.
use Rattle.std.proofs.Common.{◌≡◌, ◌∙◌, ap, sym, subst, ok_or, ℕ, List, Option, Some, None, Result, Ok, Err, IsErrAnd}
use Rattle.std.specs.Prelude.{codes, ⊤}
use Rattle.clap.specs.Words.{Row, Text, first_of, matches_of}
use Rattle.imposer.specs.declared.options.Options.{Options}
use Rattle.imposer.specs.declared.worker_counts.Workers.{Workers}
use Rattle.command_words.specs.Borders.{border_named}
use Rattle.pstops_cli.specs.declared.command.CommandFault.{CommandFault}
use Rattle.pstops_cli.specs.declared.command.CommandFault.TheVariants.{BadLength, BadWords, NoMemory, UnknownPaper}
use Rattle.pstops_cli.specs.Values.{result_and_then, letter_d, letter_h, letter_w, options_named, paper_or_a4, with_height, with_width}
use Rattle.pstops_cli.specs.Command.{RefusesWords, RefusesValues, TakesWords, options_found, pstops, sides_found, workers_found}

abbrev IsOfValue : CommandFault → Type 0
IsOfValue BadWords = ⊥
IsOfValue UnknownPaper = ⊤
IsOfValue (BadLength letter) = ⊤
IsOfValue NoMemory = ⊥

step : {X : Type 0} (o : Option X) (e f : CommandFault) (k : X → Result Options CommandFault) → IsOfValue e
    → ((x : X) → k x ≡ Err f → IsOfValue f) → result_and_then (ok_or o e) k ≡ Err f → IsOfValue f
step None e f k he hk h = let same : e ≡ f = cc in subst IsOfValue same he
step (Some x) e f k he hk h = hk x h

-- a fault of the values is no other one
of_value : (p w h d : Option Text) (signature : Option ℕ) (workers : Workers) (f : CommandFault) → options_named p w h d signature workers ≡ Err f → IsOfValue f
unfolding options_named
of_value p w h d signature workers f =
    step (paper_or_a4 p) UnknownPaper f _ tt (λ named.
    step (with_width named w) (BadLength letter_w) f _ tt (λ wide.
    step (with_height wide h) (BadLength letter_h) f _ tt (λ paper.
    step (border_named paper d) (BadLength letter_d) f _ tt (λ border e. cc))))

refused_as : (found : List Row) (f : CommandFault) → IsOfValue f → options_found found ≡ Err f → RefusesValues found f
refused_as found BadWords is e = is
refused_as found UnknownPaper is e = e
refused_as found (BadLength letter) is e = e
refused_as found NoMemory is e = absurd is

pub refuses_found : (found : List Row) (f : CommandFault) → options_found found ≡ Err f → RefusesValues found f
refuses_found found f e =
    refused_as found f (of_value (first_of (codes "paper") found) (first_of (codes "width") found) (first_of (codes "height") found) (first_of (codes "border") found) (sides_found found) (workers_found found) f e) e

-- what was found is that of words which are taken
pub refuses_words : (words : List Text) (found : List Row) (f : CommandFault) → TakesWords words → found ≡ matches_of pstops words → RefusesValues found f → RefusesWords words f
refuses_words words found NoMemory taken is h = tt
refuses_words words found UnknownPaper taken is h = (taken, ap options_found (sym is) ∙ h)
refuses_words words found (BadLength letter) taken is h = (taken, ap options_found (sym is) ∙ h)
refuses_words words found BadWords taken is h = absurd h

-- a fault that is handed on by `?`
pub handed_on : {T : Type 0} (r : Result T CommandFault) (f : CommandFault) → IsErrAnd r (λ g. g ≡ f) → r ≡ Err f
handed_on (Ok x) f h = absurd h
handed_on (Err g) f h = ap Err h

-- ---- the workers and the sides

last_step : {X : Type 0} (o : Option X) (e : CommandFault) (k : X → Result Options CommandFault) (named : Options) (P : Type 0)
    → ((x : X) → k x ≡ Ok named → P) → result_and_then (ok_or o e) k ≡ Ok named → P
last_step None e k named P go h = cc
last_step (Some x) e k named P go h = go x h

named_workers : (p w h d : Option Text) (signature : Option ℕ) (workers : Workers) (named : Options) → options_named p w h d signature workers ≡ Ok named → named.workers ≡ workers
unfolding options_named
named_workers p w h d signature workers named =
    last_step (paper_or_a4 p) UnknownPaper _ named _ (λ paper.
    last_step (with_width paper w) (BadLength letter_w) _ named _ (λ wide.
    last_step (with_height wide h) (BadLength letter_h) _ named _ (λ paper.
    last_step (border_named paper d) (BadLength letter_d) _ named _ (λ border e.
    ap (λ r. workers_of r workers) (sym e)))))
  where
    workers_of : Result Options CommandFault → Workers → Workers
    workers_of (Ok o) other = o.workers
    workers_of (Err e) other = other

-- the options have the workers that were found
pub workers_stay : (found : List Row) (named : Options) → options_found found ≡ Ok named → named.workers ≡ workers_found found
workers_stay found named =
    named_workers (first_of (codes "paper") found) (first_of (codes "width") found) (first_of (codes "height") found) (first_of (codes "border") found) (sides_found found) (workers_found found) named

named_sides : (p w h d : Option Text) (signature : Option ℕ) (workers : Workers) (named : Options) → options_named p w h d signature workers ≡ Ok named → named.sides ≡ signature
unfolding options_named
named_sides p w h d signature workers named =
    last_step (paper_or_a4 p) UnknownPaper _ named _ (λ paper.
    last_step (with_width paper w) (BadLength letter_w) _ named _ (λ wide.
    last_step (with_height wide h) (BadLength letter_h) _ named _ (λ paper.
    last_step (border_named paper d) (BadLength letter_d) _ named _ (λ border e.
    ap (λ r. sides_of r signature) (sym e)))))
  where
    sides_of : Result Options CommandFault → Option ℕ → Option ℕ
    sides_of (Ok o) other = o.sides
    sides_of (Err e) other = other

-- and the sides
pub sides_stay : (found : List Row) (named : Options) → options_found found ≡ Ok named → named.sides ≡ sides_found found
sides_stay found named =
    named_sides (first_of (codes "paper") found) (first_of (codes "width") found) (first_of (codes "height") found) (first_of (codes "border") found) (sides_found found) (workers_found found) named
