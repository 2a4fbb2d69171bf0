use Rattle.std.proofs.Common.{◌≡◌, ◌∙◌, ap, map, subst, sym, true, false, inl, inr}
use Rattle.std.specs.Prelude.{string_bytes}
use Rattle.clap.specs.Words.{IsAmong, fault_of, is_simple, kind_of, subcommand_of}
use Rattle.clap.specs.Faults.{is_simple_and_free}
use Rattle.impose_words.proofs.Commands.{impose_is_free, impose_is_simple}
use Rattle.impose_words.proofs.command.parse_words.Goals as goal

pub returns-in-Ok-clause-taken : goal.returns-in-Ok-clause-taken
returns-in-Ok-clause-taken c =
    let is = c.in_ok-command.ensures in
    ap (λ a. fault_of a (map string_bytes c.args.words.now)) (sym is) ∙ c.in-Ok.ensures.kinds (ap is_simple_and_free is ∙ impose_is_free)

pub returns-in-Ok-clause-found : goal.returns-in-Ok-clause-found
returns-in-Ok-clause-found c =
    let is = c.in_ok-command.ensures in
    (c.in-Ok.ensures.matches (ap is_simple is ∙ impose_is_simple)).1 ∙ ap (λ a. subcommand_of a (map string_bytes c.args.words.now)) is

unlike : false ≡ true → ⊥
unlike e = cc

pub returns-clause-refused : goal.returns-clause-refused
returns-clause-refused c =
    let is = c.in_ok-command.ensures in
    let kinds = c.in-Err.ensures.kinds (ap is_simple_and_free is ∙ impose_is_free) in
    elim kinds [
      | inl h ↦ let same = c.kind.ensures ∙ h in absurd (unlike (rw same at c.if-eq.ensures))
      | inr h ↦ subst (λ a. IsAmong (kind_of c.in-Err.error) (fault_of a (map string_bytes c.args.words.now))) is h
    ]
