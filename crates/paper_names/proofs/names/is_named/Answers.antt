use Rattle.std.proofs.Common.{sym, ap, ◌∙◌}
use Rattle.std.specs.Prelude.{option_map}
use Rattle.paper_names.specs.Names.{letters}
use Rattle.paper_names.proofs.Letters.{is_all, word_is}
use Rattle.paper_names.proofs.names.is_named.Goals as goal

pub returns-in-Some : goal.returns-in-Some
returns-in-Some c =
    c.has_no_letter.ensures ∙ ap is_all (sym (ap (option_map (λ rest. letters rest.now)) c.in-Some.is) ∙ c.after_word.ensures)
    ∙ sym (word_is c.args.known.now (letters c.args.text.now))

pub returns-in-None : goal.returns-in-None
returns-in-None c =
    ap is_all (sym (ap (option_map (λ rest. letters rest.now)) c.in-None.is) ∙ c.after_word.ensures)
    ∙ sym (word_is c.args.known.now (letters c.args.text.now))
