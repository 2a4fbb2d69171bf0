use Rattle.std.proofs.Common.{◌∙◌, sym, ap, length, Some}
use Rattle.std.proofs.lemmas.List.FromFn.{length-map-range_with_len}
use Rattle.rows.specs.Choices.{named_found}
use Rattle.rows.proofs.choices.named_count.Goals as goal

pub returns-in-None-clause-count : goal.returns-in-None-clause-count
returns-in-None-clause-count c = sym (ap (λ o. length (named_found c.args.pages o)) c.in-None.is ∙ length-map-range_with_len Some 0 c.args.pages)
