use Rattle.std.proofs.Common.{◌∙◌, ◌∷◌, sym, ap}
use Rattle.rows.specs.Found.{parts_left}
use Rattle.rows.proofs.RangeParts.{too_many, two_places}
use Rattle.rows.proofs.found_ranges.read_range.Goals as goal

pub returns-in-Some-more : goal.returns-in-Some-more
returns-in-Some-more c =
    too_many c.args.pages c.args.text.now c.split_at_byte.result.0.now c.in-Some.rest.now c.split_at_byte-2.result.0.now c.in-Some-more.field-0.now (sym c.means_blank.ensures ∙ c.if-means_blank.false)
    (c.split_at_byte.ensures.parts ∙ ap (λ o. c.split_at_byte.result.0.now ∷ parts_left 45 o) c.in-Some.is)
    (c.split_at_byte-2.ensures.parts ∙ ap (λ o. c.split_at_byte-2.result.0.now ∷ parts_left 45 o) c.in-Some-more.is)

pub returns-in-None : goal.returns-in-None
returns-in-None c =
    c.from_to.ensures
    ∙ two_places c.args.pages c.args.text.now c.split_at_byte.result.0.now c.in-Some.rest.now c.split_at_byte-2.result.0.now _ _ (sym c.means_blank.ensures ∙ c.if-means_blank.false)
    (c.split_at_byte.ensures.parts ∙ ap (λ o. c.split_at_byte.result.0.now ∷ parts_left 45 o) c.in-Some.is)
    (c.split_at_byte-2.ensures.parts ∙ ap (λ o. c.split_at_byte-2.result.0.now ∷ parts_left 45 o) c.in-None.is)
    c.read_place-in-None.ensures c.read_last_place.ensures
