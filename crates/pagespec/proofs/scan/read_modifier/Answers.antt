use Rattle.std.proofs.Common.{refl, ◌∙◌}
use Rattle.std.proofs.lemmas.List.{nil_from_length}
use Rattle.pagespec.proofs.Scans.{at_letter, at_scale, at_offset}
use Rattle.pagespec.proofs.ModifierStuck.{nothing_stuck, letter_stuck, at_stuck, bracket_stuck, same_outcome}
use Rattle.pagespec.proofs.scan.read_modifier.Goals as goal

pub returns-in-None : goal.returns-in-None
returns-in-None c = nothing_stuck c.args.bytes.now (nil_from_length c.args.bytes.now c.in-None.ensures.cases)

pub returns-then-first-eq64 : goal.returns-then-first-eq64
returns-then-first-eq64 c =
    same_outcome c.read_scale.result _ _ _ _
    (λ x (m, found, stands). (m, at_scale c.args.bytes.now c.in-Some.rest.now c.in-Some.first.now c.in-Some.ensures.cases.0 c.if-first-eq64.true ∙ found, stands))
    (λ stuck s. at_stuck c.args.bytes.now c.in-Some.rest.now c.in-Some.first.now stuck.left c.in-Some.ensures.cases.0 c.if-first-eq64.true s) c.read_scale.ensures

pub returns-then-first-eq40 : goal.returns-then-first-eq40
returns-then-first-eq40 c =
    same_outcome c.read_offset.result _ _ _ _
    (λ x (m, found, stands). (m, at_offset c.args.bytes.now c.in-Some.rest.now c.in-Some.first.now c.in-Some.ensures.cases.0 c.if-first-eq40.true ∙ found, stands))
    (λ stuck s. bracket_stuck c.args.bytes.now c.in-Some.rest.now c.in-Some.first.now stuck.left c.in-Some.ensures.cases.0 c.if-first-eq40.true s) c.read_offset.ensures

pub returns-then-quarters-eq0 : goal.returns-then-quarters-eq0
returns-then-quarters-eq0 c =
    letter_stuck c.args.bytes.now c.in-Some.rest.now c.in-Some.first.now c.quarters_of-quarters.result c.in-Some.ensures.cases.0 (λ e. c.if-first-eq64.false e) (λ e. c.if-first-eq40.false e) c.quarters_of-quarters.ensures.value c.if-quarters-eq0.true

pub returns-else-quarters-eq0 : goal.returns-else-quarters-eq0
returns-else-quarters-eq0 c =
    (_, at_letter c.args.bytes.now c.in-Some.rest.now c.in-Some.first.now c.quarters_of-quarters.result c.in-Some.ensures.cases.0 (λ e. c.if-first-eq64.false e) (λ e. c.if-first-eq40.false e) c.quarters_of-quarters.ensures.value (λ e. c.if-quarters-eq0.false e), refl)
