use Rattle.std.specs.Prelude.{None, option_map}
use Rattle.std.proofs.Common.{rules, ◌≡◌, ◌<◌, ◌∙◌, length, ap}
use Rattle.dsc.specs.Fields.{fields_in}
use Rattle.dsc.specs.declared.boxes.Section.TheVariants.{Preamble}
use Rattle.dsc.specs.TrailerBoxes.{found_after}
use Rattle.dsc.specs.Views.{unit_of, at_depth}
use Rattle.dsc.proofs.Seeking.{all_sought, fault_met, sought_more, sought_on}
use Rattle.dsc.proofs.Walking.{less_left}
use Rattle.dsc.proofs.boxes.trailer_box.Goals as goal

pub loop-part-init : goal.loop-part-init
loop-part-init c = ap (λ p. sought_on Preamble None p.depth p.at p.rest) c.new-walk.ensures

pub step-requires : goal.step-requires
step-requires c = c.is_done.ensures.going c.loop-part-test.true

pub returns-in-Err : goal.returns-in-Err
returns-in-Err c =
    let p = c.loop-part.walk in
    let some : 0 < length p.rest = c.is_done.ensures.going c.loop-part-test.true in
    fault_met c.args.text.now p.rest c.loop-part.part _ p.depth p.at _ some c.in-Err.ensures.fault c.loop-part.invariant

pub loop-part-preserved : goal.loop-part-preserved
loop-part-preserved c =
    let p = c.loop-part.walk in
    let step = c.in-Ok.ensures in
    let some : 0 < length p.rest = c.is_done.ensures.going c.loop-part-test.true in
    sought_more c.loop-part.part _ (option_map (λ value. fields_in value.now) c.loop-part.found) _ p c.step.new.self (unit_of c.in-Ok.step.unit) _ _ _
    some step.piece step.place step.page step.trailer c.next_part-part.ensures
    (c.found_by-found.ensures ∙ ap (λ d. found_after c.next_part-part.result (option_map (λ value. fields_in value.now) c.loop-part.found) (at_depth d (unit_of c.in-Ok.step.unit))) step.depth)
    c.loop-part.invariant

pub returns : goal.returns
returns c =
    let none : length c.loop-part.walk.rest ≡ 0 = search rules in
    all_sought c.args.text.now c.loop-part.walk.rest c.loop-part.part _ c.loop-part.walk.depth c.loop-part.walk.at none c.loop-part.invariant

pub loop-part-smaller : goal.loop-part-smaller
loop-part-smaller c =
    less_left c.loop-part.walk c.step.new.self (unit_of c.in-Ok.step.unit) c.in-Ok.ensures.place (c.is_done.ensures.going c.loop-part-test.true) c.in-Ok.ensures.piece.some
