use Rattle.std.specs.Prelude.{None, option_map}
use Rattle.std.proofs.Common.{◌≡◌, length}
use Rattle.dsc.specs.Fields.{fields_in}
use Rattle.dsc.specs.declared.boxes.Section.TheVariants.{Preamble}
use Rattle.dsc.proofs.Seeking.{sought_on}
use Rattle.dsc.proofs.boxes.trailer_box.Given as goal

abbrev pub invariant-loop-part : goal.invariant-loop-part
invariant-loop-part l = sought_on l.part (option_map (λ value. fields_in value.now) l.found) l.walk.depth l.walk.at l.walk.rest ≡ sought_on Preamble None 0 0 l.text

abbrev pub decreases-loop-part : goal.decreases-loop-part
decreases-loop-part l = length l.walk.rest
