-- One pass over the units finds the box of the trailer.
use Rattle.std.specs.Prelude.{Result, Ok, Err, Option, Some, None}
use Rattle.std.proofs.Common.{Bool, true, false, cond, ◌≡◌, ℕ, ◌<◌, List, [], ◌∷◌, length, refl, ap, arith, sym, ◌∙◌}
use Rattle.rules.specs.Units.{TextUnit, BlockFault, FaultyBlock, cut, first_unit}
use Rattle.rules.proofs.CutUnits.{same_ok}
use Rattle.rules.specs.Parts.{NestedUnit, begins_page, begins_trailer, nested, nested_from, starting_at, trailer}
use Rattle.dsc.specs.Views.{at_depth}
use Rattle.dsc.specs.Filters.{of_units}
use Rattle.dsc.specs.Units.{faulty_block, or_none, units_of}
use Rattle.dsc.specs.Walks.{WalkPlace, past_unit, IsPieceOf}
use Rattle.dsc.specs.declared.boxes.Section.{Section}
use Rattle.dsc.specs.declared.boxes.Section.TheVariants.{Preamble, Pages, Trailer}
use Rattle.dsc.specs.TrailerBoxes.{box_among, box_in, first_there, found_after, part_after, trailer_box}
use Rattle.dsc.proofs.Cut.{cut_fault}
use Rattle.dsc.proofs.PartMarks.{exclusive, from-cons}
use Rattle.dsc.proofs.PlainUnits.{plain_box, plain_page, plain_trailer}
use Rattle.dsc.proofs.Walking.{Follows, on_rest, piece_on}

-- what was found up to a unit of this part
pub record Sought : Type 0 where
  pub part : Section
  pub found : Option (List (List ℕ))

abbrev sought : Section → Option (List (List ℕ)) → Sought
sought part found = record { part = part; found = found }

-- what is found from there on
abbrev pub found_from : Section → List NestedUnit → Option (List (List ℕ))
found_from Preamble us = box_among (trailer us)
found_from Pages us = box_among (starting_at begins_trailer us)
found_from Trailer us = box_among us

abbrev pub makes : Sought → List NestedUnit → Option (List (List ℕ))
makes s us = first_there s.found (found_from s.part us)

abbrev pub next : Sought → NestedUnit → Sought
next s u = let part = part_after s.part (begins_page u) (begins_trailer u) in record { part = part; found = found_after part s.found u }

abbrev pass : Sought → List ℕ → Sought
pass s bytes = s

first_of_three : {A : Type 0} (a b c : Option A) → first_there (first_there a b) c ≡ first_there a (first_there b c)
first_of_three (Some x) b c = refl
first_of_three None b c = refl

abbrev made : Option (List (List ℕ)) → NestedUnit → List NestedUnit → Section → Option (List (List ℕ))
made found u us part = first_there (found_after part found u) (found_from part us)

trailer_step : (found : Option (List (List ℕ))) (u : NestedUnit) (us : List NestedUnit) → made found u us Trailer ≡ first_there found (box_among (u ∷ us))
trailer_step found u us = first_of_three found (box_in u) (box_among us)

pages_step : (found : Option (List (List ℕ))) (u : NestedUnit) (us : List NestedUnit) (page ends : Bool) → begins_trailer u ≡ ends
    → made found u us (part_after Pages page ends) ≡ first_there found (box_among (starting_at begins_trailer (u ∷ us)))
pages_step found u us page true e =
    trailer_step found u us
    ∙ ap (λ vs. first_there found (box_among vs)) (sym (from-cons begins_trailer u us ∙ ap (λ t. cond t (u ∷ us) (starting_at begins_trailer us)) e))
pages_step found u us page false e =
    ap (λ vs. first_there found (box_among vs)) (sym (from-cons begins_trailer u us ∙ ap (λ t. cond t (u ∷ us) (starting_at begins_trailer us)) e))

preamble_step : (found : Option (List (List ℕ))) (u : NestedUnit) (us : List NestedUnit) (page ends : Bool) → begins_page u ≡ page
    → made found u us (part_after Preamble page ends) ≡ first_there found (box_among (trailer (u ∷ us)))
preamble_step found u us true ends e =
    pages_step found u us true false (exclusive u e)
    ∙ ap (λ vs. first_there found (box_among (starting_at begins_trailer vs))) (sym (from-cons begins_page u us ∙ ap (λ t. cond t (u ∷ us) (starting_at begins_page us)) e))
preamble_step found u us false ends e =
    ap (λ vs. first_there found (box_among (starting_at begins_trailer vs))) (sym (from-cons begins_page u us ∙ ap (λ t. cond t (u ∷ us) (starting_at begins_page us)) e))

one_step : (part : Section) (found : Option (List (List ℕ))) (u : NestedUnit) (us : List NestedUnit)
    → made found u us (part_after part (begins_page u) (begins_trailer u)) ≡ first_there found (found_from part (u ∷ us))
one_step Preamble found u us = preamble_step found u us (begins_page u) (begins_trailer u) refl
one_step Pages found u us = pages_step found u us (begins_page u) (begins_trailer u) refl
one_step Trailer found u us = trailer_step found u us

none_added : {A : Type 0} (found : Option A) → first_there found None ≡ found
none_added (Some x) = refl
none_added None = refl

-- a unit that means nothing
plain_step : (part : Section) (found : Option (List (List ℕ))) (u : NestedUnit) → box_in u ≡ None
    → sought (part_after part false false) (found_after (part_after part false false) found u) ≡ sought part found
plain_step Preamble found u e = refl
plain_step Pages found u e = refl
plain_step Trailer found u e = ap (sought Trailer) (ap (first_there found) e ∙ none_added found)

follows : Follows makes next pass
follows = record {
  one = λ s u us. one_step s.part s.found u us;
  plain = λ s u h.
      ap (λ page. sought (part_after s.part page (begins_trailer u)) (found_after (part_after s.part page (begins_trailer u)) s.found u)) (plain_page u h)
      ∙ ap (λ ends. sought (part_after s.part false ends) (found_after (part_after s.part false ends) s.found u)) (plain_trailer u h)
      ∙ plain_step s.part s.found u (plain_box u h);
  both = λ s a b. refl;
}

abbrev pub sought_on : Section → Option (List (List ℕ)) → (depth at : ℕ) → List ℕ → Result (Option (List (List ℕ))) FaultyBlock
sought_on part found depth at rest = on_rest (makes (sought part found)) depth at rest

-- in terms of the loop: one more unit is looked at
pub sought_more : (part new_part : Section) (found new : Option (List (List ℕ))) (p q : WalkPlace) (u : TextUnit) (page ends : Bool) (whole : Result (Option (List (List ℕ))) FaultyBlock)
    → 0 < length p.rest → IsPieceOf u p.rest → q ≡ past_unit u p
    → page ≡ begins_page (at_depth p.depth u) → ends ≡ begins_trailer (at_depth p.depth u)
    → new_part ≡ part_after part page ends → new ≡ found_after new_part found (at_depth p.depth u)
    → sought_on part found p.depth p.at p.rest ≡ whole → sought_on new_part new q.depth q.at q.rest ≡ whole
sought_more part new_part found new p q u page ends whole some piece b pg tr np nf i =
    let r : WalkPlace = past_unit u p in
    let v : NestedUnit = at_depth p.depth u in
    let same : new_part ≡ part_after part (begins_page v) (begins_trailer v) = np ∙ ap (λ t. part_after part t ends) pg ∙ ap (part_after part (begins_page v)) tr in
    ap (λ t. sought_on new_part new t.depth t.at t.rest) b
    ∙ ap (λ f. sought_on new_part f r.depth r.at r.rest) nf
    ∙ ap (λ t. sought_on t (found_after t found v) r.depth r.at r.rest) same
    ∙ piece_on follows (sought part found) p.depth p.at p.rest u some piece.is ∙ i

-- nothing is left
pub all_sought : (text rest : List ℕ) (part : Section) (found : Option (List (List ℕ))) (depth at : ℕ) → length rest ≡ 0
    → sought_on part found depth at rest ≡ sought_on Preamble None 0 0 text → found ≡ trailer_box (units_of text)
all_sought text (b ∷ bs) part found depth at none i = absurd (omega (arith, none))
all_sought text [] part found depth at none i = ended part found (cut text) i
  where
    kept : (part : Section) (found : Option (List (List ℕ))) → makes (sought part found) [] ≡ found
    kept Preamble found = none_added found
    kept Pages found = none_added found
    kept Trailer found = none_added found

    ended : (part : Section) (found : Option (List (List ℕ))) (r : Result (List TextUnit) FaultyBlock)
        → Ok (makes (sought part found) []) ≡ of_units (λ us. makes (sought Preamble None) (nested us)) r → found ≡ trailer_box (nested (or_none r))
    ended part found (Ok us) e = sym (kept part found) ∙ same_ok _ _ e
    ended part found (Err fault) e = cc

faulty : (fault : FaultyBlock) (r : Result (List TextUnit) FaultyBlock) → Err fault ≡ of_units (λ us. makes (sought Preamble None) (nested us)) r → None ≡ trailer_box (nested (or_none r))
faulty fault (Ok us) e = cc
faulty fault (Err other) e = refl

-- the walk meets a faulty block
pub fault_met : (text rest : List ℕ) (part : Section) (found : Option (List (List ℕ))) (depth at : ℕ) (bad : BlockFault) → 0 < length rest → first_unit rest ≡ Err bad
    → sought_on part found depth at rest ≡ sought_on Preamble None 0 0 text → None ≡ trailer_box (units_of text)
fault_met text [] part found depth at bad some w i = absurd (omega (arith, some))
fault_met text (b ∷ bs) part found depth at bad some w i =
    let met : sought_on part found depth at (b ∷ bs) ≡ Err (faulty_block at bad) = ap (of_units (λ us. makes (sought part found) (nested_from depth us))) (cut_fault at b bs bad w) in
    faulty (faulty_block at bad) (cut text) (sym met ∙ i)
