-- One pass over the units counts those that begin a page.
use Rattle.std.specs.Prelude.{Result, Ok, Err, filter, if◌then◌else◌}
use Rattle.std.proofs.Common.{Bool, true, false, cond, ◌≡◌, ℕ, ◌+◌, ◌<◌, List, [], ◌∷◌, length, refl, ap, arith, sym, ◌∙◌}
use Rattle.rules.specs.Units.{TextUnit, BlockFault, FaultyBlock, cut, first_unit}
use Rattle.rules.proofs.CutUnits.{same_ok}
use Rattle.rules.specs.Parts.{NestedUnit, begins_page, nested, nested_from}
use Rattle.dsc.specs.Views.{at_depth}
use Rattle.dsc.specs.Filters.{of_units}
use Rattle.dsc.specs.PagesAfter.{page_lines}
use Rattle.dsc.specs.Units.{faulty_block, or_none, units_of}
use Rattle.dsc.specs.Walks.{WalkPlace, past_unit, IsPieceOf}
use Rattle.dsc.proofs.Cut.{cut_fault}
use Rattle.dsc.proofs.PlainUnits.{plain_page}
use Rattle.dsc.proofs.Walking.{Follows, on_rest, piece_on}

abbrev pub makes : ℕ → List NestedUnit → ℕ
makes count us = count + page_lines us

abbrev pub counted : ℕ → Bool → ℕ
counted count page = if page then count + 1 else count

abbrev next : ℕ → NestedUnit → ℕ
next count u = counted count (begins_page u)

abbrev pass : ℕ → List ℕ → ℕ
pass count bytes = count

one_step : (count : ℕ) (u : NestedUnit) (us : List NestedUnit) (page : Bool)
    → counted count page + page_lines us ≡ count + length (cond page (u ∷ filter begins_page us) (filter begins_page us))
one_step count u us true = omega arith
one_step count u us false = refl

follows : Follows makes next pass
follows = record {
  one = λ count u us. one_step count u us (begins_page u);
  plain = λ count u h. ap (counted count) (plain_page u h);
  both = λ count a b. refl;
}

-- the final count, if this many were counted up to here
abbrev pub count_on : ℕ → (depth at : ℕ) → List ℕ → Result ℕ FaultyBlock
count_on count depth at rest = on_rest (makes count) depth at rest

-- in terms of the loop: one more unit is looked at
pub count_more : (count new : ℕ) (p q : WalkPlace) (u : TextUnit) (page : Bool) (whole : Result ℕ FaultyBlock)
    → 0 < length p.rest → IsPieceOf u p.rest → q ≡ past_unit u p
    → page ≡ begins_page (at_depth p.depth u) → new ≡ counted count page
    → count_on count p.depth p.at p.rest ≡ whole → count_on new q.depth q.at q.rest ≡ whole
count_more count new p q u page whole some piece b pg n i =
    let r : WalkPlace = past_unit u p in
    ap (λ t. count_on new t.depth t.at t.rest) b
    ∙ ap (λ k. count_on k r.depth r.at r.rest) (n ∙ ap (counted count) pg)
    ∙ piece_on follows count p.depth p.at p.rest u some piece.is ∙ i

-- nothing is left
pub all_counted : (text rest : List ℕ) (count depth at : ℕ) → length rest ≡ 0
    → count_on count depth at rest ≡ count_on 0 0 0 text → count ≡ page_lines (units_of text)
all_counted text (b ∷ bs) count depth at none i = absurd (omega (arith, none))
all_counted text [] count depth at none i = ended count (cut text) i
  where
    ended : (count : ℕ) (r : Result (List TextUnit) FaultyBlock)
        → Ok (makes count []) ≡ of_units (λ us. makes 0 (nested us)) r → count ≡ page_lines (nested (or_none r))
    ended count (Ok us) e = let same = same_ok _ _ e in omega (arith, same)
    ended count (Err fault) e = cc

faulty : (fault : FaultyBlock) (r : Result (List TextUnit) FaultyBlock) → Err fault ≡ of_units (λ us. makes 0 (nested us)) r → 0 ≡ page_lines (nested (or_none r))
faulty fault (Ok us) e = cc
faulty fault (Err other) e = refl

-- the walk meets a faulty block
pub fault_counted : (text rest : List ℕ) (count depth at : ℕ) (bad : BlockFault) → 0 < length rest → first_unit rest ≡ Err bad
    → count_on count depth at rest ≡ count_on 0 0 0 text → 0 ≡ page_lines (units_of text)
fault_counted text [] count depth at bad some w i = absurd (omega (arith, some))
fault_counted text (b ∷ bs) count depth at bad some w i =
    let met : count_on count depth at (b ∷ bs) ≡ Err (faulty_block at bad) = ap (of_units (λ us. makes count (nested_from depth us))) (cut_fault at b bs bad w) in
    faulty (faulty_block at bad) (cut text) (sym met ∙ i)
