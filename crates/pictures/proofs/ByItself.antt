-- The guard's names by themselves, and the operators.
use Rattle.std.specs.Prelude.{Some, None, option_map, codes, if◌then◌else◌}
use Rattle.std.proofs.Common.{◌≡◌, ap, ◌∙◌, true, List, [], ◌∷◌}
use Rattle.pictures.specs.Objects.{Token, Object, Bound, Matrix}
use Rattle.pictures.specs.Machine.{State, push, set_to, filled_from, steps, and_then}
use Rattle.pictures.specs.Sheets.{run_of}
use Rattle.pictures.proofs.Tests.{first}
use Rattle.pictures.proofs.Placed.{both_true}
use Rattle.pictures.specs.Shelter.{Outer, means, holds_the_place, keeps_the_page, is_drawn_anew, noting, unclipped, as_it_began, meant_sheltered, shelter_step}
use Rattle.pictures.specs.ByItself.{ByItselfAsTheOperators}
use Rattle.pictures.proofs.Sheltering.{ThePlace, the_place}

-- the matrix that holds the page's place
place_of : (outers : List Outer) (outline : List Token) (s : State) → keeps_the_page outers outline s ≡ true → ThePlace (means s (codes "PStoPSmatrix")) s.work.made s.kept
place_of outers outline s k =
    the_place (means s (codes "PStoPSmatrix")) s.work.made s.kept (first (holds_the_place (means s (codes "PStoPSmatrix")) s.work.made s.kept) _ k)

pub by_itself_as_the_operators : ByItselfAsTheOperators
by_itself_as_the_operators outers outline s u rest k =
    let t : State = run_of rest s in
    let place = place_of outers outline s k in
    let os : List Object = s.work.operands in
    let l : List Token = Bound (codes "setmatrix") ∷ rest in
    let there : State = push (Matrix place.0) (run_of l s) in (
      λ e. ap (λ b. if b then Some (as_it_began t) else None) k ∙ e,
      λ e anew. ap (λ b. if b then Some (unclipped t) else None) (both_true (keeps_the_page outers outline s) (is_drawn_anew s.graphics.chain s.graphics.path []) k anew)
          ∙ ap (λ x. option_map noting x) e,
      λ e. (
        2,
        ap (λ x. and_then (steps (shelter_step outers outline) 1) (meant_sheltered outers outline x (run_of l s))) place.1
            ∙ ap (λ c. and_then (steps (shelter_step outers outline) 0) (set_to c os (run_of rest (push (Matrix place.0) s)))) place.3
            ∙ e,
      ),
      λ given e.
          let m : List Token = Bound (codes "exch") ∷ Bound (codes "copy") ∷ rest in
          let start : State = push (Matrix given) s in
          let turned : State = push (Matrix given) (push (Matrix place.0) s) in (
            3,
            ap (λ x. and_then (steps (shelter_step outers outline) 2) (meant_sheltered outers outline x (run_of m start))) place.1
                ∙ ap (λ c. and_then (steps (shelter_step outers outline) 0) (filled_from c given os (run_of rest turned))) place.3
                ∙ e,
          ),
    )
