-- A placed page paints its own picture, placed, with further operators too.
use Rattle.std.proofs.Common.{◌≡◌, ap, ◌∙◌, sym, subst, false, List, ◌++◌}
use Rattle.pictures.specs.Objects.{Token}
use Rattle.pictures.specs.Machine.{State}
use Rattle.pictures.specs.Placing.{state_at}
use Rattle.pictures.specs.Sheets.{run_of, Numbers, saving_tokens, placing_tokens, closing_tokens, running_alone, page_picture}
use Rattle.pictures.proofs.Opening.{opening, around}
use Rattle.pictures.proofs.Placed.{behind, known_ground, closing, bracketed, assembled}
use Rattle.open_pictures.specs.Machine.{OpenRuns}
use Rattle.open_pictures.specs.Sheets.{OpenPageIsPlaced}
use Rattle.open_pictures.proofs.Runs.{open_join, open_runs}
use Rattle.open_pictures.proofs.Commutes.{open_placing_commutes}

pub open_page_is_placed : OpenPageIsPlaced
open_page_is_placed x s y rest p g h =
    let n : Numbers = y.placed.numbers in
    let l : List Token = closing_tokens ++ rest in
    let before : State = run_of (saving_tokens ++ (placing_tokens n ++ (y.placed.body ++ l))) s in
    let begun : State = state_at (around l n s) (running_alone s y.placed.body) in
    let ended : State = state_at (around l n s) h.end in
    let end : State = behind rest n s h.end.painted in
    let picture : end ≡ record s { left = rest; painted = page_picture s.graphics y ++ s.painted } = ap (behind rest n s) h.picture_is ∙ assembled s y rest in
    subst (λ ts. OpenRuns x false (run_of ts s) (record s { left = rest; painted = page_picture s.graphics y ++ s.painted })) (sym (bracketed y.placed rest))
    (subst (OpenRuns x false before) picture
    (open_join x false before begun end (open_runs x before begun (opening s n y.placed.body l (known_ground s g)))
    (open_join x false begun ended end (open_placing_commutes x (around l n s) (running_alone s y.placed.body) h.end p h.run)
    (open_runs x ended end (closing s h.end n rest g h.leaves)))))
