-- What the guard's names do to a page by itself is what the operators do that they replace, where no matrix and no clip are
-- round the page.
use Rattle.std.specs.Prelude.{◌≡◌, ℕ, List, [], ◌++◌, true, false, Some, codes}
use Rattle.pictures.specs.Objects.{Token, Procedure, Matrix, Resets, Looks, InitialMatrix, DefaultMatrix, InitialClip}
use Rattle.pictures.specs.Machine.{State, push, perform}
use Rattle.pictures.specs.Sheets.{run_of}
use Rattle.pictures.specs.AfterGuard.{initgraphics_tokens, initclip_tokens, initmatrix_tokens, defaultmatrix_tokens}
use Rattle.pictures.specs.Shelter.{Outer, keeps_the_page, is_drawn_anew, noting, did, RunsSheltered}

-- Where an operator brings a free machine that has no place, there the guard's procedure brings the page by itself, as
-- long as what the guard has noted of the page is there; `initclip` makes a matrix besides: a law
abbrev pub ByItselfAsTheOperators : Type 0
ByItselfAsTheOperators =
    (outers : List Outer) (outline : List Token) (s u : State) (rest : List Token)
    → keeps_the_page outers outline s ≡ true
    → (perform false (codes "initgraphics") Resets (run_of rest s) ≡ Some u
    → did outers outline (Procedure initgraphics_tokens) (run_of rest s) ≡ Some u)
    × (perform false (codes "initclip") (Looks InitialClip) (run_of rest s) ≡ Some u
    → is_drawn_anew s.graphics.chain s.graphics.path [] ≡ true
    → did outers outline (Procedure initclip_tokens) (run_of rest s) ≡ Some (noting u))
    × (perform false (codes "initmatrix") (Looks InitialMatrix) (run_of rest s) ≡ Some u
    → RunsSheltered outers outline (run_of (initmatrix_tokens ++ rest) s) u)
    × ((given : ℕ)
    → perform false (codes "defaultmatrix") (Looks DefaultMatrix) (run_of rest (push (Matrix given) s)) ≡ Some u
    → RunsSheltered outers outline (run_of (defaultmatrix_tokens ++ rest) (push (Matrix given) s)) u)
