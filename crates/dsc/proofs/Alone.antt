-- A page, cut as a text of its own, has the units that it has in the document.
use Rattle.std.specs.Prelude.{Ok, map, All, not}
use Rattle.std.specs.List.{prefix_len}
use Rattle.std.proofs.Common.{Bool, true, false, ◌&&◌, ◌==◌, ◌≡◌, ℕ, zero, suc, List, [], ◌∷◌, ◌++◌, length, take, drop, refl, ap, arith, sym, ◌∙◌, subst}
use Rattle.std.proofs.lemmas.Bool.{eqb-true}
use Rattle.std.proofs.lemmas.List.Elements.{All-nil, All-cons}
use Rattle.rules.specs.Units.{TextUnit, BeginsWith, cut, ◌>>=◌}
use Rattle.rules.specs.Parts.{NestedUnit, depth_after, nested_from, nested, begins_page, begins_trailer, up_to, starting_at, page_run, split_pages, bytes_of, pages}
use Rattle.rules.specs.Filters.{kept, drops_in_page, ended, prepared}
use Rattle.rules.specs.Output.{body_text}
use Rattle.dsc.specs.Laws.{StandAlone, PagesStandAlone, HasBody}
use Rattle.dsc.proofs.Cases.{by_test}
use Rattle.dsc.proofs.Rows.{joined, units-alone, units-cut, cut-begins}

-- the depth after units
abbrev pub depth_behind : ℕ → List TextUnit → ℕ
depth_behind d [] = d
depth_behind d (p ∷ ps) = depth_behind (depth_after d p) ps

pub nested-drop : (n d : ℕ) (ps : List TextUnit) → drop n (nested_from d ps) ≡ nested_from (depth_behind d (take n ps)) (drop n ps)
nested-drop zero d [] = refl
nested-drop zero d (p ∷ ps) = refl
nested-drop (suc n) d [] = refl
nested-drop (suc n) d (p ∷ ps) = nested-drop n (depth_after d p) ps

pub nested-take : (n d : ℕ) (ps : List TextUnit) → take n (nested_from d ps) ≡ nested_from d (take n ps)
nested-take zero d [] = refl
nested-take zero d (p ∷ ps) = refl
nested-take (suc n) d [] = refl
nested-take (suc n) d (p ∷ ps) = ap (λ us. record { depth = d; unit = p } ∷ us) (nested-take n (depth_after d p) ps)

pub nested-units : (d : ℕ) (ps : List TextUnit) → map (λ u. u.unit) (nested_from d ps) ≡ ps
nested-units d [] = refl
nested-units d (p ∷ ps) = ap (λ qs. p ∷ qs) (nested-units (depth_after d p) ps)

pub nested-bytes : (d : ℕ) (ps : List TextUnit) → bytes_of (nested_from d ps) ≡ joined ps
nested-bytes d [] = refl
nested-bytes d (p ∷ ps) = ap (λ bs. p.bytes ++ bs) (nested-bytes (depth_after d p) ps)

-- the first units of a text, and those after them
pub begins-take : (n : ℕ) (ps : List TextUnit) (text rest : List ℕ) → BeginsWith ps text rest → (mid : List ℕ) × BeginsWith (take n ps) text mid
begins-take zero [] text rest h = (text, refl)
begins-take zero (p ∷ ps) text rest h = (text, refl)
begins-take (suc n) [] text rest h = (text, refl)
begins-take (suc n) (p ∷ ps) text rest h = let w = begins-take n ps (drop (length p.bytes) text) rest h.2 in (w.0, (h.0, h.1, w.1))

pub begins-drop : (n : ℕ) (ps : List TextUnit) (text rest : List ℕ) → BeginsWith ps text rest → (mid : List ℕ) × BeginsWith (drop n ps) mid rest
begins-drop zero [] text rest h = (text, h)
begins-drop zero (p ∷ ps) text rest h = (text, h)
begins-drop (suc n) [] text rest h = (text, h)
begins-drop (suc n) (p ∷ ps) text rest h = begins-drop n ps (drop (length p.bytes) text) rest h.2

pub and-first : (a b c : Bool) → ((a && b) && c) ≡ true → a ≡ true
and-first true b c e = refl
and-first false b c e = e

page-depth : (d : ℕ) (p : TextUnit) → begins_page (record { depth = d; unit = p }) ≡ true → d ≡ 0
page-depth d p h = eqb-true d 0 (and-first (d == 0) (not p.is_block) _ h)

pub stands : (ps : List TextUnit) (text rest : List ℕ) → BeginsWith ps text rest → StandAlone (nested_from 0 ps)
stands ps text rest h =
    (ap cut (nested-bytes 0 ps) ∙ units-cut ps (joined ps) (units-alone ps text rest h) ∙ ap Ok (sym (nested-units 0 ps)), ap (nested_from 0) (nested-units 0 ps))

pub pages-stand : (d : ℕ) (ps : List TextUnit) (text rest : List ℕ) → BeginsWith ps text rest → All StandAlone (split_pages (nested_from d ps))
pages-stand d [] text rest h = All-nil StandAlone
pages-stand d (p ∷ ps) text rest h =
    let later : All StandAlone (split_pages (nested_from (depth_after d p) ps)) = pages-stand (depth_after d p) ps (drop (length p.bytes) text) rest h.2 in
    by_test (begins_page (record { depth = d; unit = p }))
    (λ is.
    let n : ℕ = prefix_len (λ u. not (begins_page u)) (nested_from (depth_after d p) ps) in
    let w = begins-take n ps (drop (length p.bytes) text) rest h.2 in
    let page : record { depth = d; unit = p } ∷ up_to begins_page (nested_from (depth_after d p) ps) ≡ nested_from d (p ∷ take n ps) = ap (λ us. record { depth = d; unit = p } ∷ us) (nested-take n (depth_after d p) ps) in
    let alone : StandAlone (nested_from d (p ∷ take n ps)) = subst (λ k. StandAlone (nested_from k (p ∷ take n ps))) (sym (page-depth d p is)) (stands (p ∷ take n ps) text w.0 (h.0, h.1, w.1)) in
    rw is (All-cons StandAlone _ _ (subst StandAlone (sym page) alone) later))
    (λ isnt. rw isnt later)

pub body-stands : (ps : List TextUnit) (text rest : List ℕ) → BeginsWith ps text rest → All StandAlone (split_pages (page_run (nested_from 0 ps)))
body-stands ps text rest h =
    let n : ℕ = prefix_len (λ u. not (begins_page u)) (nested_from 0 ps) in
    let d : ℕ = depth_behind 0 (take n ps) in
    let behind : starting_at begins_page (nested_from 0 ps) ≡ nested_from d (drop n ps) = nested-drop n 0 ps in
    let m : ℕ = prefix_len (λ u. not (begins_trailer u)) (nested_from d (drop n ps)) in
    let same : page_run (nested_from 0 ps) ≡ nested_from d (take m (drop n ps)) = ap (up_to begins_trailer) behind ∙ nested-take m d (drop n ps) in
    let w = begins-drop n ps text rest h in
    let v = begins-take m (drop n ps) w.0 rest w.1 in
    subst (λ us. All StandAlone (split_pages us)) (sym same) (pages-stand d (take m (drop n ps)) w.0 v.0 v.1)

pub pages-alone : PagesStandAlone
pages-alone text ps e = body-stands ps text [] (cut-begins text ps e)

-- Each page has a body.

alone-body : (us : List NestedUnit) → StandAlone us → HasBody (bytes_of us)
alone-body us h =
    let whole : prepared (bytes_of us) ≡ Ok (ended (bytes_of (kept drops_in_page (nested (map (λ u. u.unit) us))))) = ap (λ r. r >>= λ vs. Ok (ended (bytes_of (kept drops_in_page (nested vs))))) h.0 in
    whole ∙ ap Ok (sym (ap body_text whole))

alone-bodies : (parts : List (List NestedUnit)) → All StandAlone parts → All HasBody (map bytes_of parts)
alone-bodies [] h = All-nil HasBody
alone-bodies (us ∷ parts) h =
    All-cons HasBody _ _ (alone-body us (h 0 [] (omega arith))) (alone-bodies parts (λ k d l. h (suc k) d (omega (arith, l))))

pub bodies : (text : List ℕ) (ps : List TextUnit) → cut text ≡ Ok ps → All HasBody (pages (nested ps))
bodies text ps e = alone-bodies (split_pages (page_run (nested ps))) (pages-alone text ps e)
