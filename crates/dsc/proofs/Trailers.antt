-- The trailer, cut as a text of its own, has the units that it has in the document.
use Rattle.std.specs.Prelude.{Ok, not}
use Rattle.std.specs.List.{prefix_len}
use Rattle.std.proofs.Common.{Bool, true, cond, ◌==◌, ◌≡◌, ℕ, ◌≤◌, List, [], ◌∷◌, ◌++◌, length, take, drop, refl, ap, arith, length-append, sym, ◌∙◌, subst}
use Rattle.std.proofs.lemmas.List.{drop-drop}
use Rattle.std.proofs.lemmas.Bool.{eqb-true}
use Rattle.std.proofs.Math.Seq.{drop-append_seam}
use Rattle.rules.specs.Units.{TextUnit, cut, BeginsWith}
use Rattle.rules.specs.Parts.{NestedUnit, depth_after, nested_from, nested, begins_page, begins_trailer, starting_at, preamble, page_run, trailer, bytes_of}
use Rattle.dsc.specs.Units.{or_none, units_of}
use Rattle.dsc.specs.Marks.{pages_end}
use Rattle.dsc.specs.Laws.{StandAlone}
use Rattle.dsc.proofs.Cases.{by_test}
use Rattle.dsc.proofs.PartMarks.{from-cons}
use Rattle.dsc.proofs.Slices.{text_whole, parts_whole}
use Rattle.dsc.proofs.Rows.{cut-begins}
use Rattle.dsc.proofs.Alone.{and-first, depth_behind, nested-drop, begins-drop, stands}

-- the rest from the first unit on that passes the test: it can be cut alone, if that unit is at depth 0
from-stands : (d : ℕ) (ps : List TextUnit) (text rest : List ℕ) (q : NestedUnit → Bool) → ((u : NestedUnit) → q u ≡ true → u.depth ≡ 0) → BeginsWith ps text rest → StandAlone (starting_at q (nested_from d ps))
from-stands d [] text rest q z h = stands [] [] [] refl
from-stands d (p ∷ ps) text rest q z h = by_test (q (record { depth = d; unit = p }))
    (λ is.
    subst StandAlone (sym (from-cons q (record { depth = d; unit = p }) (nested_from (depth_after d p) ps) ∙ ap (λ t. cond t (nested_from d (p ∷ ps)) (starting_at q (nested_from (depth_after d p) ps))) is))
    (subst (λ k. StandAlone (nested_from k (p ∷ ps))) (sym (z (record { depth = d; unit = p }) is)) (stands (p ∷ ps) text rest h)))
    (λ isnt.
    subst StandAlone (sym (from-cons q (record { depth = d; unit = p }) (nested_from (depth_after d p) ps) ∙ ap (λ t. cond t (nested_from d (p ∷ ps)) (starting_at q (nested_from (depth_after d p) ps))) isnt))
    (from-stands (depth_after d p) ps (drop (length p.bytes) text) rest q z h.2))

trailer-depth : (u : NestedUnit) → begins_trailer u ≡ true → u.depth ≡ 0
trailer-depth u h = eqb-true u.depth 0 (and-first (u.depth == 0) (not u.unit.is_block) _ h)

pub trailer-stands : (ps : List TextUnit) (text rest : List ℕ) → BeginsWith ps text rest → StandAlone (trailer (nested_from 0 ps))
trailer-stands ps text rest h =
    let n : ℕ = prefix_len (λ u. not (begins_page u)) (nested_from 0 ps) in
    let d : ℕ = depth_behind 0 (take n ps) in
    let w = begins-drop n ps text rest h in
    subst (λ us. StandAlone (starting_at begins_trailer us)) (sym (nested-drop n 0 ps)) (from-stands d (drop n ps) w.0 rest begins_trailer trailer-depth w.1)

-- a text that is cut into units which can be cut alone has these units
pub alone_units : (us : List NestedUnit) → StandAlone us → (cut (bytes_of us) ≡ Ok (or_none (cut (bytes_of us)))) × (units_of (bytes_of us) ≡ us)
alone_units us h = (h.0 ∙ ap (λ r. Ok (or_none r)) (sym h.0), ap (λ r. nested (or_none r)) h.0 ∙ h.1)

pub trailer_found : (text rest : List ℕ) (stop : ℕ) → cut text ≡ Ok (or_none (cut text)) → stop ≡ pages_end (units_of text) → rest ≡ drop stop text
    → (cut rest ≡ Ok (or_none (cut rest))) × (units_of rest ≡ trailer (units_of text))
trailer_found text rest stop c s r =
    let us : List NestedUnit = units_of text in
    let whole : text ≡ bytes_of (preamble us) ++ (bytes_of (page_run us) ++ bytes_of (trailer us)) = text_whole text c ∙ parts_whole us in
    let behind : drop stop text ≡ bytes_of (trailer us) =
    ap (λ k. drop k text) s ∙ sym (drop-drop (length (bytes_of (page_run us))) (length (bytes_of (preamble us))) text)
    ∙ ap (drop (length (bytes_of (page_run us)))) (ap (drop (length (bytes_of (preamble us)))) whole ∙ drop-append_seam (bytes_of (preamble us)) (bytes_of (page_run us) ++ bytes_of (trailer us)))
    ∙ drop-append_seam (bytes_of (page_run us)) (bytes_of (trailer us)) in
    subst (λ t. (cut t ≡ Ok (or_none (cut t))) × (units_of t ≡ trailer us)) (sym (r ∙ behind))
    (alone_units (trailer us) (trailer-stands (or_none (cut text)) text [] (cut-begins text (or_none (cut text)) c)))

pub stop_within : (text : List ℕ) (stop : ℕ) → cut text ≡ Ok (or_none (cut text)) → stop ≡ pages_end (units_of text) → stop ≤ length text
stop_within text stop c s =
    let us : List NestedUnit = units_of text in
    let whole : length text ≡ length (bytes_of (preamble us) ++ (bytes_of (page_run us) ++ bytes_of (trailer us))) = ap length (text_whole text c ∙ parts_whole us) in
    let l = length-append (bytes_of (preamble us)) (bytes_of (page_run us) ++ bytes_of (trailer us)) in
    let m = length-append (bytes_of (page_run us)) (bytes_of (trailer us)) in
    omega (arith, s, whole, l, m)
