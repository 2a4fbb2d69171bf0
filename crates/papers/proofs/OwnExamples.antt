-- Papers that count as one, and boxes that reach beyond them, computed from the definitions.
use Rattle.std.proofs.Common.{◌≡◌, ℕ, List, [], ◌∷◌, Some, None, Bool, true, false, refl}
use Rattle.std.specs.Prelude.{codes, option_map}
use Rattle.rules.specs.Papers.{Paper, points}
use Rattle.lengths.specs.Reading.{number_at}
use Rattle.papers.specs.AsOne.{first_instead_of, largest_of, merge_near_sizes}
use Rattle.papers.specs.Media.{edges_of}
use Rattle.papers.specs.Reach.{Placing, placing, reach_of, paper_edges}

abbrev counted : List Paper → List Paper
counted own = merge_near_sizes own own

-- programs' sizes of A4, and one page on its side
sizes_of_a4 : counted (points 595 841 ∷ points 842 595 ∷ points 595 842 ∷ points 596 842 ∷ [])
    ≡ points 596 842 ∷ points 842 595 ∷ points 596 842 ∷ points 596 842 ∷ []
sizes_of_a4 = refl

-- within 15 points of the largest, and not of the one between; in any order
no_chain : counted (points 110 200 ∷ points 100 200 ∷ points 120 200 ∷ []) ≡ points 120 200 ∷ points 100 200 ∷ points 120 200 ∷ []
no_chain = refl

no_chain_in_order : counted (points 100 200 ∷ points 120 200 ∷ points 110 200 ∷ []) ≡ points 100 200 ∷ points 120 200 ∷ points 120 200 ∷ []
no_chain_in_order = refl

-- a wide paper is larger than a high one
widest : largest_of (points 700 900 ∷ points 800 500 ∷ points 800 400 ∷ []) ≡ Some (points 800 500)
widest = refl

-- the widest is made higher
two_sides : counted (points 600 800 ∷ points 590 810 ∷ []) ≡ points 600 810 ∷ points 600 810 ∷ []
two_sides = refl

-- of pages that aren't taken no paper decides
of_taken_pages : merge_near_sizes (points 595 842 ∷ []) (points 595 842 ∷ points 596 842 ∷ []) ≡ points 595 842 ∷ points 595 842 ∷ []
of_taken_pages = refl

-- a box that covers all pages is the paper of none
box_of_all : first_instead_of (points 842 842) (points 595 842 ∷ points 842 595 ∷ []) ≡ Some (points 595 842)
box_of_all = refl

of_a_later_page : first_instead_of (points 595 842) (points 842 595 ∷ points 596 842 ∷ []) ≡ None
of_a_later_page = refl

-- a page that is placed by the paper which it has
abbrev boxed : (box : List (List ℕ)) → Placing
boxed box = placing (true ∷ []) (points 595 842 ∷ []) (edges_of box ∷ []) true

rounded_box : reach_of (boxed (codes "0" ∷ codes "0" ∷ codes "596" ∷ codes "843" ∷ [])) (points 595 842 ∷ []) ≡ None
unfolding number_at
rounded_box = refl

box_before_zero : option_map (λ r. r.pages) (reach_of (boxed (codes "-5" ∷ codes "0" ∷ codes "9" ∷ codes "9" ∷ [])) (points 595 842 ∷ []))
    ≡ Some 1
unfolding number_at
box_before_zero = refl

-- a page that its paper cuts, unless that is reported apart
abbrev cut_page : (apart : Bool) → Placing
cut_page apart = placing (true ∷ []) (points 842 1191 ∷ []) (None ∷ []) apart

cut_alone : option_map (λ r. r.edges) (reach_of (cut_page false) (points 595 842 ∷ [])) ≡ Some (paper_edges (points 842 1191))
cut_alone = refl

cut_apart : reach_of (cut_page true) (points 595 842 ∷ []) ≡ None
cut_apart = refl
