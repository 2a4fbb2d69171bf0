-- What words stand for, worked out.
use Rattle.std.proofs.Common.{◌≡◌, true, false, [], ◌∷◌, refl, map}
use Rattle.std.specs.Prelude.{codes, negsuc, pos, None, Some}
use Rattle.lengths.specs.Reading.{number_at}
use Rattle.rules.specs.Papers.{points}
use Rattle.layouts.specs.Grids.{nothing_free}
use Rattle.layouts.specs.declared.arrangement.Cells.TheVariants.{AtLeast, Exactly}
use Rattle.layouts.specs.declared.arrangement.Order.{Order}
use Rattle.layouts.specs.declared.arrangement.FillOrder.{FillOrder}
use Rattle.layouts.specs.declared.arrangement.FillOrder.TheVariants.{Rows, Columns}
use Rattle.layouts.specs.declared.arrangement.Turned.TheVariants.{Upright, Left, Right}
use Rattle.pagespec.specs.declared.item.Turn.TheVariants as turn
use Rattle.impose_words.specs.declared.request.Turning.TheVariants as turning
use Rattle.paper_names.specs.Names.{papers}
use Rattle.impose_words.specs.Edges.{gaps_named, margins_in, margins_named}
use Rattle.impose_words.specs.Sizes.{length_with_unit, size_named}
use Rattle.impose_words.specs.Arranging.{booklet_marks_named, cells_named, number_size_named, run_named, turn_for, turned_named}
use Rattle.impose_words.specs.PosterSizes.{poster_size_named}
use Rattle.impose_words.specs.declared.request.PosterSize.TheVariants as size
use Rattle.impose_words.specs.Spacings.{nothing_kept, on_fronts}
use Rattle.impose_words.specs.Words.{is_outfile, order_by}

-- Sizes of paper.

a_size : size_named (codes "1x1in") ≡ Some (points 72 72)
unfolding number_at papers
a_size = refl

-- Wide pages are turned to the left; upright and square ones aren't turned.

wide_alone : map (turn_for turning.Wide) (points 200 100 ∷ points 100 200 ∷ points 100 100 ∷ []) ≡ turn.Left ∷ turn.None ∷ turn.None ∷ []
wide_alone = refl

-- Lengths: each has its unit, but a 0 alone.

lengths : map length_with_unit (codes "1pt" ∷ codes "2.54cm" ∷ codes "-25.4mm" ∷ codes "0" ∷ codes "-0.0" ∷ codes "0in" ∷ [])
    ≡ Some (pos 127_000_000_000) ∷ Some (pos 9_144_000_000_000) ∷ Some (negsuc 9_143_999_999_999) ∷ Some (pos 0) ∷ Some (pos 0) ∷ Some (pos 0) ∷ []
unfolding number_at
lengths = refl

no_lengths : map length_with_unit (codes "1" ∷ codes "-1" ∷ codes ".5" ∷ codes "1ft" ∷ codes "cm" ∷ [] ∷ []) ≡ None ∷ None ∷ None ∷ None ∷ None ∷ None ∷ []
unfolding number_at
no_lengths = refl

-- What is kept free: several lengths, or edges by their names.

two_margins : margins_named (codes "1in,2in") ≡ Some (margins_in (record nothing_free { left = pos 9_144_000_000_000; right = pos 9_144_000_000_000; bottom = pos 18_288_000_000_000; top = pos 18_288_000_000_000 }))
unfolding number_at
two_margins = refl

four_margins : margins_named (codes "1in,2in,3in,0in") ≡ Some (margins_in (record nothing_free { left = pos 0; right = pos 18_288_000_000_000; bottom = pos 27_432_000_000_000; top = pos 9_144_000_000_000 }))
unfolding number_at
four_margins = refl

some_edges : margins_named (codes "left=1in,top=2in") ≡ Some (margins_in (record nothing_free { left = pos 9_144_000_000_000; right = pos 0; bottom = pos 0; top = pos 18_288_000_000_000 }))
unfolding number_at
some_edges = refl

all_edges : margins_named (codes "bottom=1in,left=0in,right=2in,top=3in") ≡ Some (margins_in (record nothing_free { left = pos 0; right = pos 18_288_000_000_000; bottom = pos 9_144_000_000_000; top = pos 27_432_000_000_000 }))
unfolding number_at
all_edges = refl

inner_edge : margins_named (codes "inner=1in,right=2in") ≡ Some (record (margins_in (record nothing_free { right = pos 18_288_000_000_000 })) { inner = Some (pos 9_144_000_000_000) })
unfolding number_at
inner_edge = refl

no_margin : map margins_named (codes "1" ∷ codes "1in," ∷ codes "1in,2in,3in" ∷ codes "1in,2in,3in,4in,5in" ∷ codes "left=1" ∷ codes "middle=1in" ∷ codes "left=1in,2in" ∷ codes "inner=1" ∷ codes "left=1in,left=1in" ∷ codes "top=0in,left=1in,top=2in" ∷ codes "inner=1in,inner=1in" ∷ []) ≡ None ∷ None ∷ None ∷ None ∷ None ∷ None ∷ None ∷ None ∷ None ∷ None ∷ None ∷ []
unfolding number_at
no_margin = refl

-- in a list 0 has its unit too: a comma may be meant for a point
no_zero_in_lists : map margins_named (codes "0,5cm" ∷ codes "0,0" ∷ codes "1in,2in,3in,0" ∷ codes "left=0,top=1in" ∷ []) ≡ None ∷ None ∷ None ∷ None ∷ []
unfolding number_at
no_zero_in_lists = refl

gaps : map gaps_named (codes "1in" ∷ codes "1in,0in" ∷ codes "1in,2in,3in" ∷ codes ",1in" ∷ [])
    ≡ Some (record nothing_free { across = pos 9_144_000_000_000; up = pos 9_144_000_000_000 }) ∷ Some (record nothing_free { across = pos 9_144_000_000_000; up = pos 0 }) ∷ None ∷ None ∷ []
unfolding number_at
gaps = refl

-- Numbers of cells.

no_numbers : map cells_named ([] ∷ codes "0" ∷ codes "1025" ∷ codes "2.5" ∷ codes "-2" ∷ codes "two" ∷ codes "2 " ∷ []) ≡ None ∷ None ∷ None ∷ None ∷ None ∷ None ∷ None ∷ []
no_numbers = refl

-- Sizes of posters: grids, a scale in per cent, which is rounded down to 10^-9, and papers.

poster_sizes : map poster_size_named (codes "auto" ∷ codes "10x14" ∷ codes "200%" ∷ codes "1.23456789%" ∷ codes "1x2in" ∷ [])
    ≡ Some (size.Sheets (AtLeast 1)) ∷ Some (size.Sheets (Exactly 10 14)) ∷ Some (size.Scaled (pos 2_000_000_000)) ∷ Some (size.Scaled (pos 12_345_678)) ∷ Some (size.Fitting (points 72 144)) ∷ []
unfolding number_at papers
poster_sizes = refl

no_poster_sizes : map poster_size_named (codes "33x32" ∷ codes "4" ∷ codes "%" ∷ codes "-50%" ∷ codes "200%%" ∷ codes "60x90" ∷ codes "a9" ∷ []) ≡ None ∷ None ∷ None ∷ None ∷ None ∷ None ∷ None ∷ []
unfolding number_at papers
no_poster_sizes = refl

-- Orders of cells, which --rtl turns round.

runs : map run_named (codes "right-down" ∷ codes "down-right" ∷ codes "left-down" ∷ codes "down-left" ∷ codes "down" ∷ []) ≡ Some (Rows, false) ∷ Some (Columns, false) ∷ Some (Rows, true) ∷ Some (Columns, true) ∷ None ∷ []
runs = refl

abbrev from_right : FillOrder → Order
from_right run = record { run = run; right_to_left = true; turned = Upright }

turned_round : map (λ run. order_by (Some run) true (Some Upright)) ((Rows, false) ∷ (Columns, false) ∷ (Rows, true) ∷ (Columns, true) ∷ [])
    ≡ Some (from_right Rows) ∷ Some (from_right Columns) ∷ Some (from_right Rows) ∷ Some (from_right Columns) ∷ []
turned_round = refl

sides : map turned_named (codes "left" ∷ codes "right" ∷ codes "up" ∷ []) ≡ Some Left ∷ Some Right ∷ None ∷ []
sides = refl

-- Marks: a booklet has two kinds.

booklet_marks : map booklet_marks_named (codes "fold" ∷ codes "cut" ∷ codes "fold,cut" ∷ codes "cut,fold" ∷ codes "fold,fold" ∷ [] ∷ [])
    ≡ Some (record { fold = true; cut = false; ruled = false; numbers = None })
    ∷ Some (record { fold = false; cut = true; ruled = false; numbers = None })
    ∷ Some (record { fold = true; cut = true; ruled = false; numbers = None })
    ∷ Some (record { fold = true; cut = true; ruled = false; numbers = None })
    ∷ None
    ∷ None
    ∷ []
booklet_marks = refl

-- Numbers have a size, up to 72 points.

sizes : map number_size_named (codes "10pt" ∷ codes "72pt" ∷ codes "0" ∷ codes "10" ∷ codes "72.1pt" ∷ codes "-1pt" ∷ [])
    ≡ Some (pos 1_270_000_000_000) ∷ Some (pos 9_144_000_000_000) ∷ None ∷ None ∷ None ∷ None ∷ []
unfolding number_at
sizes = refl

outfiles : map is_outfile (None ∷ Some (codes "out.ps") ∷ Some (codes "./-q") ∷ Some (codes "-q") ∷ Some (codes "-") ∷ []) ≡ true ∷ true ∷ true ∷ false ∷ false ∷ []
outfiles = refl

-- An inner margin alone is the left one of fronts.
inner_on_fronts : on_fronts (record nothing_kept { inner = Some (pos 9_144_000_000_000) }) ≡ record nothing_free { left = pos 9_144_000_000_000 }
inner_on_fronts = refl
