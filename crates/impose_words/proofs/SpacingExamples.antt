-- Worked examples: what of its spacing a booklet, a zine and pages with notes have.
use Rattle.std.proofs.Common.{◌≡◌, true, false, [], ◌∷◌, refl, map}
use Rattle.std.specs.Prelude.{negsuc, pos, None, Some}
use Rattle.layouts.specs.Grids.{leaf_order}
use Rattle.layouts.specs.declared.arrangement.Cells.TheVariants.{Exactly}
use Rattle.layouts.specs.declared.arrangement.FillOrder.TheVariants.{Columns}
use Rattle.layouts.specs.declared.arrangement.Turned.TheVariants.{Upright}
use Rattle.impose_words.specs.Spacings.{binding_in, fold_gap, nothing_kept, notes_in, some_gap, zine_in}
use Rattle.impose_words.specs.declared.request.Spacing.{Spacing}

-- 1, 2, 3 and 4 points at the left, the right, the lower and the upper edge, gaps of 5 and 6, 7 points trimmed, from the right
abbrev much_kept : Spacing
much_kept = record nothing_kept {
  free = record {
    left = pos 127_000_000_000;
    right = pos 254_000_000_000;
    bottom = pos 381_000_000_000;
    top = pos 508_000_000_000;
    across = pos 635_000_000_000;
    up = pos 762_000_000_000;
    trim = pos 889_000_000_000;
  };
  order = leaf_order true;
}

-- the margin at the fold is on both sides of it: between halves that are one above another as the sheet lies there are 6 points, and
-- twice 8 more; the scale is the one that is asked for
bound : binding_in (record much_kept { inner = Some (pos 1_016_000_000_000); scale = Some (pos 500_000_000) }) true
    ≡ record { free = record much_kept.free { up = pos 2_794_000_000_000 }; right_to_left = true; long_edge = true; scale = Some (pos 500_000_000) }
bound = refl

no_length_at_fold : map (fold_gap (negsuc 0)) (pos 0 ∷ pos 1 ∷ []) ≡ negsuc 0 ∷ negsuc 0 ∷ []
no_length_at_fold = refl

-- a zine keeps all but the trim
zine_keeps : zine_in much_kept ≡ record { cells = Exactly 4 2; free = record much_kept.free { trim = pos 0 }; order = leaf_order true; scale = None }
zine_keeps = refl

-- no gap becomes the least one, and one below 0 stays, so that it is refused
zine_gaps : map some_gap (negsuc 0 ∷ pos 0 ∷ pos 1 ∷ []) ≡ negsuc 0 ∷ pos 1 ∷ pos 1 ∷ []
zine_gaps = refl

-- three pages in the left one of two columns, from the top
notes_beside : notes_in much_kept 3 ≡ record { cells = Exactly 2 3; free = much_kept.free; order = record { run = Columns; right_to_left = false; turned = Upright }; scale = None }
notes_beside = refl
