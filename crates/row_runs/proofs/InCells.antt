-- Each page of the sheets that are written lies in its cell, turned or not.
use Rattle.std.proofs.Common.{arith, ◌≡◌, ◌∙◌, ℕ, ◌+◌, ◌-◌, ◌*◌, ◌<◌, ◌≤◌, Bool, true, false, List, Option, Some, None, ap, ap₂, refl, subst, sym, length, map}
use Rattle.std.specs.Prelude.{⊤, ℤ, pos, ◌+ℤ◌, ◌-ℤ◌, ◌*ℤ◌, nat_abs, nat_lt, All, ◌==◌, ◌%◌, if◌then◌else◌, slice_index_or}
use Rattle.std.specs.List.{range_with_len}
use Rattle.std.proofs.lemmas.Bool.{cond-false}
use Rattle.std.proofs.lemmas.Int.{ints}
use Rattle.std.proofs.lemmas.List.{get_or-map, length-map}
use Rattle.std.proofs.lemmas.List.Elements.{All-map}
use Rattle.std.proofs.lemmas.List.FromFn.{get_or-map-range_with_len, length-map-range_with_len}
use Rattle.rules.specs.Papers.{Paper, Pt}
use Rattle.rules.specs.Sheets.{blocks}
use Rattle.rules.specs.Specification.{Item, Measure, Turn, Upright, Left, Half, Right}
use Rattle.rules.specs.Made.{MadeSlot, Blank, Placed, MadeSheet}
use Rattle.rules.specs.Rows.{Row}
use Rattle.layouts.specs.declared.setting.Setting.{Setting}
use Rattle.layouts.specs.Placed.{Room}
use Rattle.layouts.specs.Cells.{along_width, column_of, in_points, item_in_cell, kept_length, part, row_of, size, pitch, to_right, to_top, whole_parts}
use Rattle.layouts.specs.Fitted.{fitted, is_whole, past_cell, scale_on}
use Rattle.layouts.specs.Grids.{page_alone}
use Rattle.layouts.specs.Laws.{Cell, IsInCell, IsPaper, cell_at}
use Rattle.layouts.proofs.Fitting.{fitted_stands, one_of_many}
use Rattle.layouts.proofs.InGrid.{sides_are}
use Rattle.row_sheets.specs.Filled.{Filling, filled, slot_in_cell, slot_on, zine_entry, zine_place, zine_sheets, zine_slot}
use Rattle.row_sheets.specs.Standing.{AllEntriesFit, EntryFits}
use Rattle.row_sheets.specs.Zine.{AreZineCells, past_row, zine_turn}
use Rattle.row_sheets.specs.Zine as zine
use Rattle.row_sheets.proofs.OnSheets.{numbered as numbered_in_turn}
use Rattle.row_sheets.proofs.ZineCells.{zine_lies_in_cells}
use Rattle.row_runs.specs.SwappedMargins.{exchanged, swapped_room_on, swapped, moved_item, moved_sheet, moved_slot, swap_shift}
use Rattle.row_runs.specs.Turning.{turn_sum, turned_item, turned_paper, turned_sheet, turned_slot, shifted}
use Rattle.row_runs.specs.Written.{AreInCells, AreInZines, SlotIsInCell, SlotIsInZine, side_room}
use Rattle.row_runs.proofs.Boxes.{turned_stays_in_cell}
use Rattle.row_runs.proofs.Backs.{across_moved, at_place, either_way, fused, unswapped, unmoved}
use Rattle.row_runs.proofs.Written.{count_is, even_sheets}

-- ---- the page of a cell

twice_turned : (turn : Turn) (paper : Paper) → turned_paper turn (turned_paper turn paper) ≡ paper
twice_turned Upright paper = refl
twice_turned Left paper = refl
twice_turned Half paper = refl
twice_turned Right paper = refl

-- a page in its cell, or as it is, is moved by whole 10^-5 of a point
pub moved_by : (b : Bool) (t : Setting) (page : Paper) (c s : ℕ)
    → (x y : ℤ) × ((if b then page_alone c else item_in_cell page t.room t.grid t.order s c).x ≡ in_points x) × ((if b then page_alone c else item_in_cell page t.room t.grid t.order s c).y ≡ in_points y)
moved_by true t page c s = (pos 0, pos 0, refl, refl)
moved_by false t page c s = (
  to_right page t.room t.grid s (row_of t.order t.grid c) (column_of t.order t.grid c),
  to_top page t.room t.grid s (row_of t.order t.grid c) (column_of t.order t.grid c),
  refl,
  refl,
)

-- on a front
on_front : (turn : ℕ → Turn) (f : Filling) (c : ℕ) (entry : Option ℕ) → c < size f.setting.grid → EntryFits f entry → SlotIsInCell turn f.setting f.setting.room c (turned_slot turn (slot_in_cell f c entry))
on_front turn f c None within has = tt
on_front turn f c (Some page) within has =
    let t = f.setting in
    let paper = f.paper_of page in
    let item = fitted t paper c in
    let cell = cell_at t.room t.grid (row_of t.order t.grid c) (column_of t.order t.grid c) in
    let is = fitted_stands t paper c has.page_is has.sheet_is within has.fits in
    let sides = sides_are paper has.page_is in
    let by = moved_by (is_whole t paper) t paper c (scale_on t paper) in
    subst (λ (q : Paper). IsInCell t.room (turned_paper (turn page) paper) cell (kept_length t.room.trim (past_cell t q)) (turned_item (turn page) paper item)) (sym (twice_turned (turn page) paper))
    (turned_stays_in_cell (turn page) t.room paper cell (past_cell t paper) item (nat_abs paper.width) (nat_abs paper.height) is.scale by.0 by.1
    (ap (λ (p : Paper). p.width) sides) (ap (λ (p : Paper). p.height) sides) is.scale_is by.2 by.3 is.in_cell)

-- ---- on a back

-- a cell of a back is as wide and high as that of the front, and moved
pub record IsMoved (room : Room) (c c' : Cell) : Type 0 where
  pub left : c'.left + room.left ≡ c.left + room.right
  pub bottom : c'.bottom ≡ c.bottom
  pub width : c'.width ≡ c.width
  pub height : c'.height ≡ c.height

kept_both : (b : Bool) (l r : ℕ) → (if b then r else r + 1) + l ≡ (if b then l else l + 1) + r
kept_both true l r = omega arith
kept_both false l r = omega arith

same_step : (room : Room) (side parts : ℕ) → pitch (along_width (exchanged room)) side parts ≡ pitch (along_width room) side parts
same_step room side parts =
    let same : kept_length room.trim room.right + kept_length room.trim room.left ≡ kept_length room.trim room.left + kept_length room.trim room.right = omega arith in
    ap (λ n. part ((side - 1_270_000 * n) + 1_270_000 * kept_length room.trim room.gutter_across) parts) same

moved_left : (l r l' r' s : ℕ) → r' + l ≡ l' + r → (r' + s) + l ≡ (l' + s) + r
moved_left l r l' r' s e = omega (arith, e)

pub moved_cell : (room : Room) (rows columns : ℕ) (b : Bool) (row column : ℕ)
    → IsMoved room (cell_at room (record { rows = rows; columns = columns; turned = b }) row column) (cell_at (exchanged room) (record { rows = rows; columns = columns; turned = b }) row column)
moved_cell room rows columns false row column =
    let w = nat_abs room.paper.width in
    let same = same_step room w columns in
    record {
      left = ap (λ n. kept_length room.trim room.right + column * n + room.left) same
          ∙ moved_left room.left room.right (kept_length room.trim room.left) (kept_length room.trim room.right) (column * pitch (along_width room) w columns) (kept_both (room.trim == 0) room.left room.right);
      bottom = refl;
      width = ap (λ n. n - kept_length room.trim room.gutter_across) same;
      height = refl;
    }
moved_cell room rows columns true row column =
    let w = nat_abs room.paper.width in
    let same = same_step room w rows in
    record {
      left = ap (λ n. kept_length room.trim room.right + row * n + room.left) same
          ∙ moved_left room.left room.right (kept_length room.trim room.left) (kept_length room.trim room.right) (row * pitch (along_width room) w rows) (kept_both (room.trim == 0) room.left room.right);
      bottom = refl;
      width = ap (λ n. n - kept_length room.trim room.gutter_across) same;
      height = refl;
    }

back_in_cell : (room : Room) (page : Paper) (c c' : Cell) (past : ℕ) (item : Item) → IsMoved room c c' → item.x.unit ≡ Pt
    → IsInCell room page c past item → IsInCell (exchanged room) page c' past (moved_item (Some room) item)
back_in_cell room page c c' past item is points inside p of =
    let at = inside p of in
    let by = across_moved room page item p points in
    let l = is.left in let b = is.bottom in let w = is.width in let h = is.height in
    let left = at.left in let right = at.right in let bottom = at.bottom in let top = at.top in
    record { left = omega (arith, ints, by, l, left); right = omega (arith, ints, by, l, w, right); bottom = omega (arith, ints, b, bottom); top = omega (arith, ints, b, h, top) }

pub moved_too : (x by : ℤ) (m : Measure) → m ≡ in_points x → shifted by m ≡ in_points (x +ℤ by)
moved_too x by m is =
    let n : (pos 10_000 *ℤ x) +ℤ (pos 10_000 *ℤ by) ≡ pos 10_000 *ℤ (x +ℤ by) = omega (arith, ints) in
    ap (shifted by) is ∙ ap (λ z. record { number = z; unit = Pt }) n

on_back : (turn : ℕ → Turn) (f : Filling) (c : ℕ) (entry : Option ℕ) → c < size f.setting.grid → EntryFits f entry
    → SlotIsInCell turn f.setting (exchanged f.setting.room) c (turned_slot turn (moved_slot (Some f.setting.room) (slot_in_cell f c entry)))
on_back turn f c None within has = tt
on_back turn f c (Some page) within has =
    let t = f.setting in
    let paper = f.paper_of page in
    let item = fitted t paper c in
    let row = row_of t.order t.grid c in
    let column = column_of t.order t.grid c in
    let cell = cell_at (exchanged t.room) t.grid row column in
    let is = fitted_stands t paper c has.page_is has.sheet_is within has.fits in
    let sides = sides_are paper has.page_is in
    let by = moved_by (is_whole t paper) t paper c (scale_on t paper) in
    let inside = back_in_cell t.room paper (cell_at t.room t.grid row column) cell (past_cell t paper) item
    (moved_cell t.room t.grid.rows t.grid.columns t.grid.turned row column) (ap (λ (m : Measure). m.unit) by.2) is.in_cell in
    subst (λ (q : Paper). IsInCell (exchanged t.room) (turned_paper (turn page) paper) cell (kept_length t.room.trim (past_cell t q)) (turned_item (turn page) paper (moved_item (Some t.room) item))) (sym (twice_turned (turn page) paper))
    (turned_stays_in_cell (turn page) (exchanged t.room) paper cell (past_cell t paper) (moved_item (Some t.room) item) (nat_abs paper.width) (nat_abs paper.height) is.scale (by.0 +ℤ swap_shift t.room) by.1
    (ap (λ (p : Paper). p.width) sides) (ap (λ (p : Paper). p.height) sides) is.scale_is (moved_too by.0 (swap_shift t.room) item.x by.2) by.3 inside)

on_either : (back : Bool) (turn : ℕ → Turn) (f : Filling) (c : ℕ) (entry : Option ℕ) → c < size f.setting.grid → EntryFits f entry
    → SlotIsInCell turn f.setting (if back then exchanged f.setting.room else f.setting.room) c (turned_slot turn (moved_slot (if back then Some f.setting.room else None) (slot_in_cell f c entry)))
on_either true turn f c entry within has = on_back turn f c entry within has
on_either false turn f c entry within has =
    subst (λ x. SlotIsInCell turn f.setting f.setting.room c (turned_slot turn x)) (sym (unmoved (slot_in_cell f c entry))) (on_front turn f c entry within has)

abbrev pub swapped_room_of : Bool → Room → Option Room
swapped_room_of m room = if m then Some room else None

pub on_side : (m : Bool) (turn : ℕ → Turn) (f : Filling) (s c : ℕ) (entry : Option ℕ) → c < size f.setting.grid → EntryFits f entry
    → SlotIsInCell turn f.setting (side_room m f.setting.room s) c (turned_slot turn (moved_slot (swapped_room_on (swapped_room_of m f.setting.room) s) (slot_in_cell f c entry)))
on_side true turn f s c entry within has = on_either (s % 2 == 1) turn f c entry within has
on_side false turn f s c entry within has =
    subst (λ m. SlotIsInCell turn f.setting f.setting.room c (turned_slot turn (moved_slot m (slot_in_cell f c entry)))) (sym (either_way (s % 2 == 1) None))
    (on_either false turn f c entry within has)

-- ---- all sheets

abbrev pub Each : (ℕ → MadeSlot → Type 0) → List MadeSlot → Type 0
Each P xs = (k : ℕ) (d : MadeSlot) → k < length xs → P k (slice_index_or xs k d)

pub numbered : (P : ℕ → MadeSlot → Type 0) (g : MadeSlot → MadeSlot) (f : ℕ → MadeSlot) (n : ℕ) → ((k : ℕ) → k < n → P k (g (f k))) → Each P (map g (map f (range_with_len 0 n)))
numbered P g f n h = subst (Each P) (fused g f (range_with_len 0 n)) (numbered_in_turn P (λ k. g (f k)) n h)

-- sheet s of those that are moved and turned
pub sheet_is : (turn : ℕ → Turn) (m : Option Room) (made : ℕ → MadeSheet) (sheets s : ℕ) (d : MadeSheet) → s < sheets
    → slice_index_or (map (turned_sheet turn) (swapped m (map made (range_with_len 0 sheets)))) s d ≡ turned_sheet turn (moved_sheet (swapped_room_on m s) (made s))
sheet_is turn m made sheets s d less =
    let laid = map made (range_with_len 0 sheets) in
    let many = length-map-range_with_len made 0 sheets in
    let count = count_is m 0 laid in
    let within : s < length laid = omega (arith, less, many) in
    let here : 0 + s ≡ s = omega arith in
    get_or-map (turned_sheet turn) (swapped m laid) s d d (omega (arith, within, count))
    ∙ ap (turned_sheet turn) (at_place m 0 s laid d within ∙ ap₂ (λ k x. moved_sheet (swapped_room_on m k) x) here (get_or-map-range_with_len made 0 sheets s s d less (omega arith)))

pub filled_lie : (m : Bool) (turn : ℕ → Turn) (f : Filling) (sheets cells : ℕ) (entry : (s c : ℕ) → Option ℕ) → cells ≤ size f.setting.grid → ((s c : ℕ) → EntryFits f (entry s c))
    → AreInCells turn m f.setting (map (turned_sheet turn) (swapped (swapped_room_of m f.setting.room) (filled f sheets cells entry)))
filled_lie m turn f sheets cells entry enough fits s c sheet d less within =
    let mir = swapped_room_of m f.setting.room in
    let slot : ℕ → ℕ → MadeSlot = λ s c. slot_in_cell f c (entry s c) in
    let made : ℕ → MadeSheet = λ s. record { paper = f.setting.room.paper; slots = map (slot s) (range_with_len 0 cells) } in
    let laid = map made (range_with_len 0 sheets) in
    let all = map (turned_sheet turn) (swapped mir laid) in
    let many = length-map-range_with_len made 0 sheets in
    let count = count_is mir 0 laid in
    let same = length-map (swapped mir laid) (turned_sheet turn) in
    let below : s < sheets = omega (arith, less, same, count, many) in
    let is = sheet_is turn mir made sheets s sheet below in
    let P = SlotIsInCell turn f.setting (side_room m f.setting.room s) in
    let mv = moved_slot (swapped_room_on mir s) in
    let lie : Each P (map (turned_slot turn) (map mv (map (slot s) (range_with_len 0 cells)))) =
    subst (Each P) (fused (turned_slot turn) mv (map (slot s) (range_with_len 0 cells)))
    (numbered P (λ x. turned_slot turn (mv x)) (slot s) cells (λ k in_k. on_side m turn f s k (entry s k) (omega (arith, in_k, enough)) (fits s k))) in
    subst (λ (x : MadeSheet). Each P x.slots) (sym is) lie c d within

-- ---- zines

-- what is in a zine's cell is moved by whole 10^-5 of a point too, and its paper has sides
pub record IsWhole (page : Paper) (item : Item) : Type 0 where
  pub sides : IsPaper page
  pub scale : ℕ
  pub scale_is : item.scale ≡ pos scale
  pub x : ℤ
  pub y : ℤ
  pub x_is : item.x ≡ in_points x
  pub y_is : item.y ≡ in_points y

unfoldable pub SlotIsWhole : MadeSlot → Type 0
SlotIsWhole Blank = ⊤
SlotIsWhole (Placed page item paper) = IsWhole paper item

pub zine_is_whole : (b : Bool) (f : Filling) (c : ℕ) (entry : Option ℕ) → 1 < size f.setting.grid → EntryFits f entry → SlotIsWhole (slot_on f b c entry)
unfolding SlotIsWhole
zine_is_whole true f c None many has = tt
zine_is_whole false f c None many has = tt
zine_is_whole true f c (Some page) many has =
    let t = f.setting in
    let paper = f.paper_of page in
    let s = scale_on t paper in
    let row = row_of t.order t.grid c in
    let column = column_of t.order t.grid c in
    record {
      sides = has.page_is;
      scale = s;
      scale_is = refl;
      x = pos (whole_parts (nat_abs t.room.paper.width)) -ℤ to_right paper t.room t.grid s row column;
      y = pos (whole_parts (nat_abs t.room.paper.height)) -ℤ to_top paper t.room t.grid s row column;
      x_is = refl;
      y_is = refl;
    }
zine_is_whole false f c (Some page) many has =
    let t = f.setting in
    let paper = f.paper_of page in
    let by = moved_by (is_whole t paper) t paper c (scale_on t paper) in
    let is = cond-false (is_whole t paper) (page_alone c) (item_in_cell paper t.room t.grid t.order (scale_on t paper) c) (one_of_many t paper many) in
    record { sides = has.page_is; scale = scale_on t paper; scale_is = ap (λ (i : Item). i.scale) is; x = by.0; y = by.1; x_is = by.2; y_is = by.3 }

zine_turned : (turn : ℕ → Turn) (t : Setting) (c : ℕ) (slot : MadeSlot) → t.room.trim ≡ 0 → SlotIsWhole slot → zine.SlotLiesInZine t c slot → SlotIsInZine turn t c (turned_slot turn slot)
unfolding SlotIsWhole
zine_turned turn t c Blank trim is lies = tt
zine_turned turn t c (Placed page item paper) trim is lies =
    let cell = cell_at t.room t.grid (row_of t.order t.grid c) (column_of t.order t.grid c) in
    let sides = sides_are paper is.sides in (
      ap (turn_sum (turn page)) lies.turn,
      subst (λ n. IsInCell t.room (turned_paper (turn page) paper) cell n (turned_item (turn page) paper item)) (ap (λ l. if l == 0 then past_row c else past_row c + 1) trim)
          (turned_stays_in_cell (turn page) t.room paper cell (past_row c) item (nat_abs paper.width) (nat_abs paper.height) is.scale is.x is.y
          (ap (λ (p : Paper). p.width) sides) (ap (λ (p : Paper). p.height) sides) is.scale_is is.x_is is.y_is lies.in_cell),
    )

zine_sheet_lies : (turn : ℕ → Turn) (f : Filling) (row : Row) (s : ℕ) → AreZineCells f.setting → AllEntriesFit f row
    → ((c : ℕ) (d : MadeSlot) → c < length (map (λ c. zine_slot f c (zine_entry row s c)) (range_with_len 0 8)) → zine.SlotLiesInZine f.setting c (slice_index_or (map (λ c. zine_slot f c (zine_entry row s c)) (range_with_len 0 8)) c d))
    → Each (SlotIsInZine turn f.setting) (map (turned_slot turn) (map (λ c. zine_slot f c (zine_entry row s c)) (range_with_len 0 8)))
zine_sheet_lies turn f row s cells fits lie =
    let slot : ℕ → MadeSlot = λ c. zine_slot f c (zine_entry row s c) in
    let many = length-map-range_with_len slot 0 8 in
    let eight : size f.setting.grid ≡ 8 = ap size cells.grid_is in
    numbered (SlotIsInZine turn f.setting) (turned_slot turn) slot 8
    (λ c within. zine_turned turn f.setting c (slot c) cells.untrimmed
    (zine_is_whole (nat_lt c 4) f (if nat_lt c 4 then 7 - c else c) (zine_entry row s c) (omega (arith, eight)) (fits (s * 8 + zine_place c)))
    (subst (zine.SlotLiesInZine f.setting c) (get_or-map-range_with_len slot 0 8 c c Blank within (omega arith)) (lie c Blank (omega (arith, within, many)))))

-- margins that are even are exchanged without a change
pub even_either : (m : Bool) (room : Room) → room.left ≡ room.right → (xs : List MadeSheet) → swapped (swapped_room_of m room) xs ≡ xs
even_either true room even xs = even_sheets room even 0 xs
even_either false room even xs = unswapped 0 xs

pub zines_lie : (m : Bool) (turn : ℕ → Turn) (f : Filling) (row : Row) → AreZineCells f.setting → AllEntriesFit f row
    → AreInZines turn f.setting (map (turned_sheet turn) (swapped (swapped_room_of m f.setting.room) (zine_sheets f row)))
zines_lie m turn f row cells fits =
    let made : ℕ → MadeSheet = λ s. record { paper = f.setting.room.paper; slots = map (λ c. zine_slot f c (zine_entry row s c)) (range_with_len 0 8) } in
    let sheets = blocks 8 (length row) in
    let lie = zine_lies_in_cells f row cells fits in
    let P : MadeSheet → Type 0 = λ sheet. (c : ℕ) (d : MadeSlot) → c < length sheet.slots → SlotIsInZine turn f.setting c (slice_index_or sheet.slots c d) in
    subst (λ xs. All P (map (turned_sheet turn) xs)) (sym (even_either m f.setting.room cells.even.across (zine_sheets f row)))
    (All-map P (turned_sheet turn) (map made (range_with_len 0 sheets))
    (numbered_in_turn (λ s sheet. P (turned_sheet turn sheet)) made sheets (λ s less.
    zine_sheet_lies turn f row s cells fits (subst (λ (x : MadeSheet). (c : ℕ) (d : MadeSlot) → c < length x.slots → zine.SlotLiesInZine f.setting c (slice_index_or x.slots c d))
    (get_or-map-range_with_len made 0 sheets s s (made s) less (omega arith)) (lie s (made s) (let many = length-map-range_with_len made 0 sheets in omega (arith, less, many)))))))
