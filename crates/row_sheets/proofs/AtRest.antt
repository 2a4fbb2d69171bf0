-- Leaves that don't creep.
use Rattle.std.proofs.Common.{arith, rules, ◌≡◌, ℕ, ◌-◌, ◌*◌, ◌/◌, ◌%◌, Bool, true, false, length, Option, Some, None, List, refl, sym, ap, ◌∙◌}
use Rattle.std.specs.Prelude.{ℤ, pos, neg_ℤ, ◌-ℤ◌, nat_le, if◌then◌else◌, map}
use Rattle.std.specs.List.{range_with_len}
use Rattle.std.specs.Option.{option_or}
use Rattle.std.proofs.Math.IntN.{+ℤ_idr}
use Rattle.rules.specs.Papers.{Paper, Pt}
use Rattle.rules.specs.Signatures.{entry_of}
use Rattle.rules.specs.Specification.{Item}
use Rattle.rules.specs.Made.{Placed}
use Rattle.rules.specs.Rows.{Row}
use Rattle.layouts.specs.declared.error.ArrangementError.{ArrangementError}
use Rattle.layouts.specs.declared.error.ArrangementError.TheVariants as why
use Rattle.layouts.specs.declared.setting.Setting.{Setting}
use Rattle.layouts.specs.Refusals.{error_unless}
use Rattle.layouts.specs.Placed.{Room}
use Rattle.layouts.specs.Fitted.{why_not_fitted}
use Rattle.row_sheets.specs.Filled.{Filling, grid_entry, in_half, is_turned, slot_on}
use Rattle.row_sheets.specs.Shapes.{first_refused, why_no_place}
use Rattle.row_sheets.specs.Creep.{AreHalves, NoCreepIsPlain, creep_on, creeping, creeping_slot, first_over_fold, is_before_fold, moved_up, up_to_fold, why_no_half, why_not_creeping}
use Rattle.row_sheets.proofs.Creeping.{halves, of_halves}
use Rattle.row_sheets.proofs.Filling.{sheet, same_map}
use Rattle.row_sheets.proofs.Refused.{same_fault}

-- ---- how far

none_of : (is_one : Bool) (i m : ℕ) → (if is_one then 0 else i * 0 / m) ≡ 0
none_of true i m = refl
none_of false i m = search arith

no_creep : (leaves s : ℕ) → creep_on 0 leaves s ≡ 0
no_creep leaves s = none_of (nat_le leaves 1) (s / 2 % leaves) (leaves - 1)

not_to_fold : (is_before : Bool) → (if is_before then pos 0 else pos 0 -ℤ pos 0) ≡ pos 0
not_to_fold true = refl
not_to_fold false = refl

not_up : (right_to_left by_half : Bool) (k : ℕ) → up_to_fold right_to_left by_half k 0 ≡ pos 0
not_up right_to_left false k = not_to_fold (is_before_fold right_to_left k)
not_up right_to_left true k = ap neg_ℤ (not_to_fold (is_before_fold right_to_left k))

-- ---- a page that isn't moved

unmoved : (item : Item) → item.y.unit ≡ Pt → moved_up (pos 0) item ≡ item
unmoved item e =
    ap (λ n. record item { y = record { number = n; unit = Pt } }) (+ℤ_idr item.y.number)
    ∙ ap (λ u. record item { y = record { number = item.y.number; unit = u } }) (sym e)

in_points : (room : Room) (b : Bool) (asked : Option ℤ) (by_half : Bool) (page : Paper) (k : ℕ) → (in_half (halves room b asked) by_half page k).y.unit ≡ Pt
in_points room b asked false page k = refl
in_points room b asked true page k = refl

at_rest : (t : Setting) (by_half : Bool) (page : Paper) (k : ℕ) → AreHalves t → creeping t by_half page k 0 ≡ in_half t by_half page k
at_rest t by_half page k h =
    ap (λ by. moved_up by (in_half t by_half page k)) (not_up t.order.right_to_left by_half k)
    ∙ unmoved (in_half t by_half page k) (of_halves (λ u. (in_half u by_half page k).y.unit ≡ Pt) t h (in_points t.room t.order.right_to_left t.scale by_half page k))

slot_at_rest : (f : Filling) (by_half : Bool) (k : ℕ) (entry : Option ℕ) → AreHalves f.setting → creeping_slot f by_half k 0 entry ≡ slot_on f by_half k entry
slot_at_rest f false k None h = refl
slot_at_rest f true k None h = refl
slot_at_rest f false k (Some page) h = let paper = f.paper_of page in ap (λ i. Placed page i paper) (at_rest f.setting false paper k h)
slot_at_rest f true k (Some page) h = let paper = f.paper_of page in ap (λ i. Placed page i paper) (at_rest f.setting true paper k h)

-- ---- its sheets, and what refuses them

pub sheets_at_rest : (f : Filling) (turned_backs : Bool) (leaves : ℕ) (row : Row) (sheets : List ℕ) → AreHalves f.setting
    → map (λ s. sheet f.setting.room.paper (map (λ k. creeping_slot f (is_turned turned_backs s) k (creep_on 0 leaves s) (grid_entry 2 row s k)) (range_with_len 0 2))) sheets
    ≡ map (λ s. sheet f.setting.room.paper (map (λ k. slot_on f (is_turned turned_backs s) k (grid_entry 2 row s k)) (range_with_len 0 2))) sheets
sheets_at_rest f turned_backs leaves row sheets h =
    same_map _ _ (λ s. ap (sheet f.setting.room.paper)
    (same_map _ _ (λ k.
    ap (λ n. creeping_slot f (is_turned turned_backs s) k n (grid_entry 2 row s k)) (no_creep leaves s)
    ∙ slot_at_rest f (is_turned turned_backs s) k (grid_entry 2 row s k) h) (range_with_len 0 2))) sheets

or_none : (one : Option ArrangementError) → option_or one None ≡ one
or_none None = refl
or_none (Some e) = refl

free : (n : ℕ) → nat_le (2 * 0) n ≡ true
free n = search rules

not_for_creep : (t : Setting) (page : Paper) → why_not_creeping t page 0 ≡ why_not_fitted t page
not_for_creep t page =
    ap (λ b. option_or (why_not_fitted t page) (error_unless b why.CreepOverFold None)) (free _)
    ∙ or_none (why_not_fitted t page)

half_at_rest : (f : Filling) (entry : Option ℕ) → why_no_half f 0 entry ≡ why_no_place f entry
half_at_rest f None = refl
half_at_rest f (Some page) = not_for_creep f.setting (f.paper_of page)

refused_at_rest : (f : Filling) (leaves : ℕ) (row : Row) → first_over_fold f 0 leaves row ≡ first_refused f row
refused_at_rest f leaves row =
    same_fault (λ i. why_no_half f (creep_on 0 leaves (i / 2)) (entry_of row i)) (λ i. why_no_place f (entry_of row i)) (length row)
    (λ i. ap (λ n. why_no_half f n (entry_of row i)) (no_creep leaves (i / 2)) ∙ half_at_rest f (entry_of row i))

pub no_creep_is_plain : NoCreepIsPlain
no_creep_is_plain = λ f turned_backs leaves row h. (sheets_at_rest f turned_backs leaves row _ h, refused_at_rest f leaves row)
