-- One scale for all pages of a row.
use Rattle.std.proofs.Common.{arith, rules, ◌≡◌, ◌⊎◌, ◌∙◌, inl, inr, ℕ, zero, suc, ◌≤◌, [], ◌∷◌, Bool, true, false, Option, Some, None, refl, sym, ap, subst, min}
use Rattle.std.specs.Prelude.{pos, nat_le, nat_lt, ◌&&◌, if◌then◌else◌, option_map}
use Rattle.std.specs.Int.{int_min}
use Rattle.std.specs.List.{fold}
use Rattle.std.proofs.lemmas.Option.{none-some, same_Some}
use Rattle.rules.specs.Signatures.{entry_of}
use Rattle.rules.specs.Rows.{Row}
use Rattle.layouts.specs.declared.error.ArrangementError.{ArrangementError}
use Rattle.layouts.specs.declared.error.ArrangementError.TheVariants as why
use Rattle.layouts.specs.Cells.{scale_in}
use Rattle.layouts.specs.Placed.{Room}
use Rattle.layouts.specs.Fitted.{is_whole, scale_on, why_no_scale_on}
use Rattle.layouts.specs.Refusals.{error_unless, is_paper_reached, within_reach, is_scale_in_range, is_shown, why_no_scale}
use Rattle.layouts.proofs.Possible.{passed}
use Rattle.layouts.proofs.Fitting.{fitted_stands}
use Rattle.row_sheets.specs.Filled.{Filling}
use Rattle.row_sheets.specs.SameScale.{own_scale, least_with, least_scale, at_one_scale, HaveOneScale, HaveScales, OneScaleStands}

-- ---- the least, as a number

abbrev least : Filling → (so_far : Option ℕ) → Row → Option ℕ
least f so_far [] = so_far
least f so_far (None ∷ row) = least f so_far row
least f None (Some p ∷ row) = least f (Some (own_scale f p)) row
least f (Some s) (Some p ∷ row) = least f (Some (min s (own_scale f p))) row

by_test : (a b : ℕ) (test : Bool) → nat_lt b a ≡ test → (if test then pos b else pos a) ≡ pos (min a b)
by_test a b true e = let le : b ≤ a = search (rules, e) in ap pos (let m : b ≡ min a b = omega (arith, le) in m)
by_test a b false e = let le : a ≤ b = search (rules, e) in ap pos (let m : a ≡ min a b = omega (arith, le) in m)

least_is : (a b : ℕ) → int_min (pos a) (pos b) ≡ pos (min a b)
least_is a b = by_test a b (nat_lt b a) refl

counted : (f : Filling) (so_far : Option ℕ) (row : Row) → fold (least_with f) (option_map pos so_far) row ≡ option_map pos (least f so_far row)
counted f so_far [] = refl
counted f None (None ∷ row) = counted f None row
counted f (Some s) (None ∷ row) = counted f (Some s) row
counted f None (Some p ∷ row) = counted f (Some (own_scale f p)) row
counted f (Some s) (Some p ∷ row) = ap (λ z. fold (least_with f) (Some z) row) (least_is s (own_scale f p)) ∙ counted f (Some (min s (own_scale f p))) row

-- ---- which it is

abbrev IsOf : Filling → Row → ℕ → Type 0
IsOf f row s = (i : ℕ) × (p : ℕ) × (entry_of row i ≡ Some p) × (own_scale f p ≡ s)

record Found (f : Filling) (so_far : Option ℕ) (row : Row) (s : ℕ) : Type 0 where
  pub from : (so_far ≡ Some s) ⊎ IsOf f row s
  pub before : (t : ℕ) → so_far ≡ Some t → s ≤ t
  pub each : (i p : ℕ) → entry_of row i ≡ Some p → s ≤ own_scale f p

later : (f : Filling) (entry : Option ℕ) (row : Row) (s : ℕ) → IsOf f row s → IsOf f (entry ∷ row) s
later f entry row s h = (suc h.0, h.1, h.2, h.3)

past_none : (f : Filling) (row : Row) (s : ℕ) → ((i p : ℕ) → entry_of row i ≡ Some p → s ≤ own_scale f p) → (i p : ℕ) → entry_of (None ∷ row) i ≡ Some p → s ≤ own_scale f p
past_none f row s each zero p e = absurd (cc (e))
past_none f row s each (suc i) p e = each i p e

past_some : (f : Filling) (q : ℕ) (row : Row) (s : ℕ) → s ≤ own_scale f q → ((i p : ℕ) → entry_of row i ≡ Some p → s ≤ own_scale f p) → (i p : ℕ) → entry_of (Some q ∷ row) i ≡ Some p → s ≤ own_scale f p
past_some f q row s here each zero p e = subst (λ r. s ≤ own_scale f r) (same_Some q p e) here
past_some f q row s here each (suc i) p e = each i p e

of_min : (f : Filling) (t q : ℕ) (row : Row) (s : ℕ) (test : Bool) → nat_le t (own_scale f q) ≡ test → min t (own_scale f q) ≡ s → (Some t ≡ Some s) ⊎ IsOf f (Some q ∷ row) s
of_min f t q row s true b e = let le : t ≤ own_scale f q = search (rules, b) in inl (ap Some (let m : t ≡ s = omega (arith, le, e) in m))
of_min f t q row s false b e = let le : own_scale f q ≤ t = search (rules, b) in inr (0, q, refl, (let m : own_scale f q ≡ s = omega (arith, le, e) in m))

found : (f : Filling) (so_far : Option ℕ) (row : Row) (s : ℕ) → least f so_far row ≡ Some s → Found f so_far row s
found f so_far [] s e = record { from = inl e; before = λ t h. (let m : s ≡ t = same_Some s t (sym e ∙ h) in omega (arith, m)); each = λ i p h. absurd (none-some p h) }
found f None (None ∷ row) s e =
    let r = found f None row s e in
    record { from = elim r.from [ inl h ↦ inl h | inr h ↦ inr (later f None row s h) ]; before = r.before; each = past_none f row s r.each }
found f (Some t) (None ∷ row) s e =
    let r = found f (Some t) row s e in
    record { from = elim r.from [ inl h ↦ inl h | inr h ↦ inr (later f None row s h) ]; before = r.before; each = past_none f row s r.each }
found f None (Some q ∷ row) s e =
    let r = found f (Some (own_scale f q)) row s e in
    record {
      from = elim r.from [ inl h ↦ inr (0, q, refl, same_Some (own_scale f q) s h) | inr h ↦ inr (later f (Some q) row s h) ];
      before = λ t h. absurd (none-some t h);
      each = past_some f q row s (r.before (own_scale f q) refl) r.each;
    }
found f (Some t) (Some q ∷ row) s e =
    let m = min t (own_scale f q) in
    let r = found f (Some m) row s e in
    let below : s ≤ m = r.before m refl in
    record {
      from = elim r.from [ inl h ↦ of_min f t q row s (nat_le t (own_scale f q)) refl (same_Some m s h) | inr h ↦ inr (later f (Some q) row s h) ];
      before = λ u h. (let same : t ≡ u = same_Some t u h in omega (arith, below, same));
      each = past_some f q row s (omega (arith, below)) r.each;
    }

stays_some : (f : Filling) (t : ℕ) (row : Row) → (s : ℕ) × (least f (Some t) row ≡ Some s)
stays_some f t [] = (t, refl)
stays_some f t (None ∷ row) = stays_some f t row
stays_some f t (Some p ∷ row) = stays_some f (min t (own_scale f p)) row

has_some : (f : Filling) (so_far : Option ℕ) (row : Row) (i p : ℕ) → entry_of row i ≡ Some p → (s : ℕ) × (least f so_far row ≡ Some s)
has_some f (Some t) row i p e = stays_some f t row
has_some f None [] i p e = absurd (none-some p e)
has_some f None (None ∷ row) zero p e = absurd (cc (e))
has_some f None (None ∷ row) (suc i) p e = has_some f None row i p e
has_some f None (Some q ∷ row) i p e = stays_some f (own_scale f q) row

pub have_one_scale : HaveOneScale
have_one_scale f row i page e =
    let some = has_some f None row i page e in
    let s = some.0 in
    let r = found f None row s some.1 in
    let is : least_scale f row ≡ Some (pos s) = counted f None row ∙ ap (option_map pos) some.1 in
    let own : IsOf f row s = elim r.from [ inl h ↦ absurd (none-some s h) | inr h ↦ h ] in (
      s,
      record {
        all = λ paper. ap (λ z. scale_on (record { room = f.setting.room; grid = f.setting.grid; order = f.setting.order; scale = z }) paper) is;
        place = own.0;
        page = own.1;
        is_there = own.2;
        is_own = own.3;
        least = r.each;
      },
    )

-- ---- it fits

passes : (b : Bool) (e : ArrangementError) (x : Option ArrangementError) → b ≡ true → x ≡ None → error_unless b e x ≡ None
passes true e x b h = h
passes false e x b h = absurd (cc (b))

-- a scale that some pages may have, which is no larger than the largest one of others, these may have too
fits_less : (room : Room) (s largest own other : ℕ) → why_no_scale room s largest ≡ None → why_no_scale room own other ≡ None → s ≤ own → why_no_scale room s other ≡ None
fits_less room s largest own other mine its less =
    let a = passed (nat_le 1 largest) (why.NoRoom room) _ mine in
    let b = passed (is_scale_in_range s) why.ScaleOutOfRange _ a.1 in
    let c = passed (nat_le s largest) why.ScaleTooLarge _ b.1 in
    let d = passed (within_reach room s) why.ScaleOutOfRange None c.1 in
    let a' = passed (nat_le 1 other) (why.NoRoom room) _ its in
    let b' = passed (is_scale_in_range own) why.ScaleOutOfRange _ a'.1 in
    let c' = passed (nat_le own other) why.ScaleTooLarge _ b'.1 in
    let le : own ≤ other = search (rules, c'.0) in
    let within : s ≤ other = omega (arith, le, less) in
    let test : nat_le s other ≡ true = search (rules, within) in
    passes (nat_le 1 other) (why.NoRoom room) _ a'.0 (passes (is_scale_in_range s) why.ScaleOutOfRange _ b.0 (passes (nat_le s other) why.ScaleTooLarge _ test (passes (within_reach room s) why.ScaleOutOfRange None d.0 refl)))

or_none : (b : Bool) (x : Option ArrangementError) → x ≡ None → (if b then None else x) ≡ None
or_none true x h = refl
or_none false x h = h

-- a page of the row has its place at the one scale
pub has_place : (f : Filling) (row : Row) (i page : ℕ) → HaveScales f row → entry_of row i ≡ Some page → why_no_scale_on (at_one_scale f row) (f.paper_of page) ≡ None
has_place f row i page some e =
    let one = have_one_scale f row i page e in
    let s = one.0 in
    let is = one.1 in
    let t = f.setting in
    let paper = f.paper_of page in
    let owner = f.paper_of is.page in
    let mine = some is.place is.page is.is_there in
    let its = some i page e in
    let a = passed (is_paper_reached owner && is_paper_reached t.room.paper) why.SideTooLong _ mine in
    let b = passed (is_shown owner t.room) why.NothingLeftOfPage _ a.1 in
    let a' = passed (is_paper_reached paper && is_paper_reached t.room.paper) why.SideTooLong _ its in
    let b' = passed (is_shown paper t.room) why.NothingLeftOfPage _ a'.1 in
    let scale : why_no_scale t.room s (scale_in owner t.room t.grid) ≡ None = subst (λ n. why_no_scale t.room n (scale_in owner t.room t.grid) ≡ None) is.is_own b.1 in
    let less = fits_less t.room s (scale_in owner t.room t.grid) (own_scale f page) (scale_in paper t.room t.grid) scale b'.1 (is.least i page e) in
    passes (is_paper_reached paper && is_paper_reached t.room.paper) why.SideTooLong _ a'.0
    (passes (is_shown paper t.room) why.NothingLeftOfPage _ b'.0
    (subst (λ n. why_no_scale t.room n (scale_in paper t.room t.grid) ≡ None) (sym (is.all paper)) less))

pub one_scale_stands : OneScaleStands
one_scale_stands f row i page k sheet paper some e within =
    let t = at_one_scale f row in
    fitted_stands t (f.paper_of page) k paper sheet within (or_none (is_whole t (f.paper_of page)) (why_no_scale_on t (f.paper_of page)) (has_place f row i page some e))
