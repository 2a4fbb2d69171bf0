-- The guard's lines can be inserted, for every paper.
use Rattle.std.specs.Prelude.{codes, map, not, ◌&&◌, Option, Some, None}
use Rattle.std.proofs.Common.{Bool, true, false, ◌≡◌, ℕ, List, [], ◌∷◌, ◌++◌, refl, arith}
use Rattle.rules.specs.Numbers.{points_text}
use Rattle.rules.specs.Papers.{Paper}
use Rattle.rules.specs.Parts.{begins_page}
use Rattle.rules.specs.Units.{begins_block}
use Rattle.imposed_again.specs.Seams.{passes, no_ends, AreLines, IsLine, line_unit}
use Rattle.imposed_again.proofs.Plainly.{no_ends_append, no_ends_points}
use Rattle.guard.specs.Guard.{first_lines, other_lines, page_size_line, guard_size_lines, guard_lines}
use Rattle.guard.specs.Laws.{CanBePutIn, GuardStays}
use Rattle.guard.proofs.Guarding.{lines_stay}

abbrev are_lines : List (List ℕ) → Bool
are_lines [] = true
are_lines (c ∷ cs) = no_ends c && (not (begins_block c) && are_lines cs)

both : (a b : Bool) → (a && b) ≡ true → (a ≡ true) × (b ≡ true)
both true b e = (refl, e)
both false b e = cc

not_true : (b : Bool) → not b ≡ true → b ≡ false
not_true true e = cc
not_true false e = refl

told : (cs : List (List ℕ)) → are_lines cs ≡ true → AreLines cs
told [] h = tt
told (c ∷ cs) h =
    let a = both (no_ends c) (not (begins_block c) && are_lines cs) h in
    let b = both (not (begins_block c)) (are_lines cs) a.1 in
    ((a.0, not_true (begins_block c) b.0), told cs b.1)

lines_append : (cs bs : List (List ℕ)) → AreLines cs → AreLines bs → AreLines (cs ++ bs)
lines_append [] bs h g = g
lines_append (c ∷ cs) bs h g = (h.0, lines_append cs bs h.1 g)

is_size : (p : Paper) → IsLine (page_size_line p)
is_size p =
    let w : List ℕ = points_text p.width in
    let h : List ℕ = points_text p.height in
    let two : List ℕ = codes "] put setpagedevice} if" in
    let last : no_ends (h ++ two) ≡ true = no_ends_append h two (no_ends_points p.height) refl in
    let more : no_ends (codes " " ++ (h ++ two)) ≡ true = no_ends_append (codes " ") (h ++ two) refl last in
    let rest : no_ends (w ++ (codes " " ++ (h ++ two))) ≡ true = no_ends_append w (codes " " ++ (h ++ two)) (no_ends_points p.width) more in
    (no_ends_append (codes "/setpagedevice where {pop 1 dict dup /PageSize [") (w ++ (codes " " ++ (h ++ two))) refl rest, refl)

are_sizes : (sheet_paper : Option Paper) → AreLines (guard_size_lines sheet_paper)
are_sizes None = tt
are_sizes (Some p) = (is_size p, tt)

pass : (sheet_paper : Option Paper) → passes begins_page 0 (map line_unit (guard_lines sheet_paper)) ≡ Some 0
pass None = refl
pass (Some p) = refl

pub can_be_put_in : (sheet_paper : Option Paper) → CanBePutIn (guard_lines sheet_paper)
can_be_put_in sheet_paper = (
  omega arith,
  lines_append first_lines (guard_size_lines sheet_paper ++ other_lines) (told first_lines refl)
      (lines_append (guard_size_lines sheet_paper) other_lines (are_sizes sheet_paper) (told other_lines refl)),
  pass sheet_paper,
)

pub guard_stays : GuardStays
guard_stays sheet_paper text us = lines_stay (guard_lines sheet_paper) text us (can_be_put_in sheet_paper)
