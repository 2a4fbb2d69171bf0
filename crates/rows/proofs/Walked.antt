-- A walk over the pieces of a text.
use Rattle.std.proofs.Common.{ℕ, ◌+◌, ◌-◌, ◌≡◌, ◌≤◌, ◌∙◌, Option, Some, None, List, ◌∷◌, ◌++◌, Bor, arith, ap, sym, refl, length}
use Rattle.std.specs.Prelude.{◌==◌, Result, Ok, flat_map, IfSome, option_map}
use Rattle.std.specs.List.{slice_split}
use Rattle.std.proofs.lemmas.List.{length-append}
use Rattle.rules.specs.Units.{◌>>=◌}
use Rattle.rows.specs.declared.found_ranges.ResolvedRange.{ResolvedRange}
use Rattle.rows.specs.declared.tallies.Tally.{Tally}
use Rattle.rules.specs.Rows.{Row}
use Rattle.rows.specs.Found.{parts_left, piece_found, entries_if, found_in}
use Rattle.rules.specs.Ranges.{Range, range_at}
use Rattle.rows.specs.Tallies.{tally_from, tally_piece, with_range}

abbrev pub bytes_left : Option (Bor (List ℕ)) → ℕ
bytes_left None = 0
bytes_left (Some rest) = length rest.now + 1

-- the final count for the rest of a text of this many bytes
abbrev pub tally_left : (most pages whole : ℕ) → Option (Bor (List ℕ)) → Tally → Result Tally ℕ
tally_left most pages whole None t = Ok t
tally_left most pages whole (Some rest) t = tally_from most pages (whole - length rest.now) (parts_left 44 (Some rest)) t

-- the entries of what is left
abbrev pub row_left : (pages : ℕ) → Option (Bor (List ℕ)) → Row
row_left pages left = flat_map (piece_found pages) (parts_left 44 left)

piece_step : (most pages at : ℕ) (range : ResolvedRange) (t : Tally) (o : Option Range) → Some range ≡ option_map (found_in pages) o → tally_piece most pages at o t ≡ Ok (with_range most at range t)
piece_step most pages at range t None e = absurd (cc (e))
piece_step most pages at range t (Some r) e = ap (λ f. Ok (with_range most at f t)) (sym (some_same range (found_in pages r) e))
  where
    some_same : (f g : ResolvedRange) → ◌≡◌ {A = Option ResolvedRange} (Some f) (Some g) → f ≡ g
    some_same f g e = cc

left_is : (most pages whole : ℕ) (rest piece : List ℕ) (behind : Option (Bor (List ℕ))) (u : Tally) → length rest ≤ whole → IfSome behind (λ r. length rest ≡ length piece + 1 + length r.now)
    → tally_left most pages whole behind u ≡ tally_from most pages (whole - length rest + length piece + 1) (parts_left 44 behind) u
left_is most pages whole rest piece None u within len = refl
left_is most pages whole rest piece (Some r) u within len =
    let same : whole - length r.now ≡ whole - length rest + length piece + 1 = omega (arith, within, len) in
    ap (λ at. tally_from most pages at (parts_left 44 (Some r)) u) same

-- one more piece is counted
pub tally_step : (most pages whole : ℕ) (rest piece : List ℕ) (behind : Option (Bor (List ℕ))) (range : ResolvedRange) (t u : Tally)
    → slice_split (λ b. b == 44) rest ≡ piece ∷ parts_left 44 behind → IfSome behind (λ r. length rest ≡ length piece + 1 + length r.now) → length rest ≤ whole
    → Some range ≡ option_map (found_in pages) (range_at piece) → u ≡ with_range most (whole - length rest) range t
    → tally_left most pages whole behind u ≡ tally_from most pages (whole - length rest) (slice_split (λ b. b == 44) rest) t
tally_step most pages whole rest piece behind range t u parts len within found is =
    let at = whole - length rest in
    left_is most pages whole rest piece behind u within len
    ∙ ap (λ v. tally_from most pages (at + length piece + 1) (parts_left 44 behind) v) is
    ∙ sym (ap (λ x. x >>= λ v. tally_from most pages (at + length piece + 1) (parts_left 44 behind) v) (piece_step most pages at range t (range_at piece) found))
    ∙ sym (ap (λ ps. tally_from most pages at ps t) parts)

-- a row with room for all entries has room for those of the next piece
pub room_for_piece : (pages room : ℕ) (old row found : Row) (rest piece : List ℕ) (behind : Option (Bor (List ℕ))) (range : Option ResolvedRange)
    → row ++ flat_map (piece_found pages) (slice_split (λ b. b == 44) rest) ≡ old ++ found
    → slice_split (λ b. b == 44) rest ≡ piece ∷ parts_left 44 behind → range ≡ option_map (found_in pages) (range_at piece)
    → length old + length found ≤ room → length row + length (entries_if range) ≤ room
room_for_piece pages room old row found rest piece behind range same parts read enough =
    let left : Row = flat_map (piece_found pages) (slice_split (λ b. b == 44) rest) in
    let behind_it : Row = row_left pages behind in
    let split : left ≡ entries_if range ++ behind_it = ap (flat_map (piece_found pages)) parts ∙ ap (λ r. entries_if r ++ behind_it) (sym read) in
    omega (arith, length-append row left, length-append old found, ap length same, ap length split, length-append (entries_if range) behind_it, enough)
