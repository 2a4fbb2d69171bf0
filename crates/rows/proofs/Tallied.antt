-- What is counted of ranges is what the definition of their row asks for.
use Rattle.std.proofs.Common.{ℕ, ◌+◌, ◌≡◌, ◌∙◌, Option, Some, None, List, [], ◌∷◌, ◌++◌, ◌==◌, ◌&&◌, ◌||◌, Bool, true, false, arith, ap, sym, refl, subst, length, nat_lt, ◌-◌}
use Rattle.std.specs.Prelude.{⊤, if◌then◌else◌, Result, Ok, Err, option_map, flat_map, not}
use Rattle.std.proofs.lemmas.Bool.Decides.{nat_tests}
use Rattle.std.proofs.lemmas.List.{length-append}
use Rattle.std.proofs.lemmas.List.Concat.{flat_map-cons}
use Rattle.rules.specs.Units.{◌>>=◌}
use Rattle.rules.specs.Rows.{Row}
use Rattle.rules.specs.Ranges.{RangeEnd, FromStart, FromEnd, Range, BlankPage, FromTo, has_place, has_range, number_in, entries_of, range_at, row_named}
use Rattle.rules.specs.Choice.{RowFault, NotARange, NotInDocument, TooManyEntries, Standing, or_fault, standing_from, first_missing, first_over, ranges_from, refused_at, row_standing}
use Rattle.rows.specs.declared.tallies.Tally.{Tally}
use Rattle.rows.specs.Found.{found_in, number_found, is_missing, entries_found, entries_if, pages_from_to, piece_found}
use Rattle.rows.specs.Tallies.{tally_of, no_tally, with_range, tally_piece, tally_from}

by_test : {P : Type 0} (b : Bool) → (b ≡ true → P) → (b ≡ false → P) → P
by_test true t f = t refl
by_test false t f = f refl

-- ---- a range that is found has both ends

number_there : (pages : ℕ) (p : RangeEnd) → has_place pages p ≡ true → (number_found pages p ≡ number_in pages p) × ((number_found pages p == 0) ≡ false)
number_there pages (FromStart k) is = let e : number_found pages (FromStart k) ≡ k = ap (λ t. if t then k else 0) is in (e, grind (arith, nat_tests, is, e))
number_there pages (FromEnd k) is = let e : number_found pages (FromEnd k) ≡ pages + 1 - k = ap (λ t. if t then pages + 1 - k else 0) is in (e, grind (arith, nat_tests, is, e))

number_missing : (pages : ℕ) (p : RangeEnd) → has_place pages p ≡ false → (number_found pages p == 0) ≡ true
number_missing pages p isnt = ap (λ t. (if t then number_in pages p else 0) == 0) isnt

pub missing_is : (pages : ℕ) (r : Range) → is_missing (found_in pages r) ≡ not (has_range pages r)
missing_is pages BlankPage = refl
missing_is pages (FromTo p q) =
    by_test (has_place pages p)
    (λ one. by_test (has_place pages q)
    (λ other. ap (λ b. b || (number_found pages q == 0)) (number_there pages p one).1 ∙ (number_there pages q other).1 ∙ sym (ap (λ b. not (b && has_place pages q)) one ∙ ap not other))
    (λ other. ap (λ b. b || (number_found pages q == 0)) (number_there pages p one).1 ∙ number_missing pages q other ∙ sym (ap (λ b. not (b && has_place pages q)) one ∙ ap not other)))
    (λ one. ap (λ b. b || (number_found pages q == 0)) (number_missing pages p one) ∙ sym (ap (λ b. not (b && has_place pages q)) one))

both : (a b : Bool) → (a && b) ≡ true → (a ≡ true) × (b ≡ true)
both true b e = (refl, e)
both false b e = absurd (cc (e))

pub entries_are : (pages : ℕ) (r : Range) → has_range pages r ≡ true → entries_found (found_in pages r) ≡ entries_of pages r
entries_are pages BlankPage is = refl
entries_are pages (FromTo p q) is =
    let ends = both (has_place pages p) (has_place pages q) is in
    let one = number_there pages p ends.0 in
    let other = number_there pages q ends.1 in
    ap (λ b. if b || (number_found pages q == 0) then [] else pages_from_to (number_found pages p) (number_found pages q)) one.1
    ∙ ap (λ b. if b then [] else pages_from_to (number_found pages p) (number_found pages q)) other.1
    ∙ ap (λ n. pages_from_to n (number_found pages q)) one.0
    ∙ ap (λ n. pages_from_to (number_in pages p) n) other.0

-- ---- the ranges of a text, one by one

abbrev pub tally_all : (most pages : ℕ) → List Standing → Tally → Tally
tally_all most pages [] t = t
tally_all most pages (s ∷ all) t = tally_all most pages all (with_range most s.at (found_in pages s.range) t)

abbrev pub AreTallied : (most pages : ℕ) → Tally → Result Tally ℕ → Result (List Standing) RowFault → Type 0
AreTallied most pages t (Ok u) (Ok all) = u ≡ tally_all most pages all t
AreTallied most pages t (Err at) (Err fault) = fault ≡ NotARange at
AreTallied most pages t (Ok u) (Err fault) = ⊥
AreTallied most pages t (Err at) (Ok all) = ⊥

one_more : (most pages at : ℕ) (r : Range) (t : Tally) (x : Result Tally ℕ) (y : Result (List Standing) RowFault)
    → AreTallied most pages (with_range most at (found_in pages r) t) x y
    → AreTallied most pages t x (y >>= λ more. Ok (record { at = at; range = r } ∷ more))
one_more most pages at r t (Ok u) (Ok all) h = h
one_more most pages at r t (Err b) (Err fault) h = h
one_more most pages at r t (Ok u) (Err fault) h = absurd h
one_more most pages at r t (Err b) (Ok all) h = absurd h

tallied_step : (most pages at : ℕ) (o : Option Range) (t : Tally) (next : Tally → Result Tally ℕ) (more : Result (List Standing) RowFault)
    → ((u : Tally) → AreTallied most pages u (next u) more)
    → AreTallied most pages t (tally_piece most pages at o t >>= next) (or_fault at o >>= λ r. more >>= λ all. Ok (record { at = at; range = r } ∷ all))
tallied_step most pages at None t next more h = refl
tallied_step most pages at (Some r) t next more h = one_more most pages at r t (next (with_range most at (found_in pages r) t)) more (h (with_range most at (found_in pages r) t))

pub are_tallied : (most pages at : ℕ) (pieces : List (List ℕ)) (t : Tally) → AreTallied most pages t (tally_from most pages at pieces t) (standing_from at pieces)
are_tallied most pages at [] t = refl
are_tallied most pages at (piece ∷ pieces) t =
    tallied_step most pages at (range_at piece) t (tally_from most pages (at + length piece + 1) pieces) (standing_from (at + length piece + 1) pieces)
    (are_tallied most pages (at + length piece + 1) pieces)

-- ---- what is counted

missing_stays : (most pages at n : ℕ) (o : Option ℕ) (all : List Standing) → tally_all most pages all (tally_of (Some at) o n) ≡ tally_of (Some at) o n
missing_stays most pages at n o [] = refl
missing_stays most pages at n o (s ∷ all) = missing_stays most pages at n o all

over_stays : (most pages at n : ℕ) (all : List Standing) → first_missing pages all ≡ None → tally_all most pages all (tally_of None (Some at) n) ≡ tally_of None (Some at) n
over_stays most pages at n [] h = refl
over_stays most pages at n (s ∷ all) h =
    by_test (has_range pages s.range)
    (λ is.
    ap (λ b. tally_all most pages all (if b then tally_of (Some s.at) (Some at) n else tally_of None (Some at) n)) (missing_is pages s.range ∙ ap not is)
    ∙ over_stays most pages at n all (sym (ap (λ b. if b then first_missing pages all else Some s.at) is) ∙ h))
    (λ isnt. absurd (cc (sym (ap (λ b. if b then first_missing pages all else Some s.at) isnt) ∙ h)))

-- the result of counting: the first range that is missing; if none is, the first that exceeds the limit of entries;
-- if none does, the number of entries
pub record IsCount (most pages n : ℕ) (all : List Standing) (t : Tally) : Type 0 where
  missing : t.missing ≡ first_missing pages all
  over : first_missing pages all ≡ None → t.over ≡ first_over most n pages all
  entries : first_missing pages all ≡ None → first_over most n pages all ≡ None → t.entries ≡ n + length (row_named pages (ranges_from all))

over_missing : (most pages at n : ℕ) (all : List Standing) → (tally_all most pages all (tally_of None (Some at) n)).missing ≡ first_missing pages all
over_missing most pages at n [] = refl
over_missing most pages at n (s ∷ all) =
    by_test (has_range pages s.range)
    (λ is.
    ap (λ b. (tally_all most pages all (if b then tally_of (Some s.at) (Some at) n else tally_of None (Some at) n)).missing) (missing_is pages s.range ∙ ap not is)
    ∙ over_missing most pages at n all
    ∙ sym (ap (λ b. if b then first_missing pages all else Some s.at) is))
    (λ isnt.
    ap (λ b. (tally_all most pages all (if b then tally_of (Some s.at) (Some at) n else tally_of None (Some at) n)).missing) (missing_is pages s.range ∙ ap not isnt)
    ∙ ap (λ (t : Tally). t.missing) (missing_stays most pages s.at n (Some at) all)
    ∙ sym (ap (λ b. if b then first_missing pages all else Some s.at) isnt))

-- the first range is missing
count_missing : (most pages n : ℕ) (s : Standing) (all : List Standing) → has_range pages s.range ≡ false → IsCount most pages n (s ∷ all) (tally_of (Some s.at) None n)
count_missing most pages n s all isnt =
    let first : first_missing pages (s ∷ all) ≡ Some s.at = ap (λ b. if b then first_missing pages all else Some s.at) isnt in
    record {
      missing = sym first;
      over = λ e. absurd (cc (sym first ∙ e));
      entries = λ e o. absurd (cc (sym first ∙ e));
    }

-- with the first range the limit of entries is exceeded
count_over : (most pages n : ℕ) (s : Standing) (all : List Standing) → has_range pages s.range ≡ true → nat_lt most (n + length (entries_of pages s.range)) ≡ true
    → IsCount most pages n (s ∷ all) (tally_all most pages all (tally_of None (Some s.at) n))
count_over most pages n s all is many =
    let first : first_missing pages (s ∷ all) ≡ first_missing pages all = ap (λ b. if b then first_missing pages all else Some s.at) is in
    let over : first_over most n pages (s ∷ all) ≡ Some s.at = ap (λ b. if b then Some s.at else first_over most (n + length (entries_of pages s.range)) pages all) many in
    record {
      missing = over_missing most pages s.at n all ∙ sym first;
      over = λ e. ap (λ (t : Tally). t.over) (over_stays most pages s.at n all (sym first ∙ e)) ∙ sym over;
      entries = λ e o. absurd (cc (sym over ∙ o));
    }

count_more : (most pages n : ℕ) (s : Standing) (all : List Standing) (t : Tally) → has_range pages s.range ≡ true → nat_lt most (n + length (entries_of pages s.range)) ≡ false
    → IsCount most pages (n + length (entries_of pages s.range)) all t → IsCount most pages n (s ∷ all) t
count_more most pages n s all t is few rest =
    let k = n + length (entries_of pages s.range) in
    let first : first_missing pages (s ∷ all) ≡ first_missing pages all = ap (λ b. if b then first_missing pages all else Some s.at) is in
    let over : first_over most n pages (s ∷ all) ≡ first_over most k pages all = ap (λ b. if b then Some s.at else first_over most k pages all) few in
    record {
      missing = rest.missing ∙ sym first;
      over = λ e. rest.over (sym first ∙ e) ∙ sym over;
      entries = λ e o. omega (arith, rest.entries (sym first ∙ e) (sym over ∙ o), length-append (entries_of pages s.range) (row_named pages (ranges_from all)));
    }

pub is_count : (most pages n : ℕ) (all : List Standing) → IsCount most pages n all (tally_all most pages all (tally_of None None n))
is_count most pages n [] = record { missing = refl; over = λ e. refl; entries = λ e o. omega arith }
is_count most pages n (s ∷ all) =
    let f = found_in pages s.range in
    let k = n + length (entries_found f) in
    by_test (has_range pages s.range)
    (λ is.
    let there : is_missing f ≡ false = missing_is pages s.range ∙ ap not is in
    let same : k ≡ n + length (entries_of pages s.range) = ap (λ (row : Row). n + length row) (entries_are pages s.range is) in
    by_test (nat_lt most (n + length (entries_of pages s.range)))
    (λ many.
    subst (IsCount most pages n (s ∷ all))
    (sym (ap (λ b. tally_all most pages all (if b then tally_of (Some s.at) None n else (if nat_lt most k then tally_of None (Some s.at) n else tally_of None None k))) there
    ∙ ap (λ b. tally_all most pages all (if b then tally_of None (Some s.at) n else tally_of None None k)) (ap (nat_lt most) same ∙ many)))
    (count_over most pages n s all is many))
    (λ few.
    subst (IsCount most pages n (s ∷ all))
    (sym (ap (λ b. tally_all most pages all (if b then tally_of (Some s.at) None n else (if nat_lt most k then tally_of None (Some s.at) n else tally_of None None k))) there
    ∙ ap (λ b. tally_all most pages all (if b then tally_of None (Some s.at) n else tally_of None None k)) (ap (nat_lt most) same ∙ few)
    ∙ ap (λ m. tally_all most pages all (tally_of None None m)) same))
    (count_more most pages n s all _ is few (is_count most pages (n + length (entries_of pages s.range)) all))))
    (λ isnt.
    let gone : is_missing f ≡ true = missing_is pages s.range ∙ ap not isnt in
    subst (IsCount most pages n (s ∷ all))
    (sym (ap (λ b. tally_all most pages all (if b then tally_of (Some s.at) None n else (if nat_lt most k then tally_of None (Some s.at) n else tally_of None None k))) gone
    ∙ missing_stays most pages s.at n None all))
    (count_missing most pages n s all isnt))

-- ---- and their entries, piece by piece

-- entries of one piece more
row_more : (pages : ℕ) (piece : List ℕ) (pieces : List (List ℕ)) (r : Range) (at : ℕ) (rest : List Standing) → range_at piece ≡ Some r
    → (first_missing pages rest ≡ None → flat_map (piece_found pages) pieces ≡ row_named pages (ranges_from rest))
    → first_missing pages (record { at = at; range = r } ∷ rest) ≡ None
    → flat_map (piece_found pages) (piece ∷ pieces) ≡ row_named pages (r ∷ ranges_from rest)
row_more pages piece pieces r at rest is more there =
    by_test (has_range pages r)
    (λ has.
    let none : first_missing pages rest ≡ None = sym (ap (λ b. if b then first_missing pages rest else Some at) has) ∙ there in
    let one : piece_found pages piece ≡ entries_of pages r = ap (λ o. entries_if (option_map (found_in pages) o)) is ∙ entries_are pages r has in
    flat_map-cons (piece_found pages) piece pieces
    ∙ ap (λ (row : Row). row ++ flat_map (piece_found pages) pieces) one
    ∙ ap (λ (row : Row). entries_of pages r ++ row) (more none)
    ∙ sym (flat_map-cons (entries_of pages) r (ranges_from rest)))
    (λ hasnt. absurd (cc (sym (ap (λ b. if b then first_missing pages rest else Some at) hasnt) ∙ there)))

abbrev pub IsRow : (pages : ℕ) → List (List ℕ) → Result (List Standing) RowFault → Type 0
IsRow pages pieces (Ok all) = first_missing pages all ≡ None → flat_map (piece_found pages) pieces ≡ row_named pages (ranges_from all)
IsRow pages pieces (Err fault) = ⊤

row_step : (pages at : ℕ) (piece : List ℕ) (pieces : List (List ℕ)) (o : Option Range) (more : Result (List Standing) RowFault) → range_at piece ≡ o
    → IsRow pages pieces more
    → IsRow pages (piece ∷ pieces) (or_fault at o >>= λ r. more >>= λ rest. Ok (record { at = at; range = r } ∷ rest))
row_step pages at piece pieces None more is h = tt
row_step pages at piece pieces (Some r) (Err fault) is h = tt
row_step pages at piece pieces (Some r) (Ok rest) is h = row_more pages piece pieces r at rest is h

is_row : (pages at : ℕ) (pieces : List (List ℕ)) → IsRow pages pieces (standing_from at pieces)
is_row pages at [] = λ there. refl
is_row pages at (piece ∷ pieces) = row_step pages at piece pieces (range_at piece) (standing_from (at + length piece + 1) pieces) refl (is_row pages (at + length piece + 1) pieces)

-- ---- what the count says of the row

-- what is asked for, by the ranges that are there
abbrev pub asked : (most pages : ℕ) → Result (List Standing) RowFault → Result Row RowFault
asked most pages standing = standing >>= row_standing most pages

pub no_range : (most pages at : ℕ) (t : Tally) (x : Result Tally ℕ) (y : Result (List Standing) RowFault) → AreTallied most pages t x y → x ≡ Err at
    → asked most pages y ≡ Err (NotARange at)
no_range most pages at t (Err b) (Err fault) h e = ap (λ f. Err f) (h ∙ ap NotARange (err_same b at e))
  where
    err_same : (b at : ℕ) → ◌≡◌ {A = Result Tally ℕ} (Err b) (Err at) → b ≡ at
    err_same b at e = cc
no_range most pages at t (Ok u) (Ok all) h e = absurd (cc (e))
no_range most pages at t (Ok u) (Err fault) h e = absurd h
no_range most pages at t (Err b) (Ok all) h e = absurd h

-- the ranges are read, and their tally is this one
pub record AreRead (most pages : ℕ) (y : Result (List Standing) RowFault) (u : Tally) : Type 0 where
  all : List Standing
  read : y ≡ Ok all
  count : IsCount most pages 0 all u

pub are_read : (most pages : ℕ) (u : Tally) (x : Result Tally ℕ) (y : Result (List Standing) RowFault) → AreTallied most pages no_tally x y → x ≡ Ok u → AreRead most pages y u
are_read most pages u (Ok v) (Ok all) h e = record { all = all; read = refl; count = subst (IsCount most pages 0 all) (sym h ∙ ok_same v u e) (is_count most pages 0 all) }
  where
    ok_same : (v u : Tally) → ◌≡◌ {A = Result Tally ℕ} (Ok v) (Ok u) → v ≡ u
    ok_same v u e = cc
are_read most pages u (Err b) (Err fault) h e = absurd (cc (e))
are_read most pages u (Ok v) (Err fault) h e = absurd h
are_read most pages u (Err b) (Ok all) h e = absurd h

pub not_there : (most pages at : ℕ) (y : Result (List Standing) RowFault) (u : Tally) → AreRead most pages y u → u.missing ≡ Some at → asked most pages y ≡ Err (NotInDocument at)
not_there most pages at y u r e =
    ap (asked most pages) r.read
    ∙ ap (λ o. refused_at o NotInDocument (refused_at (first_over most 0 pages r.all) TooManyEntries (Ok (row_named pages (ranges_from r.all))))) (sym r.count.missing ∙ e)

pub too_many_there : (most pages at : ℕ) (y : Result (List Standing) RowFault) (u : Tally) → AreRead most pages y u → u.missing ≡ None → u.over ≡ Some at → asked most pages y ≡ Err (TooManyEntries at)
too_many_there most pages at y u r e o =
    let none : first_missing pages r.all ≡ None = sym r.count.missing ∙ e in
    ap (asked most pages) r.read
    ∙ ap (λ o. refused_at o NotInDocument (refused_at (first_over most 0 pages r.all) TooManyEntries (Ok (row_named pages (ranges_from r.all))))) none
    ∙ ap (λ o. refused_at o TooManyEntries (Ok (row_named pages (ranges_from r.all)))) (sym (r.count.over none) ∙ o)

pub all_there : (most pages : ℕ) (pieces : List (List ℕ)) (u : Tally) → AreRead most pages (standing_from 0 pieces) u → u.missing ≡ None → u.over ≡ None
    → (asked most pages (standing_from 0 pieces) ≡ Ok (flat_map (piece_found pages) pieces)) × (u.entries ≡ length (flat_map (piece_found pages) pieces))
all_there most pages pieces u r e o =
    let none : first_missing pages r.all ≡ None = sym r.count.missing ∙ e in
    let few : first_over most 0 pages r.all ≡ None = sym (r.count.over none) ∙ o in
    let row : flat_map (piece_found pages) pieces ≡ row_named pages (ranges_from r.all) = subst (IsRow pages pieces) r.read (is_row pages 0 pieces) none in (
      ap (asked most pages) r.read
          ∙ ap (λ o. refused_at o NotInDocument (refused_at (first_over most 0 pages r.all) TooManyEntries (Ok (row_named pages (ranges_from r.all))))) none
          ∙ ap (λ o. refused_at o TooManyEntries (Ok (row_named pages (ranges_from r.all)))) few
          ∙ ap (λ (row : Row). Ok row) (sym row),
      omega (arith, r.count.entries none few) ∙ ap (λ (row : Row). length row) (sym row),
    )
