-- What the pass finds of the bodies of pages.
use Rattle.std.specs.Prelude.{Result}
use Rattle.std.proofs.Common.{Bool, true, false, ◌≡◌, ℕ, suc, ◌+◌, ◌-◌, ◌<◌, List, [], ◌∷◌, ◌++◌, if◌then◌else◌, length, get_or, refl, ap, arith, length-append, ◌∙◌}
use Rattle.rules.specs.Units.{TextUnit, FaultyBlock, is_end}
use Rattle.rules.specs.Parts.{NestedUnit, begins_page, begins_trailer}
use Rattle.dsc.specs.Filters.{is_dropped}
use Rattle.dsc.specs.BodyStarts.{Sought, noted, ends_line}
use Rattle.dsc.specs.declared.filters.Drops.TheVariants.{PageSetup}
use Rattle.dsc.specs.Views.{at_depth}
use Rattle.dsc.specs.Walks.{WalkPlace, past_unit, IsPieceOf}
use Rattle.dsc.proofs.PlainUnits.{plain_page, plain_trailer, plain_kept}
use Rattle.dsc.proofs.Walking.{Follows, on_rest, piece_on}

-- what is found with these units, the first of which begins at this byte
abbrev pub sought_with : Sought → ℕ → List NestedUnit → Sought
sought_with s at [] = s
sought_with s at (u ∷ us) = let next = at + length u.unit.bytes
    in sought_with (noted s at next (begins_page u) (begins_trailer u) (is_dropped PageSetup s.was u) u.unit.bytes) next us

-- what a pass over the rest of a text finds
abbrev pub sought_on : Sought → (depth at : ℕ) → List ℕ → Result Sought FaultyBlock
sought_on s depth at text = on_rest (sought_with s at) depth at text

-- what was found up to this byte
record Found : Type 0 where
  pub sought : Sought
  pub at : ℕ

abbrev makes : Found → List NestedUnit → Sought
makes s us = sought_with s.sought s.at us

abbrev next : Found → NestedUnit → Found
next s u = record {
  sought = noted s.sought s.at (s.at + length u.unit.bytes) (begins_page u) (begins_trailer u) (is_dropped PageSetup s.sought.was u) u.unit.bytes;
  at = s.at + length u.unit.bytes;
}

abbrev kept_on : Sought → List ℕ → Sought
kept_on s bytes = record {
  found = s.found;
  current = s.current;
  was = false;
  in_pages = s.in_pages;
  ended = s.ended;
  line = if s.ended then s.line else ends_line s.line bytes;
}

abbrev pass : Found → List ℕ → Found
pass s bytes = record { sought = kept_on s.sought bytes; at = s.at + length bytes }

plain_noted : (found : List ℕ) (current : ℕ) (was in_pages ended line : Bool) (at after : ℕ) (bytes : List ℕ)
    → noted (record { found = found; current = current; was = was; in_pages = in_pages; ended = ended; line = line }) at after false false false bytes
    ≡ kept_on (record { found = found; current = current; was = was; in_pages = in_pages; ended = ended; line = line }) bytes
plain_noted found current was in_pages true line at after bytes = refl
plain_noted found current was true false line at after bytes = refl
plain_noted found current was false false line at after bytes = refl

-- bytes that are read in two parts
pub line_further : (was : Bool) (a b : List ℕ) → ends_line (ends_line was a) b ≡ ends_line was (a ++ b)
line_further was [] b = refl
line_further was (x ∷ a) b = line_further (is_end x) a b

-- one byte further from the end
one_back : (b c : ℕ) (bs : List ℕ) (d : ℕ) → get_or (b ∷ c ∷ bs) (length (b ∷ c ∷ bs) - 1) d ≡ get_or (c ∷ bs) (length (c ∷ bs) - 1) d
one_back b c bs d = let e : length (b ∷ c ∷ bs) - 1 ≡ suc (length (c ∷ bs) - 1) = omega arith in ap (λ k. get_or (b ∷ c ∷ bs) k d) e

-- the last byte decides
pub line_of_last : (xs : List ℕ) (byte d : ℕ) (was line : Bool) → 0 < length xs → byte ≡ get_or xs (length xs - 1) d → line ≡ is_end byte → line ≡ ends_line was xs
line_of_last [] byte d was line some e l = absurd (omega (arith, some))
line_of_last (b ∷ []) byte d was line some e l = l ∙ ap is_end e
line_of_last (b ∷ c ∷ bs) byte d was line some e l = line_of_last (c ∷ bs) byte d (is_end b) line (omega arith) (e ∙ one_back b c bs d) l

both_lines : (ended line : Bool) (a b : List ℕ)
    → (if ended then (if ended then line else ends_line line a) else ends_line (if ended then line else ends_line line a) b) ≡ (if ended then line else ends_line line (a ++ b))
both_lines true line a b = refl
both_lines false line a b = line_further line a b

follows : Follows makes next pass
follows = record {
  one = λ s u us. refl;
  plain = λ s u h.
      let after : ℕ = s.at + length u.unit.bytes in
      ap (λ t. record { sought = t; at = after })
      (ap (λ page. noted s.sought s.at after page (begins_trailer u) (is_dropped PageSetup s.sought.was u) u.unit.bytes) (plain_page u h)
      ∙ ap (λ ends. noted s.sought s.at after false ends (is_dropped PageSetup s.sought.was u) u.unit.bytes) (plain_trailer u h)
      ∙ ap (λ t. noted s.sought s.at after false false t u.unit.bytes) (plain_kept PageSetup s.sought.was u h)
      ∙ plain_noted s.sought.found s.sought.current s.sought.was s.sought.in_pages s.sought.ended s.sought.line s.at after u.unit.bytes);
  both = λ s a b.
      ap
      (λ line. record {
        sought = record { found = s.sought.found; current = s.sought.current; was = false; in_pages = s.sought.in_pages; ended = s.sought.ended; line = line };
        at = s.at + length a + length b;
      })
      (both_lines s.sought.ended s.sought.line a b)
      ∙ ap (λ k. record { sought = kept_on s.sought (a ++ b); at = k }) (let l = length-append a b in let e : s.at + length a + length b ≡ s.at + length (a ++ b) = omega (arith, l) in e);
}

-- in terms of a loop: one more unit is noted
pub sought_more : (s new : Sought) (p q : WalkPlace) (u : TextUnit) (at : ℕ) (page ends dropped : Bool) (whole : Result Sought FaultyBlock)
    → 0 < length p.rest → IsPieceOf u p.rest → q ≡ past_unit u p → at ≡ p.at
    → page ≡ begins_page (at_depth p.depth u) → ends ≡ begins_trailer (at_depth p.depth u) → dropped ≡ is_dropped PageSetup s.was (at_depth p.depth u)
    → new ≡ noted s at (at + length u.bytes) page ends dropped u.bytes
    → sought_on s p.depth p.at p.rest ≡ whole → sought_on new q.depth q.at q.rest ≡ whole
sought_more s new p q u at page ends dropped whole some piece b a pg tr dr n i =
    let r : WalkPlace = past_unit u p in
    let v : NestedUnit = at_depth p.depth u in
    ap (λ t. sought_on new t.depth t.at t.rest) b
    ∙ ap (λ t. sought_on t r.depth r.at r.rest)
    (n ∙ ap (λ k. noted s k (k + length u.bytes) page ends dropped u.bytes) a ∙ ap (λ t. noted s p.at (p.at + length u.bytes) t ends dropped u.bytes) pg
    ∙ ap (λ t. noted s p.at (p.at + length u.bytes) (begins_page v) t dropped u.bytes) tr ∙ ap (λ t. noted s p.at (p.at + length u.bytes) (begins_page v) (begins_trailer v) t u.bytes) dr)
    ∙ piece_on follows (record { sought = s; at = p.at }) p.depth p.at p.rest u some piece.is ∙ i
