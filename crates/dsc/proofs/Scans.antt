-- One pass over the units notes where the parts begin.
use Rattle.std.specs.Prelude.{Result, Option, Some, None, nat_lt}
use Rattle.std.proofs.Common.{append_assoc, append-nil, Bool, true, false, ltb, ◌||◌, ◌&&◌, if◌then◌else◌, ◌≡◌, ℕ, ◌+◌, ◌<◌, ◌≤◌, List, [], ◌∷◌, ◌++◌, length, take, refl, ap, arith, length-append, sym, ◌∙◌}
use Rattle.std.proofs.lemmas.Bool.{ltb-false, lt-ltb}
use Rattle.std.proofs.lemmas.List.{take-append-le}
use Rattle.rules.specs.Units.{TextUnit, FaultyBlock}
use Rattle.rules.specs.Parts.{NestedUnit, begins_page, begins_trailer}
use Rattle.dsc.specs.Marks.{starts_from, end_from, Marks, marks_on, noted_starts, noted_end, scan_on}
use Rattle.dsc.specs.Views.{at_depth}
use Rattle.dsc.specs.Walks.{WalkPlace, past_unit, IsPieceOf}
use Rattle.dsc.proofs.Cases.{by_test, and_false}
use Rattle.dsc.proofs.PlainUnits.{plain_page, plain_trailer}
use Rattle.dsc.proofs.Walking.{Follows, piece_on}

-- what is found from a unit on that is a page's line, or the trailer's
abbrev seen_from : ℕ → List ℕ → ℕ → ℕ → List NestedUnit → Bool → Bool → Marks
seen_from most starts at next us page ends =
    let inside = nat_lt 0 (length starts) in
    record {
      starts = take most (starts ++ (if inside && ends then [] else (if page then at ∷ starts_from true next us else starts_from inside next us)));
      stop = if inside && ends then at else end_from (inside || page) next us;
    }

full : (most : ℕ) (starts more other : List ℕ) → most ≤ length starts → take most (starts ++ more) ≡ take most (starts ++ other)
full most starts more other h = take-append-le most starts more h ∙ sym (take-append-le most starts other h)

noted : (most : ℕ) → 0 < most → (starts : List ℕ) (at next : ℕ) (us : List NestedUnit) (page ends : Bool)
    → marks_on most (noted_starts most starts None page ends at) (noted_end starts None ends at) next us ≡ seen_from most starts at next us page ends
noted most z [] at next us true ends = rw (lt-ltb 0 most z) refl
noted most z [] at next us false ends = refl
noted most z (s ∷ ss) at next us page true =
    rw (lt-ltb 0 (length (s ∷ ss)) (omega arith)) (ap (λ t. record { starts = take most t; stop = at }) (sym (append-nil (s ∷ ss))))
noted most z (s ∷ ss) at next us true false = by_test (ltb (length (s ∷ ss)) most)
    (λ less.
    rw less (rw (lt-ltb 0 (length (s ∷ ss)) (omega arith)) (rw (lt-ltb 0 (length ((s ∷ ss) ++ at ∷ [])) (omega arith))
    (ap (λ t. record { starts = take most t; stop = end_from true next us }) (append_assoc (s ∷ ss) (at ∷ []) (starts_from true next us))))))
    (λ isnt.
    rw isnt (rw (lt-ltb 0 (length (s ∷ ss)) (omega arith)) (rw (lt-ltb 0 (length (s ∷ ss)) (omega arith)) (ap (λ t. record { starts = t; stop = end_from true next us }) (full most (s ∷ ss) (starts_from true next us) (at ∷ starts_from true next us) (ltb-false _ _ isnt))))))
noted most z (s ∷ ss) at next us false false = rw (lt-ltb 0 (length (s ∷ ss)) (omega arith)) (rw (lt-ltb 0 (length (s ∷ ss)) (omega arith)) refl)

pub marks_step : (most : ℕ) → 0 < most → (starts : List ℕ) (stop : Option ℕ) (at : ℕ) (u : NestedUnit) (us : List NestedUnit)
    → marks_on most (noted_starts most starts stop (begins_page u) (begins_trailer u) at) (noted_end starts stop (begins_trailer u) at) (at + length u.unit.bytes) us ≡ marks_on most starts stop at (u ∷ us)
marks_step most z starts (Some e) at u us = refl
marks_step most z starts None at u us = noted most z starts at (at + length u.unit.bytes) us (begins_page u) (begins_trailer u)

noted_same : (most : ℕ) (starts : List ℕ) (stop : Option ℕ) (at : ℕ) → noted_starts most starts stop false false at ≡ starts
noted_same most starts (Some e) at = refl
noted_same most starts None at = ap (λ t. if t then starts else starts) (and_false (nat_lt 0 (length starts)))

end_same : (starts : List ℕ) (stop : Option ℕ) (at : ℕ) → noted_end starts stop false at ≡ stop
end_same starts (Some e) at = refl
end_same starts None at = ap (λ t. if t then Some at else None) (and_false (nat_lt 0 (length starts)))

-- no start is lost
no_fewer : (most : ℕ) (starts : List ℕ) (stop : Option ℕ) (page ends : Bool) (at : ℕ) → length starts ≤ length (noted_starts most starts stop page ends at)
no_fewer most starts (Some e) page ends at = omega arith
no_fewer most starts None page ends at = by_test (nat_lt 0 (length starts) && ends)
    (λ is. rw is (omega arith))
    (λ isnt. rw isnt (by_test (page && nat_lt (length starts) most)
    (λ is. rw is (let l = length-append starts (at ∷ []) in omega (arith, l)))
    (λ isnt_. rw isnt_ (omega arith))))

pub fewer : (most limit : ℕ) (starts new : List ℕ) (stop : Option ℕ) (page ends : Bool) (at : ℕ) → new ≡ noted_starts most starts stop page ends at → length new < limit → length starts < limit
fewer most limit starts new stop page ends at e few = let l = no_fewer most starts stop page ends at in let same = ap length e in omega (arith, l, same, few)

-- what was noted up to this byte
record Noted : Type 0 where
  pub starts : List ℕ
  pub stop : Option ℕ
  pub at : ℕ

abbrev makes : ℕ → Noted → List NestedUnit → Marks
makes most s us = marks_on most s.starts s.stop s.at us

abbrev next : ℕ → Noted → NestedUnit → Noted
next most s u = record {
  starts = noted_starts most s.starts s.stop (begins_page u) (begins_trailer u) s.at;
  stop = noted_end s.starts s.stop (begins_trailer u) s.at;
  at = s.at + length u.unit.bytes;
}

abbrev pass : Noted → List ℕ → Noted
pass s bytes = record { starts = s.starts; stop = s.stop; at = s.at + length bytes }

follows : (most : ℕ) → 0 < most → Follows (makes most) (next most) pass
follows most z = record {
  one = λ s u us. marks_step most z s.starts s.stop s.at u us;
  plain = λ s u h.
      ap (λ page. record { starts = noted_starts most s.starts s.stop page (begins_trailer u) s.at; stop = noted_end s.starts s.stop (begins_trailer u) s.at; at = s.at + length u.unit.bytes }) (plain_page u h)
      ∙ ap (λ ends. record { starts = noted_starts most s.starts s.stop false ends s.at; stop = noted_end s.starts s.stop ends s.at; at = s.at + length u.unit.bytes }) (plain_trailer u h)
      ∙ ap (λ xs. record { starts = xs; stop = noted_end s.starts s.stop false s.at; at = s.at + length u.unit.bytes }) (noted_same most s.starts s.stop s.at)
      ∙ ap (λ stop. record { starts = s.starts; stop = stop; at = s.at + length u.unit.bytes }) (end_same s.starts s.stop s.at);
  both = λ s a b. ap (λ k. record { starts = s.starts; stop = s.stop; at = k }) (let l = length-append a b in let e : s.at + length a + length b ≡ s.at + length (a ++ b) = omega (arith, l) in e);
}

-- in terms of a loop: one more unit is noted
pub scan_more : (most : ℕ) → 0 < most → (starts new : List ℕ) (stop new_stop : Option ℕ) (p q : WalkPlace) (u : TextUnit) (at : ℕ) (page ends : Bool) (whole : Result Marks FaultyBlock)
    → 0 < length p.rest → IsPieceOf u p.rest → q ≡ past_unit u p → at ≡ p.at
    → page ≡ begins_page (at_depth p.depth u) → ends ≡ begins_trailer (at_depth p.depth u)
    → new ≡ noted_starts most starts stop page ends at → new_stop ≡ noted_end starts stop ends at
    → scan_on most starts stop p.depth p.at p.rest ≡ whole → scan_on most new new_stop q.depth q.at q.rest ≡ whole
scan_more most z starts new stop new_stop p q u at page ends whole some piece b a pg tr ns nt i =
    let r : WalkPlace = past_unit u p in
    ap (λ t. scan_on most new new_stop t.depth t.at t.rest) b
    ∙ ap (λ t. scan_on most t new_stop r.depth r.at r.rest)
    (ns ∙ ap (noted_starts most starts stop page ends) a ∙ ap (λ v. noted_starts most starts stop v ends p.at) pg ∙ ap (λ v. noted_starts most starts stop (begins_page (at_depth p.depth u)) v p.at) tr)
    ∙ ap (λ t. scan_on most (noted_starts most starts stop (begins_page (at_depth p.depth u)) (begins_trailer (at_depth p.depth u)) p.at) t r.depth r.at r.rest)
    (nt ∙ ap (noted_end starts stop ends) a ∙ ap (λ v. noted_end starts stop v p.at) tr)
    ∙ piece_on (follows most z) (record { starts = starts; stop = stop; at = p.at }) p.depth p.at p.rest u some piece.is ∙ i
