-- Lines inserted after the header comments.
use Rattle.std.specs.Prelude.{Some, None, Ok, codes, map, flat_map, not, if◌then◌else◌}
use Rattle.std.specs.List.{starts_with, list_any}
use Rattle.std.specs.Str.{bytes_eq}
use Rattle.std.proofs.Common.{nat_eq, ◌==◌, ◌||◌, ◌&&◌, Bool, true, false, ◌≡◌, ℕ, zero, suc, ◌+◌, ◌-◌, ◌<◌, ◌≤◌, List, [], ◌∷◌, ◌++◌, length, take, drop, refl, ap, arith, length-take, length-drop, eqb, sym, ◌∙◌, subst}
use Rattle.std.proofs.lemmas.List.{append-nil, take-append-drop}
use Rattle.std.proofs.lemmas.Bool.{eqb-true}
use Rattle.std.proofs.Math.Seq.{drop-append_seam}
use Rattle.rules.specs.Bytes.{line}
use Rattle.rules.specs.Units.{TextUnit, is_end, end_len, content_of, line_len, AreUnits, key, has_key, is_comment, begins_block, cut}
use Rattle.rules.specs.Parts.{depth_after, nested, begins_page, begins_trailer, up_to, starting_at, split_pages, bytes_of, pages, trailer, is_outermost_line}
use Rattle.rules.specs.Filters.{ended}
use Rattle.rules.specs.Run.{document_of}
use Rattle.dsc.specs.Units.{or_none, units_of}
use Rattle.dsc.proofs.Cases.{by_test, and_false}
use Rattle.dsc.proofs.LineLengths.{line_len-within, end_len-pos}
use Rattle.dsc.proofs.Reading.{accepted_cut, accepted_opening}
use Rattle.imposed_again.specs.Seams.{joined, passes, line_unit, ends}
use Rattle.dsc.specs.Header.{is_header, ends_header, is_last, run_len, header_run, header_len}
use Rattle.guard.specs.PutIn.{put_in}
use Rattle.guard.specs.Laws.{CanBePutIn, ChangesPreambleAlone, LinesStay}
use Rattle.imposed_again.proofs.LinesMeet.{clash, stop_line, go_line}
use Rattle.imposed_again.proofs.UnitsMeet.{unit_content, unit_line}
use Rattle.imposed_again.proofs.Texts.{are_units, units_are, joined_is, joined_append, lines_put_in}
use Rattle.imposed_again.proofs.Splits.{at_depth, from_passed, pages_stay}
use Rattle.imposed_again.proofs.Keys.{key_is}
use Rattle.imposed_again.proofs.FirstLine.{two_on, taken_two, line_two, IsFirst, first_is, first_no_page}
use Rattle.imposed_again.proofs.Accepted.{accept, some_pages, few_pages}

take_none : (t : List ℕ) → take 0 t ≡ []
take_none [] = refl
take_none (b ∷ bs) = refl

take_nothing : (k : ℕ) → take {A = ℕ} k [] ≡ []
take_nothing zero = refl
take_nothing (suc k) = refl

take_add : (n m : ℕ) (t : List ℕ) → n ≤ length t → take (n + m) t ≡ take n t ++ take m (drop n t)
take_add zero m [] h = ap (λ k. take k []) (let e : 0 + m ≡ m = omega arith in e)
take_add zero m (b ∷ bs) h = ap (λ k. take k (b ∷ bs)) (let e : 0 + m ≡ m = omega arith in e)
take_add (suc n) m [] h = absurd (omega (arith, h))
take_add (suc n) m (b ∷ bs) h = ap (λ k. take k (b ∷ bs)) (let e : suc n + m ≡ suc (n + m) = omega arith in e) ∙ ap (λ t. b ∷ t) (take_add n m bs (omega (arith, h)))

neither : (a b : Bool) → (a || b) ≡ false → (a ≡ false) × (b ≡ false)
neither true b e = cc
neither false b e = (refl, e)

both : (a b : Bool) → (a && b) ≡ true → (a ≡ true) × (b ≡ true)
both true b e = (refl, e)
both false b e = cc

not_true : (b : Bool) → not b ≡ true → b ≡ false
not_true true e = cc
not_true false e = refl

abbrev begin_key : List ℕ → Bool
begin_key k = starts_with nat_eq k (codes "%%Begin")

no_such : (name content : List ℕ) → begin_key name ≡ true → begin_key (key content) ≡ false → has_key (name ∷ []) content ≡ false
no_such name content n h = by_test (has_key (name ∷ []) content)
    (λ is. clash (begin_key (key content)) (ap begin_key (key_is name content is) ∙ n) h)
    (λ isnt. isnt)

-- a line of the header: no block, no page, and it leaves depth 0
no_data : (content : List ℕ) → begin_key (key content) ≡ false → begins_block content ≡ false
no_data content h =
    ap (λ t. (t && starts_with nat_eq content (codes "%%BeginData" ++ 58 ∷ [])) || is_comment (codes "%%BeginBinary") content) (no_such (codes "%%BeginData") content refl h)
    ∙ ap (λ t. t && starts_with nat_eq content (codes "%%BeginBinary" ++ 58 ∷ [])) (no_such (codes "%%BeginBinary") content refl h)

no_deeper : (u : TextUnit) → begin_key (key u.content) ≡ false → depth_after 0 u ≡ 0
no_deeper u h = turn u.is_block (has_key (codes "%%BeginDocument" ∷ []) u.content) (has_key (codes "%%EndDocument" ∷ []) u.content) (no_such (codes "%%BeginDocument") u.content refl h)
  where
    turn : (k p q : Bool) → p ≡ false → ◌≡◌ {A = ℕ} (if k then 0 else (if p then 0 + 1 else (if q then 0 - 1 else 0))) 0
    turn true p q e = refl
    turn false true q e = cc
    turn false false true e = refl
    turn false false false e = refl

no_page : (u : TextUnit) → is_comment (codes "%%Page") u.content ≡ false → begins_page (at_depth 0 u) ≡ false
no_page u h = ap (λ t. is_outermost_line (at_depth 0 u) && t) h ∙ and_false (is_outermost_line (at_depth 0 u))

-- the units of the first n bytes
pub record Walk (n : ℕ) (text : List ℕ) (us : List TextUnit) : Type 0 where
  pub front : List TextUnit
  pub back : List TextUnit
  pub whole : us ≡ front ++ back
  pub bytes : joined front ≡ take n text
  pub passing : passes begins_page 0 front ≡ Some 0
  pub closed : 0 < length front → 0 < length back → ends (joined front) ≡ true

stand_still : (text : List ℕ) (us : List TextUnit) → Walk 0 text us
stand_still text us = record { front = []; back = us; whole = refl; bytes = sym (take_none text); passing = refl; closed = λ l _. absurd (omega (arith, l)) }

-- A line that isn't all of the text has an end.

ends_more : (b : ℕ) (xs : List ℕ) → ends xs ≡ true → ends (b ∷ xs) ≡ true
ends_more b [] e = cc
ends_more b (c ∷ cs) e = e

ends_behind : (a b : List ℕ) → ends b ≡ true → ends (a ++ b) ≡ true
ends_behind [] b e = e
ends_behind (x ∷ a) b e = ends_more x (a ++ b) (ends_behind a b e)

end_taken : (b c : ℕ) (cs : List ℕ) → is_end b ≡ true → ends (take (end_len (b ∷ c ∷ cs)) (b ∷ c ∷ cs)) ≡ true
end_taken b c cs h = turn (b == 13) (eqb 10 c) refl
  where
    turn : (s t : Bool) → eqb 10 c ≡ t → ends (take (if s && (t && true) then 2 else 1) (b ∷ c ∷ cs)) ≡ true
    turn true true e = subst (λ k. is_end k ≡ true) (eqb-true 10 c e) refl
    turn true false e = h
    turn false t e = h

take_ends : (text : List ℕ) → line_len text < length text → ends (take (line_len text) text) ≡ true
take_ends [] l = absurd (omega (arith, l))
take_ends (b ∷ []) l = by_test (is_end b)
    (λ is. let e : line_len (b ∷ []) ≡ end_len (b ∷ []) = stop_line b [] is in let p = end_len-pos b [] in absurd (omega (arith, l, e, p)))
    (λ isnt. let e : line_len (b ∷ []) ≡ suc (line_len []) = go_line b [] isnt in absurd (omega (arith, l, e)))
take_ends (b ∷ c ∷ cs) l = by_test (is_end b)
    (λ is. ap (λ k. ends (take k (b ∷ c ∷ cs))) (stop_line b (c ∷ cs) is) ∙ end_taken b c cs is)
    (λ isnt.
    let e : line_len (b ∷ c ∷ cs) ≡ suc (line_len (c ∷ cs)) = go_line b (c ∷ cs) isnt in
    ap (λ k. ends (take k (b ∷ c ∷ cs))) e ∙ ends_more b (take (line_len (c ∷ cs)) (c ∷ cs)) (take_ends (c ∷ cs) (omega (arith, l, e))))

ended_same : (t : List ℕ) → ends t ≡ true → ended t ≡ t
ended_same [] e = cc
ended_same (b ∷ []) e = ap (λ t. if t then b ∷ [] else b ∷ 10 ∷ []) e
ended_same (b ∷ c ∷ bs) e = ap (λ t. b ∷ t) (ended_same (c ∷ bs) e)

-- the line and what follows it end, where more follows
closed_by : (text : List ℕ) (front back us : List TextUnit) → us ≡ front ++ back → AreUnits (drop (line_len text) text) us → (0 < length front → 0 < length back → ends (joined front) ≡ true)
    → 0 < length back → ends (take (line_len text) text ++ joined front) ≡ true
closed_by text [] back us e m c l = ap ends (append-nil (take (line_len text) text)) ∙ take_ends text (left back (subst (AreUnits (drop (line_len text) text)) e m) l)
  where
    left : (back : List TextUnit) → AreUnits (drop (line_len text) text) back → 0 < length back → line_len text < length text
    left [] m l = absurd (omega (arith, l))
    left (v ∷ back) m l = let some = m.0 in omega (arith, some, length-drop (line_len text) text)
closed_by text (v ∷ front) back us e m c l = ends_behind (take (line_len text) text) (joined (v ∷ front)) (c (omega arith) l)

-- one line, and the walk after it
one_line : (k : ℕ) (text : List ℕ) (u : TextUnit) (us : List TextUnit) → u.bytes ≡ take (line_len text) text → begins_page (at_depth 0 u) ≡ false → depth_after 0 u ≡ 0 → AreUnits (drop (line_len text) text) us
    → Walk k (drop (line_len text) text) us → Walk (line_len text + k) text (u ∷ us)
one_line k text u us b p d m w =
    record {
      front = u ∷ w.front;
      back = w.back;
      whole = ap (λ vs. u ∷ vs) w.whole;
      bytes = ap (λ t. t ++ joined w.front) b ∙ ap (λ t. take (line_len text) text ++ t) w.bytes ∙ sym (take_add (line_len text) k text (line_len-within text));
      passing = ap (λ t. if t then None else passes begins_page (depth_after 0 u) w.front) p ∙ ap (λ e. passes begins_page e w.front) d ∙ w.passing;
      closed = λ _ l. ap (λ t. ends (t ++ joined w.front)) b ∙ closed_by text w.front w.back us w.whole m w.closed l;
    }

behind_line : (text : List ℕ) (u : TextUnit) (us : List TextUnit) → u.bytes ≡ take (line_len text) text → AreUnits (drop (length u.bytes) text) us → AreUnits (drop (line_len text) text) us
behind_line text u us b m =
    let size : length u.bytes ≡ line_len text = (let l = length-take (line_len text) text in let w = line_len-within text in let e : length u.bytes ≡ length (take (line_len text) text) = ap length b in omega (arith, l, w, e)) in
    subst (λ k. AreUnits (drop k text) us) size m

walk : (most : ℕ) (text : List ℕ) (us : List TextUnit) → AreUnits text us → Walk (run_len most text) text us
walk zero text us m = stand_still text us
walk (suc most) text [] m =
    record { front = []; back = []; whole = refl; bytes = sym (ap (take (run_len (suc most) text)) m ∙ take_nothing (run_len (suc most) text)); passing = refl; closed = λ l _. absurd (omega (arith, l)) }
walk (suc most) text (u ∷ us) m = by_test (is_header (content_of text) && not (ends_header (content_of text)))
    (λ is.
    let c : List ℕ = content_of text in
    let n : ℕ = line_len text in
    let h = neither (begin_key (key c)) _ (not_true (ends_header c) (both (is_header c) (not (ends_header c)) is).1) in
    let same : u ≡ record { content = c; bytes = take n text; is_block = false } = unit_line text u m.1 (no_data c h.0) in
    let content : u.content ≡ c = ap (λ v. v.content) same in
    let bytes : u.bytes ≡ take n text = ap (λ v. v.bytes) same in
    let page : begins_page (at_depth 0 u) ≡ false = no_page u (ap (is_comment (codes "%%Page")) content ∙ (neither (is_comment (codes "%%Page") c) _ h.1).0) in
    let depth : depth_after 0 u ≡ 0 = no_deeper u (ap (λ x. begin_key (key x)) content ∙ h.0) in
    let rest : AreUnits (drop n text) us = behind_line text u us bytes m.2 in
    subst (λ t. Walk (if t then (if is_last c then n else n + run_len most (drop n text)) else 0) text (u ∷ us)) (sym is)
    (last (is_last c) n (run_len most (drop n text))
    (let e : n + 0 ≡ n = omega arith in subst (λ k. Walk k text (u ∷ us)) e (one_line 0 text u us bytes page depth rest (stand_still (drop n text) us)))
    (one_line (run_len most (drop n text)) text u us bytes page depth rest (walk most (drop n text) us rest))))
    (λ isnt. subst (λ t. Walk (if t then (if is_last (content_of text) then line_len text else line_len text + run_len most (drop (line_len text) text)) else 0) text (u ∷ us)) (sym isnt) (stand_still text (u ∷ us)))
  where
    last : (b : Bool) (n k : ℕ) → Walk n text (u ∷ us) → Walk (n + k) text (u ∷ us) → Walk (if b then n else n + k) text (u ∷ us)
    last true n k v w = v
    last false n k v w = w

first_data : (u : TextUnit) → IsFirst u → begins_block u.content ≡ false
first_data u f =
    ap (λ k. (list_any (bytes_eq k) (codes "%%BeginData" ∷ []) && starts_with nat_eq u.content (codes "%%BeginData" ++ 58 ∷ []))
    || (list_any (bytes_eq k) (codes "%%BeginBinary" ∷ []) && starts_with nat_eq u.content (codes "%%BeginBinary" ++ 58 ∷ []))) f.named

false_of : (b : Bool) → (b ≡ true → ⊥) → b ≡ false
false_of true h = absurd (h refl)
false_of false h = refl

-- the header comments of a document
header : (text : List ℕ) (u : TextUnit) (us : List TextUnit) → starts_with nat_eq text (codes "%!") ≡ true → AreUnits text (u ∷ us) → Walk (header_len text) text (u ∷ us)
header text u us s m =
    let n : ℕ = line_len text in
    let f : IsFirst u = first_is text u s m.1 in
    let content : u.content ≡ content_of text = (unit_content text u m.1).0 in
    let same : u ≡ record { content = content_of text; bytes = take n text; is_block = false } = unit_line text u m.1 (sym (ap begins_block content) ∙ first_data u f) in
    let bytes : u.bytes ≡ take n text = ap (λ v. v.bytes) same in
    let rest : AreUnits (drop n text) us = behind_line text u us bytes m.2 in
    one_line (header_run (drop n text)) text u us bytes (false_of (begins_page (at_depth 0 u)) (first_no_page u 0 f)) (no_deeper u (ap begin_key f.named))
    rest (walk (length (drop n text)) (drop n text) us rest)

cancel : (a x y : List ℕ) → a ++ x ≡ a ++ y → x ≡ y
cancel a x y e = sym (drop-append_seam a x) ∙ ap (drop (length a)) e ∙ drop-append_seam a y

-- where all units pass, there is no page
no_pages : (us : List TextUnit) → passes begins_page 0 us ≡ Some 0 → length (pages (nested (us ++ []))) ≡ 0
no_pages us h = ap (λ ws. length (map bytes_of (split_pages (up_to begins_trailer ws)))) (from_passed begins_page 0 us [] 0 h)

back_some : (front back : List TextUnit) → passes begins_page 0 front ≡ Some 0 → 0 < length (pages (nested (front ++ back))) → 0 < length back
back_some front [] h l = let none = no_pages front h in omega (arith, none, l)
back_some front (u ∷ back) h l = omega arith

starts_on : (a b r : List ℕ) → a ≡ 37 ∷ 33 ∷ r → starts_with nat_eq (a ++ b) (codes "%!") ≡ true
starts_on a b r e = ap (λ t. starts_with nat_eq (t ++ b) (codes "%!")) e

front_there : (front : List TextUnit) (r : List ℕ) → joined front ≡ 37 ∷ 33 ∷ r → 0 < length front
front_there [] r e = cc
front_there (u ∷ front) r e = omega arith

guarded_by : (lines : List (List ℕ)) (text : List ℕ) (u : TextUnit) (us : List TextUnit) → CanBePutIn lines → document_of text ≡ Ok (nested (u ∷ us)) → AreUnits text (u ∷ us) → length (put_in lines text) ≤ 1_073_741_824
    → (document_of (put_in lines text) ≡ Ok (units_of (put_in lines text))) × ChangesPreambleAlone lines text (nested (u ∷ us)) (units_of (put_in lines text))
guarded_by [] text u us g d m l = absurd g
guarded_by (first ∷ more) text u us g d m l =
    let lines : List (List ℕ) = first ∷ more in
    let s : starts_with nat_eq text (codes "%!") ≡ true = accepted_opening text (nested (u ∷ us)) d in
    let w : Walk (header_len text) text (u ∷ us) = header text u us s m in
    let n : ℕ = header_len text in
    let some : 0 < length (pages (nested (u ∷ us))) = some_pages text (nested (u ∷ us)) d in
    let back : 0 < length w.back = back_some w.front w.back w.passing (subst (λ vs. 0 < length (pages (nested vs))) w.whole some) in
    let are : AreUnits text (w.front ++ w.back) = subst (AreUnits text) w.whole m in
    let whole : joined (w.front ++ w.back) ≡ text = joined_is text (w.front ++ w.back) are in
    let parts : take n text ++ drop n text ≡ take n text ++ joined w.back =
    take-append-drop n text ∙ sym whole ∙ joined_append w.front w.back ∙ ap (λ t. t ++ joined w.back) w.bytes in
    let rest : drop n text ≡ joined w.back = cancel (take n text) (drop n text) (joined w.back) parts in
    let two : take n text ≡ 37 ∷ 33 ∷ take (n - 2) (drop 2 text) = ap (take n) (two_on text s) ∙ taken_two n (drop 2 text) (let z = line_two text s in omega (arith, z)) in
    let shut : ended (take n text) ≡ joined w.front = ap ended (sym w.bytes) ∙ ended_same (joined w.front) (w.closed (front_there w.front (take (n - 2) (drop 2 text)) (w.bytes ∙ two)) back) in
    let out : put_in lines text ≡ joined w.front ++ (flat_map line lines ++ joined w.back) =
    ap (λ t. t ++ (flat_map line lines ++ drop n text)) shut ∙ ap (λ t. joined w.front ++ (flat_map line lines ++ t)) rest in
    let units : List TextUnit = w.front ++ (map line_unit lines ++ w.back) in
    let put : cut (joined w.front ++ (flat_map line lines ++ joined w.back)) ≡ Ok units =
    lines_put_in w.front w.back first more (ap cut whole ∙ units_are text (w.front ++ w.back) are) back g.0 g.1 in
    let stay = pages_stay w.front (map line_unit lines) w.back 0 w.passing g.2 in
    let old : nested (u ∷ us) ≡ nested (w.front ++ w.back) = ap nested w.whole in
    let rest_stays : starting_at begins_page (nested units) ≡ starting_at begins_page (nested (w.front ++ w.back)) =
    from_passed begins_page 0 w.front (map line_unit lines ++ w.back) 0 w.passing ∙ from_passed begins_page 0 (map line_unit lines) w.back 0 g.2 ∙ sym (from_passed begins_page 0 w.front w.back 0 w.passing) in
    let same : pages (nested units) ≡ pages (nested (u ∷ us)) = stay.0 ∙ sym (ap pages old) in
    let made : AreUnits (put_in lines text) units = subst (λ t. AreUnits t units) (sym out) (are_units _ units put) in
    let starts : starts_with nat_eq (put_in lines text) (codes "%!") ≡ true =
    starts_on (ended (take n text)) (flat_map line lines ++ drop n text) (take (n - 2) (drop 2 text)) (shut ∙ w.bytes ∙ two) in
    let r = accept (put_in lines text) units (length (pages (nested (u ∷ us)))) l starts made (ap length same) some (few_pages text (nested (u ∷ us)) d) in (
      r.0,
      record {
        front = w.front;
        back = w.back;
        header = w.bytes;
        old = old;
        new = r.1;
        same_rest = ap (starting_at begins_page) r.1 ∙ rest_stays ∙ sym (ap (starting_at begins_page) old);
        same_pages = ap pages r.1 ∙ same;
        same_trailer = ap trailer r.1 ∙ stay.1 ∙ sym (ap trailer old);
      },
    )

guarded_all : (lines : List (List ℕ)) (text : List ℕ) (us : List TextUnit) → CanBePutIn lines → document_of text ≡ Ok (nested us) → AreUnits text us → length (put_in lines text) ≤ 1_073_741_824
    → (document_of (put_in lines text) ≡ Ok (units_of (put_in lines text))) × ChangesPreambleAlone lines text (nested us) (units_of (put_in lines text))
guarded_all lines text [] g d m l = let some = some_pages text [] d in absurd (omega (arith, some))
guarded_all lines text (u ∷ us) g d m l = guarded_by lines text u us g d m l

pub lines_stay : LinesStay
lines_stay lines text us g d l =
    let w = accepted_cut text us d in
    subst (λ vs. (document_of (put_in lines text) ≡ Ok (units_of (put_in lines text))) × ChangesPreambleAlone lines text vs (units_of (put_in lines text))) w.1
    (guarded_all lines text (or_none (cut text)) g (subst (λ vs. document_of text ≡ Ok vs) (sym w.1) d) (are_units text (or_none (cut text)) w.0) l)
