-- What is kept of a page, and of the preamble, runs like the original.
use Rattle.std.specs.Prelude.{Result, Ok, Err, flat_map, if◌then◌else◌, codes, decimal, nat_eq, cond}
use Rattle.std.specs.List.{starts_with}
use Rattle.std.proofs.lemmas.List.Sums.{take_while-cons}
use Rattle.std.proofs.Common.{◌≡◌, ℕ, suc, refl, ap, ◌∙◌, sym, subst, Bool, true, false, not, ◌&&◌, ◌||◌, ◌==◌, ◌<◌, List, [], ◌∷◌, ◌++◌, append_assoc, append-nil, true≢false, arith, length, drop, ◌⊎◌, inl, inr, ⊎_elim}
use Rattle.rules.specs.Bytes.{line, line_feed}
use Rattle.rules.specs.Units.{TextUnit, FaultyBlock, cut, is_end, AreUnits, ◌>>=◌}
use Rattle.rules.specs.Parts.{NestedUnit, nested, nested_from, depth_after, is_outermost_line, begins_page, up_to, preamble, bytes_of}
use Rattle.rules.specs.Filters.{continues, kept, kept_after, drops_in_header, drops_in_page, with_count, ended, prepared}
use Rattle.rules.specs.Run.{DocumentFault, NoPages, InputTooManyPages, InputTooLong, NotPostScript, of_block, refuse_if, with_pages, document_of}
use Rattle.rules.specs.Output.{body_text}
use Rattle.rules.specs.Dress.{lines_text}
use Rattle.rules.specs.MadeOutput.{with_lines, drops_with, dressed_preamble}
use Rattle.rules.proofs.Whole.{units_make_text}
use Rattle.rules.proofs.CutUnits.{cut_is_units, same_ok, apart_results, none_below}
use Rattle.pictures.specs.Objects.{Token}
use Rattle.pictures.specs.Scanner.{Reading, Between, InComment, scan_from, after_tokens, tokens, EndsBetweenTokens}
use Rattle.pictures.specs.Scanner as Scanner
use Rattle.pictures.specs.Kept.{reading_behind, is_between, has_form_feed, goes, apart_at, comments_apart, apart_in, first_is_complete, comments_apart_with, KeptRunsAlike, PreambleRunsAlike}
use Rattle.pictures.proofs.Tests.{by_test, first, second}
use Rattle.pictures.proofs.Scanned.{scan_behind}
use Rattle.pictures.proofs.LinesRead.{begins, more_begins, begins_with, body_begins, HasNone, unit_read}
use Rattle.pictures.proofs.NumberTokens.{Reads, reads_join}
use Rattle.pictures.proofs.Comments.{count_line}

-- a complete text, followed by another
complete_then : (a b : List ℕ) → EndsBetweenTokens a → scan_from Between (a ++ b) ≡ after_tokens (scan_from Between a).0 (scan_from Between b)
complete_then a b e = scan_behind Between a b ∙ ap (λ r. after_tokens (scan_from Between a).0 (scan_from r b)) e

-- Units that are lines, with those after them.

abbrev Shape : NestedUnit → List NestedUnit → Type 0
Shape u us = u.unit.is_block ≡ false → begins u.unit.content ≡ true → has_form_feed u.unit.bytes ≡ false
    → (scan_from Between u.unit.bytes ≡ ([], Between)) ⊎ ((scan_from Between u.unit.bytes ≡ ([], InComment)) × (us ≡ []))

abbrev AreLines : List NestedUnit → Type 0
AreLines [] = Unit {0}
AreLines (u ∷ us) = Shape u us × AreLines us

all_dropped : (xs : List ℕ) → drop (length xs) xs ≡ []
all_dropped [] = refl
all_dropped (x ∷ xs) = let longer : length (x ∷ xs) ≡ suc (length xs) = omega arith in ap (λ k. drop k (x ∷ xs)) longer ∙ all_dropped xs

none_left : (d : ℕ) (text : List ℕ) (us : List TextUnit) → text ≡ [] → AreUnits text us → nested_from d us ≡ []
none_left d text [] e m = refl
none_left d text (u ∷ us) e (some, f, m) = absurd (none_below (subst (λ t. 0 < length t) e some))

shape_of : (d e : ℕ) (text : List ℕ) (u : TextUnit) (us : List TextUnit) → HasNone u.bytes text → AreUnits (drop (length u.bytes) text) us
    → (scan_from Between u.bytes ≡ ([], Between)) ⊎ ((scan_from Between u.bytes ≡ ([], InComment)) × (nested_from e us ≡ []))
shape_of d e text u us h m = ⊎_elim inl
    (λ y. inr (y.0, none_left e (drop (length u.bytes) text) us (ap (λ b. drop (length b) text) y.1 ∙ all_dropped text) m)) h

nested_lines : (d : ℕ) (text : List ℕ) (us : List TextUnit) → AreUnits text us → AreLines (nested_from d us)
nested_lines d text [] e = tt
nested_lines d text (u ∷ us) (some, e, m) =
    (λ f b h. shape_of d (depth_after d u) text u us (unit_read text u e f b h) m, nested_lines (depth_after d u) (drop (length u.bytes) text) us m)

up_to_cons : (p : NestedUnit → Bool) (u : NestedUnit) (us : List NestedUnit) → up_to p (u ∷ us) ≡ cond (not (p u)) (u ∷ up_to p us) []
up_to_cons p u us = take_while-cons (λ v. not (p v)) u us

lines_up_to : (p : NestedUnit → Bool) (us : List NestedUnit) → AreLines us → AreLines (up_to p us)
lines_up_to p [] h = tt
lines_up_to p (u ∷ us) h = subst AreLines (sym (up_to_cons p u us)) (turn (not (p u)) (lines_up_to p us h.1))
  where
    turn : (t : Bool) → AreLines (up_to p us) → AreLines (cond t (u ∷ up_to p us) [])
    turn true more = (λ f b g. ⊎_elim inl (λ y. inr (y.0, ap (up_to p) y.1)) (h.0 f b g), more)
    turn false more = tt

-- A dropped line begins with a percent sign.

abbrev Begin : (List ℕ → Bool) → Type 0
Begin drops = (content : List ℕ) → drops content ≡ true → begins content ≡ true

goes_begins : (drops : List ℕ → Bool) (was : Bool) (u : NestedUnit) → Begin drops → goes was drops u ≡ true
    → (u.unit.is_block ≡ false) × (begins u.unit.content ≡ true)
goes_begins drops was u f e = either (is_outermost_line u && drops u.unit.content) (was && continues u) dropped more e
  where
    not_block : (b : Bool) → not b ≡ true → b ≡ false
    not_block true e = sym e
    not_block false e = refl

    dropped : (is_outermost_line u && drops u.unit.content) ≡ true → (u.unit.is_block ≡ false) × (begins u.unit.content ≡ true)
    dropped e =
        let line = first (is_outermost_line u) (drops u.unit.content) e in
        (not_block u.unit.is_block (second (u.depth == 0) (not u.unit.is_block) line), f u.unit.content (second (is_outermost_line u) (drops u.unit.content) e))

    more : (was && continues u) ≡ true → (u.unit.is_block ≡ false) × (begins u.unit.content ≡ true)
    more e =
        let c = second was (continues u) e in
        let p : Bool = starts_with nat_eq u.unit.content (codes "%%+") in
        (not_block u.unit.is_block (first (not u.unit.is_block) p c), more_begins u.unit.content (second (not u.unit.is_block) p c))

    either : {P : Type 0} (a b : Bool) → (a ≡ true → P) → (b ≡ true → P) → (a || b) ≡ true → P
    either true b f g e = f refl
    either false b f g e = g e

between_is : (r : Reading) → is_between r ≡ true → r ≡ Between
between_is Between e = refl
between_is r e = absurd (true≢false (sym e))

not_both : (r : Reading) → r ≡ Between → r ≡ InComment → ⊥
not_both r e f = true≢false (ap is_between (sym e ∙ f))

abbrev Same : Reading → List NestedUnit → List NestedUnit → Type 0
Same r us vs = scan_from r (bytes_of us) ≡ scan_from r (bytes_of vs)

-- a unit that is dropped
gone : (u : NestedUnit) (us ks : List NestedUnit) → (scan_from Between u.unit.bytes ≡ ([], Between)) ⊎ ((scan_from Between u.unit.bytes ≡ ([], InComment)) × (us ≡ []))
    → ((scan_from Between (bytes_of us)).1 ≡ Between → Same Between ks us) → (scan_from Between (bytes_of (u ∷ us))).1 ≡ Between → Same Between ks (u ∷ us)
gone u us ks x f end = ⊎_elim
    (λ e.
    let whole : scan_from Between (bytes_of (u ∷ us)) ≡ scan_from Between (bytes_of us) =
    scan_behind Between u.unit.bytes (bytes_of us) ∙ ap (λ z. after_tokens z.0 (scan_from z.1 (bytes_of us))) e in
    f (sym (ap (λ z. z.1) whole) ∙ end) ∙ sym whole)
    (λ y. absurd (not_both (scan_from Between (bytes_of (u ∷ us))).1 end
    (ap (λ z. z.1) (scan_behind Between u.unit.bytes (bytes_of us) ∙ ap (λ z. after_tokens z.0 (scan_from z.1 (bytes_of us))) y.0)
    ∙ ap (λ vs. (scan_from InComment (bytes_of vs)).1) y.1)))
    x

-- a unit that stays
stays : (r : Reading) (u : NestedUnit) (us ks : List NestedUnit)
    → ((scan_from (reading_behind r u.unit.bytes) (bytes_of us)).1 ≡ Between → Same (reading_behind r u.unit.bytes) ks us)
    → (scan_from r (bytes_of (u ∷ us))).1 ≡ Between → Same r (u ∷ ks) (u ∷ us)
stays r u us ks f end =
    let whole = scan_behind r u.unit.bytes (bytes_of us) in
    scan_behind r u.unit.bytes (bytes_of ks) ∙ ap (after_tokens (scan_from r u.unit.bytes).0) (f (sym (ap (λ z. z.1) whole) ∙ end)) ∙ sym whole

kept_same : (drops : List ℕ → Bool) (was : Bool) (r : Reading) (us : List NestedUnit) → Begin drops → AreLines us → comments_apart was drops r us ≡ true
    → (scan_from r (bytes_of us)).1 ≡ Between → Same r (kept_after was drops us) us
kept_same drops was r [] b h a end = refl
kept_same drops was r (u ∷ us) b h a end = by_test (goes was drops u)
    (λ t.
    let here : (apart_at r u && comments_apart true drops Between us) ≡ true =
    sym (ap (λ c. if c then apart_at r u && comments_apart true drops Between us else comments_apart false drops (reading_behind r u.unit.bytes) us) t) ∙ a in
    let at = first (apart_at r u) (comments_apart true drops Between us) here in
    let between : r ≡ Between = between_is r (first (is_between r) (not (has_form_feed u.unit.bytes)) at) in
    let plain : has_form_feed u.unit.bytes ≡ false = flipped (has_form_feed u.unit.bytes) (second (is_between r) (not (has_form_feed u.unit.bytes)) at) in
    let line = goes_begins drops was u b t in
    ap (λ c. scan_from r (bytes_of (if c then kept_after true drops us else u ∷ kept_after false drops us))) t
    ∙ subst (λ q. (scan_from q (bytes_of (u ∷ us))).1 ≡ Between → Same q (kept_after true drops us) (u ∷ us)) (sym between)
    (gone u us (kept_after true drops us) (h.0 line.0 line.1 plain) (kept_same drops true Between us b h.1 (second (apart_at r u) (comments_apart true drops Between us) here))) end)
    (λ f.
    let here : comments_apart false drops (reading_behind r u.unit.bytes) us ≡ true =
    sym (ap (λ c. if c then apart_at r u && comments_apart true drops Between us else comments_apart false drops (reading_behind r u.unit.bytes) us) f) ∙ a in
    ap (λ c. scan_from r (bytes_of (if c then kept_after true drops us else u ∷ kept_after false drops us))) f
    ∙ stays r u us (kept_after false drops us) (kept_same drops false (reading_behind r u.unit.bytes) us b h.1 here) end)
  where
    flipped : (t : Bool) → not t ≡ true → t ≡ false
    flipped true e = sym e
    flipped false e = refl

nested_bytes : (d : ℕ) (us : List TextUnit) → bytes_of (nested_from d us) ≡ flat_map (λ u. u.bytes) us
nested_bytes d [] = refl
nested_bytes d (u ∷ us) = ap (λ l. u.bytes ++ l) (nested_bytes (depth_after d u) us)

-- a text that doesn't end with a line end gets one
one_end : (b : Bool) (x : ℕ) (P : List ℕ → Type 0) → P (x ∷ []) → P (x ∷ line_feed ∷ []) → P (if b then x ∷ [] else x ∷ line_feed ∷ [])
one_end true x P p q = p
one_end false x P p q = q

either_end : (text : List ℕ) (P : List ℕ → Type 0) → P text → P (text ++ line_feed ∷ []) → P (ended text)
either_end [] P p q = p
either_end (b ∷ []) P p q = one_end (is_end b) b P p q
either_end (b ∷ c ∷ bs) P p q = either_end (c ∷ bs) (λ l. P (b ∷ l)) p q

with_end : (text : List ℕ) → EndsBetweenTokens text → scan_from Between (ended text) ≡ scan_from Between text
with_end text e = either_end text (λ l. scan_from Between l ≡ scan_from Between text) refl
    (complete_then text (line_feed ∷ []) e ∙ ap (λ ts. (ts, Between)) (append-nil (scan_from Between text).0) ∙ ap (λ r. ((scan_from Between text).0, r)) (sym e))

page_kept : (page : List ℕ) (x : Result (List TextUnit) FaultyBlock) → cut page ≡ x → apart_in x ≡ true → EndsBetweenTokens page
    → (tokens (body_text (prepared page)) ≡ tokens page) × EndsBetweenTokens (body_text (prepared page))
page_kept page (Err fault) e a c = absurd (true≢false (sym a))
page_kept page (Ok us) e a c =
    let all : List NestedUnit = nested us in
    let some : List NestedUnit = kept drops_in_page all in
    let whole : bytes_of all ≡ page = nested_bytes 0 us ∙ units_make_text page us e in
    let end : (scan_from Between (bytes_of all)).1 ≡ Between = ap (λ l. (scan_from Between l).1) whole ∙ c in
    let same : scan_from Between (bytes_of some) ≡ scan_from Between (bytes_of all) =
    kept_same drops_in_page false Between all body_begins (nested_lines 0 page us ((cut_is_units page us).0 e)) a end in
    let complete : EndsBetweenTokens (bytes_of some) = ap (λ x. x.1) same ∙ end in
    let body : body_text (prepared page) ≡ ended (bytes_of some) = ap (λ r. body_text (r >>= λ vs. Ok (ended (bytes_of (kept drops_in_page (nested vs)))))) e in
    let read : scan_from Between (body_text (prepared page)) ≡ scan_from Between page =
    ap (scan_from Between) body ∙ with_end (bytes_of some) complete ∙ same ∙ ap (scan_from Between) whole in
    (ap (λ x. x.0 ++ Scanner.ended_token x.1) read, ap (λ x. x.1) read ∙ c)

pub kept_runs_alike : KeptRunsAlike
kept_runs_alike page a c = page_kept page (cut page) refl a c

-- The preamble.

refused : {A : Type 0} (b : Bool) (fault : DocumentFault) (next : Result A DocumentFault) (x : A) → refuse_if b fault next ≡ Ok x → next ≡ Ok x
refused true fault next x e = absurd (apart_results fault x e)
refused false fault next x e = e

units_of : (x : Result (List TextUnit) FaultyBlock) (us : List NestedUnit) → (of_block x >>= λ vs. with_pages (nested vs)) ≡ Ok us
    → (vs : List TextUnit) × (x ≡ Ok vs) × (nested vs ≡ us)
units_of (Err fault) us e = absurd (apart_results _ us e)
units_of (Ok vs) us e = (
  vs,
  refl,
  same_ok (nested vs) us (refused _ NoPages (Ok (nested vs)) us (refused _ InputTooManyPages (refuse_if _ NoPages (Ok (nested vs))) us e)),
)

-- the units of an accepted document are those of its text
pub cut_of : (text : List ℕ) (us : List NestedUnit) → document_of text ≡ Ok us → (vs : List TextUnit) × (cut text ≡ Ok vs) × (nested vs ≡ us)
cut_of text us e = units_of (cut text) us (refused _ NotPostScript _ us (refused _ InputTooLong _ us e))

pub document_lines : (text : List ℕ) (us : List NestedUnit) → document_of text ≡ Ok us → AreLines us
document_lines text us e =
    let z = cut_of text us e in
    subst AreLines z.2 (nested_lines 0 text z.0 ((cut_is_units text z.0).0 z.1))

-- the text ends between tokens, so it is these tokens
complete_is : (a : List ℕ) → EndsBetweenTokens a → Reads Between a (scan_from Between a).0 Between
complete_is a e = ap (λ r. ((scan_from Between a).0, r)) e

-- what is put after the first unit has no tokens
put_same : (put : List ℕ) (u : NestedUnit) (us : List NestedUnit) → Reads Between put [] Between → first_is_complete (u ∷ us) ≡ true
    → scan_from Between ((u.unit.bytes ++ put) ++ bytes_of us) ≡ scan_from Between (bytes_of (u ∷ us))
put_same put u us none e =
    let a : List ℕ = u.unit.bytes in
    let ts : List Token = (scan_from Between a).0 in
    let rest : List ℕ = bytes_of us in
    let first_read : Reads Between a ts Between = complete_is a (between_is (reading_behind Between a) e) in
    scan_behind Between (a ++ put) rest
    ∙ ap (λ x. after_tokens x.0 (scan_from x.1 rest)) (reads_join Between Between Between a put ts [] first_read none)
    ∙ ap (λ l. after_tokens l (scan_from Between rest)) (append-nil ts)
    ∙ sym (scan_behind Between a rest ∙ ap (λ x. after_tokens x.0 (scan_from x.1 rest)) first_read)

-- lines that are put there, after the number of sheets
lines_same : (sheets : ℕ) (lines : List (List ℕ)) (ks : List NestedUnit) → Reads Between (lines_text lines) [] Between → first_is_complete ks ≡ true
    → scan_from Between (with_lines sheets lines ks) ≡ scan_from Between (bytes_of ks)
lines_same sheets lines [] none e = refl
lines_same sheets lines (u ∷ ks) none e =
    let count : List ℕ = line (codes "%%Pages: " ++ decimal sheets) in
    ap (λ l. scan_from Between (l ++ bytes_of ks)) (append_assoc u.unit.bytes count (lines_text lines))
    ∙ put_same (count ++ lines_text lines) u ks (reads_join Between Between Between count (lines_text lines) [] [] (count_line sheets) none) e

count_same : (sheets : ℕ) (ks : List NestedUnit) → first_is_complete ks ≡ true → scan_from Between (with_count sheets ks) ≡ scan_from Between (bytes_of ks)
count_same sheets [] e = refl
count_same sheets (u ∷ ks) e = put_same (line (codes "%%Pages: " ++ decimal sheets)) u ks (count_line sheets) e

-- a preamble whose first part has the tokens of what is kept of the document's runs like the document's
abbrev RunsAlike : List ℕ → List NestedUnit → Type 0
RunsAlike first us = (tokens (ended first) ≡ tokens (bytes_of (preamble us))) × EndsBetweenTokens (ended first)

begun_alike : (lines : List (List ℕ)) (first_text text : List ℕ) (us : List NestedUnit) → document_of text ≡ Ok us → comments_apart_with lines us ≡ true → EndsBetweenTokens (bytes_of (preamble us))
    → (first_is_complete (kept (drops_with lines) (preamble us)) ≡ true → scan_from Between first_text ≡ scan_from Between (bytes_of (kept (drops_with lines) (preamble us))))
    → RunsAlike first_text us
begun_alike lines first_text text us e a c f =
    let all : List NestedUnit = preamble us in
    let some : List NestedUnit = kept (drops_with lines) all in
    let apart : Bool = comments_apart false (drops_with lines) Between all in
    let same : scan_from Between (bytes_of some) ≡ scan_from Between (bytes_of all) =
    kept_same (drops_with lines) false Between all (begins_with lines) (lines_up_to begins_page us (document_lines text us e)) (first apart (first_is_complete some) a) c in
    let begun : scan_from Between first_text ≡ scan_from Between (bytes_of all) = f (second apart (first_is_complete some) a) ∙ same in
    let read : scan_from Between (ended first_text) ≡ scan_from Between (bytes_of all) =
    with_end first_text (ap (λ x. x.1) begun ∙ c) ∙ begun in
    (ap (λ x. x.0 ++ Scanner.ended_token x.1) read, ap (λ x. x.1) read ∙ c)

pub preamble_runs_alike : PreambleRunsAlike
preamble_runs_alike sheets text us e a c =
    begun_alike [] (with_count sheets (kept drops_in_header (preamble us))) text us e a c (count_same sheets (kept drops_in_header (preamble us)))

-- and so does one that has lines without tokens in its header
pub dressed_runs_alike : (sheets : ℕ) (lines : List (List ℕ)) (text : List ℕ) (us : List NestedUnit) → Reads Between (lines_text lines) [] Between → document_of text ≡ Ok us
    → comments_apart_with lines us ≡ true → EndsBetweenTokens (bytes_of (preamble us))
    → (tokens (dressed_preamble sheets lines us) ≡ tokens (bytes_of (preamble us))) × EndsBetweenTokens (dressed_preamble sheets lines us)
dressed_runs_alike sheets lines text us none e a c =
    begun_alike lines (with_lines sheets lines (kept (drops_with lines) (preamble us))) text us e a c (lines_same sheets lines (kept (drops_with lines) (preamble us)) none)
