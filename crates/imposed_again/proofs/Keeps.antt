-- What a filter keeps is a row again, nested as before.
use Rattle.std.specs.Prelude.{Some, None, codes, not, if◌then◌else◌}
use Rattle.std.specs.List.{starts_with, list_any, take_while}
use Rattle.std.specs.Str.{bytes_eq}
use Rattle.std.proofs.Common.{nat_eq, ◌==◌, ◌||◌, ◌&&◌, cond, Bool, true, false, ◌≡◌, ℕ, ◌+◌, ◌-◌, ◌<◌, List, [], ◌∷◌, ◌++◌, length, take, drop, refl, ap, arith, sym, ◌∙◌}
use Rattle.std.proofs.lemmas.List.{take-append-drop}
use Rattle.std.proofs.lemmas.List.Sums.{take_while-cons}
use Rattle.std.proofs.lemmas.Slice.Eq.{bytes_eq-Decides}
use Rattle.rules.specs.Units.{TextUnit, key, has_key, is_blank}
use Rattle.rules.specs.Parts.{NestedUnit, depth_after, nested_from, bytes_of, is_outermost_line}
use Rattle.rules.specs.Filters.{continues, kept_after, drops_in_page}
use Rattle.rules.specs.MadeOutput.{drops_with}
use Rattle.dsc.proofs.Cases.{by_test}
use Rattle.imposed_again.specs.Seams.{joined, passes}
use Rattle.imposed_again.proofs.Keys.{not_key}
use Rattle.imposed_again.proofs.Splits.{at_depth, passes_cons}
use Rattle.imposed_again.proofs.Recut.{Row}

abbrev pub is_dropped : Bool → (List ℕ → Bool) → NestedUnit → Bool
is_dropped was drops u = (is_outermost_line u && drops u.unit.content) || (was && continues u)

-- what is kept, as units
abbrev pub kept_units : Bool → (List ℕ → Bool) → ℕ → List TextUnit → List TextUnit
kept_units was drops d [] = []
kept_units was drops d (u ∷ us) =
    if is_dropped was drops (at_depth d u) then kept_units true drops (depth_after d u) us else u ∷ kept_units false drops (depth_after d u) us

pub kept_bytes : (was : Bool) (drops : List ℕ → Bool) (d : ℕ) (us : List TextUnit) → bytes_of (kept_after was drops (nested_from d us)) ≡ joined (kept_units was drops d us)
kept_bytes was drops d [] = refl
kept_bytes was drops d (u ∷ us) =
    turn (is_dropped was drops (at_depth d u)) (kept_bytes true drops (depth_after d u) us) (kept_bytes false drops (depth_after d u) us)
  where
    turn : (b : Bool) → bytes_of (kept_after true drops (nested_from (depth_after d u) us)) ≡ joined (kept_units true drops (depth_after d u) us)
        → bytes_of (kept_after false drops (nested_from (depth_after d u) us)) ≡ joined (kept_units false drops (depth_after d u) us)
        → bytes_of (if b then kept_after true drops (nested_from (depth_after d u) us) else at_depth d u ∷ kept_after false drops (nested_from (depth_after d u) us))
        ≡ joined (if b then kept_units true drops (depth_after d u) us else u ∷ kept_units false drops (depth_after d u) us)
    turn true e f = e
    turn false e f = ap (λ x. u.bytes ++ x) f

none_more : (was : Bool) (drops : List ℕ → Bool) (d : ℕ) (us : List TextUnit) → 0 < length (kept_units was drops d us) → 0 < length us
none_more was drops d [] h = h
none_more was drops d (u ∷ us) h = omega arith

pub kept_row : (was : Bool) (drops : List ℕ → Bool) (d : ℕ) (us : List TextUnit) → Row us → Row (kept_units was drops d us)
kept_row was drops d [] h = h
kept_row was drops d (u ∷ us) h = turn (is_dropped was drops (at_depth d u)) (kept_row true drops (depth_after d u) us h.3) (kept_row false drops (depth_after d u) us h.3)
  where
    turn : (b : Bool) → Row (kept_units true drops (depth_after d u) us) → Row (kept_units false drops (depth_after d u) us)
        → Row (if b then kept_units true drops (depth_after d u) us else u ∷ kept_units false drops (depth_after d u) us)
    turn true e f = e
    turn false e f = (h.0, h.1, (λ l. h.2 (none_more false drops (depth_after d u) us l)), f)

-- Dropped lines leave the depth as it was.

abbrev pub Mild : (List ℕ → Bool) → Type 0
Mild drops = (content : List ℕ) → drops content ≡ true → (has_key (codes "%%BeginDocument" ∷ []) content ≡ false) × (has_key (codes "%%EndDocument" ∷ []) content ≡ false)

abbrev pub header_key : List ℕ → Bool
header_key k = list_any (bytes_eq k) (codes "%%Pages" ∷ codes "%%PageOrder" ∷ codes "%%BoundingBox" ∷ codes "%%HiResBoundingBox" ∷ codes "%%DocumentMedia" ∷ codes "%%Orientation" ∷ [])

abbrev pub paper_key : List ℕ → Bool
paper_key k = header_key k || list_any (bytes_eq k) (codes "%%DocumentPaperSizes" ∷ [])

abbrev pub page_key : List ℕ → Bool
page_key k = starts_with nat_eq k (codes "%%Page") || list_any (bytes_eq k) (codes "%%BeginPageSetup" ∷ codes "%%EndPageSetup" ∷ [])

pub mild_with : (lines : List (List ℕ)) → Mild (drops_with lines)
mild_with [] content h = (not_key (codes "%%BeginDocument") content header_key h refl, not_key (codes "%%EndDocument") content header_key h refl)
mild_with (l ∷ lines) content h = (not_key (codes "%%BeginDocument") content paper_key h refl, not_key (codes "%%EndDocument") content paper_key h refl)

pub page_mild : Mild drops_in_page
page_mild content h = (not_key (codes "%%BeginDocument") content page_key h refl, not_key (codes "%%EndDocument") content page_key h refl)

three_on : (text : List ℕ) → starts_with nat_eq text (codes "%%+") ≡ true → text ≡ 37 ∷ 37 ∷ 43 ∷ drop 3 text
three_on text h = sym (take-append-drop 3 text) ∙ ap (λ t. t ++ drop 3 text) (sym ((bytes_eq-Decides (codes "%%+") (take 3 text)).0 h))

two_of : (q : ℕ → Bool) (a b c : ℕ) (rest : List ℕ) → q a ≡ true → q b ≡ true → q c ≡ true → take_while q (a ∷ b ∷ c ∷ rest) ≡ a ∷ b ∷ c ∷ take_while q rest
two_of q a b c rest e f g =
    take_while-cons q a (b ∷ c ∷ rest) ∙ ap (λ t. cond t (a ∷ take_while q (b ∷ c ∷ rest)) []) e
    ∙ ap (λ t. a ∷ t) (take_while-cons q b (c ∷ rest) ∙ ap (λ t. cond t (b ∷ take_while q (c ∷ rest)) []) f
    ∙ ap (λ t. b ∷ t) (take_while-cons q c rest ∙ ap (λ t. cond t (c ∷ take_while q rest) []) g))

abbrev plus_key : List ℕ → Bool
plus_key k = starts_with nat_eq k (codes "%%+")

more_key : (content : List ℕ) → starts_with nat_eq content (codes "%%+") ≡ true → plus_key (key content) ≡ true
more_key content h = ap (λ c. plus_key (key c)) (three_on content h) ∙ ap plus_key (two_of (λ b. not (is_blank b || (b == 58))) 37 37 43 (drop 3 content) refl refl refl)

and_second : (a b : Bool) → (a && b) ≡ true → b ≡ true
and_second true b e = e
and_second false b e = cc

mild_of : (was : Bool) (drops : List ℕ → Bool) (o : Bool) (u : NestedUnit) → Mild drops → ((o && drops u.unit.content) || (was && continues u)) ≡ true
    → (has_key (codes "%%BeginDocument" ∷ []) u.unit.content ≡ false) × (has_key (codes "%%EndDocument" ∷ []) u.unit.content ≡ false)
mild_of was drops o u m h = by_test (o && drops u.unit.content)
    (λ is. m u.unit.content (and_second o (drops u.unit.content) is))
    (λ isnt.
    let plus : plus_key (key u.unit.content) ≡ true =
    more_key u.unit.content (and_second (not u.unit.is_block) _ (and_second was (continues u) (sym (ap (λ t. t || (was && continues u)) isnt) ∙ h))) in
    (not_key (codes "%%BeginDocument") u.unit.content plus_key plus refl, not_key (codes "%%EndDocument") u.unit.content plus_key plus refl))

pub depth_stays : (d : ℕ) (u : TextUnit) → has_key (codes "%%BeginDocument" ∷ []) u.content ≡ false → has_key (codes "%%EndDocument" ∷ []) u.content ≡ false → depth_after d u ≡ d
depth_stays d u b e = turn u.is_block (has_key (codes "%%BeginDocument" ∷ []) u.content) (has_key (codes "%%EndDocument" ∷ []) u.content) b e
  where
    turn : (k p q : Bool) → p ≡ false → q ≡ false → (if k then d else (if p then d + 1 else (if q then d - 1 else d))) ≡ d
    turn true p q e f = refl
    turn false true q e f = cc
    turn false false true e f = cc
    turn false false false e f = refl

-- if all units pass, the kept ones pass too, and leave the same depth
pub kept_passes : (t : NestedUnit → Bool) (was : Bool) (drops : List ℕ → Bool) (d : ℕ) (us : List TextUnit) (e : ℕ) → Mild drops → passes t d us ≡ Some e → passes t d (kept_units was drops d us) ≡ Some e
kept_passes t was drops d [] e m h = h
kept_passes t was drops d (u ∷ us) e m h =
    let w = passes_cons t d u us e h in
    by_test (is_dropped was drops (at_depth d u))
    (λ is.
    let m2 = mild_of was drops (is_outermost_line (at_depth d u)) (at_depth d u) m is in
    let stays : depth_after d u ≡ d = depth_stays d u m2.0 m2.1 in
    ap (λ b. passes t d (if b then kept_units true drops (depth_after d u) us else u ∷ kept_units false drops (depth_after d u) us)) is
    ∙ ap (λ k. passes t k (kept_units true drops (depth_after d u) us)) (sym stays)
    ∙ kept_passes t true drops (depth_after d u) us e m w.1)
    (λ isnt.
    ap (λ b. passes t d (if b then kept_units true drops (depth_after d u) us else u ∷ kept_units false drops (depth_after d u) us)) isnt
    ∙ ap (λ b. if b then None else passes t (depth_after d u) (kept_units false drops (depth_after d u) us)) w.0
    ∙ kept_passes t false drops (depth_after d u) us e m w.1)
