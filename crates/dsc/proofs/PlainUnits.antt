-- Lines that don't begin with two percent signs mean nothing.
use Rattle.std.specs.Prelude.{Ok, Some, None, codes, map}
use Rattle.std.specs.List.{starts_with, prefix_len}
use Rattle.std.specs.Str.{bytes_eq}
use Rattle.std.proofs.lemmas.Bool.{false≢true}
use Rattle.std.proofs.lemmas.Slice.Eq.{bytes_eq-Decides}
use Rattle.std.proofs.Common.{Bool, false, nat_eq, not, ◌||◌, ◌&&◌, ◌==◌, if◌then◌else◌, ◌≡◌, ℕ, ◌+◌, ◌-◌, List, [], ◌∷◌, length, take, refl, ap, arith, length-take, sym, ◌∙◌}
use Rattle.rules.specs.Units.{TextUnit, is_blank, key, has_key, fields, content_of, line_len, first_unit}
use Rattle.rules.specs.Parts.{NestedUnit, depth_after, is_outermost_line, begins_page, begins_trailer}
use Rattle.rules.specs.Filters.{continues, drops_in_header}
use Rattle.dsc.specs.Filters.{drops_of, is_dropped}
use Rattle.dsc.specs.TrailerBoxes.{box_in}
use Rattle.dsc.specs.declared.filters.Drops.{Drops}
use Rattle.dsc.specs.declared.filters.Drops.TheVariants.{PageSetup, DocumentSetup, SetupAndPapers}
use Rattle.dsc.proofs.Cases.{by_test, and_false}
use Rattle.dsc.proofs.Headings.{unbegun, unheaded}
use Rattle.dsc.proofs.LineLengths.{line_len-within}
use Rattle.dsc.proofs.PlainLines.{PAIR, content_begins}

-- the content of a line that doesn't begin with two percent signs
abbrev pub IsPlain : List ℕ → Type 0
IsPlain content = starts_with nat_eq content (codes "%%") ≡ false

abbrev pub line_unit : List ℕ → TextUnit
line_unit text = record { content = content_of text; bytes = take (line_len text) text; is_block = false }

pub line_bytes : (text : List ℕ) → length (take (line_len text) text) ≡ line_len text
line_bytes text = let fits = line_len-within text in let size = length-take (line_len text) text in omega (arith, fits, size)

pub plain_unit : (text : List ℕ) → IsPlain (content_of text) → first_unit text ≡ Ok (line_unit text)
plain_unit text h = rw (unheaded (content_of text) (unbegun (content_of text) (codes "%%") (codes "Begin") h)) refl

-- keys that such a line can't have
key_plain : (content : List ℕ) → IsPlain content → starts_with nat_eq (key content) (codes "%%") ≡ false
key_plain content h = by_test (starts_with nat_eq (key content) (codes "%%"))
    (λ is.
    let begins : PAIR ≡ take 2 content = content_begins (prefix_len (λ b. not (is_blank b || (b == 58))) content) content ((bytes_eq-Decides PAIR (take 2 (key content))).0 is) in
    absurd (false≢true (sym h ∙ (bytes_eq-Decides PAIR (take 2 content)).1 begins)))
    (λ isnt. isnt)

pub no_key : (content name : List ℕ) → IsPlain content → bytes_eq (key content) (37 ∷ 37 ∷ name) ≡ false
no_key content name h = by_test (bytes_eq (key content) (37 ∷ 37 ∷ name))
    (λ is.
    let same : key content ≡ 37 ∷ 37 ∷ name = (bytes_eq-Decides (key content) (37 ∷ 37 ∷ name)).0 is in
    absurd (false≢true (sym (key_plain content h) ∙ ap (λ k. starts_with nat_eq k (codes "%%")) same)))
    (λ isnt. isnt)

no_keys : (names : List (List ℕ)) (content : List ℕ) → IsPlain content → has_key (map (λ name. 37 ∷ 37 ∷ name) names) content ≡ false
no_keys [] content h = refl
no_keys (name ∷ names) content h = ap (λ t. t || has_key (map (λ n. 37 ∷ 37 ∷ n) names) content) (no_key content name h) ∙ no_keys names content h

pub plain_depth : (d : ℕ) (text : List ℕ) → IsPlain (content_of text) → depth_after d (line_unit text) ≡ d
plain_depth d text h =
    ap (λ t. if t then d + 1 else (if has_key (codes "%%EndDocument" ∷ []) (content_of text) then d - 1 else d)) (no_keys (codes "BeginDocument" ∷ []) (content_of text) h)
    ∙ ap (λ t. if t then d - 1 else d) (no_keys (codes "EndDocument" ∷ []) (content_of text) h)

pub plain_page : (u : NestedUnit) → IsPlain u.unit.content → begins_page u ≡ false
plain_page u h =
    ap (λ t. is_outermost_line u && (t && starts_with nat_eq u.unit.content (codes "%%Page:"))) (no_keys (codes "Page" ∷ []) u.unit.content h)
    ∙ and_false (is_outermost_line u)

pub plain_trailer : (u : NestedUnit) → IsPlain u.unit.content → begins_trailer u ≡ false
plain_trailer u h = ap (λ t. is_outermost_line u && t) (no_keys (codes "Trailer" ∷ codes "EOF" ∷ []) u.unit.content h) ∙ and_false (is_outermost_line u)

pub plain_box : (u : NestedUnit) → IsPlain u.unit.content → box_in u ≡ None
plain_box u h =
    ap (λ t. if is_outermost_line u && (t && starts_with nat_eq u.unit.content (codes "%%BoundingBox:")) then Some (fields u.unit.content) else None) (no_keys (codes "BoundingBox" ∷ []) u.unit.content h)
    ∙ ap (λ t. if t then Some (fields u.unit.content) else None) (and_false (is_outermost_line u))

plain_header : (content : List ℕ) → IsPlain content → drops_in_header content ≡ false
plain_header content h =
    no_keys (codes "Pages" ∷ codes "PageOrder" ∷ codes "BoundingBox" ∷ codes "HiResBoundingBox" ∷ codes "DocumentMedia" ∷ codes "Orientation" ∷ []) content h

plain_drops : (drops : Drops) (content : List ℕ) → IsPlain content → drops_of drops content ≡ false
plain_drops PageSetup content h =
    ap (λ t. t || has_key (codes "%%BeginPageSetup" ∷ codes "%%EndPageSetup" ∷ []) content) (unbegun (key content) (codes "%%") (codes "Page") (key_plain content h))
    ∙ no_keys (codes "BeginPageSetup" ∷ codes "EndPageSetup" ∷ []) content h
plain_drops DocumentSetup content h = plain_header content h
plain_drops SetupAndPapers content h =
    ap (λ t. t || has_key (codes "%%DocumentPaperSizes" ∷ []) content) (plain_header content h) ∙ no_keys (codes "DocumentPaperSizes" ∷ []) content h

pub plain_kept : (drops : Drops) (was : Bool) (u : NestedUnit) → IsPlain u.unit.content → is_dropped drops was u ≡ false
plain_kept drops was u h =
    ap (λ t. (is_outermost_line u && t) || (was && continues u)) (plain_drops drops u.unit.content h)
    ∙ ap (λ t. t || (was && continues u)) (and_false (is_outermost_line u))
    ∙ ap (λ t. was && (not u.unit.is_block && t)) (unbegun u.unit.content (codes "%%") (codes "+") h)
    ∙ ap (λ t. was && t) (and_false (not u.unit.is_block)) ∙ and_false was
