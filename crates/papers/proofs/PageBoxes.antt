-- The box of a page.
use Rattle.std.specs.Prelude.{option_and_then, codes, get_or}
use Rattle.std.proofs.Common.{arith, ◌≡◌, ℕ, ◌<◌, ◌≤◌, List, [], Option, Some, None, drop, length, take, ap, sym, ◌∙◌}
use Rattle.std.proofs.lemmas.List.{get_or-map, get_or_past, length-map}
use Rattle.rules.specs.Units.{line_len}
use Rattle.rules.specs.Parts.{NestedUnit, bytes_of, pages}
use Rattle.dsc.specs.Header.{header_len}
use Rattle.dsc.specs.Units.{units_of}
use Rattle.papers.specs.Media.{box_of, comment_fields, contents, edges_of, header, trailer_lines}
use Rattle.papers.specs.Comments.{page_head}
use Rattle.papers.specs.Reach.{boxes_or, own_or, page_box, page_boxes, unless_named}
use Rattle.papers.proofs.Heads.{head, page_head_is}

told_there : (name page text : List ℕ) → text ≡ drop (line_len page) page → comment_fields name (page_head page) ≡ comment_fields name (head text)
told_there name page text at = ap (comment_fields name) (page_head_is page ∙ ap head (sym at))

-- the medium that a page names
abbrev medium_at : (page : List ℕ) → Option (List (List ℕ))
medium_at page = comment_fields (codes "%%PageMedia") (page_head page)

pub own_box : (page text : List ℕ) (document found : Option (List (List ℕ))) (fs : List (List ℕ)) → text ≡ drop (line_len page) page
    → found ≡ comment_fields (codes "%%PageBoundingBox") (head text) → found ≡ Some fs → edges_of fs ≡ page_box document page
own_box page text document found fs at e is =
    sym (ap (λ f. option_and_then edges_of (own_or f (unless_named (medium_at page) document)))
    (told_there (codes "%%PageBoundingBox") page text at ∙ sym e ∙ is))

pub no_box : (page text : List ℕ) (document found kept : Option (List (List ℕ))) → text ≡ drop (line_len page) page
    → found ≡ comment_fields (codes "%%PageBoundingBox") (head text) → found ≡ None
    → kept ≡ unless_named (comment_fields (codes "%%PageMedia") (head text)) document → option_and_then edges_of kept ≡ page_box document page
no_box page text document found kept at e is keeps =
    ap (option_and_then edges_of) keeps
    ∙ sym (ap (λ m. option_and_then edges_of (unless_named m document)) (told_there (codes "%%PageMedia") page text at))
    ∙ sym (ap (λ f. option_and_then edges_of (own_or f (unless_named (medium_at page) document)))
    (told_there (codes "%%PageBoundingBox") page text at ∙ sym e ∙ is))

pub medium_named : (document found named : Option (List (List ℕ))) (fs : List (List ℕ)) → found ≡ named → found ≡ Some fs → None ≡ unless_named named document
medium_named document found named fs e is = ap (λ m. unless_named m document) (sym is ∙ e)

pub no_medium : (document found named : Option (List (List ℕ))) → found ≡ named → found ≡ None → document ≡ unless_named named document
no_medium document found named e is = ap (λ m. unless_named m document) (sym is ∙ e)

-- with the box of the document whose text this is
pub each_box : (us : List NestedUnit) (text head : List ℕ) (n : ℕ) (document : Option (List (List ℕ))) → text ≡ bytes_of us → us ≡ units_of text → n ≡ header_len text → head ≡ take n text
    → document ≡ box_of (contents head) (trailer_lines (units_of text))
    → boxes_or document us ≡ page_boxes (bytes_of us) us
each_box us text head n document whole units len front is =
    let headed : contents head ≡ header text = ap contents (front ∙ ap (λ k. take k text) len) in
    ap (λ d. boxes_or d us)
    (is ∙ ap (λ hs. box_of hs (trailer_lines (units_of text))) headed
    ∙ ap (λ vs. box_of (header text) (trailer_lines vs)) (sym units)
    ∙ ap (λ t. box_of (header t) (trailer_lines us)) whole)

-- the box at a page, and after the last one
pub box_there : (document : Option (List (List ℕ))) (us : List NestedUnit) (n : ℕ) (page : List ℕ) → n < length (pages us) → page ≡ get_or (pages us) n []
    → page_box document page ≡ get_or (boxes_or document us) n None
box_there document us n page less is = ap (page_box document) is ∙ sym (get_or-map (page_box document) (pages us) n [] None less)

pub no_page : (document : Option (List (List ℕ))) (us : List NestedUnit) (n : ℕ) → length (pages us) ≤ n → None ≡ get_or (boxes_or document us) n None
no_page document us n past =
    let same = length-map (pages us) (page_box document) in
    sym (get_or_past (boxes_or document us) n None (omega (arith, same, past)))
