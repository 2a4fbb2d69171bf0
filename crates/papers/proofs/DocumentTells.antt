-- What a document says.
use Rattle.std.specs.Prelude.{Option, Some, None, IfSome, option_map, option_and_then, codes, slice_index_or}
use Rattle.std.proofs.Common.{arith, suc, ◌<◌, ◌≡◌, ℕ, List, [], ◌∷◌, length, map, replicate, take, refl, ap, sym, ◌∙◌}
use Rattle.rules.specs.Papers.{Paper}
use Rattle.rules.specs.Parts.{NestedUnit, bytes_of, pages}
use Rattle.dsc.specs.Header.{header_len}
use Rattle.dsc.specs.Fields.{fields_in}
use Rattle.dsc.specs.Units.{units_of}
use Rattle.paper_names.specs.Names.{paper_named}
use Rattle.papers.specs.Media.{box_of, box_paper, comment_fields, comment_value, comment_values, contents, given_by_comments, else_take, header, lying_as, media_paper, name_in, or_box, or_named, paper_of_box, trailer_lines, usual_in}
use Rattle.papers.specs.Media as of_document
use Rattle.papers.specs.declared.media.Comment.{Comment}
use Rattle.papers.specs.declared.media.Comment.TheVariants.{BoundingBox}
use Rattle.papers.specs.Comments.{first_medium, first_named, first_named_in, medium_of_page, named_medium, page_head, given_by_document}
use Rattle.papers.specs.Own.{medium_by, or_this, own_paper, papers_of_each_page, page_or}

same_name : (fs : List (List ℕ)) → of_document.paper_of_first_name fs ≡ first_named paper_named fs
same_name [] = refl
same_name (field ∷ more) = ap (else_take (paper_named (name_in field))) (same_name more)

same_names : (values : List (List ℕ)) → of_document.paper_of_first_name_in values ≡ first_named_in paper_named values
same_names [] = refl
same_names (value ∷ more) =
    ap (λ p. else_take p (of_document.paper_of_first_name_in more)) (same_name (fields_in value)) ∙ ap (else_take (first_named paper_named (fields_in value))) (same_names more)

abbrev paper_told : Option (Paper × Comment) → Option Paper
paper_told told = option_map (λ p. p.0) told

boxed : (b : Option Paper) → paper_told (option_map (λ paper. (paper, BoundingBox)) b) ≡ b
boxed (Some paper) = refl
boxed None = refl

named_or_boxed : (usual : Paper) (box : Option (List (List ℕ))) (n : Option Paper)
    → paper_told (or_box usual box n) ≡ else_take (option_map (lying_as (option_and_then box_paper box)) n) (option_and_then (paper_of_box usual) box)
named_or_boxed usual box (Some paper) = refl
named_or_boxed usual box None = boxed (option_and_then (paper_of_box usual) box)

abbrev names : List (List ℕ) → List (List ℕ)
names lines = comment_values (codes "%%DocumentPaperSizes") lines

by_media : (usual : Paper) (lines trailer : List (List ℕ)) (m : Option Paper)
    → paper_told (or_named usual lines trailer m)
    ≡ else_take m (else_take (option_map (lying_as (option_and_then box_paper (box_of lines trailer))) (first_named_in paper_named (names lines))) (option_and_then (paper_of_box usual) (box_of lines trailer)))
by_media usual lines trailer (Some paper) = refl
by_media usual lines trailer None =
    let box : Option (List (List ℕ)) = box_of lines trailer in
    named_or_boxed usual box (of_document.paper_of_first_name_in (names lines))
    ∙ ap (λ n. else_take (option_map (lying_as (option_and_then box_paper box)) n) (option_and_then (paper_of_box usual) box)) (same_names (names lines))

pub document_tells : (usual : Paper) (text : List ℕ)
    → option_map (λ p. p.0) (given_by_comments usual text) ≡ given_by_document paper_named usual (header text) (trailer_lines (units_of text))
document_tells usual text = by_media usual (header text) (trailer_lines (units_of text)) (option_and_then media_paper (comment_value (codes "%%DocumentMedia") (header text)))

-- and else this
pub told_found : (text : List ℕ) (other : Paper) (r : Option (Paper × Comment)) (p : Paper × Comment) → r ≡ given_by_comments other text → r ≡ Some p
    → p.0 ≡ or_this (given_by_document paper_named other (header text) (trailer_lines (units_of text))) other
told_found text other r p e s = ap (λ t. or_this (paper_told t) other) (sym s ∙ e) ∙ ap (λ o. or_this o other) (document_tells other text)

pub none_found : (text : List ℕ) (other : Paper) (r : Option (Paper × Comment)) → r ≡ given_by_comments other text → r ≡ None
    → other ≡ or_this (given_by_document paper_named other (header text) (trailer_lines (units_of text))) other
none_found text other r e s = ap (λ t. or_this (paper_told t) other) (sym s ∙ e) ∙ ap (λ o. or_this o other) (document_tells other text)

-- with the same medium for its name a page has the same paper
same_named : (f g : List ℕ → Option Paper) (name : Option (List ℕ)) → IfSome name (λ at. f at ≡ g at) → option_and_then f name ≡ option_and_then g name
same_named f g None same = refl
same_named f g (Some name) same = same

same_medium : (f g : List ℕ → Option Paper) (value : Option (List ℕ)) → IfSome (option_and_then first_medium value) (λ at. f at ≡ g at)
    → option_and_then (named_medium f) value ≡ option_and_then (named_medium g) value
same_medium f g None same = refl
same_medium f g (Some value) same = same_named f g (first_medium value) same

same_page : (f g : List ℕ → Option Paper) (head : List (List ℕ)) (other : Paper) → IfSome (medium_of_page head) (λ at. f at ≡ g at) → page_or f head other ≡ page_or g head other
same_page f g head other same =
    ap (λ n. or_this (else_take n (option_and_then (paper_of_box other) (comment_fields (codes "%%PageBoundingBox") head))) other)
    (same_medium f g (comment_value (codes "%%PageMedia") head) same)

pub same_pages : (f g : List ℕ → Option Paper) (other : Paper) (ps : List (List ℕ))
    → ((k : ℕ) → k < length ps → IfSome (medium_of_page (page_head (slice_index_or ps k []))) (λ at. f at ≡ g at))
    → map (λ page. page_or f (page_head page) other) ps ≡ map (λ page. page_or g (page_head page) other) ps
same_pages f g other [] same = refl
same_pages f g other (p ∷ ps) same =
    ap (λ q. q ∷ map (λ page. page_or f (page_head page) other) ps) (same_page f g (page_head p) other (same 0 (omega arith)))
    ∙ ap (λ qs. page_or g (page_head p) other ∷ qs) (same_pages f g other ps (λ k less. same (suc k) (omega (arith, less))))

-- what each page says, and else its document, is its own
pub each_is_own : (us : List NestedUnit) (text head : List ℕ) (n : ℕ) (other home usual : Paper) → text ≡ bytes_of us → us ≡ units_of text → n ≡ header_len text → head ≡ take n text
    → usual ≡ usual_in home text → other ≡ or_this (given_by_document paper_named usual (header text) (trailer_lines (units_of text))) usual
    → map (λ page. page_or (medium_by (contents head)) (page_head page) other) (pages us) ≡ papers_of_each_page None paper_named home (bytes_of us) us
each_is_own us text head n other home usual whole units len front set else_ =
    let headed : contents head ≡ header text = ap contents (front ∙ ap (λ k. take k text) len) in
    ap (λ hs. map (λ page. page_or (medium_by hs) (page_head page) other) (pages us)) headed
    ∙ ap (λ o. map (λ page. page_or (medium_by (header text)) (page_head page) o) (pages us))
    (else_ ∙ ap (λ u. or_this (given_by_document paper_named u (header text) (trailer_lines (units_of text))) u) set)
    ∙ ap (λ vs. map (own_paper paper_named (usual_in home text) (header text) (trailer_lines vs)) (pages us)) (sym units)
    ∙ ap (λ t. map (own_paper paper_named (usual_in home t) (header t) (trailer_lines us)) (pages us)) whole

-- one paper for all
one_for_all : {A : Type 0} (paper : Paper) (xs : List A) → replicate (length xs) paper ≡ map (λ x. paper) xs
one_for_all paper [] = refl
one_for_all paper (x ∷ xs) = ap (λ ps. paper ∷ ps) (one_for_all paper xs)

pub asked_for : (asked : Option Paper) (paper home : Paper) (text : List ℕ) (us : List NestedUnit) (n : ℕ) → n ≡ length (pages us) → asked ≡ Some paper
    → replicate n paper ≡ papers_of_each_page asked paper_named home text us
asked_for asked paper home text us n count is =
    ap (λ k. replicate k paper) count ∙ one_for_all paper (pages us) ∙ ap (λ a. papers_of_each_page a paper_named home text us) (sym is)
