-- Papers that count as one, and the paper of all pages. All here is this project's own rules.
use Rattle.std.specs.Prelude.{◌≡◌, ◌↔◌, ℕ, zero, suc, ◌<◌, Bool, true, false, not, ◌&&◌, ◌||◌, if◌then◌else◌, List, [], ◌∷◌, length, map, fold, filter}
use Rattle.std.specs.Prelude.{Option, Some, None, slice_index_or, int_lt}
use Rattle.std.specs.List.{Contains, list_any, reduce}
use Rattle.std.specs.Ordering.{int_eq}
use Rattle.rules.specs.Papers.{Paper}
use Rattle.papers.specs.Own.{smallest_cover, covers, counts_as_one}
use Rattle.papers.specs.declared.kinds.PaperKind.{PaperKind}

-- ---- papers that count as one

-- the most kinds of papers (RULES, 12.4)
abbrev pub most_kinds : ℕ
most_kinds = 64

-- one is larger than the other: wider, or as wide and higher
abbrev pub is_larger : (one other : Paper) → Bool
is_larger a b = int_lt b.width a.width || (int_eq a.width b.width && int_lt b.height a.height)

abbrev pub larger_of : Paper → Paper → Paper
larger_of a b = if is_larger b a then b else a

-- the largest of these papers, if there is one
abbrev pub largest_of : List Paper → Option Paper
largest_of papers = reduce larger_of papers

-- a paper, made larger to cover one more if that is near to the first
abbrev pub with_near : (first paper other : Paper) → Paper
with_near first paper other = if counts_as_one other first then smallest_cover paper other else paper

-- the kind of those near to this one: the least paper that covers them
abbrev pub kind_of : (first : Paper) → List Paper → PaperKind
kind_of first papers = record { first = first; paper = fold (with_near first) first papers }

abbrev pub apart_from : (first : Paper) → List Paper → List Paper
apart_from first papers = filter (λ p. not (counts_as_one p first)) papers

-- kinds of papers, if there is room for so many: the largest makes one with those near to it, then the largest that is left
abbrev pub kinds : (room : ℕ) → List Paper → List PaperKind
kinds zero papers = []
kinds (suc room) [] = []
kinds (suc room) (p ∷ ps) =
    kind_of (fold larger_of p ps) (p ∷ ps) ∷ kinds room (apart_from (fold larger_of p ps) (p ∷ ps))

-- as which paper a paper counts: the least one that covers all of its kind, so that nothing is cut of one page for
-- another one's sake. A paper without a kind counts as itself
abbrev pub kind_paper : List PaperKind → Paper → Paper
kind_paper [] p = p
kind_paper (k ∷ ks) p = if counts_as_one p k.first then k.paper else kind_paper ks p

-- the papers of pages, as what they count among these
abbrev pub merge_near_sizes : (taken own : List Paper) → List Paper
merge_near_sizes taken own = map (kind_paper (kinds most_kinds taken)) own

-- each of these papers is covered by the one as which it counts: a law
abbrev pub NothingIsCut : Type 0
NothingIsCut = (taken own : List Paper) (k : ℕ) (d : Paper) → k < length own → Contains taken (slice_index_or own k d)
    → covers (slice_index_or (merge_near_sizes taken own) k d) (slice_index_or own k d) ≡ true

-- a paper is of kind i of these: near to its largest paper, and to that of no earlier kind
pub record IsOfKind (ks : List PaperKind) (i : ℕ) (d : PaperKind) (p : Paper) : Type 0 where
  pub is_there : i < length ks
  pub near : counts_as_one p (slice_index_or ks i d).first ≡ true
  pub of_no_earlier : (h : ℕ) → h < i → counts_as_one p (slice_index_or ks h d).first ≡ false

-- papers of one kind count as one, as those of the pages of `impose select 1-`: a law
abbrev pub NearAreOne : Type 0
NearAreOne = (taken own : List Paper) (i j k : ℕ) (d : PaperKind) (e : Paper) → j < length own → k < length own
    → IsOfKind (kinds most_kinds taken) i d (slice_index_or own j e) → IsOfKind (kinds most_kinds taken) i d (slice_index_or own k e)
    → slice_index_or (merge_near_sizes taken own) j e ≡ slice_index_or (merge_near_sizes taken own) k e

-- the first paper of kind i is one of these, near to the first of no earlier kind, and none that is left so is larger
pub record IsLargestLeft (taken : List Paper) (ks : List PaperKind) (i : ℕ) (d : PaperKind) : Type 0 where
  pub is_taken : Contains taken (slice_index_or ks i d).first
  pub is_left : (h : ℕ) → h < i → counts_as_one (slice_index_or ks i d).first (slice_index_or ks h d).first ≡ false
  pub none_larger : (p : Paper) → Contains taken p → ((h : ℕ) → h < i → counts_as_one p (slice_index_or ks h d).first ≡ false)
      → is_larger p (slice_index_or ks i d).first ≡ false

-- each kind of papers consists of those near to its largest: a law
abbrev pub KindsAreOfLargest : Type 0
KindsAreOfLargest = (taken : List Paper) (i : ℕ) (d : PaperKind) → i < length (kinds most_kinds taken)
    → IsLargestLeft taken (kinds most_kinds taken) i d

-- papers in another order, or more often, count as the same kinds: a law
abbrev pub OrderIsNothing : Type 0
OrderIsNothing = (taken others own : List Paper) → ((p : Paper) → Contains taken p ↔ Contains others p)
    → merge_near_sizes taken own ≡ merge_near_sizes others own

-- ---- the paper of all pages

-- a page has this paper, or one near to it (RULES, 12.5)
abbrev pub is_used : Paper → (own : List Paper) → Bool
is_used paper own = list_any (counts_as_one paper) own

-- what takes the place of a paper that no page has: the first page's own
abbrev pub first_instead_of : Paper → (own : List Paper) → Option Paper
first_instead_of paper [] = None
first_instead_of paper (first ∷ own) = if is_used paper (first ∷ own) then None else Some first
