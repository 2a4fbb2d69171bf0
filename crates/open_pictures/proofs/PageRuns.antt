-- A page's run as a test, which is computed once: it comes to its showpage with both stacks as they were.
use Rattle.std.specs.Prelude.{Option, Some, None, codes, bytes_eq}
use Rattle.std.proofs.lemmas.Slice.Eq.{bytes_eq-Decides}
use Rattle.std.proofs.Common.{◌≡◌, ℕ, refl, ap, ◌∙◌, sym, Bool, true, false, ◌&&◌, List, [], ◌∷◌, true≢false}
use Rattle.rules.specs.Parts.{NestedUnit}
use Rattle.pictures.specs.Objects.{Token, Name, Object}
use Rattle.pictures.specs.Machine.{State, Painting, steps}
use Rattle.pictures.specs.Scanner.{tokens, EndsBetweenTokens}
use Rattle.pictures.specs.Kept.{page_comments_apart}
use Rattle.pictures.specs.Sheets.{run_of}
use Rattle.pictures.specs.Documents.{document_page}
use Rattle.pictures.specs.Unaware.{PagePrintsBy, absent, none_before, is_in}
use Rattle.pictures.proofs.Tests.{first, second}
use Rattle.pictures.proofs.Own.{nothing_behind, absent_means}

abbrev is_last : List Token → Bool
is_last (Name name ∷ []) = bytes_eq name (codes "showpage")
is_last ts = false

abbrev is_empty : List Object → Bool
is_empty [] = true
is_empty (o ∷ os) = false

abbrev has_none : State → Bool
has_none at =
    absent at.work.dictionaries at.work.entries (codes "showpage")
    && (absent at.work.dictionaries at.work.entries (codes "ImposeSave") && absent at.work.dictionaries at.work.entries (codes "restore"))

-- from the state s, after which nothing is on the operand stack
abbrev pub ends_well : State → Option State → Bool
ends_well s None = false
ends_well s (Some at) =
    is_last at.left
    && (is_empty at.work.operands && (bytes_eq at.work.dictionaries s.work.dictionaries && (none_before s.level at.saves && has_none at)))

abbrev pub painted_by : Option State → List Painting
painted_by None = []
painted_by (Some at) = at.painted

last_is : (ts : List Token) → is_last ts ≡ true → ts ≡ Name (codes "showpage") ∷ []
last_is (Name name ∷ []) e = ap (λ n. Name n ∷ []) ((bytes_eq-Decides name (codes "showpage")).0 e)
last_is ts e = absurd (true≢false (sym e))

empty_is : (os : List Object) → is_empty os ≡ true → os ≡ []
empty_is [] e = refl
empty_is (o ∷ os) e = absurd (true≢false (sym e))

-- the page's run, as far as its showpage
abbrev pub page_run : (unaware : State → Option State) → List NestedUnit → State → (p count : ℕ) → Option State
page_run unaware us s p count = steps unaware count (run_of (tokens (document_page us p)) s)

prints_on : (free unaware : State → Option State) (us : List NestedUnit) (s : State) (p count : ℕ) (r : Option State)
    → s.work.operands ≡ [] → is_in 0 s.work.dictionaries ≡ true → EndsBetweenTokens (document_page us p) → page_comments_apart (document_page us p) ≡ true
    → page_run unaware us s p count ≡ r → ends_well s r ≡ true → PagePrintsBy free unaware us s p (painted_by r)
prints_on free unaware us s p count None empty has_userdict complete apart q e = absurd (true≢false (sym e))
prints_on free unaware us s p count (Some at) empty has_userdict complete apart q e =
    let rest = second (is_last at.left) _ e in
    let more = second (is_empty at.work.operands) _ rest in
    let dictionaries : at.work.dictionaries ≡ s.work.dictionaries =
    (bytes_eq-Decides at.work.dictionaries s.work.dictionaries).0 (first (bytes_eq at.work.dictionaries s.work.dictionaries) _ more) in
    let saves = second (bytes_eq at.work.dictionaries s.work.dictionaries) _ more in
    let names = second (none_before s.level at.saves) _ saves in
    let others = second (absent at.work.dictionaries at.work.entries (codes "showpage")) _ names in (
      complete,
      apart,
      record {
        at = at;
        count = count;
        run = q;
        after = [];
        last = last_is at.left (first (is_last at.left) _ e);
        has_userdict = ap (is_in 0) dictionaries ∙ has_userdict;
        showpage = first (absent at.work.dictionaries at.work.entries (codes "showpage")) _ names;
        picture_is = refl;
        ends = nothing_behind free unaware s at (empty_is at.work.operands (first (is_empty at.work.operands) _ rest) ∙ sym empty) dictionaries
            (first (none_before s.level at.saves) _ saves) (first (absent at.work.dictionaries at.work.entries (codes "ImposeSave")) _ others)
            (absent_means at.work.dictionaries at.work.entries (codes "restore") (second (absent at.work.dictionaries at.work.entries (codes "ImposeSave")) _ others));
      },
    )

pub prints : (free unaware : State → Option State) (us : List NestedUnit) (s : State) (p count : ℕ) → s.work.operands ≡ [] → is_in 0 s.work.dictionaries ≡ true
    → EndsBetweenTokens (document_page us p) → page_comments_apart (document_page us p) ≡ true → ends_well s (page_run unaware us s p count) ≡ true
    → PagePrintsBy free unaware us s p (painted_by (page_run unaware us s p count))
prints free unaware us s p count empty has_userdict complete apart e =
    prints_on free unaware us s p count (page_run unaware us s p count) empty has_userdict complete apart refl e
