-- Pages that a paper cuts, one more at a time.
use Rattle.std.proofs.Common.{Bool, true, false, ◌≡◌, ℕ, suc, ◌+◌, ◌<◌, ◌≤◌, List, [], ◌∷◌, ◌++◌, length, take, refl, ap, arith, sym, ◌∙◌}
use Rattle.std.specs.Prelude.{Option, Some, None, IfSome, get_or, fold, map}
use Rattle.papers.specs.Own.{smallest_cover}
use Rattle.std.proofs.Math.Seq.{take-suc}
use Rattle.std.proofs.lemmas.List.{append-nil, length-take-le}
use Rattle.rules.specs.Papers.{Paper}
use Rattle.dsc.proofs.Cases.{by_test}
use Rattle.papers.specs.Cuts.{cuts_from, is_cut, last_cut, cut_summary, with_cut_page}
use Rattle.papers.specs.declared.cuts.Cut.{Cut}

-- one page, if it is cut
abbrev pub one_if : (is : Bool) → (n : ℕ) → Paper → List (ℕ × Paper)
one_if true n own = (n, own) ∷ []
one_if false n own = []

one_more : (paper : Paper) (n k : ℕ) (own : List Paper) (last : Paper) → k ≡ n + length own
    → cuts_from paper n (own ++ last ∷ []) ≡ cuts_from paper n own ++ one_if (is_cut paper last) k last
one_more paper n k [] last e = by_test (is_cut paper last)
    (λ is. rw is (ap (λ m. (m, last) ∷ []) (omega (arith, e))))
    (λ isnt. rw isnt refl)
one_more paper n k (p ∷ ps) last e = let next = one_more paper (n + 1) k ps last (omega (arith, e)) in
    by_test (is_cut paper p) (λ is. rw is (ap (λ cs. (n, p) ∷ cs) next)) (λ isnt. rw isnt next)

last_is : (page : ℕ × Paper) (pages : List (ℕ × Paper)) (last : ℕ × Paper) → last_cut page (pages ++ last ∷ []) ≡ last
last_is page [] last = refl
last_is page (next ∷ more) last = last_is next more last

length_is : {A : Type 0} (xs : List A) (last : A) → length (xs ++ last ∷ []) ≡ length xs + 1
length_is [] last = refl
length_is (x ∷ xs) last = let e = length_is xs last in omega (arith, e)

covering_more : (first : Paper) (pages : List (ℕ × Paper)) (n : ℕ) (p : Paper)
    → fold smallest_cover first (map (λ q. q.1) (pages ++ (n, p) ∷ [])) ≡ smallest_cover (fold smallest_cover first (map (λ q. q.1) pages)) p
covering_more first [] n p = refl
covering_more first (c ∷ cs) n p = covering_more (smallest_cover first c.1) cs n p

-- pages, and after them one more
told_more : (pages : List (ℕ × Paper)) (n : ℕ) (p : Paper) → cut_summary (pages ++ (n, p) ∷ []) ≡ Some (with_cut_page (cut_summary pages) n p)
told_more [] n p = refl
told_more (c ∷ cs) n p =
    ap (λ l. Some (record { first = c.0; last = l.0; pages = length (cs ++ (n, p) ∷ []) + 1; paper = fold smallest_cover c.1 (map (λ q. q.1) (cs ++ (n, p) ∷ [])) })) (last_is c cs (n, p))
    ∙ ap (λ k. Some (record { first = c.0; last = n; pages = k + 1; paper = fold smallest_cover c.1 (map (λ q. q.1) (cs ++ (n, p) ∷ [])) })) (length_is cs (n, p))
    ∙ ap (λ q. Some (record { first = c.0; last = n; pages = (length cs + 1) + 1; paper = q })) (covering_more c.1 cs n p)

-- the pages of the first so many that are cut
abbrev pub cut_before : Paper → List Paper → (i : ℕ) → Option Cut
cut_before paper own i = cut_summary (cuts_from paper 0 (take i own))

up_to : (paper : Paper) (own : List Paper) (i : ℕ) (d : Paper) → i < length own
    → cuts_from paper 0 (take (i + 1) own) ≡ cuts_from paper 0 (take i own) ++ one_if (is_cut paper (get_or own i d)) i (get_or own i d)
up_to paper own i d l =
    let next : i + 1 ≡ suc i = omega arith in
    ap (λ k. cuts_from paper 0 (take k own)) next
    ∙ ap (cuts_from paper 0) (take-suc own i d l)
    ∙ one_more paper 0 i (take i own) (get_or own i d) (let e = length-take-le i own (omega (arith, l)) in omega (arith, e))

few : (cut : Option Cut) (i : ℕ) (p : Paper) → IfSome cut (λ c. c.pages ≤ i) → (with_cut_page cut i p).pages ≤ i + 1
few None i p h = omega arith
few (Some c) i p h = omega (arith, h)

few_still : (cut : Option Cut) (i : ℕ) → IfSome cut (λ c. c.pages ≤ i) → IfSome cut (λ c. c.pages ≤ i + 1)
few_still None i h = h
few_still (Some c) i h = omega (arith, h)

-- a turn of the loop: the next page is cut, or it isn't
pub one_cut : (paper : Paper) (own : List Paper) (i : ℕ) (p : Paper) (old new : Option Cut) → p ≡ get_or own i p → i < length own
    → (old ≡ cut_before paper own i) × IfSome old (λ c. c.pages ≤ i) → is_cut paper p ≡ true → new ≡ Some (with_cut_page old i p)
    → (new ≡ cut_before paper own (i + 1)) × IfSome new (λ c. c.pages ≤ i + 1)
one_cut paper own i p old new at l h is made = (
  made ∙ ap (λ c. Some (with_cut_page c i p)) h.0
      ∙ sym (told_more (cuts_from paper 0 (take i own)) i p)
      ∙ sym (ap cut_summary (up_to paper own i p l ∙ ap (λ q. cuts_from paper 0 (take i own) ++ one_if (is_cut paper q) i q) (sym at)
      ∙ ap (λ t. cuts_from paper 0 (take i own) ++ one_if t i p) is)),
  rw made (few old i p h.1),
)

pub none_cut : (paper : Paper) (own : List Paper) (i : ℕ) (p : Paper) (old new : Option Cut) → p ≡ get_or own i p → i < length own
    → (old ≡ cut_before paper own i) × IfSome old (λ c. c.pages ≤ i) → is_cut paper p ≡ false → new ≡ old
    → (new ≡ cut_before paper own (i + 1)) × IfSome new (λ c. c.pages ≤ i + 1)
none_cut paper own i p old new at l h is made = (
  made ∙ h.0
      ∙ sym (ap cut_summary (up_to paper own i p l ∙ ap (λ q. cuts_from paper 0 (take i own) ++ one_if (is_cut paper q) i q) (sym at)
      ∙ ap (λ t. cuts_from paper 0 (take i own) ++ one_if t i p) is ∙ append-nil (cuts_from paper 0 (take i own)))),
  rw made (few_still old i h.1),
)
