-- Pages that reach beyond their papers, one more at a time.
use Rattle.std.proofs.Common.{◌≡◌, ℕ, suc, ◌+◌, ◌<◌, ◌≤◌, List, [], ◌∷◌, ◌++◌, length, take, refl, ap, arith, sym, ◌∙◌, append_assoc}
use Rattle.std.specs.Prelude.{Option, Some, None, IfSome, get_or}
use Rattle.std.proofs.Math.Seq.{take-suc}
use Rattle.std.proofs.lemmas.List.{append-nil, length-take-le}
use Rattle.rules.specs.Papers.{Paper}
use Rattle.dsc.proofs.Cases.{by_test}
use Rattle.papers.specs.Reach.{Placing, extent, if_beyond, is_beyond, reaching, reach_summary, with_all, with_reaching_page}
use Rattle.papers.specs.declared.boxes.Edges.{Edges}
use Rattle.papers.specs.declared.reach.Reach.{Reach}

-- one page, if it reaches beyond its paper
abbrev here : Placing → (n : ℕ) → Paper → List (ℕ × Paper × Edges)
here pages n p = if_beyond n p (extent pages n p)

one_more : (pages : Placing) (n k : ℕ) (placed : List Paper) (last : Paper) → k ≡ n + length placed
    → reaching pages n (placed ++ last ∷ []) ≡ reaching pages n placed ++ here pages k last
one_more pages n k [] last e = append-nil (here pages n last) ∙ ap (λ m. here pages m last) (omega (arith, e))
one_more pages n k (p ∷ ps) last e =
    ap (λ r. here pages n p ++ r) (one_more pages (n + 1) k ps last (omega (arith, e)))
    ∙ sym (append_assoc (here pages n p) (reaching pages (n + 1) ps) (here pages k last))

length_is : {A : Type 0} (xs : List A) (last : A) → length (xs ++ last ∷ []) ≡ length xs + 1
length_is [] last = refl
length_is (x ∷ xs) last = let e = length_is xs last in omega (arith, e)

told_more : (pages : List (ℕ × Paper × Edges)) (page : ℕ × Paper × Edges) → reach_summary (pages ++ page ∷ []) ≡ Some (with_reaching_page (reach_summary pages) page)
told_more [] page = refl
told_more (first ∷ more) page = ap (λ k. Some (record { first = first.0; paper = first.1; edges = first.2; pages = k + 1 })) (length_is more page)

reported_if : (pages : List (ℕ × Paper × Edges)) (n : ℕ) (p : Paper) (box : Option Edges)
    → reach_summary (pages ++ if_beyond n p box) ≡ with_all (reach_summary pages) (if_beyond n p box)
reported_if pages n p None = ap reach_summary (append-nil pages)
reported_if pages n p (Some box) = by_test (is_beyond p box)
    (λ is. rw is (told_more pages (n, p, box)))
    (λ isnt. rw isnt (ap reach_summary (append-nil pages)))

-- those among the first so many
abbrev pub reach_before : Placing → List Paper → (i : ℕ) → Option Reach
reach_before pages placed i = reach_summary (reaching pages 0 (take i placed))

up_to : (pages : Placing) (placed : List Paper) (i : ℕ) (d : Paper) → i < length placed
    → reaching pages 0 (take (i + 1) placed) ≡ reaching pages 0 (take i placed) ++ here pages i (get_or placed i d)
up_to pages placed i d l =
    let next : i + 1 ≡ suc i = omega arith in
    ap (λ k. reaching pages 0 (take k placed)) next
    ∙ ap (reaching pages 0) (take-suc placed i d l)
    ∙ one_more pages 0 i (take i placed) (get_or placed i d) (let e = length-take-le i placed (omega (arith, l)) in omega (arith, e))

still_few : (reach : Option Reach) (n : ℕ) → IfSome reach (λ r. r.pages ≤ n) → IfSome reach (λ r. r.pages ≤ n + 1)
still_few None n h = h
still_few (Some r) n h = omega (arith, h)

one_few : (reach : Option Reach) (n : ℕ) (page : ℕ × Paper × Edges) → IfSome reach (λ r. r.pages ≤ n) → (with_reaching_page reach page).pages ≤ n + 1
one_few None n page h = omega arith
one_few (Some r) n page h = omega (arith, h)

few : (reach : Option Reach) (n : ℕ) (p : Paper) (box : Option Edges) → IfSome reach (λ r. r.pages ≤ n) → IfSome (with_all reach (if_beyond n p box)) (λ r. r.pages ≤ n + 1)
few reach n p None h = still_few reach n h
few reach n p (Some box) h = by_test (is_beyond p box)
    (λ is. rw is (one_few reach n (n, p, box) h))
    (λ isnt. rw isnt (still_few reach n h))

-- a turn of the loop
pub one_more_page : (pages : Placing) (placed : List Paper) (i : ℕ) (p : Paper) (edges : Option Edges) (old new : Option Reach) → p ≡ get_or placed i p → i < length placed
    → (old ≡ reach_before pages placed i) × IfSome old (λ r. r.pages ≤ i) → edges ≡ extent pages i p → new ≡ with_all old (if_beyond i p edges)
    → (new ≡ reach_before pages placed (i + 1)) × IfSome new (λ r. r.pages ≤ i + 1)
one_more_page pages placed i p edges old new at l h reaches made = (
  made ∙ ap (λ r. with_all r (if_beyond i p edges)) h.0
      ∙ sym (reported_if (reaching pages 0 (take i placed)) i p edges)
      ∙ sym (ap reach_summary (up_to pages placed i p l ∙ ap (λ q. reaching pages 0 (take i placed) ++ here pages i q) (sym at)
      ∙ ap (λ b. reaching pages 0 (take i placed) ++ if_beyond i p b) (sym reaches))),
  rw made (few old i p edges h.1),
)
