-- Pages that reach beyond their papers, of those that a row takes.
use Rattle.std.proofs.Common.{Bool, ◌≡◌, ℕ, ◌+◌, ◌<◌, List, [], ◌∷◌, ◌++◌, length, refl, ap, arith, sym, ◌∙◌}
use Rattle.std.specs.Prelude.{Option, None, if◌then◌else◌, get_or, unwrap_or}
use Rattle.rules.specs.Papers.{Paper}
use Rattle.rules.specs.Parts.{NestedUnit}
use Rattle.paper_names.specs.Names.{paper_named}
use Rattle.papers.specs.Own.{papers_of_each_page}
use Rattle.papers.specs.Reach.{Placing, extent_of, if_beyond, reach_of, reaching, reach_summary}
use Rattle.papers.specs.declared.boxes.Edges.{Edges}
use Rattle.impose_words.specs.declared.request.ImposeRequest.{ImposeRequest}
use Rattle.impose_cli.specs.Reaches.{reported_own}

abbrev placing : (taken : ℕ → Bool) → (own : List Paper) → (boxes : List (Option Edges)) → (cut_apart : Bool) → Placing
placing taken own boxes apart = record { taken = taken; own = own; boxes = boxes; cut_apart = apart }

same_reaching : (f g : ℕ → Bool) (own : List Paper) (boxes : List (Option Edges)) (apart : Bool) (n : ℕ) (placed : List Paper)
    → ((k : ℕ) → k < n + length placed → f k ≡ g k) → reaching (placing f own boxes apart) n placed ≡ reaching (placing g own boxes apart) n placed
same_reaching f g own boxes apart n [] same = refl
same_reaching f g own boxes apart n (p ∷ ps) same =
    ap (λ b. if_beyond n p (if b then extent_of apart p (get_or own n p) (get_or boxes n None) else None) ++ reaching (placing f own boxes apart) (n + 1) ps)
    (same n (omega arith))
    ∙ ap (λ rs. if_beyond n p (if g n then extent_of apart p (get_or own n p) (get_or boxes n None) else None) ++ rs)
    (same_reaching f g own boxes apart (n + 1) ps (λ k l. same k (omega (arith, l))))

-- without a paper that is named for pages, those that are found for them are their own
pub own_are_told : (r : ImposeRequest) (input : List ℕ) (us : List NestedUnit) (own : List Paper) → r.page_paper ≡ None
    → own ≡ papers_of_each_page r.page_paper paper_named r.default_paper input us → own ≡ reported_own r input us
own_are_told r input us own none are =
    are ∙ ap (λ p. papers_of_each_page p paper_named r.default_paper input us) none
    ∙ sym (ap (λ p. papers_of_each_page None paper_named (unwrap_or p r.default_paper) input us) none)

-- pages are taken alike as far as there are any
pub same_reach : (f g : ℕ → Bool) (own : List Paper) (boxes : List (Option Edges)) (apart : Bool) (placed : List Paper) → ((k : ℕ) → k < length placed → f k ≡ g k)
    → reach_of (placing f own boxes apart) placed ≡ reach_of (placing g own boxes apart) placed
same_reach f g own boxes apart placed same = ap reach_summary (same_reaching f g own boxes apart 0 placed (λ k l. same k (omega (arith, l))))
