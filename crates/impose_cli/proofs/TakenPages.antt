-- Pages that a row takes, an entry or a page at a time.
use Rattle.std.proofs.Common.{Bool, true, false, ◌≡◌, ◌∙◌, ℕ, zero, suc, ◌+◌, ◌<◌, ◌≤◌, List, [], ◌∷◌, ◌++◌, length, take, refl, ap, arith, sym}
use Rattle.std.specs.Prelude.{Option, None, Some, option_and_then, slice_get, get_or, ◌||◌, if◌then◌else◌}
use Rattle.std.proofs.lemmas.List.{take_more, length-take-le}
use Rattle.rules.specs.Papers.{Paper}
use Rattle.rules.specs.Rows.{Row}
use Rattle.impose_cli.specs.RowTasks.{or_without, row_papers, taken_from}
use Rattle.impose_cli.specs.Taken.{is_entry_of, taken_below, takes}

swapped : (a b c : Bool) → (a || (b || c)) ≡ (b || (a || c))
swapped true true c = refl
swapped true false c = refl
swapped false b c = refl

takes_more : (row : Row) (e : Option ℕ) (k : ℕ) → takes (row ++ e ∷ []) k ≡ (is_entry_of e k || takes row k)
takes_more [] e k = refl
takes_more (first ∷ row) e k = ap (λ b. is_entry_of first k || b) (takes_more row e k) ∙ swapped (is_entry_of first k) (is_entry_of e k) (takes row k)

-- one entry more was marked
pub marked : (row : Row) (i : ℕ) (e : Option ℕ) (old new : List Bool) (k : ℕ) → i < length row → e ≡ get_or row i None
    → get_or old k false ≡ takes (take i row) k → get_or new k false ≡ (is_entry_of e k || get_or old k false)
    → get_or new k false ≡ takes (take (i + 1) row) k
marked row i e old new k l at before made =
    made ∙ ap (λ b. is_entry_of e k || b) before
    ∙ ap (λ x. is_entry_of x k || takes (take i row) k) at
    ∙ sym (takes_more (take i row) (get_or row i None) k)
    ∙ ap (λ r. takes r k) (sym (take_more row i None l))

one_more : (row : Row) (other : Paper) (n k : ℕ) (own : List Paper) (last : Paper) → k ≡ n + length own
    → taken_from row other n (own ++ last ∷ []) ≡ taken_from row other n own ++ (if takes row k then last else other) ∷ []
one_more row other n k [] last e = ap (λ m. (if takes row m then last else other) ∷ []) (omega (arith, e))
one_more row other n k (p ∷ ps) last e =
    ap (λ qs. (if takes row n then p else other) ∷ qs) (one_more row other (n + 1) k ps last (omega (arith, e)))

-- what stands there is found with any default
pub any_default : {A : Type 0} (xs : List A) (i : ℕ) (a b : A) → i < length xs → get_or xs i a ≡ get_or xs i b
any_default [] i a b l = absurd (omega (arith, l))
any_default (x ∷ xs) zero a b l = refl
any_default (x ∷ xs) (suc i) a b l = any_default xs i a b (omega (arith, l))

-- the papers of a row with one entry more
or_after : (found : Option Paper) (ps qs : List Paper) → or_without found ps ++ qs ≡ or_without found (ps ++ qs)
or_after None ps qs = refl
or_after (Some p) ps qs = refl

entry_more : (row : Row) (e : Option ℕ) (own : List Paper)
    → row_papers (row ++ e ∷ []) own ≡ row_papers row own ++ or_without (option_and_then (slice_get own) e) []
entry_more [] e own = refl
entry_more (first ∷ row) e own =
    let found = option_and_then (slice_get own) first in
    ap (or_without found) (entry_more row e own)
    ∙ sym (or_after found (row_papers row own) (or_without (option_and_then (slice_get own) e) []))

pub entry_taken : (row : Row) (i : ℕ) (e : Option ℕ) (own : List Paper) (found : Option Paper) (old new : List Paper) → i < length row
    → e ≡ get_or row i None → found ≡ option_and_then (slice_get own) e → old ≡ row_papers (take i row) own → new ≡ old ++ or_without found []
    → new ≡ row_papers (take (i + 1) row) own
entry_taken row i e own found old new l at is before pushed =
    pushed ∙ ap (λ ps. ps ++ or_without found []) before
    ∙ ap (λ f. row_papers (take i row) own ++ or_without f []) (is ∙ ap (option_and_then (slice_get own)) at)
    ∙ sym (entry_more (take i row) (get_or row i None) own)
    ∙ ap (λ r. row_papers r own) (sym (take_more row i None l))

-- the paper of one page more was taken
pub page_taken : (row : Row) (other : Paper) (own : List Paper) (i : ℕ) (p made : Paper) (is : Bool) (old new : List Paper) → i < length own
    → p ≡ get_or own i other → is ≡ takes row i → made ≡ (if is then p else other)
    → old ≡ taken_from row other 0 (take i own) → new ≡ old ++ made ∷ []
    → new ≡ taken_from row other 0 (take (i + 1) own)
page_taken row other own i p made is old new l at taken e before pushed =
    pushed ∙ ap (λ ps. ps ++ made ∷ []) before
    ∙ ap (λ q. taken_from row other 0 (take i own) ++ q ∷ []) (e ∙ ap (λ b. if b then p else other) taken ∙ ap (λ q. if takes row i then q else other) at)
    ∙ sym (one_more row other 0 i (take i own) (get_or own i other) (let n = length-take-le i own (omega (arith, l)) in omega (arith, n)))
    ∙ ap (taken_from row other 0) (sym (take_more own i other l))

-- a page more is counted if it is taken
pub count_more : (is : Bool) (count page new : ℕ) → new ≡ count + (if is then 1 else 0) → count ≤ page → new ≤ page + 1
count_more true count page new e few = omega (arith, e, few)
count_more false count page new e few = omega (arith, e, few)

pub page_counted : (row : Row) (i : ℕ) (is : Bool) (old new : ℕ) → is ≡ takes row i → old ≡ taken_below row i → new ≡ old + (if is then 1 else 0)
    → new ≡ taken_below row (i + 1)
page_counted row i is old new taken before e =
    let next : suc i ≡ i + 1 = omega arith in
    e ∙ ap (λ n. n + (if is then 1 else 0)) before ∙ ap (λ b. taken_below row i + (if b then 1 else 0)) taken ∙ ap (taken_below row) next
