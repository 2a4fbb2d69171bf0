-- The limits: what just fits is taken, and one more is refused. The sheets of a plan are counted without being
-- computed.
use Rattle.std.proofs.Common.{arith, rules, inl, ℕ, zero, suc, List, [], ◌∷◌, refl, sym, ◌≡◌, ◌≢◌, Bool, true, false, length, ap, append-nil, ◌∙◌}
use Rattle.std.specs.Prelude.{◌<◌, ◌≤◌, ◌*◌, ◌==◌, nat_lt, not, nat_eq, codes, replicate, sum_by, Result, Ok, Err}
use Rattle.std.specs.List.{AllPass, starts_with}
use Rattle.std.specs.Char.{is_ascii_digit}
use Rattle.std.proofs.lemmas.List.{length-replicate}
use Rattle.std.proofs.lemmas.List.Elements.{All-nil, All-cons}
use Rattle.rules.specs.Numbers.{number_of}
use Rattle.rules.specs.Specification.{Spec, settled}
use Rattle.rules.specs.Sheets.{blocks, page_at, sheets}
use Rattle.rules.specs.Admissible.{Refuses, Takes, TooLong, Syntax, TooLarge, most_slots}
use Rattle.rules.specs.Units.{cut, ◌>>=◌}
use Rattle.rules.specs.Parts.{NestedUnit, nested, pages}
use Rattle.rules.specs.Run.{refuse_if, of_block, document_of, InputTooLong, NotPostScript, with_pages, InputTooManyPages, NoPages, plan_of, PlanTooManyPages, TooManySheets, TooManyPlaces}
use Rattle.rules.proofs.Examples.Written.{item, written}
use Rattle.rules.proofs.Counts.{sheet_count, place_count}

pub small : (m n : ℕ) → n ≤ m → nat_lt m n ≡ false
small m n h = search rules

pub large : (m n : ℕ) → m < n → nat_lt m n ≡ true
large m n h = search rules

pub refused : {A E : Type 0} (b : Bool) (e : E) (next : Result A E) → b ≡ true → refuse_if b e next ≡ Err e
refused b e next h = rw h refl

pub passed : {A E : Type 0} (b : Bool) (e : E) (next : Result A E) → b ≡ false → refuse_if b e next ≡ next
passed b e next h = rw h refl

-- a specification of 65,537 bytes
long_specification : (text : List ℕ) → length text ≡ 65_537 → Refuses most_slots text TooLong
long_specification text h = omega (arith, h)

-- one of 65,536 isn't too long
longest_specification : (text : List ℕ) → length text ≡ 65_536 → Refuses most_slots text TooLong → ⊥
longest_specification text h long = omega (arith, h, long)

-- a text that is too long is refused for that alone, whether or not it is in the grammar
length_before_syntax : (text : List ℕ) → length text ≡ 65_537 → Refuses most_slots text Syntax → ⊥
length_before_syntax text h (short, none) = omega (arith, h, short)

length_before_checks : (text : List ℕ) → length text ≡ 65_537 → Refuses most_slots text TooLarge → ⊥
length_before_checks text h (short, spec, is, fault) = omega (arith, h, short)

-- one of 65,536 zeros is taken as page 0
zeros_pass : (n : ℕ) → AllPass is_ascii_digit (replicate n 48)
zeros_pass zero = All-nil (λ b. is_ascii_digit b ≡ true)
zeros_pass (suc n) = All-cons (λ b. is_ascii_digit b ≡ true) 48 (replicate n 48) refl (zeros_pass n)

zeros_value : (n : ℕ) → 0 ≡ number_of (replicate n 48)
zeros_value zero = refl
zeros_value (suc n) = zeros_value n

zeros_some : (n : ℕ) → 0 < n → replicate {A = ℕ} n 48 ≢ []
zeros_some n h e = omega (arith, h, length-replicate {A = ℕ} n 48, ap length e)

longest_taken : (n : ℕ) → n ≡ 65_536 → Takes most_slots (replicate n 48) (settled (written 1 ((item false 0 [] ∷ []) ∷ [])))
longest_taken n h = (
  omega (arith, h, length-replicate {A = ℕ} n 48),
  written 1 ((item false 0 [] ∷ []) ∷ []),
  inl (refl, inl (replicate n 48, [], sym (append-nil (replicate n 48)), (zeros_pass n, zeros_some n (omega (arith, h)), zeros_value n), refl)),
  refl,
  refl,
)

-- a document of 1,073,741,825 bytes, whatever they are
long_document : (input : List ℕ) → length input ≡ 1_073_741_825 → document_of input ≡ Err InputTooLong
long_document input h = refused _ InputTooLong _ (large 1_073_741_824 (length input) (omega (arith, h)))

-- one of 1,073,741,824 bytes is read
longest_document : (input : List ℕ) → length input ≡ 1_073_741_824
    → document_of input ≡ refuse_if (not (starts_with nat_eq input (codes "%!"))) NotPostScript (of_block (cut input) >>= λ us. with_pages (nested us))
longest_document input h = passed _ InputTooLong _ (small 1_073_741_824 (length input) (omega (arith, h)))

-- 1,000,001 pages
too_many_pages_in_document : (us : List NestedUnit) → length (pages us) ≡ 1_000_001 → with_pages us ≡ Err InputTooManyPages
too_many_pages_in_document us h = refused _ InputTooManyPages _ (large 1_000_000 (length (pages us)) (omega (arith, h)))

-- 1,000,000 pages
most_pages_in_document : (us : List NestedUnit) → length (pages us) ≡ 1_000_000 → with_pages us ≡ Ok us
most_pages_in_document us h = passed _ InputTooManyPages _ (small 1_000_000 (length (pages us)) (omega (arith, h))) ∙ ap (λ k. refuse_if (k == 0) NoPages (Ok us)) h

-- at most 1,000,000 pages and sheets, and 4,000,000 places
most_places : (spec : Spec) (n : ℕ) → n ≤ 1_000_000 → blocks spec.modulo n * length spec.groups ≤ 1_000_000
    → blocks spec.modulo n * sum_by length spec.groups ≤ 4_000_000 → plan_of spec n ≡ Ok (sheets spec n)
most_places spec n few sheets_few places_few =
    passed _ PlanTooManyPages _ (small 1_000_000 n few)
    ∙ (passed _ TooManySheets _ (ap (nat_lt 1_000_000) (sheet_count spec n (page_at n)) ∙ small 1_000_000 (blocks spec.modulo n * length spec.groups) sheets_few)
    ∙ passed _ TooManyPlaces _ (ap (nat_lt 4_000_000) (place_count spec n (page_at n)) ∙ small 4_000_000 (blocks spec.modulo n * sum_by length spec.groups) places_few))

-- pages are counted first
too_many_pages : (spec : Spec) (n : ℕ) → 1_000_000 < n → plan_of spec n ≡ Err PlanTooManyPages
too_many_pages spec n many = refused _ PlanTooManyPages _ (large 1_000_000 n many)

-- then sheets
too_many_sheets : (spec : Spec) (n : ℕ) → n ≤ 1_000_000 → 1_000_000 < blocks spec.modulo n * length spec.groups → plan_of spec n ≡ Err TooManySheets
too_many_sheets spec n few many =
    passed _ PlanTooManyPages _ (small 1_000_000 n few)
    ∙ refused _ TooManySheets _ (ap (nat_lt 1_000_000) (sheet_count spec n (page_at n)) ∙ large 1_000_000 (blocks spec.modulo n * length spec.groups) many)

-- then places, blank ones among them
too_many_places : (spec : Spec) (n : ℕ) → n ≤ 1_000_000 → blocks spec.modulo n * length spec.groups ≤ 1_000_000
    → 4_000_000 < blocks spec.modulo n * sum_by length spec.groups → plan_of spec n ≡ Err TooManyPlaces
too_many_places spec n few sheets_few many =
    passed _ PlanTooManyPages _ (small 1_000_000 n few)
    ∙ (passed _ TooManySheets _ (ap (nat_lt 1_000_000) (sheet_count spec n (page_at n)) ∙ small 1_000_000 (blocks spec.modulo n * length spec.groups) sheets_few)
    ∙ refused _ TooManyPlaces _ (ap (nat_lt 4_000_000) (place_count spec n (page_at n)) ∙ large 4_000_000 (blocks spec.modulo n * sum_by length spec.groups) many))
