-- The sheets of an output, one after the other.
use Rattle.std.proofs.Common.{ℕ, suc, List, [], ◌∷◌, ◌+◌, ◌<◌, ◌++◌, ◌≡◌, ap, sym, ◌∙◌, length, take, arith}
use Rattle.std.specs.Prelude.{flat_map}
use Rattle.std.specs.List.{range_with_len}
use Rattle.std.proofs.Math.Seq.{take-suc}
use Rattle.std.proofs.Math.ListN.{get_or}
use Rattle.std.proofs.lemmas.List.FromFn.{length-range_with_len, get_or-range_with_len}
use Rattle.std.proofs.lemmas.List.{flat_map_more, take_all}
use Rattle.rules.specs.Filters.{trailer_text}
use Rattle.rules.specs.MadeOutput.{dressed_preamble}
use Rattle.sheet_text.specs.Jobs.{JobView, text_of, output_of}

-- the texts of the first n of this many sheets
abbrev pub sheets_text : JobView → (many n : ℕ) → List ℕ
sheets_text job many n = flat_map (text_of job) (take n (range_with_len 0 many))

-- one more
pub sheet_more : (job : JobView) (front : List ℕ) (many n : ℕ) → n < many
    → (front ++ sheets_text job many n) ++ text_of job n ≡ front ++ sheets_text job many (n + 1)
sheet_more job front many n within =
    let same : 0 + n ≡ n = omega arith in
    let next : suc n ≡ n + 1 = omega arith in
    let here : get_or (range_with_len 0 many) n 0 ≡ n = get_or-range_with_len 0 many n 0 within ∙ same in
    flat_map_more (text_of job) front (take n (range_with_len 0 many)) n
    ∙ ap (λ xs. front ++ flat_map (text_of job) xs)
    (ap (λ x. take n (range_with_len 0 many) ++ x ∷ []) (sym here) ∙ sym (take-suc (range_with_len 0 many) n 0 (omega (arith, length-range_with_len 0 many))) ∙ ap (λ k. take k (range_with_len 0 many)) next)

-- all of them
pub all_sheets : (job : JobView) (many n : ℕ) → n ≡ many → sheets_text job many n ≡ flat_map (text_of job) (range_with_len 0 many)
all_sheets job many n is =
    ap (λ xs. flat_map (text_of job) xs) (take_all n (range_with_len 0 many) (omega (arith, length-range_with_len 0 many)))

-- the header, all sheets and the trailer are the output
pub output_is : (job : JobView) (count done : ℕ) (before last whole : List ℕ) → count ≡ length job.plan.sheets → done ≡ count
    → before ≡ dressed_preamble count job.header job.units ++ sheets_text job count done → last ≡ trailer_text job.units → whole ≡ before ++ last → whole ≡ output_of job
output_is job count done before last whole count_is done_is before_is last_is whole_is =
    let us = job.units in
    whole_is
    ∙ ap (λ t. t ++ last) (before_is ∙ ap (λ t. dressed_preamble count job.header us ++ t) (all_sheets job count done done_is))
    ∙ ap (λ t. (dressed_preamble count job.header us ++ flat_map (text_of job) (range_with_len 0 count)) ++ t) last_is
    ∙ ap (λ n. (dressed_preamble n job.header us ++ flat_map (text_of job) (range_with_len 0 n)) ++ trailer_text us) count_is

-- one more sheet of the job
pub job_sheet_more : (job : JobView) (front : List ℕ) (n : ℕ) → n < length job.plan.sheets
    → (front ++ sheets_text job (length job.plan.sheets) n) ++ text_of job n ≡ front ++ sheets_text job (length job.plan.sheets) (n + 1)
job_sheet_more job front n h = sheet_more job front (length job.plan.sheets) n h
