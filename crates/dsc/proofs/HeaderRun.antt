-- The run of header comments, line by line.
use Rattle.std.specs.Prelude.{if◌then◌else◌}
use Rattle.std.proofs.Common.{true, false, ◌≡◌, ℕ, zero, suc, ◌+◌, ◌<◌, List, [], ◌∷◌, length, drop, refl, ap, arith, ◌∙◌}
use Rattle.rules.specs.Units.{content_of, line_len}
use Rattle.dsc.specs.Header.{stays, is_last, run_len, header_run}
use Rattle.dsc.proofs.LineByLine.{by_line}

no_lines : (k : ℕ) → run_len k [] ≡ run_len 0 []
no_lines zero = refl
no_lines (suc k) = refl

run_step : (b : ℕ) (bs : List ℕ)
    → header_run (b ∷ bs)
    ≡ (if stays (content_of (b ∷ bs)) then (if is_last (content_of (b ∷ bs)) then line_len (b ∷ bs) else line_len (b ∷ bs) + header_run (drop (line_len (b ∷ bs)) (b ∷ bs))) else 0)
run_step b bs =
    by_line run_len
    (λ b bs r. if stays (content_of (b ∷ bs)) then (if is_last (content_of (b ∷ bs)) then line_len (b ∷ bs) else line_len (b ∷ bs) + r) else 0)
    no_lines (λ k b bs. refl) b bs

pub run_none : (text : List ℕ) → stays (content_of text) ≡ false → header_run text ≡ 0
run_none [] h = refl
run_none (b ∷ bs) h =
    run_step b bs
    ∙ ap (λ t. if t then (if is_last (content_of (b ∷ bs)) then line_len (b ∷ bs) else line_len (b ∷ bs) + header_run (drop (line_len (b ∷ bs)) (b ∷ bs))) else 0) h

pub run_last : (text : List ℕ) → 0 < length text → stays (content_of text) ≡ true → is_last (content_of text) ≡ true → header_run text ≡ line_len text
run_last [] l h e = absurd (omega (arith, l))
run_last (b ∷ bs) l h e =
    run_step b bs
    ∙ ap (λ t. if t then (if is_last (content_of (b ∷ bs)) then line_len (b ∷ bs) else line_len (b ∷ bs) + header_run (drop (line_len (b ∷ bs)) (b ∷ bs))) else 0) h
    ∙ ap (λ t. if t then line_len (b ∷ bs) else line_len (b ∷ bs) + header_run (drop (line_len (b ∷ bs)) (b ∷ bs))) e

pub run_more : (text : List ℕ) → 0 < length text → stays (content_of text) ≡ true → is_last (content_of text) ≡ false → header_run text ≡ line_len text + header_run (drop (line_len text) text)
run_more [] l h e = absurd (omega (arith, l))
run_more (b ∷ bs) l h e =
    run_step b bs
    ∙ ap (λ t. if t then (if is_last (content_of (b ∷ bs)) then line_len (b ∷ bs) else line_len (b ∷ bs) + header_run (drop (line_len (b ∷ bs)) (b ∷ bs))) else 0) h
    ∙ ap (λ t. if t then line_len (b ∷ bs) else line_len (b ∷ bs) + header_run (drop (line_len (b ∷ bs)) (b ∷ bs))) e
