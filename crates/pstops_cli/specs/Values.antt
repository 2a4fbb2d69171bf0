-- What the values of the options mean.
use Rattle.std.specs.Prelude.{⊤, ◌≤◌, ℕ, unwrap_or, ok_or, option_and_then, if◌then◌else◌}
use Rattle.std.specs.Prelude.{List, Option, Some, None, Result, Ok, Err, codes}
use Rattle.rules.specs.Signatures.{most_sides}
use Rattle.rules.specs.Papers.{Paper, is_side, paper_with_name}
use Rattle.lengths.specs.Lengths.{length_named}
use Rattle.imposer.specs.declared.options.Options.{Options}
use Rattle.imposer.specs.declared.worker_counts.Workers.{Workers}
use Rattle.command_words.specs.Borders.{border_named}
use Rattle.command_words.specs.Matches.{number_named}
use Rattle.pstops_cli.specs.declared.command.CommandFault.{CommandFault}
use Rattle.pstops_cli.specs.declared.command.CommandFault.TheVariants.{BadLength, UnknownPaper}

-- ---- the paper

-- a paper by its name, a4 if there is none
abbrev pub paper_or_a4 : Option (List ℕ) → Option Paper
paper_or_a4 name = paper_with_name (unwrap_or name (codes "a4"))

-- the paper with another width, which is above zero and no more than a paper's may be
abbrev pub with_width : Paper → Option (List ℕ) → Option Paper
with_width paper None = Some paper
with_width paper (Some text) =
    option_and_then (λ width. if is_side width then Some (record paper { width = width })
    else None) (length_named paper text)

-- the paper with another height
abbrev pub with_height : Paper → Option (List ℕ) → Option Paper
with_height paper None = Some paper
with_height paper (Some text) =
    option_and_then (λ height. if is_side height then Some (record paper { height = height })
    else None) (length_named paper text)

-- ---- the numbers of workers and of sides

-- as many workers as the text says, 2 if there is none. The command takes no text but a number from 1 to 16
abbrev pub count_named : Option (List ℕ) → ℕ
count_named text = unwrap_or (number_named text) 2

-- if a number of sides is asked for, it lies from 4 to 1,000,000
abbrev pub AreInRange : (sides : Option ℕ) → Type 0
AreInRange None = ⊤
AreInRange (Some n) = (4 ≤ n) × (n ≤ most_sides)

abbrev pub workers_named : (preparers imposers : Option (List ℕ)) → Workers
workers_named preparers imposers = record { preparers = count_named preparers; imposers = count_named imposers }

-- ---- all of them

abbrev pub result_and_then : {T U E : Type 0} → Result T E → (T → Result U E) → Result U E
result_and_then (Ok x) f = f x
result_and_then (Err e) f = Err e

-- the letters of the options that take a value
abbrev pub letter_p : ℕ
letter_p = 112

abbrev pub letter_w : ℕ
letter_w = 119

abbrev pub letter_h : ℕ
letter_h = 104

abbrev pub letter_d : ℕ
letter_d = 100

abbrev pub letter_j : ℕ
letter_j = 106

abbrev pub letter_k : ℕ
letter_k = 107

abbrev pub letter_s : ℕ
letter_s = 115

-- what the values of -p, -w, -h and -d name beside these sides of a signature and workers, or the fault of the first,
-- in this order, that names no paper or no length that its option takes
unfoldable pub options_named : (paper width height border : Option (List ℕ)) → (signature : Option ℕ) → Workers
    → Result Options CommandFault
options_named paper width height border signature workers =
    result_and_then (ok_or (paper_or_a4 paper) UnknownPaper) (λ named.
    result_and_then (ok_or (with_width named width) (BadLength letter_w)) (λ wide.
    result_and_then (ok_or (with_height wide height) (BadLength letter_h)) (λ paper.
    result_and_then (ok_or (border_named paper border) (BadLength letter_d)) (λ around.
    Ok (record { paper = paper; border = around; sides = signature; workers = workers })))))
