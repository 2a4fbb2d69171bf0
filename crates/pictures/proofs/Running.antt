-- The guard, run.
use Rattle.std.specs.Prelude.{Some, None, codes, flat_map, Option}
use Rattle.std.proofs.Common.{◌≡◌, ℕ, refl, ap, ◌∙◌, sym, subst, List, [], ◌∷◌, ◌++◌, append_assoc, append-nil, map, drop, true, false}
use Rattle.rules.specs.Bytes.{line, line_feed}
use Rattle.rules.specs.Numbers.{points_text}
use Rattle.rules.specs.Papers.{Paper}
use Rattle.guard.specs.Guard.{first_lines, other_lines, page_size_line}
use Rattle.pictures.specs.Objects.{Token, Name, Literal, Number, Opens, Closes, Plain, Truth, Procedure, Dictionary}
use Rattle.pictures.specs.Dictionaries.{system, dictionary_entry, has}
use Rattle.pictures.specs.Operators.{Work, bound_token}
use Rattle.pictures.specs.Machine.{State, KeptMatrix, Runs, push, body_of, opened}
use Rattle.pictures.specs.Sheets.{run_of}
use Rattle.pictures.proofs.Runs.{runs_one, runs_none}
use Rattle.pictures.specs.Scanner.{Between, ended_token, tokens, EndsBetweenTokens}
use Rattle.pictures.specs.Documents.{started}
use Rattle.pictures.proofs.More.{runs_with_more}
use Rattle.pictures.proofs.NumberTokens.{IsWord, Reads, reads_join, points_word}
use Rattle.pictures.proofs.OpeningTokens.{add_number}
use Rattle.pictures.proofs.Output.{complete_read}
use Rattle.pictures.specs.AfterGuard.{guard_text, after_guard, GuardDefines}
use Rattle.pictures.specs.Shelter.{all_absent}
use Rattle.pictures.specs.Lines.{guard_line_names, GuardedTwice}
use Rattle.pictures.proofs.Absent.{known}
use Rattle.pictures.proofs.Steps.{some, by_name}

-- The text with a sheet's paper, cut into tokens.

abbrev first_text : List ℕ
first_text = flat_map line first_lines

abbrev other_text : List ℕ
other_text = flat_map line other_lines

abbrev pub size_tokens : List ℕ → List ℕ → List Token
size_tokens w h =
    Literal (codes "setpagedevice") ∷ Name (codes "where") ∷ Opens ∷ Name (codes "pop") ∷ Number (codes "1")
    ∷ Name (codes "dict") ∷ Name (codes "dup") ∷ Literal (codes "PageSize") ∷ Name (codes "[")
    ∷ Number w ∷ Number h ∷ Name (codes "]") ∷ Name (codes "put") ∷ Name (codes "setpagedevice") ∷ Closes
    ∷ Name (codes "if") ∷ []

abbrev start : List ℕ
start = codes "/setpagedevice where {pop 1 dict dup /PageSize ["

abbrev last : List ℕ
last = codes "] put setpagedevice} if"

apart : (x w s h t l : List ℕ) → (x ++ (w ++ (s ++ (h ++ t)))) ++ l ≡ (((x ++ w) ++ s) ++ h) ++ (t ++ l)
apart x w s h t l =
    ap (λ z. z ++ l) (sym (append_assoc ((x ++ w) ++ s) h t ∙ append_assoc (x ++ w) s (h ++ t) ∙ append_assoc x w (s ++ (h ++ t))))
    ∙ append_assoc (((x ++ w) ++ s) ++ h) t l

size_read : (w h : List ℕ) → IsWord w → IsWord h → Reads Between (line (start ++ (w ++ (codes " " ++ (h ++ last))))) (size_tokens w h) Between
size_read w h p q =
    let ts : List Token =
    Literal (codes "setpagedevice") ∷ Name (codes "where") ∷ Opens ∷ Name (codes "pop") ∷ Number (codes "1")
    ∷ Name (codes "dict") ∷ Name (codes "dup") ∷ Literal (codes "PageSize") ∷ Name (codes "[") ∷ [] in
    let us : List Token = Name (codes "]") ∷ Name (codes "put") ∷ Name (codes "setpagedevice") ∷ Closes ∷ Name (codes "if") ∷ [] in
    subst (λ text. Reads Between text (size_tokens w h) Between) (sym (apart start w (codes " ") h last (line_feed ∷ [])))
    (add_number ((start ++ w) ++ codes " ") h (last ++ line_feed ∷ []) (ts ++ (Number w ∷ [])) us Between
    (add_number start w (codes " ") ts [] Between refl p (λ acc. refl)) q (λ acc. refl))

-- the guard's tokens
abbrev pub guard_tokens : Option Paper → List Token
guard_tokens None = tokens (guard_text None)
guard_tokens (Some paper) =
    tokens first_text ++ (size_tokens (points_text paper.width) (points_text paper.height) ++ tokens other_text)

guard_read : (sheet : Option Paper) → Reads Between (guard_text sheet) (guard_tokens sheet) Between
guard_read None = complete_read (guard_text None) refl
guard_read (Some paper) =
    let w : List ℕ = points_text paper.width in
    let h : List ℕ = points_text paper.height in
    reads_join Between Between Between first_text (line (page_size_line paper) ++ other_text) (tokens first_text) (size_tokens w h ++ tokens other_text)
    (complete_read first_text refl)
    (reads_join Between Between Between (line (page_size_line paper)) other_text (size_tokens w h) (tokens other_text)
    (size_read w h (points_word paper.width) (points_word paper.height)) (complete_read other_text refl))

pub guard_is_cut : (sheet : Option Paper) → (tokens (guard_text sheet) ≡ guard_tokens sheet) × EndsBetweenTokens (guard_text sheet)
guard_is_cut sheet =
    let e = guard_read sheet in
    (ap (λ x. x.0 ++ ended_token x.1) e ∙ append-nil (guard_tokens sheet), ap (λ x. x.1) e)

-- The machine.

abbrev left_with : List Token → Work → List KeptMatrix → State
left_with rest w kept = record (started rest) { work = w; kept = kept }

-- over any text, so that the guard's isn't cut into tokens again
with_rest : (ts rest : List Token) (w : Work) (kept : List KeptMatrix) → Runs false (started ts) (left_with [] w kept)
    → Runs false (started (ts ++ rest)) (left_with rest w kept)
with_rest ts rest w kept run = runs_with_more rest (started ts) (left_with [] w kept) run

-- in so many steps
alone_runs : (sheet : Option Paper) → Runs false (started (guard_tokens sheet)) (after_guard sheet [])
alone_runs None = (249, refl)
alone_runs (Some paper) = (264, refl)

pub guard_defines : GuardDefines
guard_defines sheet = (
  (guard_is_cut sheet).1,
  λ rest. subst (λ ts. Runs false (started (ts ++ rest)) (after_guard sheet rest)) (sym (guard_is_cut sheet).0)
      (with_rest (guard_tokens sheet) rest (after_guard sheet []).work (after_guard sheet []).kept (alone_runs sheet)),
)

-- Guarded already.

-- the outermost line: a test, and a procedure that isn't run
twice : (after body rest : List Token) (s : State) → body_of after 0 ≡ Some (body, Name (codes "bind") ∷ Name (codes "if") ∷ rest)
    → all_absent guard_line_names s.work.dictionaries s.work.entries ≡ true → has (dictionary_entry 0 (codes "ImposeGuard") s.work.entries) ≡ true
    → Runs false (run_of (Name (codes "userdict") ∷ Literal (codes "ImposeGuard") ∷ Name (codes "known") ∷ Name (codes "not") ∷ Opens ∷ after) s) (run_of rest s)
twice after body rest s cut a h =
    let names = known guard_line_names s.work.dictionaries s.work.entries a in
    let end : State = run_of rest s in
    let l1 : List Token = Name (codes "known") ∷ Name (codes "not") ∷ Opens ∷ after in
    let l0 : List Token = Literal (codes "ImposeGuard") ∷ l1 in
    let l2 : List Token = Name (codes "not") ∷ Opens ∷ after in
    let l3 : List Token = Opens ∷ after in
    let l5 : List Token = Name (codes "if") ∷ rest in
    let l4 : List Token = Name (codes "bind") ∷ l5 in
    let s1 : State = push (Plain (Literal (codes "ImposeGuard"))) (push (Dictionary 0) s) in
    let no : State = push (Truth false) s in
    by_name (codes "userdict") l0 s (run_of l0 (push (Dictionary 0) s)) end (system (codes "userdict")) (names (codes "userdict") refl) refl
    (some 1 (run_of l0 (push (Dictionary 0) s)) (run_of l1 s1) end refl
    (by_name (codes "known") l2 s1 (run_of l2 (push (Truth true) s)) end (system (codes "known")) (names (codes "known") refl) (ap (λ b. Some (run_of l2 (push (Truth b) s))) h)
    (by_name (codes "not") l3 (push (Truth true) s) (run_of l3 no) end (system (codes "not")) (names (codes "not") refl) refl
    (runs_one false (run_of l3 no) (run_of l4 (push (Procedure body) no)) end (ap (λ x. opened x (run_of after no)) cut)
    (by_name (codes "bind") l5 (push (Procedure body) no) (run_of l5 (with_bound body no)) end (system (codes "bind")) (names (codes "bind") refl) refl
    (by_name (codes "if") rest (with_bound body no) (run_of rest s) end (system (codes "if")) (names (codes "if") refl) refl (runs_none false end)))))))
  where
    with_bound : List Token → State → State
    with_bound body s = push (Procedure (map (bound_token (push (Procedure body) s).work) body)) s

abbrev body_in : List Token → List Token
body_in ts = the_body (body_of (drop 5 ts) 0)
  where
    the_body : Option (List Token × List Token) → List Token
    the_body None = []
    the_body (Some (body, rest)) = body

twice_on : (sheet : Option Paper) (s : State) (rest : List Token) → all_absent guard_line_names s.work.dictionaries s.work.entries ≡ true
    → has (dictionary_entry 0 (codes "ImposeGuard") s.work.entries) ≡ true → Runs false (run_of (guard_tokens sheet ++ rest) s) (run_of rest s)
twice_on None s rest a h = twice (drop 5 (guard_tokens None ++ rest)) (body_in (guard_tokens None)) rest s refl a h
twice_on (Some paper) s rest a h = twice (drop 5 (guard_tokens (Some paper) ++ rest)) (body_in (guard_tokens (Some paper))) rest s refl a h

pub guarded_twice : GuardedTwice
guarded_twice sheet s rest a h =
    subst (λ ts. Runs false (run_of (ts ++ rest) s) (run_of rest s)) (sym (guard_is_cut sheet).0) (twice_on sheet s rest a h)
