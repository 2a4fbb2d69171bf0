-- A dictionary on the stack with a showpage of its own.
use Rattle.std.specs.Prelude.{Some, codes, decimal}
use Rattle.std.proofs.Common.{ℕ, refl, ap, ◌∙◌, true, false, not, List, [], ◌∷◌, ◌++◌, length, arith}
use Rattle.pictures.specs.Objects.{Token, Number, Name, Literal, Bound, Opens, Closes, Object, Plain, Truth, Procedure, Dictionary, NotEqual}
use Rattle.pictures.specs.Dictionaries.{DictionaryEntry, system, has}
use Rattle.pictures.specs.Operators.{with_operands, judged, located, loaded, sameness}
use Rattle.pictures.specs.Machine.{State, push, saved, worked}
use Rattle.pictures.specs.Sheets.{run_of}
use Rattle.pictures.proofs.Runs.{runs_one, runs_none}
use Rattle.pictures.specs.AfterGuard.{save_tokens, keeping_tokens}
use Rattle.pictures.specs.Lines.{asks_userdict, at_sheet_save, with_asking, with_dictionary, AsksUserdict, AskingShows}
use Rattle.pictures.proofs.Absent.{known, known_below, through}
use Rattle.pictures.proofs.Counting.{counted}
use Rattle.pictures.proofs.Steps.{some, by_name}
use Rattle.pictures.proofs.Redrawn.{with}
use Rattle.pictures.proofs.Lines.{really, really_saves, asked_name}

abbrev asked_names : List (List ℕ)
asked_names = codes "userdict" ∷ codes "systemdict" ∷ []

-- after the dictionary that has a showpage, and what is put into it
abbrev finding : List Token → List Token
finding l = Name (codes "ImposeGuard") ∷ Bound (codes "begin") ∷ Name (codes "systemdict") ∷ really l

abbrev putting : List Token → List Token
putting l =
    Opens ∷ Literal (codes "showpage")
    ∷ Opens ∷ Name (codes "userdict") ∷ Literal (codes "showpage") ∷ Bound (codes "get") ∷ Bound (codes "exec") ∷ Closes
    ∷ Bound (codes "put") ∷ Closes ∷ (keeping_tokens ++ (Bound (codes "ifelse") ∷ l))

abbrev comparing : List Token → List Token
comparing l = Bound (codes "ne") ∷ Number (codes "1") ∷ Bound (codes "index") ∷ Bound (codes "wcheck") ∷ Bound (codes "and") ∷ putting l

abbrev deciding : List Token → List Token
deciding l =
    Opens ∷ Bound (codes "dup") ∷ Name (codes "userdict") ∷ Bound (codes "ne") ∷ Number (codes "1")
    ∷ Bound (codes "index") ∷ Bound (codes "wcheck") ∷ Bound (codes "and") ∷ putting (Closes ∷ Bound (codes "if") ∷ finding l)

pub asks_userdict_there : AsksUserdict
asks_userdict_there s number d rest found other writable guard absent few =
    let ds : List ℕ = s.work.dictionaries in
    let es : List DictionaryEntry = s.work.entries in
    let names = known_below asked_names number ds es absent in
    let first_names = known asked_names (number ∷ ds) es absent in
    let put : List DictionaryEntry = record { dictionary = d; key = codes "showpage"; value = asks_userdict } ∷ [] in
    let s0 : State = at_sheet_save s in
    let os : List Object = s0.work.operands in
    let end : State = saved (run_of rest (with_dictionary number (with_asking d s0))) in
    let count : Object = Plain (Number (decimal (length os))) in
    let l1 : List Token = Bound (codes "ne") ∷ asked_name rest in
    let more : List Token = finding rest in
    let l2 : List Token = Bound (codes "where") ∷ deciding rest in
    let here : List Token = Name (codes "userdict") ∷ comparing more in
    let beginning : List Token = Bound (codes "begin") ∷ Name (codes "systemdict") ∷ really rest in
    let s1 : State = with s0 (Plain (Number (codes "0")) ∷ count ∷ os) in
    let s2 : State = with s0 (Plain (Literal (codes "showpage")) ∷ os) in
    let s3 : State = with s0 (Truth true ∷ Dictionary d ∷ os) in
    let s4 : State = with s0 (Dictionary d ∷ Dictionary d ∷ os) in
    let s5 : State = with s0 (Truth true ∷ Dictionary d ∷ os) in
    let s6 : State = with_asking d s0 in
    let s7 : State = with s0 (Dictionary d ∷ s5.work.operands) in
    let s8 : State = with s0 (Truth true ∷ s5.work.operands) in
    let guarded_number : State = push (Dictionary number) s6 in
    some 2 (run_of (save_tokens ++ rest) s0) (run_of l1 s1) end refl
    (runs_one false (run_of l1 s1) (run_of (asked_name rest) (with s0 (Truth true ∷ os))) end (ap (λ x. worked (judged x (with_operands s0.work os)) (run_of (asked_name rest) s1)) (counted (length os) (omega arith) (omega (arith, few))))
    (some 8 (run_of (asked_name rest) (with s0 (Truth true ∷ os))) (run_of l2 s2) end refl
    (runs_one false (run_of l2 s2) (run_of (deciding rest) s3) end (ap (λ x. worked (located x true false (with_operands s0.work os)) (run_of (deciding rest) s2)) found)
    (some 3 (run_of (deciding rest) s3) (run_of here s4) end refl
    (by_name (codes "userdict") (comparing more) s4 (run_of (comparing more) (push (Dictionary 0) s4)) end (system (codes "userdict")) (names (codes "userdict") refl) refl
    (runs_one false (run_of (comparing more) (push (Dictionary 0) s4)) (run_of (Number (codes "1") ∷ Bound (codes "index") ∷ Bound (codes "wcheck") ∷ Bound (codes "and") ∷ putting more) s5) end
    (ap (λ b. worked (judged (sameness NotEqual (Some b)) (with_operands s0.work (Dictionary d ∷ os))) (run_of (Number (codes "1") ∷ Bound (codes "index") ∷ Bound (codes "wcheck") ∷ Bound (codes "and") ∷ putting more) s4)) other)
    (some 2 (run_of (Number (codes "1") ∷ Bound (codes "index") ∷ Bound (codes "wcheck") ∷ Bound (codes "and") ∷ putting more) s5) (run_of (Bound (codes "wcheck") ∷ Bound (codes "and") ∷ putting more) s7) end refl
    (runs_one false (run_of (Bound (codes "wcheck") ∷ Bound (codes "and") ∷ putting more) s7) (run_of (Bound (codes "and") ∷ putting more) s8) end
    (ap (λ x. Some (run_of (Bound (codes "and") ∷ putting more) (with s7 (Truth (not (has x)) ∷ s5.work.operands)))) writable)
    (some 7 (run_of (Bound (codes "and") ∷ putting more) s8) (run_of more s6) end refl
    (by_name (codes "ImposeGuard") beginning s6 (run_of beginning guarded_number) end (Some (Dictionary number)) (through ds put es (codes "ImposeGuard") refl ∙ guard) refl
    (some 1 (run_of beginning guarded_number) (run_of (Name (codes "systemdict") ∷ really rest) (with_dictionary number s6)) end refl
    (really_saves (with_dictionary number s6) rest (through (number ∷ ds) put es (codes "systemdict") refl ∙ first_names (codes "systemdict") refl)))))))))))))

pub asking_shows : AskingShows
asking_shows s ts rest e f g =
    let end : State = run_of (ts ++ rest) s in
    let l : List Token = Literal (codes "showpage") ∷ Bound (codes "get") ∷ Bound (codes "exec") ∷ rest in
    let m : List Token = Bound (codes "get") ∷ Bound (codes "exec") ∷ rest in
    let there : State = push (Dictionary 0) s in
    let named : State = push (Plain (Literal (codes "showpage"))) there in
    by_name (codes "showpage") rest s (run_of (Name (codes "userdict") ∷ l) s) end (Some asks_userdict) e refl
    (by_name (codes "userdict") l s (run_of l there) end (system (codes "userdict")) f refl
    (some 1 (run_of l there) (run_of m named) end refl
    (runs_one false (run_of m named) (run_of (Bound (codes "exec") ∷ rest) (push (Procedure ts) s)) end (ap (λ x. worked (loaded x s.work) (run_of (Bound (codes "exec") ∷ rest) named)) g)
    (some 1 (run_of (Bound (codes "exec") ∷ rest) (push (Procedure ts) s)) end end refl (runs_none false end)))))
