-- Copies for which a setup asks, and which sheets lose: #copies (PostScript Language Reference, second edition, 4.11) is defined in a dictionary
-- that isn't open when sheets are printed, as dvips does by @copies in its own.
use Rattle.std.specs.Prelude.{ℕ, ◌+◌, ◌-◌, ◌==◌, nat_le, nat_lt, Bool, true, false, not, ◌&&◌, ◌||◌, if◌then◌else◌, List, [], ◌∷◌, codes}
use Rattle.std.specs.List.{list_all}
use Rattle.std.specs.Str.{bytes_eq}
use Rattle.guard.specs.Setups.{ends_setup, is_white, tokens}
use Rattle.impose_cli.specs.declared.copies.Asked.{Asked}

-- white space or a comment
abbrev pub is_between : List ℕ → Bool
is_between [] = true
is_between (b ∷ rest) = is_white b || (b == 37)

-- a whole number other than 0 and 1
abbrev pub is_many : List ℕ → Bool
is_many token = list_all (λ b. nat_le 48 b && nat_le b 57) token && not (bytes_eq token (codes "0") || bytes_eq token (codes "1"))

-- how many dictionaries are open after a token outside procedures
abbrev pub dictionaries_after : (dictionaries : ℕ) → List ℕ → ℕ
dictionaries_after n token = if bytes_eq token (codes "begin") then n + 1 else (if bytes_eq token (codes "end") then n - 1 else n)

-- a token asks for copies that are lost
abbrev pub loses : Asked → List ℕ → Bool
loses a token = (a.after_many && bytes_eq token (codes "@copies")) || (a.after_name && (nat_lt 0 a.dictionaries && is_many token))

-- a token outside procedures
abbrev pub called : Asked → List ℕ → Asked
called a token = record {
  procedures = a.procedures;
  dictionaries = dictionaries_after a.dictionaries token;
  after_many = is_many token;
  after_name = bytes_eq token (codes "/#copies");
  is_lost = a.is_lost || loses a token;
}

-- a brace, after which so many procedures are open
abbrev pub braced : Asked → (procedures : ℕ) → Asked
braced a procedures =
    record { procedures = procedures; dictionaries = a.dictionaries; after_many = false; after_name = false; is_lost = a.is_lost }

-- any token
abbrev pub after : Asked → List ℕ → Asked
after a token =
    if is_between token then a
    else (if bytes_eq token (codes "{") then braced a (a.procedures + 1)
    else (if bytes_eq token (codes "}") then braced a (a.procedures - 1)
    else (if nat_lt 0 a.procedures then a else called a token)))

abbrev pub at_end : Asked → List (List ℕ) → Asked
at_end a [] = a
at_end a (token ∷ rest) = if ends_setup token then a else at_end (after a token) rest

abbrev pub nothing : Asked
nothing = record { procedures = 0; dictionaries = 0; after_many = false; after_name = false; is_lost = false }

-- a document's setup asks for copies that sheets lose
abbrev pub loses_copies : List ℕ → Bool
loses_copies text = (at_end nothing (tokens text)).is_lost
