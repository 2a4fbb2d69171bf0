-- The first bytes of a file: those of the one that names the paper at home, and those of OUTFILE, which may hold a document by others.
use Rattle.std.specs.Prelude.{◌≡◌, ◌⊎◌, ◌+◌, ◌||◌, ◌&&◌, ℕ, Bool, true, false, not, is_some, List, [], ◌∷◌, Option, Some, None, IfSome, codes, nat_eq, option_map, string_bytes}
use Rattle.std.specs.List.{starts_with}
use Rattle.memchr.specs.Find.{first_of, matches}
use Rattle.world.specs.Input.{IsFirst, document_in}
use Rattle.world.specs.Worlds.{HasGranted, WasAsked, WorldView, opening}
use Rattle.impose_words.specs.Products.{file_to_spare}
use Rattle.impose_words.specs.declared.request.ImposeRequest.{ImposeRequest}

-- what files and standard input give, by the file's name
abbrev pub Inputs : Type 0
Inputs = Option (List ℕ) → Option (List ℕ)

-- whether there is a regular file of this name, where that is known
abbrev pub RegularFiles : Type 0
RegularFiles = List ℕ → Option Bool

-- whether the input of the first name is the file of the second, where that is known
abbrev pub SameFiles : Type 0
SameFiles = Option (List ℕ) → List ℕ → Option Bool

-- What was read at the front of the file of this name, with the world before and after. Nothing, and it was passed over: it is no
-- regular file, as far as that is known. Nothing, and the world failed: the file couldn't be opened or read. Or its first bytes.
abbrev pub LooksAt : (name : List ℕ) → (most : ℕ) → Inputs → RegularFiles → (old new : WorldView) → (front : List ℕ) → Type 0
LooksAt name most gives regular old new front =
    ((new ≡ old) × IfSome (regular name) (λ is. is ≡ false) × (front ≡ []))
    ⊎ ((WasAsked (opening (Some name)) old new × (new.failures ≡ old.failures + 1) × (front ≡ []))
    ⊎ (HasGranted (opening (Some name)) old new × IsFirst most (gives (Some name)) front))

-- ---- a document by others

-- before the PostScript in a job for a printer, by which the printer's own language (PJL) is entered
abbrev pub printer_job : List ℕ
printer_job = 27 ∷ codes "%-12345X"

-- before the PostScript in an EPS with a preview (EPSF, Appendix)
abbrev pub binary_header : List ℕ
binary_header = 197 ∷ 208 ∷ 211 ∷ 198 ∷ []

-- a file that begins so is a document: a PDF; PostScript, perhaps after white space or Ctrl-D; or what has PostScript after a head of its own
abbrev pub is_document : (front : List ℕ) → Bool
is_document front = starts_with nat_eq front (codes "%PDF-") || (starts_with nat_eq (document_in front) (codes "%!")
    || (starts_with nat_eq front printer_job || starts_with nat_eq front binary_header))

-- so begins the second line of the guard, and the first one before each page on a sheet
abbrev pub mark : List ℕ
mark = codes "userdict /Impose"

abbrev pub is_marked : (front : List ℕ) → Bool
is_marked front = is_some (first_of (matches front mark 0))

abbrev pub is_foreign : (front : List ℕ) → Bool
is_foreign front = is_document front && not (is_marked front)

-- as many bytes of it are looked at
abbrev pub most_front_bytes : ℕ
most_front_bytes = 4_096

-- Whether a document by others was found in this file, with the world before and after. No, and nothing was looked at: there is
-- no file that is to be spared, or it is the input, as far as that is known. Or it isn't, as far as that is known, and its front says so.
abbrev pub FindsForeignIn : (file infile : Option (List ℕ)) → Inputs → RegularFiles → SameFiles → (old new : WorldView) → (is : Bool) → Type 0
FindsForeignIn None infile gives regular same old new is = (new ≡ old) × (is ≡ false)
FindsForeignIn (Some name) infile gives regular same old new is =
    ((new ≡ old) × (is ≡ false) × IfSome (same infile name) (λ known. known ≡ true))
    ⊎ ((front : List ℕ) × LooksAt name most_front_bytes gives regular old new front × (is ≡ is_foreign front)
    × IfSome (same infile name) (λ known. known ≡ false))

abbrev pub FindsForeign : ImposeRequest → Inputs → RegularFiles → SameFiles → (old new : WorldView) → (is : Bool) → Type 0
FindsForeign r gives regular same old new is =
    FindsForeignIn (file_to_spare r) (option_map string_bytes r.infile) gives regular same old new is
