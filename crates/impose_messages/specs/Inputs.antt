-- What an error of its document makes of a request, before anything was written.
use Rattle.std.specs.Prelude.{ℕ, ◌==◌, Bool, ◌||◌, Option, Some, None, if◌then◌else◌, List, [], ◌∷◌, length, codes, nat_eq}
use Rattle.std.specs.List.{starts_with}
use Rattle.dsc.specs.declared.errors.DscError.{DscError}
use Rattle.dsc.specs.declared.errors.DscError.TheVariants.{NoPages, NotPostScript, TooLong}
use Rattle.imposer.specs.Outcomes.{of_document as of_read}
use Rattle.impose_messages.specs.declared.fault.FileKind.{FileKind}
use Rattle.impose_messages.specs.declared.fault.FileKind.TheVariants as kind
use Rattle.impose_messages.specs.declared.fault.ImposeFault.{ImposeFault}
use Rattle.impose_messages.specs.declared.fault.ImposeFault.TheVariants as fault

abbrev pub is_pdf : (input : List ℕ) → Bool
is_pdf input = starts_with nat_eq input (codes "%PDF-")

-- by what an input is compressed, by the first bytes of such files: of gzip (RFC 1952, 2.3.1), xz (its format, 2.1.1.1), bzip2
-- and zip (APPNOTE.TXT, 4.3.7)
abbrev pub packed_kind : (input : List ℕ) → Option FileKind
packed_kind input = if starts_with nat_eq input (31 ∷ 139 ∷ []) then Some kind.Gzip
    else (if starts_with nat_eq input (codes "BZh") then Some kind.Bzip2
    else (if starts_with nat_eq input (253 ∷ 55 ∷ 122 ∷ 88 ∷ 90 ∷ 0 ∷ []) then Some kind.Xz
    else (if starts_with nat_eq input (80 ∷ 75 ∷ 3 ∷ 4 ∷ []) then Some kind.Zip else None)))

-- which picture or text that another program draws an input is, by the first bytes of such files: of PNG (its specification,
-- 5.2), JPEG (SOI and the marker after it), TIFF (6.0, section 2), DVI (its `pre` and version), and texts in angle brackets
abbrev pub drawn_kind : (input : List ℕ) → Option FileKind
drawn_kind input = if starts_with nat_eq input (137 ∷ codes "PNG") then Some kind.Png
    else (if starts_with nat_eq input (255 ∷ 216 ∷ 255 ∷ []) then Some kind.Jpeg
    else (if starts_with nat_eq input (73 ∷ 73 ∷ 42 ∷ 0 ∷ []) || starts_with nat_eq input (77 ∷ 77 ∷ 0 ∷ 42 ∷ []) then Some kind.Tiff
    else (if starts_with nat_eq input (247 ∷ 2 ∷ []) then Some kind.Dvi
    else (if starts_with nat_eq input (60 ∷ []) then Some kind.Markup else None))))

-- the first bytes of an EPS with a preview before it (Adobe, EPSF 3.0, 5.2)
abbrev pub is_dos_eps : (input : List ℕ) → Bool
is_dos_eps input = starts_with nat_eq input (197 ∷ 208 ∷ 211 ∷ 198 ∷ [])

-- the first line of a drawing that is to be put into a page of a document, by the version of its comments (DSC, 'EPSF')
abbrev pub is_eps : (input : List ℕ) → Bool
is_eps input = starts_with nat_eq input (codes "%!PS-Adobe-2.0 EPSF-") || (starts_with nat_eq input (codes "%!PS-Adobe-2.1 EPSF-")
    || (starts_with nat_eq input (codes "%!PS-Adobe-3.0 EPSF-") || starts_with nat_eq input (codes "%!PS-Adobe-3.1 EPSF-")))

-- the mark at the start of a text in UTF-16, in one order of bytes or the other
abbrev pub is_utf_16 : (input : List ℕ) → Bool
is_utf_16 input = starts_with nat_eq input (255 ∷ 254 ∷ []) || starts_with nat_eq input (254 ∷ 255 ∷ [])

-- what a job for a printer begins with: the Universal Exit Language command (HP, Printer Job Language Technical
-- Reference Manual)
abbrev pub is_job : (input : List ℕ) → Bool
is_job input = starts_with nat_eq input (27 ∷ codes "%-12345X")

abbrev pub of_kind : Option FileKind → ImposeFault → ImposeFault
of_kind None other = other
of_kind (Some k) other = fault.OtherFile k

-- of an input that is no PostScript: one that is a job for a printer, an EPS with a preview, a text in UTF-16 or drawn is called so
abbrev pub of_unpacked : (input : List ℕ) → ImposeFault
of_unpacked input = if is_job input then fault.JobLanguage
    else (if is_dos_eps input then fault.DosEps
    else (if is_utf_16 input then fault.Utf16 else of_kind (drawn_kind input) (fault.Run (of_read NotPostScript))))

-- and so is one that is empty, a PDF, or compressed
abbrev pub of_other_input : (input : List ℕ) → ImposeFault
of_other_input input = if length input == 0 then fault.NoInput
    else (if is_pdf input then fault.Pdf
    else of_kind (packed_kind input) (of_unpacked input))

-- of an input that is refused for this reason (RULES, 16, step 7)
abbrev pub refused_document : DscError → (input : List ℕ) → ImposeFault
refused_document NotPostScript input = of_other_input input
refused_document TooLong input = fault.TooLong
refused_document NoPages input = if is_eps input then fault.Eps else fault.Run (of_read NoPages)
refused_document other input = fault.Run (of_read other)
