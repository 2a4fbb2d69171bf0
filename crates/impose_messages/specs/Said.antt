-- What is said on standard error of how the program ended: which lines, in which order, and what is in those of a finished run. Of
-- messages of faults only one is here, and nothing of what is said of words that the command doesn't take.
use Rattle.std.specs.Prelude.{⊤, ◌≡◌, ◌==◌, ◌⊎◌, ◌++◌, if◌then◌else◌, ℕ, List, [], Bool, true, false, Option, Some, None, Result, Ok, Err}
use Rattle.std.specs.Prelude.{◌+◌, ◌-◌, ◌*◌, ◌/◌, ℤ, pos, int_le, codes, decimal, nat_abs, not, nat_le, nat_lt, ◌&&◌, string_bytes}
use Rattle.std.specs.Prelude.{String, is_some, length, map, min, take}
use Rattle.std.specs.declared.alloc.Global.{Global}
use Rattle.std.specs.Ordering.{int_eq}
use Rattle.std.specs.IoError.{error_kind}
use Rattle.std.specs.declared.io.ErrorKind.{ErrorKind}
use Rattle.std.specs.declared.io.ErrorKind.TheVariants.{BrokenPipe}
use Rattle.clap.specs.Words.{kind_of}
use Rattle.clap.specs.declared.error.Error.{Error as WordsError}
use Rattle.rules.specs.Bytes.{line}
use Rattle.rules.specs.Numbers.{points_text, scale_text}
use Rattle.rules.specs.Papers.{Paper}
use Rattle.paper_names.specs.Names.{paper_named}
use Rattle.layouts.specs.Grids.{cells_per_sheet, is_same}
use Rattle.layouts.specs.Placed.{Room}
use Rattle.preview.specs.Listing.{edge_name}
use Rattle.preview.specs.declared.naming.Edge.{Edge}
use Rattle.preview.specs.declared.naming.Sides.{Sides}
use Rattle.preview.specs.declared.naming.Sides.TheVariants.{Both, One}
use Rattle.papers.specs.declared.media.Comment.TheVariants as comment
use Rattle.papers.specs.declared.boxes.Edges.{Edges}
use Rattle.papers.specs.declared.cuts.Cut.{Cut}
use Rattle.papers.specs.declared.reach.Reach.{Reach}
use Rattle.imposer.specs.declared.outcome.Report.{Report}
use Rattle.impose_messages.specs.Statuses.{words_status}
use Rattle.impose_words.specs.declared.fault.RequestFault.TheVariants as command
use Rattle.impose_messages.specs.declared.fault.ImposeFault.{ImposeFault}
use Rattle.impose_messages.specs.declared.fault.ImposeFault.TheVariants as fault
use Rattle.impose_messages.specs.declared.finished.Done.{Done}
use Rattle.impose_messages.specs.declared.finished.Done.TheVariants as done
use Rattle.impose_words.specs.Choices.{is_all_pages}
use Rattle.impose_words.specs.declared.request.ImposeRequest.{ImposeRequest}
use Rattle.impose_words.specs.SheetPapers.{sheet_paper_for}
use Rattle.impose_words.specs.declared.request.Layout.{Layout}
use Rattle.impose_words.specs.declared.request.Layout.TheVariants as layout
use Rattle.impose_messages.specs.declared.finished.Dependence.{Dependence}
use Rattle.impose_messages.specs.declared.finished.Dependence.TheVariants.{Antiword, Font, Hp2xx, Plplot, Setup, Xcircuit}
use Rattle.impose_messages.specs.declared.finished.Claims.{Claims}
use Rattle.impose_messages.specs.declared.finished.Findings.{Findings}
use Rattle.impose_messages.specs.declared.finished.Finished.{Finished}
use Rattle.impose_messages.specs.declared.finished.Lying.{Lying}
use Rattle.impose_messages.specs.declared.finished.SheetFacts.{SheetFacts}
use Rattle.impose_messages.specs.declared.scales.Scales.{Scales}
use Rattle.impose_messages.specs.declared.finished.PaperOrigin.{PaperOrigin}
use Rattle.impose_messages.specs.declared.finished.PaperOrigin.TheVariants as origin

-- ---- messages of a finished run

-- where the paper of the pages was found (RULES, 17)
abbrev pub origin_text : PaperOrigin → List ℕ
origin_text origin.Named = codes "as named"
origin_text (origin.ByComment comment.DocumentMedia) = codes "by its %%DocumentMedia"
origin_text (origin.ByComment comment.DocumentPaperSizes) = codes "by its %%DocumentPaperSizes"
origin_text (origin.ByComment comment.BoundingBox) = codes "by its %%BoundingBox"
origin_text (origin.ByComment comment.Setup) = codes "by its setup"
origin_text origin.ByDefault = codes "the usual one here, as the document names none"
origin_text origin.FirstPage = codes "that of the first page taken, as none has the document's"
origin_text origin.Covering = codes "which covers pages of nearly one size"

-- both sides of a paper, and how far something reaches, in points
abbrev pub sides_text : (width height : ℤ) → List ℕ
sides_text width height = points_text width ++ (codes " x " ++ points_text height)

abbrev pub paper_size_text : Paper → List ℕ
paper_size_text paper = sides_text paper.width paper.height

-- how many places each sheet has, if all have equally many
abbrev pub places_per_sheet : Layout → ℕ
places_per_sheet (layout.NUp cells) = cells_per_sheet cells
places_per_sheet (layout.Notes pages) = pages
places_per_sheet (layout.Booklet signing long_edge) = 2
places_per_sheet layout.Zine = 8
places_per_sheet other = 0

-- how many of them have no page, if all pages are taken, each once
abbrev pub blank_count : ImposeRequest → Report → ℕ
blank_count r report = if is_all_pages r.choice then places_per_sheet r.layout * report.sheets - report.pages else 0

abbrev pub blanks_text : (blanks : ℕ) → List ℕ
blanks_text blanks = if blanks == 0 then [] else codes ", blanks " ++ decimal blanks

-- so many of something: a text of its own for one, or else the number with these texts before and after it
abbrev pub count_text : (count : ℕ) → (one before after : List ℕ) → List ℕ
count_text count one before after = if count == 1 then one else before ++ (decimal count ++ after)

-- on which edge the printer flips leaves of paper
abbrev pub flip_text : Edge → List ℕ
flip_text flip = codes ", flip on the " ++ (edge_name flip ++ codes " edge; ")

-- how many leaves of paper so many sheets are, if they are printed on both sides
abbrev pub leaves_text : Sides → (sheets : ℕ) → List ℕ
leaves_text One sheets = []
leaves_text (Both flip) sheets =
    count_text ((sheets + 1) / 2) (codes "1 leaf of paper") (codes "") (codes " leaves of paper") ++ flip_text flip

-- how many pages there are, with how many of them are taken before it if not all are
abbrev pub page_count_text : (taken pages : ℕ) → List ℕ
page_count_text taken pages = if taken == pages then decimal pages else decimal taken ++ (codes " of " ++ decimal pages)

-- how many pages, sheets and bytes there are, and after the pages the blanks
abbrev pub counts_text : (taken : ℕ) → Report → ImposeRequest → List ℕ
counts_text taken report r = codes "pages " ++ (page_count_text taken report.pages ++ (blanks_text (blank_count r report)
    ++ (codes ", sheets " ++ (decimal report.sheets ++ (codes ", bytes " ++ decimal report.bytes)))))

-- the size of the sheets
abbrev pub sheet_text : (sheet : Paper) → List ℕ
sheet_text sheet = codes "; sheets of " ++ (paper_size_text sheet ++ codes " pt")

-- the size of the sheets, if they have another paper than the pages
abbrev pub sheets_text : (sheet page_paper : Paper) → List ℕ
sheets_text sheet page_paper = if is_same sheet page_paper then [] else sheet_text sheet

-- the scale of pages that don't keep their size, or the least and the greatest of several
abbrev pub range_text : (least greatest : ℤ) → List ℕ
range_text least greatest =
    if int_eq least greatest then (if int_eq least (pos 1_000_000_000) then [] else codes "; scale " ++ scale_text least)
    else codes "; scales from " ++ (scale_text least ++ (codes " to " ++ scale_text greatest))

-- that of a layout, if a page is placed; a specification says its scales itself
abbrev pub scales_line : Layout → Option Scales → List ℕ
scales_line (layout.Spec specs signing) scales = []
scales_line other None = []
scales_line other (Some s) = range_text s.least s.greatest

-- the report: the leaves, the counts, the size of the pages' paper with where it was found, that of the sheets, and the scale (RULES, 17)
abbrev pub report_text : Finished → ImposeRequest → List ℕ
report_text finished r = let f = finished.findings in
    leaves_text finished.sheets.sides finished.report.sheets ++ (counts_text f.taken finished.report r
    ++ (codes "; pages of " ++ (paper_size_text f.page_paper ++ (codes " pt, " ++ (origin_text f.origin
    ++ (sheets_text (sheet_paper_for r.layout r.sheet_paper f.page_paper) f.page_paper ++ scales_line r.layout finished.sheets.scales))))))

-- a byte of a name as it is shown: what isn't a printable one of ASCII is a question mark
abbrev pub shown_byte : ℕ → ℕ
shown_byte b = if nat_le 32 b && nat_le b 126 then b else 63

-- as much of a name as is shown
abbrev pub front_of : (name : List ℕ) → List ℕ
front_of name = take (min (length name) 100) name

-- a name as it is shown, with two dots if there is more
abbrev pub shown_name : (name : List ℕ) → List ℕ
shown_name name = if nat_lt 100 (length name) then map shown_byte (front_of name) ++ codes ".." else map shown_byte (front_of name)

-- of a document whose paper has a name that isn't known, by this name as it is shown
abbrev pub unknown_message : (shown : List ℕ) → List ℕ
unknown_message shown = codes "the document names an unknown paper, " ++ shown

-- if it has one
abbrev pub unknown_text : (shown : Option (List ℕ)) → Option (List ℕ)
unknown_text None = None
unknown_text (Some shown) = Some (unknown_message shown)

-- of a PAPERSIZE whose value is no paper
abbrev pub home_message : (shown : List ℕ) → List ℕ
home_message shown = codes "PAPERSIZE names an unknown paper, " ++ shown

-- a value that no paper has as its name; an empty one names none (RULES, 12.1)
abbrev pub names_unknown : (paper_size : List ℕ) → Bool
names_unknown paper_size = not (length paper_size == 0) && not (is_some (paper_named paper_size))

-- if it has one
abbrev pub home_text : (paper_size : List ℕ) → Option (List ℕ)
home_text paper_size = if names_unknown paper_size then Some (home_message (shown_name paper_size)) else None

abbrev pub some_pages_text : (pages first last : ℕ) → List ℕ
some_pages_text pages first last = decimal pages ++ (codes " pages from " ++ (decimal first ++ (codes " to " ++ decimal last)))

-- the pages that are cut, counted from 1: one, all from the first to the last, or some of these
abbrev pub cut_pages_text : Cut → List ℕ
cut_pages_text cut = if cut.pages == 1 then codes "page " ++ decimal (cut.first + 1)
    else (if cut.first + cut.pages == cut.last + 1
    then codes "pages " ++ (decimal (cut.first + 1) ++ (codes "-" ++ decimal (cut.last + 1)))
    else some_pages_text cut.pages (cut.first + 1) (cut.last + 1))

-- the size of one that is cut, and how far several reach
abbrev pub cut_size_text : Cut → List ℕ
cut_size_text cut = if cut.pages == 1 then paper_size_text cut.paper else codes "up to " ++ paper_size_text cut.paper

-- of pages that the paper cuts which is named for them: which pages, and both sizes
abbrev pub cut_message : Cut → (named : Paper) → List ℕ
cut_message cut named =
    codes "--paper cuts " ++ (cut_pages_text cut ++ (codes ": " ++ (cut_size_text cut ++ (codes " on " ++ paper_size_text named))))

-- if there are some
abbrev pub cut_text : Option Cut → (named : Paper) → Option (List ℕ)
cut_text None named = None
cut_text (Some cut) named = Some (cut_message cut named)

-- of pages that are all smaller than the paper that is named for them: the least paper that covers them, and the named one
abbrev pub loose_message : (cover named : Paper) → List ℕ
loose_message cover named =
    codes "--paper is larger than all pages: up to " ++ (paper_size_text cover ++ (codes " on " ++ paper_size_text named))

-- if they are
abbrev pub loose_text : Option Paper → (named : Paper) → Option (List ℕ)
loose_text None named = None
loose_text (Some cover) named = Some (loose_message cover named)

-- how many more pages reach beyond their papers
abbrev pub others_text : (pages : ℕ) → List ℕ
others_text pages = if pages == 0 then []
    else count_text pages (codes ", and 1 other page beyond its own") (codes ", and ") (codes " other pages beyond theirs")

-- both corners of a page
abbrev pub corners_text : Edges → List ℕ
corners_text e = codes "from " ++ (sides_text e.left e.bottom ++ (codes " to " ++ sides_text e.right e.top))

-- how far it reaches: to its upper right corner, and from its lower left one if that is before 0
abbrev pub edges_text : Edges → List ℕ
edges_text e = if int_le (pos 0) e.left && int_le (pos 0) e.bottom then codes "to " ++ sides_text e.right e.top else corners_text e

-- of pages that reach beyond their papers: the first one, how far it reaches, and its paper
abbrev pub reach_message : Reach → List ℕ
reach_message reach = codes "page " ++ (decimal (reach.first + 1) ++ (codes " reaches " ++ (edges_text reach.edges
    ++ (codes " on " ++ (paper_size_text reach.paper ++ others_text (reach.pages - 1))))))

-- if there are some
abbrev pub reach_text : Option Reach → Option (List ℕ)
reach_text None = None
reach_text (Some reach) = Some (reach_message reach)

-- of a page that isn't wholly on its sheet: how it lies, and both sizes
abbrev pub lying_message : (how : List ℕ) → Lying → List ℕ
lying_message how lying = codes "page " ++ (decimal (lying.page + 1) ++ (how ++ (corners_text lying.edges ++ (codes " on " ++ paper_size_text lying.sheet))))

-- if there is one
abbrev pub lying_text : (how : List ℕ) → Option Lying → Option (List ℕ)
lying_text how None = None
lying_text how (Some lying) = Some (lying_message how lying)

-- of pages that follow the document's trailer
abbrev pub pages_after_message : (pages : ℕ) → List ℕ
pages_after_message pages = count_text pages (codes "1 page follows %%Trailer or %%EOF and is not imposed") (codes "")
    (codes " pages follow %%Trailer or %%EOF and are not imposed")

-- if there are some
abbrev pub pages_after_text : (pages : ℕ) → Option (List ℕ)
pages_after_text pages = if pages == 0 then None else Some (pages_after_message pages)

-- pages may be missing, unless the document goes on after its last one; or there are more than it says
abbrev pub claim_advice : (is_ended : Bool) → (claimed found : ℕ) → List ℕ
claim_advice is_ended claimed found =
    if nat_le claimed found then codes ": all are counted" else (if is_ended then [] else codes ": is it complete?")

-- of a document that says another number of its pages than were found: both
abbrev pub claim_message : (is_ended : Bool) → (claimed found : ℕ) → List ℕ
claim_message is_ended claimed found = codes "the document says "
    ++ (count_text claimed (codes "1 page") (codes "") (codes " pages") ++ (codes ", "
    ++ (count_text found (codes "1 was found") (codes "") (codes " were found") ++ claim_advice is_ended claimed found)))

-- if it says one
abbrev pub claim_text : (is_ended : Bool) → (claimed : Option ℕ) → (found : ℕ) → Option (List ℕ)
claim_text is_ended None found = None
claim_text is_ended (Some claimed) found = if claimed == found then None else Some (claim_message is_ended claimed found)

-- of pages that depend on the text before them: why, and what becomes of the sheets
abbrev pub dependence_effect : Dependence → List ℕ
dependence_effect Hp2xx = codes "pages by hp2xx undo the setup, so that sheets print nothing"
dependence_effect Xcircuit = codes "pages by Xcircuit use what earlier pages define, so that sheets may be missing"
dependence_effect Plplot = codes "pages by PLplot undo the setup's scale, so that sheets are cut"
dependence_effect Antiword = codes "pages by antiword go on with the font of the page before, so that text may be missing"
dependence_effect Setup = codes "the setup scales, turns or moves pages, so that sheets may be wrong"
dependence_effect Font = codes "a page shows text before it sets a font, so that text may be missing"

-- and what to do
abbrev pub dependence_message : Dependence → List ℕ
dependence_message dependence = dependence_effect dependence ++ codes ": let Ghostscript draw the document first, by ps2pdf and pdftops"

-- one of so many pages depends on the text before it: of those by Xcircuit and antiword none but those after the first
abbrev pub depends : Dependence → (pages : ℕ) → Bool
depends Hp2xx pages = true
depends Xcircuit pages = not (pages == 1)
depends Plplot pages = true
depends Antiword pages = not (pages == 1)
depends Setup pages = true
depends Font pages = true

-- if one does
abbrev pub dependence_text : Option Dependence → (pages : ℕ) → Option (List ℕ)
dependence_text None pages = None
dependence_text (Some dependence) pages = if depends dependence pages then Some (dependence_message dependence) else None

-- of copies for which the setup asks, and that aren't printed
abbrev pub copies_message : List ℕ
copies_message = codes "the setup asks for copies, which sheets don't have: print them with lp -n"

-- if there are some
abbrev pub copies_text : (loses_copies : Bool) → Option (List ℕ)
copies_text loses_copies = if loses_copies then Some copies_message else None

-- ---- the message of sheets without room for pages

-- two lengths of so many 10^-5 of a point
abbrev pub lengths_text : (across up : ℕ) → List ℕ
lengths_text across up = sides_text (pos (1_270_000 * across)) (pos (1_270_000 * up))

-- what so many leave of a side, in grains
abbrev pub left_of : (side : ℤ) → (taken : ℕ) → ℕ
left_of side taken = nat_abs side - 1_270_000 * taken

-- something is left of both sides
abbrev pub leaves_some : Room → Bool
leaves_some room = nat_lt 0 (left_of room.paper.width (room.left + room.right)) && nat_lt 0 (left_of room.paper.height (room.bottom + room.top))

-- then gaps leave nothing of that
abbrev pub gaps_text : Room → List ℕ
gaps_text room = if leaves_some room then codes ", and gaps of " ++ (lengths_text room.gutter_across room.gutter_up ++ codes " pt none of that") else []

-- how much the margins along opposite edges are, and what they leave of the sheet
abbrev pub no_room_text : Room → List ℕ
no_room_text room = let across = room.left + room.right in let up = room.bottom + room.top in
    codes "margins of " ++ (lengths_text across up ++ (codes " pt leave "
    ++ (sides_text (pos (left_of room.paper.width across)) (pos (left_of room.paper.height up)) ++ (codes " of a sheet of "
    ++ (paper_size_text room.paper ++ (codes " pt" ++ (gaps_text room ++ codes ": take smaller ones, or a larger sheet")))))))

-- ---- lines

-- a line of the program
abbrev pub message_line : (message : List ℕ) → List ℕ
message_line message = line (codes "impose: " ++ message)

-- that of a message, if there is one
abbrev pub line_of : (message : Option (List ℕ)) → List ℕ
line_of None = []
line_of (Some message) = message_line message

-- the same, but without memory for it there is nothing
abbrev pub IsLineOf : (message : Option (List ℕ)) → (text : List ℕ) → Type 0
IsLineOf message text = (text ≡ []) ⊎ (text ≡ line_of message)

-- the line of a message of which this holds, if there is memory for it
abbrev pub MaySay : (List ℕ → Type 0) → (text : List ℕ) → Type 0
MaySay Holds text = (text ≡ []) ⊎ ((message : List ℕ) × Holds message × (text ≡ message_line message))

-- the line of a message that was to be made: without memory for it there is nothing
abbrev pub IsMadeLine : {E : Type 0} → Result (String Global) E → (text : List ℕ) → Type 0
IsMadeLine (Ok message) text = IsLineOf (Some (string_bytes message)) text
IsMadeLine (Err e) text = text ≡ []

-- a text of which this holds comes after what was said before
abbrev pub AddsText : (List ℕ → Type 0) → (before after : List ℕ) → Type 0
AddsText Holds before after = (text : List ℕ) × Holds text × (after ≡ before ++ text)

-- ---- all of it

-- of the papers of pages: that the document names an unknown one, that pages are cut, that the named paper is larger than all, and that
-- pages reach beyond theirs
abbrev pub paper_lines : Findings → List ℕ
paper_lines f = line_of (unknown_text f.claims.unknown) ++ line_of (cut_text f.cut f.page_paper) ++ line_of (loose_text f.loose f.page_paper)
    ++ line_of (reach_text f.reach)

-- of pages that aren't wholly on their sheets: the first that lies beside its sheet, and the first over an edge
abbrev pub lying_lines : SheetFacts → List ℕ
lying_lines sheets = line_of (lying_text (codes " lies beside its sheet: ") sheets.beside) ++ line_of (lying_text (codes " is cut by its sheet: ") sheets.over)

-- of what a document says of itself, of which so many pages were found: that it says another number, that pages depend on the text
-- before them, and that copies are lost
abbrev pub claim_lines : Claims → (found : ℕ) → List ℕ
claim_lines claims found =
    line_of (claim_text claims.is_ended claims.pages found) ++ line_of (dependence_text claims.dependence found) ++ line_of (copies_text claims.loses_copies)

-- Of a finished run these lines are said: the report, then those on papers, and on pages that aren't wholly on their sheets, that pages
-- follow the trailer, what the document says of itself, and that PAPERSIZE, which has this value, names an unknown paper
abbrev pub run_lines : Finished → ImposeRequest → (paper_size : List ℕ) → List ℕ
run_lines finished r paper_size = let f = finished.findings in
    line_of (Some (report_text finished r)) ++ paper_lines f ++ lying_lines finished.sheets
    ++ line_of (pages_after_text f.after_trailer) ++ claim_lines f.claims finished.report.pages ++ line_of (home_text paper_size)

-- after what was said before at most one line comes, with some message
abbrev pub AddsOne : (before after : List ℕ) → Type 0
AddsOne before after = AddsText (λ text. MaySay (λ message. ⊤) text) before after

-- A quiet request says nothing. Of another all these lines are said, and then one on the name of the output, if it is named as
-- something else than PostScript. Without memory for the lines there is nothing.
abbrev pub SaysUnless : (quiet : Bool) → Finished → ImposeRequest → (paper_size text : List ℕ) → Type 0
SaysUnless true finished r paper_size text = text ≡ []
SaysUnless false finished r paper_size text = (text ≡ []) ⊎ AddsOne (run_lines finished r paper_size) text

abbrev pub SaysRun : Finished → ImposeRequest → (paper_size text : List ℕ) → Type 0
SaysRun finished r paper_size text = SaysUnless r.is_quiet finished r paper_size text

-- of words that ask for help or for the version nothing is said
abbrev pub SaysWords : WordsError → (text : List ℕ) → Type 0
SaysWords error text = words_status (kind_of error) ≡ 0 → text ≡ []

-- the pipe into which the output goes was closed
abbrev pub is_pipe : ErrorKind → Bool
is_pipe BrokenPipe = true
is_pipe _ = false

abbrev pub is_broken_pipe : ImposeFault → Bool
is_broken_pipe (fault.Write written (Some cause)) = is_pipe (error_kind cause)
is_broken_pipe other = false

-- a line with some message, or nothing
abbrev pub SaysOneUnless : (silent : Bool) → (text : List ℕ) → Type 0
SaysOneUnless true text = text ≡ []
SaysOneUnless false text = MaySay (λ message. ⊤) text

-- What is said of a fault is one message; nothing, if whoever reads the output has closed it.
abbrev pub SaysFault : ImposeFault → (text : List ℕ) → Type 0
SaysFault (fault.Command (command.Words error)) text = SaysWords error text
SaysFault other text = SaysOneUnless (is_broken_pipe other) text

-- what is said of how the program ended; of what was made in place of sheets nothing is
abbrev pub SaysEnding : Result Done ImposeFault → Option ImposeRequest → (paper_size text : List ℕ) → Type 0
SaysEnding (Ok (done.Imposed finished)) (Some r) paper_size text = SaysRun finished r paper_size text
SaysEnding (Ok (done.Imposed finished)) None paper_size text = text ≡ []
SaysEnding (Ok done.Printed) r paper_size text = text ≡ []
SaysEnding (Ok done.Shown) r paper_size text = text ≡ []
SaysEnding (Err f) r paper_size text = SaysFault f text
