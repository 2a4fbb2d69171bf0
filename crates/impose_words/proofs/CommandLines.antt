-- Command lines, one for each command, with the requests that they make, worked out.
use Rattle.std.proofs.Common.{◌≡◌, [], ◌∷◌, List, ap, sym, refl, true, false}
use Rattle.std.specs.Prelude.{codes, pos, None, Some, not, option_map, string_bytes}
use Rattle.std.specs.declared.string.String.{String}
use Rattle.std.specs.declared.alloc.Global.{Global}
use Rattle.clap.specs.Words.{Row, Text, first_of}
use Rattle.clap.proofs.OnLiterals.{clap_on_literals}
use Rattle.lengths.specs.Lengths.{a4}
use Rattle.lengths.specs.Reading.{number_at}
use Rattle.paper_names.specs.Names.{papers}
use Rattle.rules.specs.Papers.{points}
use Rattle.layouts.specs.Grids.{nothing_free, plain_order}
use Rattle.layouts.specs.declared.arrangement.Cells.TheVariants.{AtLeast, Exactly}
use Rattle.layouts.specs.declared.arrangement.FillOrder.TheVariants.{Columns}
use Rattle.layouts.specs.declared.arrangement.Turned.TheVariants as sideways
use Rattle.rows.specs.declared.choices.Part.TheVariants as part
use Rattle.rows.specs.declared.sewing.Signing.TheVariants as signing
use Rattle.pagespec.specs.declared.item.Turn.TheVariants as turn
use Rattle.impose_words.specs.declared.request.Turning.TheVariants as turning
use Rattle.impose_words.specs.Command.{impose}
use Rattle.impose_words.specs.Arranging.{lines_alone, no_marks}
use Rattle.impose_words.specs.Spacings.{keeps_room, nothing_kept}
use Rattle.impose_words.specs.Products.{is_picture_file}
use Rattle.impose_words.specs.Words.{AsksFor, ChoosesBy, Entered, Enters, MakesBy, ReadsRequest, ReadsSizes, SpacesBy, file_asked, given, has_flag, is_outfile, marks_found, ranges_id, skip_found}
use Rattle.impose_words.specs.declared.fault.OptionId.TheVariants as opt
use Rattle.impose_words.specs.declared.request.ImposeRequest.{ImposeRequest}
use Rattle.impose_words.specs.declared.request.Layout.{Layout}
use Rattle.impose_words.specs.declared.request.Layout.TheVariants as layout
use Rattle.impose_words.specs.declared.request.PageChoice.{PageChoice}
use Rattle.impose_words.specs.declared.request.PosterSize.TheVariants as size
use Rattle.impose_words.specs.declared.request.Product.TheVariants as product

-- the words after `impose` make this request
abbrev Makes : List Text → ImposeRequest → Type 0
Makes words r = Entered (codes "impose" ∷ words) (λ name found. ReadsRequest name found r)

-- all pages, without any option, from standard input to standard output
abbrev all_pages : PageChoice
all_pages = record { ranges = None; part = part.All; backwards = false }

abbrev plain : Layout → ImposeRequest
plain l = record {
  layout = l;
  spacing = nothing_kept;
  choice = all_pages;
  last_at_back = false;
  turn = turning.All turn.None;
  page_paper = None;
  default_paper = a4;
  sheet_paper = None;
  border = None;
  marks = no_marks;
  is_guarded = true;
  product = product.Sheets;
  is_quiet = false;
  infile = None;
  outfile = None;
  replaces = false;
}

-- it makes it, if the command takes the words, and finds among them what the request asks for
makes : (words : List Text) (name : Text) (found : List Row) (r : ImposeRequest) → Enters (codes "impose" ∷ words) name found
    → skip_found r.layout found ≡ Some r.spacing.skipped → AsksFor name found r.layout → SpacesBy (keeps_room r.layout) found r.spacing → ChoosesBy (ranges_id r.layout) found r.choice
    → has_flag (codes "cover") found ≡ r.last_at_back → ReadsSizes found r.page_paper r.sheet_paper r.border r.turn → marks_found r.layout found ≡ Some r.marks
    → (r.is_guarded ≡ not (has_flag (codes "unguarded") found)) → MakesBy found r.product → has_flag (codes "quiet") found ≡ r.is_quiet → has_flag (codes "replace") found ≡ r.replaces
    → file_asked (first_of (codes "infile") found) ≡ option_map string_bytes r.infile → file_asked (given opt.Outfile found) ≡ option_map string_bytes r.outfile
    → is_outfile (option_map string_bytes r.outfile) ≡ true → Makes words r
makes words name found r enters skipped layout spacing choice at_back sizes marks guarded product quiet replaces infile outfile no_option = (
  name,
  found,
  enters,
  record {
    layout = layout;
    skipped = skipped;
    spacing = spacing;
    choice = choice;
    last_at_back = at_back;
    page_paper = sizes.page_paper_is;
    sheet_paper = sizes.sheet_paper_is;
    border = sizes.border_is;
    turn = sizes.turn_is;
    marks = marks;
    guarded = guarded;
    product = product;
    quiet = quiet;
    infile = infile;
    outfile = outfile;
    no_option = no_option;
    replaces = replaces;
  },
)

-- columns of three, from the right, with the content of pages lying on its left side; margins clockwise from the upper one
nup : (document output : String Global) → string_bytes document ≡ codes "in.ps" → string_bytes output ≡ codes "out.ps"
    → Makes (codes "nup" ∷ codes "2x3" ∷ codes "--order" ∷ codes "down-left" ∷ codes "--turned" ∷ codes "left" ∷ codes "--margin" ∷ codes "1in,2in,3in,0in" ∷ codes "--gap" ∷ codes "4in,5in" ∷ codes "--trim" ∷ codes "6in" ∷ codes "--scale" ∷ codes "0.5" ∷ codes "--same-scale" ∷ codes "in.ps" ∷ codes "out.ps" ∷ [])
    (record (plain (layout.NUp (Exactly 2 3))) {
      spacing = record nothing_kept {
        free = record nothing_free { left = pos 0; right = pos 18_288_000_000_000; bottom = pos 27_432_000_000_000; top = pos 9_144_000_000_000; across = pos 36_576_000_000_000; up = pos 45_720_000_000_000; trim = pos 54_864_000_000_000 };
        order = record { run = Columns; right_to_left = true; turned = sideways.Left };
        scale = Some (pos 500_000_000);
        same_scale = true;
      };
      infile = Some document;
      outfile = Some output;
    })
unfolding clap_on_literals impose number_at papers
nup document output is_document is_output = makes _ _ _ _ (record { taken = refl; entered = refl }) refl (refl, refl) (refl, refl, refl, refl, refl, refl, refl) (refl, refl, refl) refl (record { page_paper_is = refl; sheet_paper_is = refl; border_is = refl; turn_is = refl }) refl refl (record { printed = refl; planned = refl; pictured = refl; is_picture = tt }) refl refl
    (ap Some (sym is_document)) (ap Some (sym is_output)) (ap (λ t. is_outfile (Some t)) is_output)

-- signatures of eight pages for a printer that flips on the long edge, the last page at the back, an inner margin, and pages from the third to the last but one
booklet : (ranges document : String Global) → string_bytes ranges ≡ codes "3-_2" → string_bytes document ≡ codes "in.ps"
    → Makes (codes "booklet" ∷ codes "--signature" ∷ codes "8" ∷ codes "--cover" ∷ codes "--long-edge" ∷ codes "--creep" ∷ codes "2pt" ∷ codes "--marks" ∷ codes "fold,cut" ∷ codes "--margin" ∷ codes "inner=1in,top=2in" ∷ codes "--pages" ∷ codes "3-_2" ∷ codes "in.ps" ∷ [])
    (record (plain (layout.Booklet (signing.OfSides 8) true)) {
      spacing = record nothing_kept { free = record nothing_free { top = pos 18_288_000_000_000 }; inner = Some (pos 9_144_000_000_000); creep = pos 254_000_000_000 };
      choice = record all_pages { ranges = Some ranges };
      last_at_back = true;
      marks = record no_marks { fold = true; cut = true };
      infile = Some document;
    })
unfolding clap_on_literals impose number_at papers
booklet ranges document is_ranges is_document = makes _ _ _ _ (record { taken = refl; entered = refl }) refl (refl, refl, refl) (refl, refl, refl, refl, refl, refl, refl) (ap Some (sym is_ranges), refl, refl) refl (record { page_paper_is = refl; sheet_paper_is = refl; border_is = refl; turn_is = refl }) refl refl (record { printed = refl; planned = refl; pictured = refl; is_picture = tt }) refl refl
    (ap Some (sym is_document)) refl refl

-- from the right, and only planned
zine : Makes (codes "zine" ∷ codes "--rtl" ∷ codes "--gap" ∷ codes "1pt" ∷ codes "--plan" ∷ codes "-" ∷ [])
    (record (plain layout.Zine) {
      spacing = record nothing_kept { free = record nothing_free { across = pos 127_000_000_000; up = pos 127_000_000_000 }; order = record plain_order { right_to_left = true } };
      product = product.Plan;
    })
unfolding clap_on_literals impose number_at papers
zine = makes _ _ _ _ (record { taken = refl; entered = refl }) refl refl (refl, refl, refl, refl, refl, refl, refl) (refl, refl, refl) refl (record { page_paper_is = refl; sheet_paper_is = refl; border_is = refl; turn_is = refl }) refl refl (record { printed = refl; planned = refl; pictured = refl; is_picture = tt }) refl refl
    refl refl refl

-- pages of one paper on sheets of another, of which three cells are used already, with a border, without the guard, and in place of any document
cards : Makes (codes "cards" ∷ codes "8" ∷ codes "--skip" ∷ codes "3" ∷ codes "-p" ∷ codes "1x2in" ∷ codes "--sheet" ∷ codes "3x4in" ∷ codes "--border" ∷ codes "1pt" ∷ codes "--unguarded" ∷ codes "--replace" ∷ codes "-q" ∷ [])
    (record (plain (layout.Cards (AtLeast 8))) {
      spacing = record nothing_kept { skipped = 3 };
      page_paper = Some (points 72 144);
      sheet_paper = Some (points 216 288);
      border = Some (pos 127_000_000_000);
      is_guarded = false;
      is_quiet = true;
      replaces = true;
    })
unfolding clap_on_literals impose number_at papers
cards = makes _ _ _ _ (record { taken = refl; entered = refl }) refl (refl, refl) (refl, refl, refl, refl, refl, refl, refl) (refl, refl, refl) refl (record { page_paper_is = refl; sheet_paper_is = refl; border_is = refl; turn_is = refl }) refl refl (record { printed = refl; planned = refl; pictured = refl; is_picture = tt }) refl refl
    refl refl refl

-- on both sides of leaves, odd pages alone, the last one first, each turned to the left, and cut marks
stack : Makes (codes "stack" ∷ codes "4" ∷ codes "--duplex" ∷ codes "--turn" ∷ codes "left" ∷ codes "--odd" ∷ codes "--reverse" ∷ codes "--marks" ∷ codes "cut" ∷ [])
    (record (plain (layout.Stack (AtLeast 4) true)) {
      choice = record all_pages { part = part.Odd; backwards = true };
      turn = turning.All turn.Left;
      marks = record no_marks { cut = true };
    })
unfolding clap_on_literals impose number_at papers
stack = makes _ _ _ _ (record { taken = refl; entered = refl }) refl (refl, refl, refl) (refl, refl, refl, refl, refl, refl, refl) (refl, refl, refl) refl (record { page_paper_is = refl; sheet_paper_is = refl; border_is = refl; turn_is = refl }) refl refl (record { printed = refl; planned = refl; pictured = refl; is_picture = tt }) refl refl
    refl refl refl

-- even pages, numbered from 7
notes : Makes (codes "notes" ∷ codes "3" ∷ codes "--even" ∷ codes "--numbers" ∷ codes "9pt" ∷ codes "--numbers-from" ∷ codes "7" ∷ [])
    (record (plain (layout.Notes 3)) {
      choice = record all_pages { part = part.Even };
      marks = record lines_alone { numbers = Some (record { size = pos 1_143_000_000_000; first = 7 }) };
    })
unfolding clap_on_literals impose number_at papers
notes = makes _ _ _ _ (record { taken = refl; entered = refl }) refl (refl, refl) (refl, refl, refl, refl, refl, refl, refl) (refl, refl, refl) refl (record { page_paper_is = refl; sheet_paper_is = refl; border_is = refl; turn_is = refl }) refl refl (record { printed = refl; planned = refl; pictured = refl; is_picture = tt }) refl refl
    refl refl refl

-- two columns and three rows of sheets, as a picture
poster : (picture : String Global) → string_bytes picture ≡ codes "p.svg"
    → Makes (codes "poster" ∷ codes "2x3" ∷ codes "--overlap" ∷ codes "1in" ∷ codes "--margin" ∷ codes "2in" ∷ codes "--turn" ∷ codes "half" ∷ codes "--preview" ∷ codes "p.svg" ∷ [])
    (record (plain (layout.Poster (size.Sheets (Exactly 2 3)))) {
      spacing = record nothing_kept { free = record nothing_free { left = pos 18_288_000_000_000; right = pos 18_288_000_000_000; bottom = pos 18_288_000_000_000; top = pos 18_288_000_000_000 }; overlap = pos 9_144_000_000_000 };
      turn = turning.All turn.Half;
      product = product.Picture (Some picture);
    })
unfolding clap_on_literals impose number_at papers
poster picture is_picture = makes _ _ _ _ (record { taken = refl; entered = refl }) refl (refl, refl) (refl, refl, refl, refl, refl, refl, refl) (refl, refl, refl) refl (record { page_paper_is = refl; sheet_paper_is = refl; border_is = refl; turn_is = refl }) refl refl (record { printed = refl; planned = refl; pictured = ap (λ t. Some (Some t)) (sym is_picture); is_picture = ap (λ t. is_picture_file (Some t)) is_picture }) refl refl
    refl refl refl

-- some pages, in this order, each turned to the right and numbered
select : (ranges document : String Global) → string_bytes ranges ≡ codes "4-2,_1" → string_bytes document ≡ codes "in.ps"
    → Makes (codes "select" ∷ codes "4-2,_1" ∷ codes "--turn" ∷ codes "right" ∷ codes "--numbers" ∷ codes "10pt" ∷ codes "in.ps" ∷ codes "-" ∷ [])
    (record (plain layout.Selection) {
      choice = record all_pages { ranges = Some ranges };
      turn = turning.All turn.Right;
      marks = record no_marks { numbers = Some (record { size = pos 1_270_000_000_000; first = 1 }) };
      infile = Some document;
    })
unfolding clap_on_literals impose number_at papers
select ranges document is_ranges is_document = makes _ _ _ _ (record { taken = refl; entered = refl }) refl (refl, refl) refl (ap Some (sym is_ranges), refl, refl) refl (record { page_paper_is = refl; sheet_paper_is = refl; border_is = refl; turn_is = refl }) refl refl (record { printed = refl; planned = refl; pictured = refl; is_picture = tt }) refl refl
    (ap Some (sym is_document)) refl refl

-- a specification, which is printed
spec : (specs : String Global) → string_bytes specs ≡ codes "2:0,1"
    → Makes (codes "spec" ∷ codes "2:0,1" ∷ codes "--paper" ∷ codes "1x2in" ∷ codes "--border" ∷ codes "2pt" ∷ codes "--print-spec" ∷ [])
    (record (plain (layout.Spec specs None)) { page_paper = Some (points 72 144); border = Some (pos 254_000_000_000); product = product.Specification })
unfolding clap_on_literals impose number_at papers
spec specs is_specs = makes _ _ _ _ (record { taken = refl; entered = refl }) refl (refl, ap Some (sym is_specs), refl) refl (refl, refl, refl) refl (record { page_paper_is = refl; sheet_paper_is = refl; border_is = refl; turn_is = refl }) refl refl (record { printed = refl; planned = refl; pictured = refl; is_picture = tt }) refl refl
    refl refl refl

-- a specification on pages from the second one on, put into signatures
spec_of_row : (specs ranges : String Global) → string_bytes specs ≡ codes "2:0,1" → string_bytes ranges ≡ codes "2-"
    → Makes (codes "spec" ∷ codes "2:0,1" ∷ codes "--signature" ∷ codes "auto" ∷ codes "--pages" ∷ codes "2-" ∷ codes "--reverse" ∷ [])
    (record (plain (layout.Spec specs (Some signing.Auto))) { choice = record all_pages { ranges = Some ranges; backwards = true } })
unfolding clap_on_literals impose number_at papers
spec_of_row specs ranges is_specs is_ranges = makes _ _ _ _ (record { taken = refl; entered = refl }) refl (refl, ap Some (sym is_specs), refl) refl (ap Some (sym is_ranges), refl, refl) refl (record { page_paper_is = refl; sheet_paper_is = refl; border_is = refl; turn_is = refl }) refl refl (record { printed = refl; planned = refl; pictured = refl; is_picture = tt }) refl refl
    refl refl refl
