-- What can be said of a request before its document is read.
use Rattle.std.specs.Prelude.{◌≡◌, ◌≢◌, ◌⊎◌, ℕ, Bool, false, if◌then◌else◌, List, Option, None, Some, Err, IfSome, option_and_then, option_map, string_bytes}
use Rattle.std.specs.Str.{bytes_eq}
use Rattle.rules.specs.Papers.{Paper}
use Rattle.rules.specs.Choice.{NotARange, row_of_text}
use Rattle.rows.specs.declared.error.RowError.TheVariants as row
use Rattle.impose_cli.specs.RowTasks.{cells_of_layout, cells_paper, sheet_paper_in, why_no_layout}
use Rattle.impose_cli.specs.Refusals.{HasGoodName, RefusesNamed, RefusesRowLayout}
use Rattle.impose_words.specs.declared.request.Spacing.{Spacing}
use Rattle.impose_words.specs.declared.request.Layout.{Layout}
use Rattle.impose_words.specs.declared.request.Layout.TheVariants as layout
use Rattle.impose_words.specs.declared.request.PageChoice.{PageChoice}
use Rattle.impose_words.specs.declared.request.Product.{Product}
use Rattle.impose_words.specs.declared.request.Product.TheVariants as product
use Rattle.impose_words.specs.declared.request.ImposeRequest.{ImposeRequest}
use Rattle.impose_words.specs.Spacings.{binding_in}
use Rattle.impose_words.specs.IdleOptions.{idle_option}
use Rattle.layouts.specs.Refusals.{why_no_room}
use Rattle.layouts.specs.declared.arrangement.Free.{Free}
use Rattle.impose_messages.specs.declared.fault.ImposeFault.{ImposeFault}
use Rattle.impose_messages.specs.declared.fault.ImposeFault.TheVariants as fault

-- what is kept free on the sheets of a layout that has cells
abbrev pub kept_free : Layout → Spacing → Option Free
kept_free (layout.Booklet signing long_edge) s = Some (binding_in s long_edge).free
kept_free (layout.Poster size) s = None
kept_free layout.Selection s = None
kept_free (layout.Spec specs signing) s = None
kept_free other s = Some (cells_of_layout other s).free

-- why pages of any paper have no room on these sheets
abbrev pub why_not_on : Layout → Spacing → (sheet : Paper) → Option ImposeFault
why_not_on l s sheet = option_map fault.Layout (option_and_then (why_no_room sheet) (kept_free l s))

-- on those that are named, if they are
abbrev pub why_no_sheets : Layout → Spacing → (sheet_paper : Option Paper) → Option ImposeFault
why_no_sheets l s sheet_paper = option_and_then (why_not_on l s) sheet_paper

-- the text of a specification is one; if the paper of the pages is named, the layout lays them on such sheets; and if it isn't,
-- pages of any paper may have room on the sheets that are
abbrev pub IsPossible : Layout → Spacing → (page_paper sheet_paper : Option Paper) → Type 0
IsPossible l s None sheet_paper = HasGoodName l × (why_no_sheets l s sheet_paper ≡ None)
IsPossible l s (Some page_paper) sheet_paper = HasGoodName l × (why_no_layout l s page_paper (sheet_paper_in l sheet_paper page_paper) ≡ None)

-- a fault says that this isn't so; or it is out of memory
abbrev pub RefusesUnread : Layout → Spacing → (page_paper sheet_paper : Option Paper) → ImposeFault → Type 0
RefusesUnread l s None sheet_paper f = RefusesNamed l f ⊎ (why_no_sheets l s sheet_paper ≡ Some f)
RefusesUnread l s (Some page_paper) sheet_paper f = RefusesRowLayout l s page_paper (sheet_paper_in l sheet_paper page_paper) f

-- pages aren't named by what is no range, in whatever document
abbrev pub AreGoodRanges : PageChoice → Type 0
AreGoodRanges c = IfSome c.ranges (λ text. (pages at : ℕ) → row_of_text pages (string_bytes text) ≢ Err (NotARange at))

-- a fault says that they are: what begins at this byte is no range in any document
abbrev pub RefusesRanges : PageChoice → ImposeFault → Type 0
RefusesRanges c f = (text : List ℕ) × (at : ℕ) × (option_map string_bytes c.ranges ≡ Some text)
    × (f ≡ fault.Row (row.NotARange at)) × ((pages : ℕ) → row_of_text pages text ≡ Err (NotARange at))

-- ---- a file that is read and written

-- two files have one name
abbrev pub is_one_file : (one other : Option (List ℕ)) → Bool
is_one_file (Some one) (Some other) = bytes_eq one other
is_one_file one other = false

-- the picture is to be written to the file that is read
abbrev pub is_drawn_over : Product → (infile : Option (List ℕ)) → Bool
is_drawn_over (product.Picture file) infile = is_one_file (option_map string_bytes file) infile
is_drawn_over other infile = false

-- why the options of a request are refused, if they are
abbrev pub option_fault : ImposeRequest → Option ImposeFault
option_fault r = if is_drawn_over r.product (option_map string_bytes r.infile) then Some fault.OverInput
    else option_map fault.Idle (idle_option r)

-- the paper that is named for pages, as they are turned
abbrev pub named_cells_paper : ImposeRequest → Option Paper
named_cells_paper r = option_map (cells_paper r) r.page_paper

-- the request is none that can be refused unread
pub record MayBeRead (r : ImposeRequest) : Type 0 where
  pub options : option_fault r ≡ None
  pub layout : IsPossible r.layout r.spacing (named_cells_paper r) r.sheet_paper
  pub ranges : AreGoodRanges r.choice

-- its options are refused; or they aren't, and its layout is; or it isn't, and its ranges are
-- (RULES, 16, steps 4 and 5)
abbrev pub RefusesRequest : ImposeRequest → ImposeFault → Type 0
RefusesRequest r f = (option_fault r ≡ Some f)
    ⊎ ((option_fault r ≡ None) × (RefusesUnread r.layout r.spacing (named_cells_paper r) r.sheet_paper f
    ⊎ (IsPossible r.layout r.spacing (named_cells_paper r) r.sheet_paper × RefusesRanges r.choice f)))
