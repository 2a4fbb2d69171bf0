-- What a document says of itself, as far as it is reported: how many pages it has, a paper by a name that isn't known
-- (DSC 2.1, %%DocumentPaperSizes), why its pages depend on the text before them (DSC 3.0, %%Creator; its setup; fonts), and
-- whether copies are lost.
use Rattle.std.specs.Prelude.{◌≡◌, ◌||◌, ◌-◌, ℕ, Bool, true, false, not, if◌then◌else◌, List, [], Option, Some, None, codes, length, nat_eq, option_and_then, option_map, slice_index_or}
use Rattle.std.specs.List.{ends_with, list_any, starts_with}
use Rattle.std.specs.Option.{option_or}
use Rattle.std.specs.Str.{bytes_eq}
use Rattle.rules.specs.Papers.{Paper}
use Rattle.rules.specs.Parts.{NestedUnit, pages}
use Rattle.dsc.specs.Fields.{fields_in}
use Rattle.guard.specs.Setups.{places_pages}
use Rattle.papers.specs.Comments.{first_name}
use Rattle.papers.specs.Media.{comment_value, document_paper, header, is_at_end}
use Rattle.papers.specs.declared.media.Comment.{Comment}
use Rattle.papers.specs.declared.media.Comment.TheVariants.{BoundingBox, DocumentMedia, DocumentPaperSizes, Setup}
use Rattle.impose_words.specs.declared.request.ImposeRequest.{ImposeRequest}
use Rattle.impose_messages.specs.Said.{shown_name}
use Rattle.impose_messages.specs.declared.finished.Claims.{Claims}
use Rattle.impose_messages.specs.declared.finished.Dependence.{Dependence}
use Rattle.impose_messages.specs.declared.finished.Dependence.TheVariants.{Antiword, Font, Hp2xx, Plplot, Setup, Xcircuit}
use Rattle.row_runs.specs.DeclaredPages.{declared_page_count}
use Rattle.impose_cli.specs.Copies.{loses_copies}
use Rattle.impose_cli.specs.Fonts.{borrows_font}

-- a comment names papers or media, or the setup asks for a paper
abbrev pub is_name : Comment → Bool
is_name DocumentMedia = true
is_name DocumentPaperSizes = true
is_name BoundingBox = false
is_name Setup = true

-- a paper was found by a name, or in the setup
abbrev pub is_by_name : Option (Paper × Comment) → Bool
is_by_name None = false
is_by_name (Some found) = is_name found.1

-- the name that a value begins with, unless it is left for the trailer, which isn't read for names
abbrev pub claimed_name : (value : List ℕ) → Option (List ℕ)
claimed_name value = if is_at_end (fields_in value) then None else first_name value

-- the first name in a document's %%DocumentPaperSizes, if none gives its paper
abbrev pub unknown_name : (usual : Paper) → (text : List ℕ) → Option (List ℕ)
unknown_name usual text = if is_by_name (document_paper usual text) then None
    else option_and_then claimed_name (comment_value (codes "%%DocumentPaperSizes") (header text))

-- the one that is reported: none, if a paper is named for the pages (RULES, 17)
abbrev pub unknown_paper : (named : Option Paper) → (usual : Paper) → (text : List ℕ) → Option (List ℕ)
unknown_paper (Some named) usual text = None
unknown_paper None usual text = unknown_name usual text

-- the program of this name, if sheets of its pages fail (RULES, 17)
abbrev pub creator_named : (name : List ℕ) → Option Dependence
creator_named name = if bytes_eq name (codes "hp2xx") then Some Hp2xx
    else if bytes_eq name (codes "Xcircuit") || bytes_eq name (codes "XCircuit") then Some Xcircuit
    else if bytes_eq name (codes "PLplot") then Some Plplot
    else if bytes_eq name (codes "antiword") then Some Antiword else None

-- another program has drawn the document again: pdftops says so, and keeps the name of the first
abbrev pub is_drawn_again : List (List ℕ) → Bool
is_drawn_again header = list_any (λ content. starts_with nat_eq content (codes "%Produced by")) header

-- the one that a document names first as its creator, if its pages are still those
abbrev pub creator_of : (text : List ℕ) → Option Dependence
creator_of text = if is_drawn_again (header text) then None
    else option_and_then creator_named (option_and_then first_name (comment_value (codes "%%Creator") (header text)))

-- why a document's pages depend on the text before them, if this is known of their fonts
abbrev pub dependence_by : (text : List ℕ) → (is_font_borrowed : Bool) → Option Dependence
dependence_by text is_font_borrowed = option_or (creator_of text)
    (option_or (if places_pages text then Some Setup else None) (if is_font_borrowed then Some Font else None))

-- something follows the last page: the text doesn't end with it
abbrev pub is_ended : (text : List ℕ) → List NestedUnit → Bool
is_ended text us = not (ends_with nat_eq text (slice_index_or (pages us) (length (pages us) - 1) []))

pub record AreClaimsOf (r : ImposeRequest) (input : List ℕ) (us : List NestedUnit) (claims : Claims) : Type 0 where
  pub pages : claims.pages ≡ declared_page_count input
  pub is_ended : claims.is_ended ≡ is_ended input us
  pub unknown : claims.unknown ≡ option_map shown_name (unknown_paper r.page_paper r.default_paper input)
  pub dependence : claims.dependence ≡ dependence_by input (borrows_font us)
  pub copies : claims.loses_copies ≡ loses_copies input
