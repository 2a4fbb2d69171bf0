-- What is kept of a page and of a preamble runs like the original: only comments are dropped.
use Rattle.std.specs.Prelude.{◌≡◌, ℕ, Bool, true, false, not, ◌&&◌, ◌||◌, ◌==◌, if◌then◌else◌, List, [], ◌∷◌, Result}
use Rattle.std.specs.Prelude.{Ok, Err}
use Rattle.rules.specs.Units.{cut, TextUnit, FaultyBlock}
use Rattle.rules.specs.Parts.{NestedUnit, nested, is_outermost_line, bytes_of, preamble}
use Rattle.rules.specs.Run.{document_of}
use Rattle.rules.specs.Filters.{continues, drops_in_page, kept, prepared, preamble_text}
use Rattle.rules.specs.Output.{body_text}
use Rattle.rules.specs.MadeOutput.{drops_with}
use Rattle.pictures.specs.Scanner.{Reading, Between, form_feed, scan_from, tokens, EndsBetweenTokens}

-- the reader's state after a text
abbrev pub reading_behind : Reading → List ℕ → Reading
reading_behind r text = (scan_from r text).1

abbrev pub is_between : Reading → Bool
is_between Between = true
is_between r = false

-- a form feed ends a comment, and what follows it in the line is run
abbrev pub has_form_feed : List ℕ → Bool
has_form_feed [] = false
has_form_feed (b ∷ bs) = (b == form_feed) || has_form_feed bs

-- the unit is dropped: a line that the filter drops, or one that continues such a line
abbrev pub goes : (was_dropped : Bool) → (List ℕ → Bool) → NestedUnit → Bool
goes was_dropped drops u = (is_outermost_line u && drops u.unit.content) || (was_dropped && continues u)

abbrev pub apart_at : Reading → NestedUnit → Bool
apart_at r u = is_between r && not (has_form_feed u.unit.bytes)

-- each dropped line begins between tokens, so not within a string, and has no form feed
abbrev pub comments_apart : (was_dropped : Bool) → (List ℕ → Bool) → Reading → List NestedUnit → Bool
comments_apart was_dropped drops r [] = true
comments_apart was_dropped drops r (u ∷ us) =
    if goes was_dropped drops u then apart_at r u && comments_apart true drops Between us
    else comments_apart false drops (reading_behind r u.unit.bytes) us

-- this holds for a page, which is cut as a text of its own
abbrev pub apart_in : Result (List TextUnit) FaultyBlock → Bool
apart_in (Ok us) = comments_apart false drops_in_page Between (nested us)
apart_in (Err fault) = false

abbrev pub page_comments_apart : List ℕ → Bool
page_comments_apart page = apart_in (cut page)

-- the first unit that is kept ends between tokens, as a comment does; the number of sheets is put after it
abbrev pub first_is_complete : List NestedUnit → Bool
first_is_complete [] = true
first_is_complete (u ∷ us) = is_between (reading_behind Between u.unit.bytes)

-- this holds for the preamble, if these lines are put into it, and if none are
abbrev pub comments_apart_with : (lines : List (List ℕ)) → List NestedUnit → Bool
comments_apart_with lines us =
    comments_apart false (drops_with lines) Between (preamble us)
    && first_is_complete (kept (drops_with lines) (preamble us))

abbrev pub preamble_comments_apart : List NestedUnit → Bool
preamble_comments_apart us = comments_apart_with [] us

-- a law: the tokens of what is kept of such a page are the page's
abbrev pub KeptRunsAlike : Type 0
KeptRunsAlike =
    (page : List ℕ) → page_comments_apart page ≡ true → EndsBetweenTokens page
    → (tokens (body_text (prepared page)) ≡ tokens page) × EndsBetweenTokens (body_text (prepared page))

-- a law: the tokens of the output's preamble are those of the document's
abbrev pub PreambleRunsAlike : Type 0
PreambleRunsAlike =
    (sheets : ℕ) (text : List ℕ) (us : List NestedUnit) → document_of text ≡ Ok us → preamble_comments_apart us ≡ true
    → EndsBetweenTokens (bytes_of (preamble us))
    → (tokens (preamble_text sheets us) ≡ tokens (bytes_of (preamble us))) × EndsBetweenTokens (preamble_text sheets us)
