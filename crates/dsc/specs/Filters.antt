-- What is kept of a text, in terms of a loop over it.
use Rattle.std.specs.Prelude.{ℕ, Bool, ◌&&◌, ◌||◌, List, [], ◌∷◌, ◌++◌, length, codes, Result, Ok}
use Rattle.rules.specs.Units.{TextUnit, FaultyBlock, has_key, cut_from, ◌>>=◌}
use Rattle.rules.specs.Parts.{NestedUnit, nested_from, bytes_of, is_outermost_line}
use Rattle.dsc.specs.declared.filters.Drops.{Drops}
use Rattle.dsc.specs.declared.filters.Drops.TheVariants.{PageSetup, DocumentSetup, SetupAndPapers}
use Rattle.rules.specs.Filters.{kept_after, continues, drops_in_header, drops_in_page}

-- the lines that are dropped from a page, from a preamble and a trailer, or from a preamble with lines of a dress
abbrev pub drops_of : Drops → List ℕ → Bool
drops_of PageSetup content = drops_in_page content
drops_of DocumentSetup content = drops_in_header content
drops_of SetupAndPapers content = drops_in_header content || has_key (codes "%%DocumentPaperSizes" ∷ []) content

-- whether a filter drops a unit, given whether it dropped the one before
abbrev pub is_dropped : Drops → (was_dropped : Bool) → NestedUnit → Bool
is_dropped drops was u = (is_outermost_line u && drops_of drops u.unit.content) || (was && continues u)

abbrev pub of_units : {A : Type 0} → (List TextUnit → A) → Result (List TextUnit) FaultyBlock → Result A FaultyBlock
of_units f r = r >>= λ us. Ok (f us)

-- what is kept of the rest of a text, after what was kept before
abbrev pub filter_on : Drops → (front : List ℕ) → (was_dropped : Bool) → (depth at : ℕ) → List ℕ
    → Result (List ℕ) FaultyBlock
filter_on drops front was depth at text =
    of_units (λ us. front ++ bytes_of (kept_after was (drops_of drops) (nested_from depth us)))
    (cut_from (length text) at text)
