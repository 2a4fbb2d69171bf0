-- Lines inserted after the header comments of a document.
use Rattle.std.specs.Prelude.{ℕ, List, ◌++◌, take, drop, flat_map}
use Rattle.rules.specs.Bytes.{line}
use Rattle.rules.specs.Filters.{ended}
use Rattle.dsc.specs.Header.{header_len}

-- the text with lines inserted after its header comments, whose last line gets an end if it has none
abbrev pub put_in : List (List ℕ) → List ℕ → List ℕ
put_in lines text = let n = header_len text in ended (take n text) ++ (flat_map line lines ++ drop n text)
