-- What is made for a request: the sheets, or in place of them a report on them.
use Rattle.std.specs.Prelude.{ℕ, Bool, true, false, if◌then◌else◌, List, Option, Some, None, codes, nat_eq, option_map, string_bytes}
use Rattle.std.specs.List.{ends_with}
use Rattle.impose_words.specs.declared.request.Product.{Product}
use Rattle.impose_words.specs.declared.request.Product.TheVariants as product
use Rattle.impose_words.specs.declared.request.ImposeRequest.{ImposeRequest}

abbrev pub is_specification : Product → Bool
is_specification product.Specification = true
is_specification other = false

abbrev pub is_plan : Product → Bool
is_plan product.Plan = true
is_plan other = false

-- the file of the picture, if one is made; without a name it is standard output
abbrev pub picture_in : Product → Option (Option (List ℕ))
picture_in (product.Picture file) = Some (option_map string_bytes file)
picture_in other = None

-- a picture is an SVG, and its file is named so; standard output has no name (RULES, 16, step 3, and 17)
abbrev pub is_picture_file : Option (List ℕ) → Bool
is_picture_file None = true
is_picture_file (Some name) = ends_with nat_eq name (codes ".svg")

-- the file of the sheets, unless --replace lets any content be replaced
abbrev pub spared : Product → (replaces : Bool) → (outfile : Option (List ℕ)) → Option (List ℕ)
spared product.Sheets replaces outfile = if replaces then None else outfile
spared other replaces outfile = None

abbrev pub file_to_spare : ImposeRequest → Option (List ℕ)
file_to_spare r = spared r.product r.replaces (option_map string_bytes r.outfile)
