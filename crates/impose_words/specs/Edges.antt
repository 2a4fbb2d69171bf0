-- What is kept free along the edges of a sheet, and between its cells, as people write it.
use Rattle.std.specs.Prelude.{ℕ, ℤ, pos, ◌==◌, Bool, false, true, nat_le, nat_lt, if◌then◌else◌, is_some, List, [], ◌∷◌, length, Option, Some, None}
use Rattle.std.specs.Prelude.{codes, option_and_then, option_map, unwrap_or}
use Rattle.std.specs.List.{after_first, before_first, fold, position_or_len, slice_split}
use Rattle.std.specs.Str.{bytes_eq}
use Rattle.layouts.specs.Grids.{nothing_free}
use Rattle.layouts.specs.declared.arrangement.Free.{Free}
use Rattle.impose_words.specs.Sizes.{length_in}
use Rattle.impose_words.specs.declared.edges.Edges.{Edges}
use Rattle.impose_words.specs.declared.edges.Margins.{Margins}

-- the text before the first such byte, and the text after it, if there is one
abbrev pub cut_at : (byte : ℕ) → List ℕ → Option (List ℕ × List ℕ)
cut_at byte text = if nat_lt (position_or_len (λ b. b == byte) text) (length text)
    then Some (before_first (λ b. b == byte) text, after_first (λ b. b == byte) text) else None

abbrev pub comma : ℕ
comma = 44

abbrev pub equals : ℕ
equals = 61

-- a list has a comma
abbrev pub is_list : List ℕ → Bool
is_list text = is_some (cut_at comma text)

-- the parts of a list, or the whole text
abbrev pub parts_of : List ℕ → List (List ℕ)
parts_of text = slice_split (λ b. b == comma) text

-- the lengths that texts mean, if all mean one
abbrev pub lengths_in : (listed : Bool) → List (List ℕ) → Option (List ℤ)
lengths_in listed [] = Some []
lengths_in listed (text ∷ rest) =
    option_and_then (λ first. option_map (λ others. first ∷ others) (lengths_in listed rest)) (length_in listed text)

abbrev pub up_to_four : List ℤ → Option (List ℤ)
up_to_four lengths = if nat_le (length lengths) 4 then Some lengths else None

-- the lengths of a list of up to four
abbrev pub lengths_named : List ℕ → Option (List ℤ)
lengths_named text = option_and_then up_to_four (lengths_in (is_list text) (parts_of text))

-- ---- gaps: one length, or two in a list

abbrev pub gaps_by : List ℤ → Option Free
gaps_by (all ∷ []) = Some (record nothing_free { across = all; up = all })
gaps_by (across ∷ up ∷ []) = Some (record nothing_free { across = across; up = up })
gaps_by other = None

-- RULES, 13.1
abbrev pub gaps_named : List ℕ → Option Free
gaps_named text = option_and_then gaps_by (lengths_named text)

-- ---- margins: lengths

abbrev pub margins_of : (top right bottom left : ℤ) → Free
margins_of top right bottom left = record nothing_free { left = left; right = right; bottom = bottom; top = top }

-- one is that of all edges; two are those on both sides, and those above and below; four go clockwise from the upper edge
abbrev pub margins_by : List ℤ → Option Free
margins_by (all ∷ []) = Some (margins_of all all all all)
margins_by (sides ∷ ends ∷ []) = Some (margins_of ends sides ends sides)
margins_by (top ∷ right ∷ bottom ∷ left ∷ []) = Some (margins_of top right bottom left)
margins_by other = None

-- ---- or edges by their names, each once, of which the others have no margin

-- the margin of an edge that had none before
abbrev pub once : (before : Option ℤ) → (margin : ℤ) → Option (Option ℤ)
once None margin = Some (Some margin)
once (Some before) margin = None

-- the edges with one more, which is no edge that is among them. The inner edge is another one on fronts than on backs
abbrev pub with_edge : Edges → (name : List ℕ) → (margin : ℤ) → Option Edges
with_edge e name margin =
    if bytes_eq name (codes "inner") then option_map (λ m. record e { inner = m }) (once e.inner margin)
    else (if bytes_eq name (codes "left") then option_map (λ m. record e { left = m }) (once e.left margin)
    else (if bytes_eq name (codes "right") then option_map (λ m. record e { right = m }) (once e.right margin)
    else (if bytes_eq name (codes "top") then option_map (λ m. record e { top = m }) (once e.top margin)
    else (if bytes_eq name (codes "bottom") then option_map (λ m. record e { bottom = m }) (once e.bottom margin) else None))))

abbrev pub with_margin : Edges → (name : List ℕ) → Option ℤ → Option Edges
with_margin e name None = None
with_margin e name (Some margin) = with_edge e name margin

abbrev pub named_by : (listed : Bool) → Option Edges → Option (List ℕ × List ℕ) → Option Edges
named_by listed None part = None
named_by listed (Some e) None = None
named_by listed (Some e) (Some (name, text)) = with_margin e name (length_in listed text)

-- the name and the length of an edge, with an equals sign between them
abbrev pub edge_in : (listed : Bool) → Option Edges → List ℕ → Option Edges
edge_in listed e text = named_by listed e (cut_at equals text)

abbrev pub no_edges : Edges
no_edges = record { left = None; right = None; top = None; bottom = None; inner = None }

abbrev pub edges_named : List ℕ → Option Edges
edges_named text = fold (edge_in (is_list text)) (Some no_edges) (parts_of text)

-- what is kept free along these edges, and nothing along the others
abbrev pub along_edges : Edges → Margins
along_edges e = record {
  free = record nothing_free {
    left = unwrap_or e.left (pos 0);
    right = unwrap_or e.right (pos 0);
    bottom = unwrap_or e.bottom (pos 0);
    top = unwrap_or e.top (pos 0);
  };
  inner = e.inner;
}

-- no edge is the inner one
abbrev pub margins_in : Free → Margins
margins_in f = record { free = f; inner = None }

-- RULES, 13.1
abbrev pub margins_named : List ℕ → Option Margins
margins_named text = if is_some (cut_at equals text) then option_map along_edges (edges_named text)
    else option_map margins_in (option_and_then margins_by (lengths_named text))

-- ---- all that is kept free

abbrev pub free_with : Option Margins → (gaps : Option Free) → (trim : Option ℤ) → Option Free
free_with (Some m) (Some gaps) (Some trim) = Some (record m.free { across = gaps.across; up = gaps.up; trim = trim })
free_with margins gaps trim = None
