-- Pages that show text in a font that they don't set, as only an earlier page does (PostScript Language Reference, third edition, 8.2). Of
-- a page only what comes before its first call is read: a call may do anything.
use Rattle.std.specs.Prelude.{ℕ, ◌+◌, ◌-◌, ◌==◌, nat_le, nat_lt, Bool, true, false, not, ◌&&◌, ◌||◌, if◌then◌else◌, List, [], ◌∷◌, codes, Option, Some, None, is_some, slice_index_or, unwrap_or}
use Rattle.std.specs.List.{list_any}
use Rattle.std.specs.Str.{bytes_eq}
use Rattle.rules.specs.Parts.{NestedUnit, pages}
use Rattle.rules.specs.Units.{begins_block}
use Rattle.guard.specs.Setups.{is_delimiter, is_white, tokens}

-- a byte with which numbers begin
abbrev pub begins_number : ℕ → Bool
begins_number b = (nat_le 48 b && nat_le b 57) || ((b == 43) || ((b == 45) || (b == 46)))

-- a token that calls nothing: white space, a comment, a string, a literal name, a bracket or a number
abbrev pub is_no_call : List ℕ → Bool
is_no_call [] = true
is_no_call (b ∷ rest) = is_white b || (is_delimiter b || begins_number b)

-- operators on paths
abbrev pub is_path : List ℕ → Bool
is_path token = bytes_eq token (codes "moveto") || (bytes_eq token (codes "rmoveto") || (bytes_eq token (codes "lineto")
    || (bytes_eq token (codes "rlineto") || (bytes_eq token (codes "newpath") || (bytes_eq token (codes "closepath")
    || (bytes_eq token (codes "stroke") || bytes_eq token (codes "fill")))))))

-- operators on colours, lines and states
abbrev pub is_style : List ℕ → Bool
is_style token = bytes_eq token (codes "setgray") || (bytes_eq token (codes "setrgbcolor") || (bytes_eq token (codes "setcmykcolor")
    || (bytes_eq token (codes "setlinewidth") || (bytes_eq token (codes "gsave") || bytes_eq token (codes "grestore")))))

-- a token that neither shows text nor sets a font
abbrev pub is_passed : List ℕ → Bool
is_passed token = is_no_call token || (is_path token || is_style token)

-- operators that show text
abbrev pub is_show : List ℕ → Bool
is_show token = bytes_eq token (codes "show") || (bytes_eq token (codes "ashow") || (bytes_eq token (codes "widthshow")
    || bytes_eq token (codes "awidthshow")))

-- how many procedures are open after a token, where so many are before it, if reading goes on: not after a call that isn't passed over,
-- nor after a comment that begins data
abbrev pub open_after : (depth : ℕ) → List ℕ → Option ℕ
open_after depth token =
    if begins_block token then None
    else (if bytes_eq token (codes "{") then Some (depth + 1)
    else (if bytes_eq token (codes "}") then Some (depth - 1)
    else (if nat_lt 0 depth || is_passed token then Some depth else None)))

-- the token at which reading ends shows text
abbrev pub shows_first : (depth : ℕ) → List (List ℕ) → Bool
shows_first depth [] = false
shows_first depth (token ∷ rest) = let next = open_after depth token in
    if is_some next then shows_first (unwrap_or next depth) rest else is_show token

-- a page shows text before it sets a font
abbrev pub shows_at_once : (page : List ℕ) → Bool
shows_at_once page = shows_first 0 (tokens page)

-- a page does, but not the first: its font is that of a page before it
abbrev pub borrows_font : List NestedUnit → Bool
borrows_font us = not (shows_at_once (slice_index_or (pages us) 0 [])) && list_any shows_at_once (pages us)
