-- Borders of given widths, and words for a shell, worked out.
use Rattle.std.proofs.Common.{◌≡◌, ◌++◌, ◌∷◌, [], refl, Some, None}
use Rattle.std.specs.Prelude.{codes, pos}
use Rattle.std.specs.Fmt.{digits}
use Rattle.std.specs.Str.{chars}
use Rattle.std.specs.Char.{encode_utf8}
use Rattle.lengths.specs.Reading.{number_at}
use Rattle.rules.specs.Papers.{points}
use Rattle.command_words.specs.Borders.{border_named, border_of}
use Rattle.command_words.specs.Shell.{file_text, length_text}

no_border_asked_for : border_named (points 1 1) None ≡ Some None
no_border_asked_for = refl

-- a border of width 0 is no border; one grain is the thinnest
border_of_zero : border_of (pos 0) ≡ Some None
border_of_zero = refl

thinnest_border : border_of (pos 1) ≡ Some (Some (pos 1))
thinnest_border = refl

border_below_zero : border_named (points 1 1) (Some (codes "-1")) ≡ None
unfolding number_at
border_below_zero = refl

-- points come first, then millimetres
length_in_points : length_text (pos 75_565_000_000_000) ≡ codes "595pt"
unfolding digits
length_in_points = refl

length_in_millimetres : length_text (pos 75_600_000_000_000) ≡ codes "210mm"
unfolding digits
length_in_millimetres = refl

file_with_a_quote : file_text (codes "it's") ≡ codes " 'it" ++ 39 ∷ 92 ∷ 39 ∷ 39 ∷ codes "s'"
unfolding chars encode_utf8
file_with_a_quote = refl

file_with_a_minus : file_text (codes "-a") ≡ codes " './-a'"
unfolding chars encode_utf8
file_with_a_minus = refl

-- a control character, a letter of two bytes, and one that turns the direction of text
file_with_hidden_characters : file_text (27 ∷ 195 ∷ 188 ∷ 226 ∷ 128 ∷ 174 ∷ [])
    ≡ codes " ''$'\\033''" ++ 195 ∷ 188 ∷ codes "'$'\\342\\200\\256'''"
unfolding chars encode_utf8
file_with_hidden_characters = refl
