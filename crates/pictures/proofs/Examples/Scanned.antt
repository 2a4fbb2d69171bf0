-- Texts, and the tokens that they are cut into.
use Rattle.std.proofs.Common.{◌≡◌, [], ◌∷◌, refl}
use Rattle.std.specs.Prelude.{codes}
use Rattle.pictures.specs.Objects.{Number, Name, Literal, Text, Hexadecimal, Opens, Closes, Unknown}
use Rattle.pictures.specs.Scanner.{tokens}

words : tokens (codes "72 -.5 moveto{1 setgray}/F(a\\)b)show % so") ≡
    Number (codes "72") ∷ Number (codes "-.5") ∷ Name (codes "moveto") ∷ Opens ∷ Number (codes "1")
    ∷ Name (codes "setgray") ∷ Closes ∷ Literal (codes "F") ∷ Text (codes "a\\)b") ∷ Name (codes "show") ∷ []
words = refl

nearly_numbers : tokens (codes "1.2.3 - . 5a [1]") ≡
    Name (codes "1.2.3") ∷ Name (codes "-") ∷ Name (codes ".") ∷ Name (codes "5a")
    ∷ Name (codes "[") ∷ Number (codes "1") ∷ Name (codes "]") ∷ []
nearly_numbers = refl

-- a number may have an exponent; a comment ends at a form feed; hexadecimal digits are a string
numbers_and_strings : tokens (codes "1E6 -.5e-3 1E % x\u{c}y <4 1>") ≡
    Number (codes "1E6") ∷ Number (codes "-.5e-3") ∷ Name (codes "1E") ∷ Name (codes "y") ∷ Hexadecimal (codes "41") ∷ []
numbers_and_strings = refl

-- an unknown text is a token of its own, at which the machine stops
not_known : tokens (codes "//a < <1 > ) 16#FF (") ≡
    Unknown ∷ Literal (codes "a") ∷ Unknown ∷ Number (codes "1") ∷ Unknown ∷ Unknown ∷ Unknown ∷ Unknown ∷ []
not_known = refl

-- two angle brackets are a name; one begins a string, which may be empty
angle_brackets : tokens (codes "<<1>> <> <</a<0f>>>") ≡
    Name (codes "<<") ∷ Number (codes "1") ∷ Name (codes ">>") ∷ Hexadecimal []
    ∷ Name (codes "<<") ∷ Literal (codes "a") ∷ Hexadecimal (codes "0f") ∷ Name (codes ">>") ∷ []
angle_brackets = refl
