-- Laws of the length of data, as the code finds it.
use Rattle.std.specs.Prelude.{Err, codes}
use Rattle.std.specs.List.{list_all}
use Rattle.std.specs.Char.{is_ascii_digit}
use Rattle.std.proofs.Common.{Bool, true, ◌&&◌, ◌≡◌, ℕ, ◌<◌, List, ◌∷◌, length, arith, min}
use Rattle.rules.specs.Numbers.{number_of}
use Rattle.rules.specs.Units.{ShortData}
use Rattle.dsc.specs.Fields.{third_is, data_in}
use Rattle.dsc.proofs.Fronts.{short_counted}

pub data_short : (may : Bool) (rest count : List ℕ) (more fs : List (List ℕ)) (n most : ℕ) → fs ≡ count ∷ more → (list_all is_ascii_digit count ≡ true) × (n ≡ min (number_of count) most)
    → length rest < n → data_in may rest fs ≡ Err ShortData
data_short may rest count more fs n most e w h = rw e (rw w.0 (short_counted (may && third_is (codes "Lines") more) (number_of count) rest (omega (arith, w.1, h))))
