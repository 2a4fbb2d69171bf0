-- Putting a page by the matrix of an item puts it where the item does.
use Rattle.std.proofs.Common.{◌≡◌, ◌∙◌, ap}
use Rattle.rules.specs.Papers.{Paper}
use Rattle.rules.specs.Specification.{Item}
use Rattle.rules.specs.Placement.{Point, Matrix, put, applied, matrix_of}
use Rattle.rules.proofs.Turns.{matrix_puts}

pub puts : (paper : Paper) (item : Item) (m : Matrix) → m ≡ matrix_of paper item → (p : Point) → applied m p ≡ put paper item p
puts paper item m is p = ap (λ n. applied n p) is ∙ matrix_puts paper item p

pub sent_is_put : (m : Matrix) (p q : Point) → q ≡ applied m p → (paper : Paper) (item : Item) → m ≡ matrix_of paper item → q ≡ put paper item p
sent_is_put m p q sent paper item is = sent ∙ puts paper item m is p
