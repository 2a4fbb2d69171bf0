-- The edges of a placed page, by its corners.
use Rattle.std.specs.Prelude.{ℤ, ◌+ℤ◌, nat_abs}
use Rattle.std.proofs.Common.{arith, ◌≡◌, ◌∙◌, ◌≤◌, ◌^◌, ap₂, FitsSigned, to_z, of_z}
use Rattle.std.proofs.lemmas.Int.{ints, to_z-of_z}
use mir.Syntax.{w128}
use Rattle.rules.specs.Papers.{Paper}
use Rattle.rules.specs.Placement.{Point, offset, turned}
use Rattle.rules.specs.Specification.{Item}
use Rattle.impose_cli.specs.Lying.{edges_to, placed_edges, scaled_side}

-- a number as it is passed
abbrev word : ℤ → ℤ
word z = to_z w128 (of_z w128 z)

word_is : (z : ℤ) → nat_abs z ≤ 10 ^ 25 → word z ≡ z
word_is z small = let fits : FitsSigned w128 z = omega (arith, ints, small) in simp to_z-of_z

abbrev at : ℤ → ℤ → Point
at x y = record { x = x; y = y }

point : (a b : ℤ) (p : Point) → a ≡ p.x → b ≡ p.y → at a b ≡ p
point a b p e f = ap₂ at e f

pub placed_is : (paper : Paper) (item : Item) (x y width height across up far_x far_y : ℤ) → nat_abs width ≤ 10 ^ 24 → nat_abs height ≤ 10 ^ 24
    → nat_abs across ≤ 10 ^ 24 → nat_abs up ≤ 10 ^ 24 → nat_abs far_x ≤ 10 ^ 25 → nat_abs far_y ≤ 10 ^ 25
    → x ≡ (offset paper item).x → y ≡ (offset paper item).y → width ≡ scaled_side item.scale paper.width → height ≡ scaled_side item.scale paper.height
    → across ≡ (turned item.turn (at (word width) (word height))).x → up ≡ (turned item.turn (at (word width) (word height))).y
    → far_x ≡ word across +ℤ x → far_y ≡ word up +ℤ y → edges_to (at x y) (at (word far_x) (word far_y)) ≡ placed_edges paper item
placed_is paper item x y width height across up far_x far_y w_small h_small a_small u_small fx_small fy_small xe ye we he ae ue fx fy =
    let w = word_is width (omega (arith, w_small)) ∙ we in
    let h = word_is height (omega (arith, h_small)) ∙ he in
    let a = word_is across (omega (arith, a_small)) ∙ ae ∙ ap₂ (λ (w h : ℤ). (turned item.turn (at w h)).x) w h in
    let u = word_is up (omega (arith, u_small)) ∙ ue ∙ ap₂ (λ (w h : ℤ). (turned item.turn (at w h)).y) w h in
    ap₂ edges_to (point x y (offset paper item) xe ye) (point (word far_x) (word far_y) _
    (word_is far_x fx_small ∙ fx ∙ ap₂ (λ (b c : ℤ). b +ℤ c) a xe) (word_is far_y fy_small ∙ fy ∙ ap₂ (λ (b c : ℤ). b +ℤ c) u ye))
