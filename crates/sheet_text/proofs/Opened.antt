-- What is written before a placed page: items that place their pages alike have the same text.
use Rattle.std.proofs.Common.{rules, ℕ, List, Bool, true, false, ◌&&◌, ◌≡◌, ◌++◌, ◌∙◌, ap, sym, refl}
use Rattle.std.specs.Prelude.{ℤ, Option, Some, None, codes}
use Rattle.std.specs.Option.{option_eq}
use Rattle.std.specs.Ordering.{int_eq}
use Rattle.std.proofs.lemmas.Bool.Decides.{Decides-int_eq}
use denote.Enum.Bare.{sameb, same_true}
use Rattle.lengths.specs.contracts.unit.Unit.{the_type}
use Rattle.lengths.specs.declared.unit.Unit.{Unit}
use Rattle.pagespec.specs.declared.item.Measure as code
use Rattle.rules.specs.Bytes.{line}
use Rattle.rules.specs.Papers.{Paper, grains}
use Rattle.rules.specs.Specification.{Item, Turn, Measure}
use Rattle.rules.specs.Placement.{Matrix, matrix, matrix_text}
use Rattle.rules.specs.Output.{Border, Frame, border_within, edge_text, border_text, opening_text}

-- a text of a matrix, with the lines round it
around : Frame → Matrix → List ℕ
around frame m =
    line (codes "userdict /ImposeSave save put")
    ++ line (codes "userdict /showpage {} put")
    ++ line (matrix_text m ++ codes " concat")
    ++ line (edge_text frame.paper ++ codes " clip newpath")
    ++ border_text frame.paper frame.border

matrix_for : Paper → Turn → ℤ → Measure → Measure → Matrix
matrix_for paper turn scale x y = matrix turn scale (record { x = grains paper x.number x.unit; y = grains paper y.number y.unit })

-- the text for an item is also the one for another that places its page alike
pub alike : (p q : Paper) (m n : Option Border) (i j : Item) (text : List ℕ) → text ≡ opening_text (record { paper = p; border = m }) i
    → i.turn ≡ j.turn → i.scale ≡ j.scale → i.x ≡ j.x → i.y ≡ j.y → p ≡ q → m ≡ n → text ≡ opening_text (record { paper = q; border = n }) j
unfolding around matrix_for
alike p q m n i j text is turn scale x y paper border =
    is
    ∙ ap (λ t. around (record { paper = p; border = m }) (matrix_for p t i.scale i.x i.y)) turn
    ∙ ap (λ s. around (record { paper = p; border = m }) (matrix_for p j.turn s i.x i.y)) scale
    ∙ ap (λ v. around (record { paper = p; border = m }) (matrix_for p j.turn j.scale v i.y)) x
    ∙ ap (λ v. around (record { paper = p; border = m }) (matrix_for p j.turn j.scale j.x v)) y
    ∙ ap (λ b. opening_text (record { paper = p; border = b }) j) border
    ∙ ap (λ r. opening_text (record { paper = r; border = n }) j) paper

pub int_same : (a b : ℤ) (t : Bool) → t ≡ int_eq a b → t ≡ true → a ≡ b
int_same a b t is told = (Decides-int_eq a b).0 (sym is ∙ told)

pub option_same : (a b : Option ℤ) (t : Bool) → t ≡ option_eq int_eq a b → t ≡ true → a ≡ b
option_same None None t is told = refl
option_same None (Some y) t is told = cc
option_same (Some x) None t is told = cc
option_same (Some x) (Some y) t is told = ap (λ v. Some v) (int_same x y t is told)

pub border_same : (inset other : ℤ) (a b : Option ℤ) → inset ≡ other → a ≡ b → border_within inset a ≡ border_within other b
border_same inset other a b e f = ap (λ t. border_within t a) e ∙ ap (border_within other) f

both : (s t : Bool) → (s && t) ≡ true → (s ≡ true) × (t ≡ true)
both true t e = (refl, e)
both false t e = (e, cc)

pub paper_same : (p q : Paper) (t : Bool) → t ≡ (int_eq p.width q.width && int_eq p.height q.height) → t ≡ true → p ≡ q
paper_same p q t is told =
    let sides = both (int_eq p.width q.width) (int_eq p.height q.height) (sym is ∙ told) in
    ap (λ (w : ℤ). record { width = w; height = p.height }) ((Decides-int_eq p.width q.width).0 sides.0)
    ∙ ap (λ (h : ℤ). record { width = q.width; height = h }) ((Decides-int_eq p.height q.height).0 sides.1)

measure_is : (a b : code.Measure) → a.number ≡ b.number → a.unit ≡ b.unit → a ≡ b
measure_is a b number unit = ap (λ (n : ℤ). record { number = n; unit = a.unit }) number ∙ ap (λ (u : Unit). record { number = b.number; unit = u }) unit

pub measure_same : (a b : code.Measure) (t : Bool) → t ≡ (int_eq a.number b.number && sameb the_type a.unit b.unit) → t ≡ true → a ≡ b
measure_same a b t is told =
    let parts = both (int_eq a.number b.number) (sameb the_type a.unit b.unit) (sym is ∙ told) in
    measure_is a b ((Decides-int_eq a.number b.number).0 parts.0) (same_true the_type (search rules) _ _ parts.1)
