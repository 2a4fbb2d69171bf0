-- Turned pages: turns add up, and each point stands where it should.
use Rattle.std.proofs.Common.{arith, ◌≡◌, ◌∙◌, ℕ, zero, suc, ◌+◌, ◌*◌, ◌/◌, ap, ap₂, refl, sym, subst, Bool, true, length, List, [], ◌∷◌, Some, map, take, ◌++◌}
use Rattle.std.specs.Prelude.{◌==◌, ℤ, pos, neg_ℤ, ◌+ℤ◌, ◌-ℤ◌, ◌*ℤ◌, slice_get}
use Rattle.std.proofs.Math.IntN.{suc_ℤ-*ℤ, zero-*ℤ, pos-*ℤ-pos}
use Rattle.std.proofs.lemmas.Bool.{eqb-true}
use Rattle.std.proofs.lemmas.Int.{ints}
use Rattle.std.proofs.lemmas.Option.{none-some, same_Some}
use Rattle.rules.specs.Papers.{Paper, Pt}
use Rattle.rules.specs.Placement.{Point, moved, turned}
use Rattle.rules.specs.Specification.{Item, Measure, Turn, Upright, Left, Half, Right}
use Rattle.rules.specs.Made.{MadeSlot, Blank, Placed, MadeSheet}
use Rattle.pagespec.specs.declared.item.Turn.{Turn as PageTurn}
use Rattle.sheet_plan.specs.OfSheets.{slots_at}
use Rattle.layouts.specs.Placed.{fine, finer, multiplied}
use Rattle.row_runs.specs.Turning.{IsDrawnTurned, IsLittle, TurnedStands, TurnsAddUp, turn_sum, turned_corner, excess, shifted, quarter_left, scaled_length, on_turned, turn_on, turned_item, turned_paper, turned_sheet, turned_slot, all_by}

abbrev pub point : ℤ → ℤ → Point
point x y = record { x = x; y = y }

abbrev paper_of : (width height : ℤ) → Paper
paper_of width height = record { width = width; height = height }

abbrev pub item_at : ℕ → Bool → Turn → ℤ → Measure → Measure → Item
item_at page from_end turn scale x y = record { page = page; from_end = from_end; turn = turn; scale = scale; x = x; y = y }

-- ---- turns add up

same_points : (a b c d : ℤ) → a ≡ c → b ≡ d → point a b ≡ point c d
same_points a b c d e f = rw e (rw f refl)

same_items : (i : Item) (t t' : Turn) (x x' y y' : Measure) → t ≡ t' → x ≡ x' → y ≡ y'
    → item_at i.page i.from_end t i.scale x y ≡ item_at i.page i.from_end t' i.scale x' y'
same_items i t t' x x' y y' e f g = rw e (rw f (rw g refl))

pub no_farther : (by : ℤ) (m : Measure) → by ≡ pos 0 → shifted by m ≡ m
no_farther by m e =
    let n : m.number +ℤ (pos 10_000 *ℤ by) ≡ m.number = omega (arith, ints, e) in
    ap (λ z. record { number = z; unit = m.unit }) n

twice_farther : (a b c : ℤ) (m : Measure) → a +ℤ b ≡ c → shifted b (shifted a m) ≡ shifted c m
twice_farther a b c m e =
    let n : (m.number +ℤ (pos 10_000 *ℤ a)) +ℤ (pos 10_000 *ℤ b) ≡ m.number +ℤ (pos 10_000 *ℤ c) = omega (arith, ints, e) in
    ap (λ z. record { number = z; unit = m.unit }) n

pub nowhere : (t : Turn) → turned t (point (pos 0) (pos 0)) ≡ point (pos 0) (pos 0)
nowhere Upright = refl
nowhere Left = refl
nowhere Half = refl
nowhere Right = refl

two_corners : (t : Turn) (a b : ℤ) → moved (turned (quarter_left t) (point b (pos 0))) (turned t (point a (pos 0))) ≡ turned t (point a b)
two_corners Upright a b = same_points _ _ _ _ (omega (arith, ints)) (omega (arith, ints))
two_corners Left a b = same_points _ _ _ _ (omega (arith, ints)) (omega (arith, ints))
two_corners Half a b = same_points _ _ _ _ (omega (arith, ints)) (omega (arith, ints))
two_corners Right a b = same_points _ _ _ _ (omega (arith, ints)) (omega (arith, ints))

three_corners : (t : Turn) (a b : ℤ) → moved (turned (quarter_left (quarter_left t)) (point a (pos 0))) (turned t (point a b)) ≡ turned t (point (pos 0) b)
three_corners Upright a b = same_points _ _ _ _ (omega (arith, ints)) (omega (arith, ints))
three_corners Left a b = same_points _ _ _ _ (omega (arith, ints)) (omega (arith, ints))
three_corners Half a b = same_points _ _ _ _ (omega (arith, ints)) (omega (arith, ints))
three_corners Right a b = same_points _ _ _ _ (omega (arith, ints)) (omega (arith, ints))

four_corners : (t : Turn) (b : ℤ) → moved (turned (quarter_left (quarter_left (quarter_left t))) (point b (pos 0))) (turned t (point (pos 0) b)) ≡ point (pos 0) (pos 0)
four_corners Upright b = same_points _ _ _ _ (omega (arith, ints)) (omega (arith, ints))
four_corners Left b = same_points _ _ _ _ (omega (arith, ints)) (omega (arith, ints))
four_corners Half b = same_points _ _ _ _ (omega (arith, ints)) (omega (arith, ints))
four_corners Right b = same_points _ _ _ _ (omega (arith, ints)) (omega (arith, ints))

four_turns : (t : Turn) → quarter_left (quarter_left (quarter_left (quarter_left t))) ≡ t
four_turns Upright = refl
four_turns Left = refl
four_turns Half = refl
four_turns Right = refl

pub unturned : (slot : MadeSlot) → turned_slot (all_by Upright) slot ≡ slot
unturned Blank = refl
unturned (Placed page item paper) =
    let at = nowhere item.turn in
    ap (λ (i : Item). Placed page i paper)
    (same_items item item.turn item.turn _ item.x _ item.y refl (no_farther _ item.x (ap (λ (q : Point). q.x) at)) (no_farther _ item.y (ap (λ (q : Point). q.y) at)))

pub turns_add_up : TurnsAddUp
turns_add_up Blank = record { none = refl; two = refl; three = refl; four = refl }
turns_add_up (Placed page item paper) =
    let t = item.turn in
    let a = pos (scaled_length item.scale paper.width) in
    let b = pos (scaled_length item.scale paper.height) in
    let one : Point = turned t (point a (pos 0)) in
    let half : Point = turned t (point a b) in
    let right : Point = turned t (point (pos 0) b) in
    let second : Point = turned (quarter_left t) (point b (pos 0)) in
    let third : Point = turned (quarter_left (quarter_left t)) (point a (pos 0)) in
    let fourth : Point = turned (quarter_left (quarter_left (quarter_left t))) (point b (pos 0)) in
    let two = two_corners t a b in
    let three = three_corners t a b in
    let four = four_corners t b in
    record {
      none = unturned (Placed page item paper);
      two = ap (λ (i : Item). Placed page i paper)
          (same_items item (turn_sum Half t) (turn_sum Half t) _ _ _ _ refl (twice_farther one.x second.x half.x item.x (ap (λ (q : Point). q.x) two))
          (twice_farther one.y second.y half.y item.y (ap (λ (q : Point). q.y) two)));
      three = ap (λ (i : Item). Placed page i (paper_of paper.height paper.width))
          (same_items item (turn_sum Right t) (turn_sum Right t) _ _ _ _ refl (twice_farther half.x third.x right.x item.x (ap (λ (q : Point). q.x) three))
          (twice_farther half.y third.y right.y item.y (ap (λ (q : Point). q.y) three)));
      four = ap (λ (i : Item). Placed page i paper)
          (same_items item (quarter_left (turn_sum Right t)) t _ item.x _ item.y (four_turns t)
          (twice_farther right.x fourth.x (pos 0) item.x (ap (λ (q : Point). q.x) four) ∙ no_farther (pos 0) item.x refl)
          (twice_farther right.y fourth.y (pos 0) item.y (ap (λ (q : Point). q.y) four) ∙ no_farther (pos 0) item.y refl));
    }

-- an item that is turned, by its parts
pub item_is : (turn : Turn) (paper : Paper) (item : Item) (w h a b x y : ℤ) (t : Turn) (mx my : Measure) → w ≡ pos (scaled_length item.scale paper.width)
    → h ≡ pos (scaled_length item.scale paper.height) → a ≡ (turned_corner turn w h).x → b ≡ (turned_corner turn w h).y → x ≡ (turned item.turn (point a b)).x
    → y ≡ (turned item.turn (point a b)).y → t ≡ turn_sum turn item.turn → mx ≡ shifted x item.x → my ≡ shifted y item.y
    → item_at item.page item.from_end t item.scale mx my ≡ turned_item turn paper item
item_is turn paper item w h a b x y t mx my w_is h_is a_is b_is x_is y_is t_is mx_is my_is =
    rw mx_is (rw my_is (rw t_is (rw x_is (rw y_is (rw a_is (rw b_is (rw w_is (rw h_is refl))))))))

-- ---- where points stand

-- a product with a sum, and with what is negated
sum_step : (a b p q r p' q' r' : ℤ) → r' ≡ r +ℤ (a +ℤ b) → p' ≡ p +ℤ a → q' ≡ q +ℤ b → r ≡ p +ℤ q → r' ≡ p' +ℤ q'
sum_step a b p q r p' q' r' e f g h = omega (arith, ints, e, f, g, h)

by_sum : (s : ℕ) (a b : ℤ) → pos s *ℤ (a +ℤ b) ≡ (pos s *ℤ a) +ℤ (pos s *ℤ b)
by_sum zero a b = zero-*ℤ (a +ℤ b) ∙ sym (ap₂ (λ x y. x +ℤ y) (zero-*ℤ a) (zero-*ℤ b))
by_sum (suc s) a b = sum_step a b _ _ _ _ _ _ (suc_ℤ-*ℤ (pos s) (a +ℤ b)) (suc_ℤ-*ℤ (pos s) a) (suc_ℤ-*ℤ (pos s) b) (by_sum s a b)

negated_step : (a p q p' q' : ℤ) → q' ≡ q +ℤ neg_ℤ a → p' ≡ p +ℤ a → q ≡ neg_ℤ p → q' ≡ neg_ℤ p'
negated_step a p q p' q' e f h = omega (arith, ints, e, f, h)

by_negated : (s : ℕ) (a : ℤ) → pos s *ℤ neg_ℤ a ≡ neg_ℤ (pos s *ℤ a)
by_negated zero a = zero-*ℤ (neg_ℤ a) ∙ sym (ap neg_ℤ (zero-*ℤ a))
by_negated (suc s) a = negated_step a _ _ _ _ (suc_ℤ-*ℤ (pos s) (neg_ℤ a)) (suc_ℤ-*ℤ (pos s) a) (by_negated s a)

-- a side less, or more, than a scaled coordinate
before : (s w : ℕ) (a : ℤ) → pos s *ℤ (a +ℤ pos w) ≡ (pos s *ℤ a) +ℤ pos (s * w)
before s w a = by_sum s a (pos w) ∙ ap (λ z. (pos s *ℤ a) +ℤ z) (pos-*ℤ-pos s w)

less : (s w : ℕ) (a : ℤ) → pos s *ℤ (neg_ℤ a +ℤ pos w) ≡ neg_ℤ (pos s *ℤ a) +ℤ pos (s * w)
less s w a = before s w (neg_ℤ a) ∙ ap (λ z. z +ℤ pos (s * w)) (by_negated s a)

twice_negated : (a : ℤ) → neg_ℤ (neg_ℤ a) ≡ a
twice_negated a = omega (arith, ints)

nothing_more : (s : ℕ) (a : ℤ) → pos s *ℤ (a +ℤ pos 0) ≡ (pos s *ℤ a) +ℤ pos 0
nothing_more s a =
    let none : s * 0 ≡ 0 = omega arith in
    before s 0 a ∙ ap (λ n. (pos s *ℤ a) +ℤ pos n) none

scaled_on : (turn : Turn) (s w h : ℕ) (p : Point) → multiplied (pos s) (on_turned turn (paper_of (pos w) (pos h)) p)
    ≡ moved (turned_corner turn (pos (s * w)) (pos (s * h))) (turned turn (multiplied (pos s) p))
scaled_on Upright s w h p = same_points _ _ _ _ (nothing_more s p.x) (nothing_more s p.y)
scaled_on Left s w h p = same_points _ _ _ _ (less s w p.y) (nothing_more s p.x)
scaled_on Half s w h p = same_points _ _ _ _ (less s w p.x) (less s h p.y)
scaled_on Right s w h p = same_points _ _ _ _
    (ap (λ z. pos s *ℤ (z +ℤ pos 0)) (twice_negated p.y) ∙ nothing_more s p.y ∙ ap (λ z. z +ℤ pos 0) (sym (twice_negated (pos s *ℤ p.y))))
    (less s h p.x)

-- in points, in 10^-9 of a grain
abbrev points : (x y : ℤ) → Point
points x y = finer (point (x *ℤ pos 127) (y *ℤ pos 127))

abbrev shift : (turn t : Turn) (m n : ℕ) → Point
shift turn t m n = turned t (turned_corner turn (pos m) (pos n))

at_turn : (turn t : Turn) (x y : ℤ) (m n : ℕ) (w h : ℤ) (q : Point)
    → moved (points (x +ℤ (pos 10_000 *ℤ (shift turn t m n).x)) (y +ℤ (pos 10_000 *ℤ (shift turn t m n).y))) (turned (turn_sum turn t) q)
    ≡ moved (turned t (turned_corner turn (fine m -ℤ w) (fine n -ℤ h))) (moved (points x y) (turned t (moved (turned_corner turn w h) (turned turn q))))
at_turn Upright Upright x y m n w h q = same_points _ _ _ _ (omega (arith, ints)) (omega (arith, ints))
at_turn Upright Left x y m n w h q = same_points _ _ _ _ (omega (arith, ints)) (omega (arith, ints))
at_turn Upright Half x y m n w h q = same_points _ _ _ _ (omega (arith, ints)) (omega (arith, ints))
at_turn Upright Right x y m n w h q = same_points _ _ _ _ (omega (arith, ints)) (omega (arith, ints))
at_turn Left Upright x y m n w h q = same_points _ _ _ _ (omega (arith, ints)) (omega (arith, ints))
at_turn Left Left x y m n w h q = same_points _ _ _ _ (omega (arith, ints)) (omega (arith, ints))
at_turn Left Half x y m n w h q = same_points _ _ _ _ (omega (arith, ints)) (omega (arith, ints))
at_turn Left Right x y m n w h q = same_points _ _ _ _ (omega (arith, ints)) (omega (arith, ints))
at_turn Half Upright x y m n w h q = same_points _ _ _ _ (omega (arith, ints)) (omega (arith, ints))
at_turn Half Left x y m n w h q = same_points _ _ _ _ (omega (arith, ints)) (omega (arith, ints))
at_turn Half Half x y m n w h q = same_points _ _ _ _ (omega (arith, ints)) (omega (arith, ints))
at_turn Half Right x y m n w h q = same_points _ _ _ _ (omega (arith, ints)) (omega (arith, ints))
at_turn Right Upright x y m n w h q = same_points _ _ _ _ (omega (arith, ints)) (omega (arith, ints))
at_turn Right Left x y m n w h q = same_points _ _ _ _ (omega (arith, ints)) (omega (arith, ints))
at_turn Right Half x y m n w h q = same_points _ _ _ _ (omega (arith, ints)) (omega (arith, ints))
at_turn Right Right x y m n w h q = same_points _ _ _ _ (omega (arith, ints)) (omega (arith, ints))

is_little : (n : ℕ) → IsLittle (fine ((n + 1_269_999_999_999_999) / 1_270_000_000_000_000) -ℤ pos n)
is_little n = record { some = omega (arith, ints); less = omega (arith, ints) }

abbrev in_pt : ℤ → Measure
in_pt x = record { number = x; unit = Pt }

drawn : (turn t : Turn) (n : ℕ) (from_end : Bool) (x y : ℤ) (w h s : ℕ)
    → IsDrawnTurned turn (paper_of (pos w) (pos h)) (item_at n from_end t (pos s) (in_pt x) (in_pt y)) w h s
drawn turn t n from_end x y w h s = record {
  little = (is_little (s * w), is_little (s * h));
  stand = λ p. at_turn turn t x y (scaled_length (pos s) (pos w)) (scaled_length (pos s) (pos h)) (pos (s * w)) (pos (s * h)) (multiplied (pos s) p)
      ∙ ap (λ (q : Point). moved (turned t (turned_corner turn (excess s w) (excess s h))) (moved (points x y) (turned t q))) (sym (scaled_on turn s w h p));
}

same_paper : (page : Paper) (w h : ℕ) → page.width ≡ pos w → page.height ≡ pos h → paper_of (pos w) (pos h) ≡ page
same_paper page w h e f = ap₂ paper_of (sym e) (sym f)

pub turned_stands : TurnedStands
turned_stands turn page item w h s wide high scaled across up =
    let x : in_pt item.x.number ≡ item.x = ap (λ u. record { number = item.x.number; unit = u }) (sym across) in
    let y : in_pt item.y.number ≡ item.y = ap (λ u. record { number = item.y.number; unit = u }) (sym up) in
    let same : item_at item.page item.from_end item.turn (pos s) (in_pt item.x.number) (in_pt item.y.number) ≡ item =
    ap (λ z. item_at item.page item.from_end item.turn z (in_pt item.x.number) (in_pt item.y.number)) (sym scaled)
    ∙ ap₂ (item_at item.page item.from_end item.turn item.scale) x y in
    subst (λ (q : Paper). IsDrawnTurned turn q item w h s) (same_paper page w h wide high)
    (subst (λ (i : Item). IsDrawnTurned turn (paper_of (pos w) (pos h)) i w h s) same
    (drawn turn item.turn item.page item.from_end item.x.number item.y.number w h s))

-- ---- sheets that were turned so far

-- no page is turned
unturned_by : (turns : ℕ → Turn) → ((page : ℕ) → turns page ≡ Upright) → (slot : MadeSlot) → turned_slot turns slot ≡ slot
unturned_by turns none Blank = refl
unturned_by turns none (Placed page item paper) =
    ap (λ t. Placed page (turned_item t paper item) (turned_paper t paper)) (none page) ∙ unturned (Placed page item paper)

unturned_slots : (turns : ℕ → Turn) → ((page : ℕ) → turns page ≡ Upright) → (slots : List MadeSlot) → map (turned_slot turns) slots ≡ slots
unturned_slots turns none [] = refl
unturned_slots turns none (slot ∷ slots) = ap₂ (λ (s : MadeSlot) (all : List MadeSlot). s ∷ all) (unturned_by turns none slot) (unturned_slots turns none slots)

pub unturned_sheets : (turns : ℕ → Turn) → ((page : ℕ) → turns page ≡ Upright) → (made : List MadeSheet) → map (turned_sheet turns) made ≡ made
unturned_sheets turns none [] = refl
unturned_sheets turns none (sheet ∷ made) = ap₂ (λ (s : MadeSheet) (all : List MadeSheet). s ∷ all)
    (ap (λ (slots : List MadeSlot). record { paper = sheet.paper; slots = slots }) (unturned_slots turns none sheet.slots)) (unturned_sheets turns none made)

-- as if no turns are listed
pub none_on : (page : ℕ) → turn_on [] page ≡ Upright
none_on page = refl

pub none_listed : (turns : List PageTurn) → (length turns == 0) ≡ true → (page : ℕ) → turn_on turns page ≡ Upright
none_listed [] e page = none_on page
none_listed (turn ∷ turns) e page = let none = eqb-true (length (turn ∷ turns)) 0 e in absurd (omega (arith, none))

-- one more
pub one_more : {X Y : Type 0} (f : X → Y) (old new : List Y) (i : ℕ) (xs : List X) (x : X) (y : Y) → slice_get xs i ≡ Some x
    → old ≡ map f (take i xs) → new ≡ old ++ y ∷ [] → y ≡ f x → new ≡ map f (take (i + 1) xs)
one_more f old new i xs x y at before step is =
    let next : suc i ≡ i + 1 = omega arith in
    step ∙ ap₂ (λ ys z. ys ++ z ∷ []) before is ∙ mapped f i xs x at ∙ ap (λ n. map f (take n xs)) next
  where
    mapped : {X Y : Type 0} (f : X → Y) (i : ℕ) (xs : List X) (x : X) → slice_get xs i ≡ Some x
        → map f (take i xs) ++ f x ∷ [] ≡ map f (take (suc i) xs)
    mapped f i [] x at = absurd (none-some x at)
    mapped f zero (y ∷ xs) x at = ap (λ z. f z ∷ []) (sym (same_Some y x at))
    mapped f (suc i) (y ∷ xs) x at = ap (λ ys. f y ∷ ys) (mapped f i xs x at)

-- the sheet that is read by its paper and its slots
pub sheet_at : (all : List MadeSheet) (s : ℕ) (paper : Paper) → slice_get (map (λ (sheet : MadeSheet). sheet.paper) all) s ≡ Some paper
    → slice_get all s ≡ Some (record { paper = paper; slots = slots_at all s })
sheet_at [] s paper e = absurd (none-some paper e)
sheet_at (x ∷ all) zero paper e = ap (λ (p : Paper). Some (record { paper = p; slots = x.slots })) (same_Some x.paper paper e)
sheet_at (x ∷ all) (suc s) paper e = sheet_at all s paper e
