-- A path, listed by its elements and drawn anew.
use Rattle.std.specs.Prelude.{Option, Some, codes, bytes_eq, if◌then◌else◌}
use Rattle.std.proofs.lemmas.Slice.Eq.{bytes_eq-Decides}
use Rattle.std.proofs.Common.{◌≡◌, ℕ, suc, refl, ap, ap₂, ◌∙◌, sym, subst, Bool, true, false, ◌&&◌, List, [], ◌∷◌, ◌++◌, map, append_assoc, append-nil, true≢false}
use Rattle.pictures.specs.Objects.{Token, Number, Name, Literal, Bound, Object, Plain, Array, Mark, Call}
use Rattle.pictures.specs.Chains.{is_same_chain, are_same_operands, are_same_numbers}
use Rattle.pictures.specs.Operators.{with_operands, collected, onto}
use Rattle.pictures.specs.Machine.{State, Segment, Runs, path_tokens, and_before, element_tokens, may_precede, procedure_for, numbers_before}
use Rattle.pictures.specs.Placing.{Place, segment_at}
use Rattle.pictures.specs.Sheets.{run_of}
use Rattle.pictures.proofs.Runs.{runs_none, runs_join}
use Rattle.pictures.proofs.Straight.{Known, straight_runs}
use Rattle.pictures.proofs.Placed.{both_true}
use Rattle.pictures.proofs.Tests.{first, second, by_test}
use Rattle.pictures.specs.Shelter.{are_so_many, is_element, is_drawn_anew, is_empty_list, outline_names}

-- What an element is.

no_numbers : (P : List Object → Type 0) → P [] → (os : List Object) → are_so_many 0 os ≡ true → P os
no_numbers P p [] e = p
no_numbers P p os e = absurd (true≢false (sym e))

one_number : (n : ℕ) (P : List Object → Type 0) → ((text : List ℕ) (os : List Object) → are_so_many n os ≡ true → P (Plain (Number text) ∷ os))
    → (os : List Object) → are_so_many (suc n) os ≡ true → P os
one_number n P p (Plain (Number text) ∷ os) e = p text os e
one_number n P p os e = absurd (true≢false (sym e))

abbrev number : List ℕ → Object
number text = Plain (Number text)

two_numbers : (P : List Object → Type 0) → ((x y : List ℕ) → P (number y ∷ number x ∷ [])) → (os : List Object) → are_so_many 2 os ≡ true → P os
two_numbers P p =
    one_number 1 P (λ y. one_number 0 (λ l. P (number y ∷ l)) (λ x. no_numbers (λ l. P (number y ∷ number x ∷ l)) (p x y)))

six_numbers : (P : List Object → Type 0) → ((a b c d x y : List ℕ) → P (number y ∷ number x ∷ number d ∷ number c ∷ number b ∷ number a ∷ []))
    → (os : List Object) → are_so_many 6 os ≡ true → P os
six_numbers P p =
    one_number 5 P (λ y. one_number 4 (λ l. P (number y ∷ l)) (λ x. one_number 3 (λ l. P (number y ∷ number x ∷ l))
    (λ d. one_number 2 (λ l. P (number y ∷ number x ∷ number d ∷ l)) (λ c. one_number 1 (λ l. P (number y ∷ number x ∷ number d ∷ number c ∷ l))
    (λ b. one_number 0 (λ l. P (number y ∷ number x ∷ number d ∷ number c ∷ number b ∷ l))
    (λ a. no_numbers (λ l. P (number y ∷ number x ∷ number d ∷ number c ∷ number b ∷ number a ∷ l)) (p a b c d x y)))))))

then_is : (b x y : Bool) → b ≡ true → (if b then x else y) ≡ true → x ≡ true
then_is true x y t e = e
then_is false x y t e = absurd (true≢false (sym t))

else_is : (b x y : Bool) → b ≡ false → (if b then x else y) ≡ true → y ≡ true
else_is true x y t e = absurd (true≢false t)
else_is false x y t e = e

-- what is so of each kind of element is so of an element
by_element : (P : List ℕ → List Object → Type 0) → ((x y : List ℕ) → P (codes "moveto") (number y ∷ number x ∷ [])) → ((x y : List ℕ) → P (codes "lineto") (number y ∷ number x ∷ []))
    → ((a b c d x y : List ℕ) → P (codes "curveto") (number y ∷ number x ∷ number d ∷ number c ∷ number b ∷ number a ∷ [])) → P (codes "closepath") []
    → (name : List ℕ) (os : List Object) → is_element name os ≡ true → P name os
by_element P m l c z name os e =
    let last : Bool = if bytes_eq name (codes "closepath") then are_so_many 0 os else false in
    let later : Bool = if bytes_eq name (codes "curveto") then are_so_many 6 os else last in
    let more : Bool = if bytes_eq name (codes "lineto") then are_so_many 2 os else later in
    by_test (bytes_eq name (codes "moveto"))
    (λ t. subst (λ k. P k os) (sym ((bytes_eq-Decides name (codes "moveto")).0 t)) (two_numbers (P (codes "moveto")) m os (then_is (bytes_eq name (codes "moveto")) (are_so_many 2 os) more t e)))
    (λ f. let e1 = else_is (bytes_eq name (codes "moveto")) (are_so_many 2 os) more f e in
    by_test (bytes_eq name (codes "lineto"))
    (λ t. subst (λ k. P k os) (sym ((bytes_eq-Decides name (codes "lineto")).0 t)) (two_numbers (P (codes "lineto")) l os (then_is (bytes_eq name (codes "lineto")) (are_so_many 2 os) later t e1)))
    (λ f1. let e2 = else_is (bytes_eq name (codes "lineto")) (are_so_many 2 os) later f1 e1 in
    by_test (bytes_eq name (codes "curveto"))
    (λ t. subst (λ k. P k os) (sym ((bytes_eq-Decides name (codes "curveto")).0 t)) (six_numbers (P (codes "curveto")) c os (then_is (bytes_eq name (codes "curveto")) (are_so_many 6 os) last t e2)))
    (λ f2. let e3 = else_is (bytes_eq name (codes "curveto")) (are_so_many 6 os) last f2 e2 in
    by_test (bytes_eq name (codes "closepath"))
    (λ t. subst (λ k. P k os) (sym ((bytes_eq-Decides name (codes "closepath")).0 t)) (no_numbers (P (codes "closepath")) z os (then_is (bytes_eq name (codes "closepath")) (are_so_many 0 os) false t e3)))
    (λ f3. absurd (true≢false (sym (else_is (bytes_eq name (codes "closepath")) (are_so_many 0 os) false f3 e3)))))))

-- Listed by its elements.

pub traced_one : (chain : List Call) (moves lines curves closes : List Token) (x : Segment) (xs : List Segment) (next : List ℕ) (ts later : List Token)
    → is_same_chain x.chain chain ≡ true → may_precede x.call.name next ≡ true → procedure_for x.call.name moves lines curves closes ≡ Some ts
    → path_tokens chain moves lines curves closes (x ∷ xs) next later ≡ path_tokens chain moves lines curves closes xs x.call.name (numbers_before x.call.operands (ts ++ later))
traced_one chain moves lines curves closes x xs next ts later e f g =
    ap (λ b. and_before (λ us. path_tokens chain moves lines curves closes xs x.call.name us) (element_tokens (b && may_precede x.call.name next) x.call.operands (procedure_for x.call.name moves lines curves closes) later)) e
    ∙ ap (λ b. and_before (λ us. path_tokens chain moves lines curves closes xs x.call.name us) (element_tokens b x.call.operands (procedure_for x.call.name moves lines curves closes) later)) f
    ∙ ap (λ y. and_before (λ us. path_tokens chain moves lines curves closes xs x.call.name us) (element_tokens true x.call.operands y later)) g

-- the guard's procedure for an element
abbrev pub element : List ℕ → List Token
element name = Literal name ∷ Bound (codes "cvx") ∷ []

abbrev pub traces : List Call → List Segment → List ℕ → List Token → Option (List Token)
traces chain xs next later =
    path_tokens chain (element (codes "moveto")) (element (codes "lineto")) (element (codes "curveto")) (element (codes "closepath")) xs next later

procedure_is : (name : List ℕ) (os : List Object) → is_element name os ≡ true
    → procedure_for name (element (codes "moveto")) (element (codes "lineto")) (element (codes "curveto")) (element (codes "closepath")) ≡ Some (element name)
procedure_is =
    by_element (λ name os. procedure_for name (element (codes "moveto")) (element (codes "lineto")) (element (codes "curveto")) (element (codes "closepath")) ≡ Some (element name))
    (λ x y. refl) (λ x y. refl) (λ a b c d x y. refl) refl

-- what is run for a path, the first element first, before these tokens
abbrev pub told : List Segment → List Token → List Token
told [] later = later
told (x ∷ xs) later = told xs (numbers_before x.call.operands (Literal x.call.name ∷ Bound (codes "cvx") ∷ later))

-- the tests of a path's last element
abbrev Tests : List Call → Segment → List Segment → List ℕ → Type 0
Tests chain x xs next =
    (is_element x.call.name x.call.operands ≡ true) × (is_empty_list x.settings ≡ true) × (is_same_chain x.chain chain ≡ true)
    × (may_precede x.call.name next ≡ true) × (is_drawn_anew chain xs x.call.name ≡ true)

tests : (chain : List Call) (x : Segment) (xs : List Segment) (next : List ℕ) → is_drawn_anew chain (x ∷ xs) next ≡ true → Tests chain x xs next
tests chain x xs next e =
    let a : Bool = is_element x.call.name x.call.operands in
    let b : Bool = is_empty_list x.settings in
    let c : Bool = is_same_chain x.chain chain in
    let d : Bool = may_precede x.call.name next in
    let f : Bool = is_drawn_anew chain xs x.call.name in
    let here = first (a && b) ((c && d) && f) e in
    let more = second (a && b) ((c && d) && f) e in
    (first a b here, second a b here, first c d (first (c && d) f more), second c d (first (c && d) f more), second (c && d) f more)

pub path_traced : (chain : List Call) (path : List Segment) (next : List ℕ) (later : List Token) → is_drawn_anew chain path next ≡ true
    → traces chain path next later ≡ Some (told path later)
path_traced chain [] next later e = refl
path_traced chain (x ∷ xs) next later e =
    let t = tests chain x xs next e in
    traced_one chain (element (codes "moveto")) (element (codes "lineto")) (element (codes "curveto")) (element (codes "closepath")) x xs next (element x.call.name) later t.2 t.3 (procedure_is x.call.name x.call.operands t.0)
    ∙ path_traced chain xs x.call.name (numbers_before x.call.operands (Literal x.call.name ∷ Bound (codes "cvx") ∷ later)) t.4

before_append : (os : List Object) (a b : List Token) → numbers_before os a ++ b ≡ numbers_before os (a ++ b)
before_append [] a b = refl
before_append (Plain t ∷ os) a b = before_append os (t ∷ a) b
before_append (o ∷ os) a b = refl

pub told_append : (path : List Segment) (a b : List Token) → told path a ++ b ≡ told path (a ++ b)
told_append [] a b = refl
told_append (x ∷ xs) a b =
    told_append xs (numbers_before x.call.operands (Literal x.call.name ∷ Bound (codes "cvx") ∷ a)) b
    ∙ ap (told xs) (before_append x.call.operands (Literal x.call.name ∷ Bound (codes "cvx") ∷ a) b)

-- the procedure that draws an element, and those of a path, the first element first
abbrev pub drawing : List ℕ → List Object → List Token
drawing name os = numbers_before os (Name name ∷ [])

abbrev pub drawings : List Segment → List Token
drawings [] = []
drawings (x ∷ xs) = drawings xs ++ drawing x.call.name x.call.operands

abbrev pub with : State → List Object → State
with s os = record s { work = with_operands s.work os }

tells : (name : List ℕ) (os : List Object) → is_element name os ≡ true → (s : State) (l : List Token) (below : List Object)
    → Runs false (run_of (numbers_before os (Literal name ∷ Bound (codes "cvx") ∷ l)) (with s below)) (run_of l (with s (onto (drawing name os) below)))
tells =
    by_element (λ name os. (s : State) (l : List Token) (below : List Object)
    → Runs false (run_of (numbers_before os (Literal name ∷ Bound (codes "cvx") ∷ l)) (with s below)) (run_of l (with s (onto (drawing name os) below))))
    (λ x y s l below. (4, refl)) (λ x y s l below. (4, refl)) (λ a b c d x y s l below. (8, refl)) (λ s l below. (2, refl))

onto_append : (a b : List Token) (os : List Object) → onto (a ++ b) os ≡ onto b (onto a os)
onto_append [] b os = refl
onto_append (t ∷ a) b os = onto_append a b (Plain t ∷ os)

pub tells_path : (path : List Segment) (chain : List Call) (next : List ℕ) → is_drawn_anew chain path next ≡ true
    → (later : List Token) (below : List Object) (s u : State) → Runs false (run_of later (with s (onto (drawings path) below))) u
    → Runs false (run_of (told path later) (with s below)) u
tells_path [] chain next e later below s u r = r
tells_path (x ∷ xs) chain next e later below s u r =
    let t = tests chain x xs next e in
    let d : List Token = drawing x.call.name x.call.operands in
    tells_path xs chain x.call.name t.4 (numbers_before x.call.operands (Literal x.call.name ∷ Bound (codes "cvx") ∷ later)) below s u
    (runs_join false (run_of (numbers_before x.call.operands (Literal x.call.name ∷ Bound (codes "cvx") ∷ later)) (with s (onto (drawings xs) below))) (run_of later (with s (onto d (onto (drawings xs) below)))) u
    (tells x.call.name x.call.operands t.0 s later (onto (drawings xs) below))
    (subst (λ os. Runs false (run_of later (with s os)) u) (onto_append (drawings xs) d below) r))

collected_onto : (ts before : List Token) (os : List Object) → collected before (onto ts os) ≡ collected (ts ++ before) os
collected_onto [] before os = refl
collected_onto (t ∷ ts) before os = collected_onto ts before (Plain t ∷ os)

pub all_collected : (ts : List Token) (os : List Object) → collected [] (onto ts (Mark ∷ os)) ≡ Some (ts, os)
all_collected ts os = collected_onto ts [] (Mark ∷ os) ∙ ap (λ l. Some (l, os)) (append-nil ts)

-- Drawn anew.

abbrev pub with_path : State → List Segment → State
with_path s path = record s { graphics = record s.graphics { path = path } }

abbrev anew : List Call → Call → Segment
anew chain c = record { call = c; chain = chain; settings = [] }

draws_one : (name : List ℕ) (os : List Object) → is_element name os ≡ true → (s : State) (path : List Segment) (l : List Token) → Known outline_names s.work
    → Runs false (run_of (drawing name os ++ l) (with_path s path)) (run_of l (with_path s (anew s.graphics.chain (record { name = name; operands = os }) ∷ path)))
draws_one =
    by_element (λ name os. (s : State) (path : List Segment) (l : List Token) → Known outline_names s.work
    → Runs false (run_of (drawing name os ++ l) (with_path s path)) (run_of l (with_path s (anew s.graphics.chain (record { name = name; operands = os }) ∷ path))))
    (λ x y s path l k. straight_runs outline_names (drawing (codes "moveto") (number y ∷ number x ∷ [])) l (with_path s path) (with_path s (anew s.graphics.chain (record { name = codes "moveto"; operands = number y ∷ number x ∷ [] }) ∷ path)) k refl)
    (λ x y s path l k. straight_runs outline_names (drawing (codes "lineto") (number y ∷ number x ∷ [])) l (with_path s path) (with_path s (anew s.graphics.chain (record { name = codes "lineto"; operands = number y ∷ number x ∷ [] }) ∷ path)) k refl)
    (λ a b c d x y s path l k. straight_runs outline_names (drawing (codes "curveto") (number y ∷ number x ∷ number d ∷ number c ∷ number b ∷ number a ∷ [])) l (with_path s path) (with_path s (anew s.graphics.chain (record { name = codes "curveto"; operands = number y ∷ number x ∷ number d ∷ number c ∷ number b ∷ number a ∷ [] }) ∷ path)) k refl)
    (λ s path l k. straight_runs outline_names (drawing (codes "closepath") []) l (with_path s path) (with_path s (anew s.graphics.chain (record { name = codes "closepath"; operands = [] }) ∷ path)) k refl)

draws_all : (path : List Segment) (chain : List Call) (next : List ℕ) → is_drawn_anew chain path next ≡ true → (s : State) (l : List Token) → Known outline_names s.work
    → Runs false (run_of (drawings path ++ l) (with_path s [])) (run_of l (with_path s (map (λ x. anew s.graphics.chain x.call) path)))
draws_all [] chain next e s l k = runs_none false (run_of l (with_path s []))
draws_all (x ∷ xs) chain next e s l k =
    let t = tests chain x xs next e in
    let d : List Token = drawing x.call.name x.call.operands in
    let middle : List Segment = map (λ y. anew s.graphics.chain y.call) xs in
    let end : State = run_of l (with_path s (anew s.graphics.chain x.call ∷ middle)) in
    subst (λ ts. Runs false (run_of ts (with_path s [])) end) (sym (append_assoc (drawings xs) d l))
    (runs_join false (run_of (drawings xs ++ (d ++ l)) (with_path s [])) (run_of (d ++ l) (with_path s middle)) end
    (draws_all xs chain x.call.name t.4 s (d ++ l) k)
    (draws_one x.call.name x.call.operands t.0 s middle l k))

-- The same transformation.

numbers_same : (ts us : List Token) → are_same_numbers ts us ≡ true → ts ≡ us
numbers_same [] [] e = refl
numbers_same (Number a ∷ ts) (Number b ∷ us) e =
    ap₂ (λ t l. Number t ∷ l) ((bytes_eq-Decides a b).0 (first (bytes_eq a b) (are_same_numbers ts us) e)) (numbers_same ts us (second (bytes_eq a b) (are_same_numbers ts us) e))
numbers_same ts us e = absurd (true≢false (sym e))

operands_same : (os ps : List Object) → are_same_operands os ps ≡ true → os ≡ ps
operands_same [] [] e = refl
operands_same (Plain (Number a) ∷ os) (Plain (Number b) ∷ ps) e =
    ap₂ (λ t l. Plain (Number t) ∷ l) ((bytes_eq-Decides a b).0 (first (bytes_eq a b) (are_same_operands os ps) e)) (operands_same os ps (second (bytes_eq a b) (are_same_operands os ps) e))
operands_same (Array ts ∷ os) (Array us ∷ ps) e =
    ap₂ (λ t l. Array t ∷ l) (numbers_same ts us (first (are_same_numbers ts us) (are_same_operands os ps) e)) (operands_same os ps (second (are_same_numbers ts us) (are_same_operands os ps) e))
operands_same os ps e = absurd (true≢false (sym e))

chain_same : (cs ds : List Call) → is_same_chain cs ds ≡ true → cs ≡ ds
chain_same [] [] e = refl
chain_same (c ∷ cs) (d ∷ ds) e =
    let here : Bool = bytes_eq c.name d.name && are_same_operands c.operands d.operands in
    let h = first here (is_same_chain cs ds) e in
    ap₂ (λ x xs. x ∷ xs)
    (ap₂ (λ name os. record { name = name; operands = os }) ((bytes_eq-Decides c.name d.name).0 (first (bytes_eq c.name d.name) (are_same_operands c.operands d.operands) h)) (operands_same c.operands d.operands (second (bytes_eq c.name d.name) (are_same_operands c.operands d.operands) h)))
    (chain_same cs ds (second here (is_same_chain cs ds) e))
chain_same cs ds e = absurd (true≢false (sym e))

nothing_set : (cs : List Call) → is_empty_list cs ≡ true → cs ≡ []
nothing_set [] e = refl
nothing_set (c ∷ cs) e = absurd (true≢false (sym e))

-- so a path that is drawn anew is the path
anew_is : (chain : List Call) (path : List Segment) (next : List ℕ) → is_drawn_anew chain path next ≡ true → map (λ x. anew chain x.call) path ≡ path
anew_is chain [] next e = refl
anew_is chain (x ∷ xs) next e =
    let t = tests chain x xs next e in
    ap₂ (λ y ys. y ∷ ys)
    (ap₂ (λ c set. record { call = x.call; chain = c; settings = set }) (sym (chain_same x.chain chain t.2)) (sym (nothing_set x.settings t.1)))
    (anew_is chain xs x.call.name t.4)

pub draws_path : (path : List Segment) (next : List ℕ) (s : State) (l : List Token) → is_drawn_anew s.graphics.chain path next ≡ true → Known outline_names s.work
    → Runs false (run_of (drawings path ++ l) (with_path s [])) (run_of l (with_path s path))
draws_path path next s l e k =
    subst (λ p. Runs false (run_of (drawings path ++ l) (with_path s [])) (run_of l (with_path s p))) (anew_is s.graphics.chain path next e)
    (draws_all path s.graphics.chain next e s l k)

-- Placed.

longer : (cs ds p : List Call) → is_same_chain cs ds ≡ true → is_same_chain p p ≡ true → is_same_chain (cs ++ p) (ds ++ p) ≡ true
longer [] [] p e f = f
longer (c ∷ cs) (d ∷ ds) p e f =
    let here : Bool = bytes_eq c.name d.name && are_same_operands c.operands d.operands in
    both_true here (is_same_chain (cs ++ p) (ds ++ p)) (first here (is_same_chain cs ds) e) (longer cs ds p (second here (is_same_chain cs ds) e) f)
longer cs ds p e f = absurd (true≢false (sym e))

pub anew_in_place : (p : Place) (chain : List Call) (path : List Segment) (next : List ℕ) → is_same_chain p.chain p.chain ≡ true → is_drawn_anew chain path next ≡ true
    → is_drawn_anew (chain ++ p.chain) (map (segment_at p) path) next ≡ true
anew_in_place p chain [] next f e = refl
anew_in_place p chain (x ∷ xs) next f e =
    let t = tests chain x xs next e in
    both_true _ _ (both_true _ _ t.0 t.1) (both_true _ _ (both_true _ _ (longer x.chain chain p.chain t.2 f) t.3) (anew_in_place p chain xs x.call.name f t.4))
