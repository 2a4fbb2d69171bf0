-- Laws of lines that begin data.
use Rattle.std.specs.Prelude.{not, codes}
use Rattle.std.specs.List.{starts_with, list_all}
use Rattle.std.specs.Str.{bytes_eq}
use Rattle.std.proofs.Common.{Bool, true, false, nat_eq, ◌||◌, ◌&&◌, ◌==◌, ◌≡◌, ℕ, ◌+◌, List, [], ◌∷◌, ◌++◌, length, take, drop, refl, ap, arith, length-append, sym, ◌∙◌, subst, append_assoc}
use Rattle.std.proofs.lemmas.Bool.{false≢true}
use Rattle.std.proofs.lemmas.Slice.Eq.{bytes_eq-Decides}
use Rattle.std.proofs.lemmas.List.{take-append-drop, take-take}
use Rattle.std.proofs.Math.Seq.{take-append_seam}
use Rattle.std.proofs.lemmas.List.Sums.{take_while-cons}
use Rattle.rules.specs.Units.{is_blank, key, has_key, is_comment, begins_block, fields}
use Rattle.dsc.specs.Fields.{fields_in}
use Rattle.dsc.proofs.Cases.{by_test, and_false}

is_same : (xs : List ℕ) → bytes_eq xs xs ≡ true
is_same xs = (bytes_eq-Decides xs xs).1 refl

pub flipped : (xs ys : List ℕ) (t : Bool) → bytes_eq xs ys ≡ t → bytes_eq ys xs ≡ t
flipped xs ys true e = let same : xs ≡ ys = (bytes_eq-Decides xs ys).0 e in subst (λ zs. bytes_eq zs xs ≡ true) same (is_same xs)
flipped xs ys false e = by_test (bytes_eq ys xs)
    (λ is. let same : ys ≡ xs = (bytes_eq-Decides ys xs).0 is in let same_yes : bytes_eq xs ys ≡ true = (bytes_eq-Decides xs ys).1 (sym same) in absurd (false≢true (sym e ∙ same_yes)))
    (λ isnt. isnt)

abbrev pub in_key : ℕ → Bool
in_key b = not (is_blank b || (b == 58))

-- a name followed by a colon is the key
pub key_before : (name rest : List ℕ) → list_all in_key name ≡ true → key (name ++ 58 ∷ rest) ≡ name
key_before [] rest h = refl
key_before (b ∷ bs) rest h = by_test (in_key b)
    (λ is. let h = (rw is at h) in take_while-cons in_key b (bs ++ 58 ∷ rest) ∙ (rw is (ap (λ t. b ∷ t) (key_before bs rest h))))
    (λ isnt. let h = (rw isnt at h) in cc)

pub begun : (content name : List ℕ) → starts_with nat_eq content (name ++ 58 ∷ []) ≡ true → content ≡ name ++ 58 ∷ drop (length (name ++ 58 ∷ [])) content
begun content name h =
    let front : name ++ 58 ∷ [] ≡ take (length (name ++ 58 ∷ [])) content = (bytes_eq-Decides (name ++ 58 ∷ []) (take (length (name ++ 58 ∷ [])) content)).0 h in
    sym (take-append-drop (length (name ++ 58 ∷ [])) content) ∙ ap (λ t. t ++ drop (length (name ++ 58 ∷ [])) content) (sym front)
    ∙ append_assoc name (58 ∷ []) (drop (length (name ++ 58 ∷ [])) content)

pub key_is : (content name : List ℕ) → list_all in_key name ≡ true → starts_with nat_eq content (name ++ 58 ∷ []) ≡ true → key content ≡ name
key_is content name free h = ap key (begun content name h) ∙ key_before name (drop (length (name ++ 58 ∷ [])) content) free

pub comment_is : (content name : List ℕ) (t : Bool) → list_all in_key name ≡ true → starts_with nat_eq content (name ++ 58 ∷ []) ≡ t → is_comment name content ≡ t
comment_is content name true free h =
    ap (λ k. (bytes_eq k name || false) && starts_with nat_eq content (name ++ 58 ∷ [])) (key_is content name free h)
    ∙ ap (λ t. (t || false) && starts_with nat_eq content (name ++ 58 ∷ [])) (is_same name) ∙ h
comment_is content name false free h = ap (λ t. has_key (name ∷ []) content && t) h ∙ and_false (has_key (name ∷ []) content)

pub fields_behind : (content name : List ℕ) → list_all in_key name ≡ true → starts_with nat_eq content (name ++ 58 ∷ []) ≡ true → fields content ≡ fields_in (drop (length name + 1) content)
fields_behind content name free h = ap (λ k. fields_in (drop (length k + 1) content)) (key_is content name free h)

abbrev DATA : List ℕ
DATA = codes "%%BeginData"

abbrev BINARY : List ℕ
BINARY = codes "%%BeginBinary"

stripped : (content name : List ℕ) (t : Bool) → list_all in_key name ≡ true → bytes_eq (take (length (name ++ 58 ∷ [])) content) (name ++ 58 ∷ []) ≡ t → is_comment name content ≡ t
stripped content name t free h = comment_is content name t free (flipped (take (length (name ++ 58 ∷ [])) content) (name ++ 58 ∷ []) t h)

-- what doesn't begin with some bytes doesn't begin with these and more either
pub unbegun : (content start more : List ℕ) → starts_with nat_eq content start ≡ false → starts_with nat_eq content (start ++ more) ≡ false
unbegun content start more h = by_test (starts_with nat_eq content (start ++ more))
    (λ is.
    let n : ℕ = length start in
    let m : ℕ = length (start ++ more) in
    let front : start ++ more ≡ take m content = (bytes_eq-Decides (start ++ more) (take m content)).0 is in
    let size = length-append start more in
    let first : start ≡ take n content = sym (take-append_seam start more) ∙ ap (take n) front ∙ take-take n m content (omega (arith, size)) in
    absurd (false≢true (sym h ∙ (bytes_eq-Decides start (take n content)).1 first)))
    (λ isnt. isnt)

pub unheaded : (content : List ℕ) → starts_with nat_eq content (codes "%%Begin") ≡ false → begins_block content ≡ false
unheaded content h =
    let isnt : is_comment DATA content ≡ false = comment_is content DATA false refl (unbegun content (codes "%%Begin") (codes "Data:") h) in
    let also : is_comment BINARY content ≡ false = comment_is content BINARY false refl (unbegun content (codes "%%Begin") (codes "Binary:") h) in
    ap (λ t. t || is_comment BINARY content) isnt ∙ also

-- in terms of a search for the two headings
pub data_found : (content behind : List ℕ) → bytes_eq (take 12 content) (DATA ++ 58 ∷ []) ≡ true → behind ≡ drop 12 content
    → (begins_block content ≡ true) × (fields content ≡ fields_in behind) × (is_comment DATA content ≡ true)
data_found content behind h e =
    let is : is_comment DATA content ≡ true = stripped content DATA true refl h in
    (ap (λ t. t || is_comment BINARY content) is, fields_behind content DATA refl (flipped (take 12 content) (DATA ++ 58 ∷ []) true h) ∙ ap fields_in (sym e), is)

pub binary_found : (content behind : List ℕ) → bytes_eq (take 12 content) (DATA ++ 58 ∷ []) ≡ false → bytes_eq (take 14 content) (BINARY ++ 58 ∷ []) ≡ true → behind ≡ drop 14 content
    → (begins_block content ≡ true) × (fields content ≡ fields_in behind) × (is_comment DATA content ≡ false)
binary_found content behind g h e =
    let isnt : is_comment DATA content ≡ false = stripped content DATA false refl g in
    let is : is_comment BINARY content ≡ true = stripped content BINARY true refl h in
    (ap (λ t. t || is_comment BINARY content) isnt ∙ is, fields_behind content BINARY refl (flipped (take 14 content) (BINARY ++ 58 ∷ []) true h) ∙ ap fields_in (sym e), isnt)

pub none_found : (content : List ℕ) → bytes_eq (take 12 content) (DATA ++ 58 ∷ []) ≡ false → bytes_eq (take 14 content) (BINARY ++ 58 ∷ []) ≡ false → begins_block content ≡ false
none_found content g h =
    let isnt : is_comment DATA content ≡ false = stripped content DATA false refl g in
    let also : is_comment BINARY content ≡ false = stripped content BINARY false refl h in
    ap (λ t. t || is_comment BINARY content) isnt ∙ also
