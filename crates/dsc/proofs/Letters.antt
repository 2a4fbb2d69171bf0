-- What the letter of a comment says about its key.
use Rattle.std.specs.Prelude.{Some, None, is_some, codes, not}
use Rattle.std.specs.List.{starts_with, prefix_len, list_all}
use Rattle.std.specs.Str.{bytes_eq}
use Rattle.std.proofs.Common.{Bool, true, false, cond, nat_eq, ◌||◌, ◌&&◌, ◌==◌, if◌then◌else◌, ◌≡◌, ℕ, zero, suc, ◌+◌, ◌-◌, List, [], ◌∷◌, length, take, refl, ap, arith, sym, ◌∙◌}
use Rattle.std.proofs.lemmas.Bool.{false≢true, eqb-true}
use Rattle.std.proofs.lemmas.List.{length-take}
use Rattle.std.proofs.lemmas.Option.{same_Some}
use Rattle.std.proofs.lemmas.List.Sums.{take_while-cons}
use Rattle.std.proofs.lemmas.Slice.Eq.{bytes_eq-Decides}
use Rattle.rules.specs.Units.{is_blank, key}
use Rattle.rules.specs.Parts.{begins_page, begins_trailer, depth_after}
use Rattle.rules.specs.Filters.{drops_in_page}
use Rattle.dsc.specs.Letters.{letter_of}
use Rattle.dsc.specs.Views.{at_depth, comment_line}
use Rattle.dsc.proofs.Cases.{by_test, and_false}
use Rattle.dsc.proofs.Headings.{in_key, comment_is}

-- what begins with these bytes has this letter
letter_front : (n : ℕ) (content name : List ℕ) (c : ℕ) → 37 ∷ 37 ∷ c ∷ name ≡ take n content → letter_of content ≡ Some c
letter_front n [] name c e = let size = ap length e in let fits = length-take {A = ℕ} n [] in absurd (omega (arith, size, fits))
letter_front n (x ∷ []) name c e = let size = ap length e in let fits = length-take {A = ℕ} n (x ∷ []) in absurd (omega (arith, size, fits))
letter_front n (x ∷ y ∷ []) name c e = let size = ap length e in let fits = length-take {A = ℕ} n (x ∷ y ∷ []) in absurd (omega (arith, size, fits))
letter_front zero (x ∷ y ∷ z ∷ rest) name c e = cc
letter_front (suc zero) (x ∷ y ∷ z ∷ rest) name c e = let size = ap length e in absurd (omega (arith, size))
letter_front (suc (suc zero)) (x ∷ y ∷ z ∷ rest) name c e = let size = ap length e in absurd (omega (arith, size))
letter_front (suc (suc (suc n))) (x ∷ y ∷ z ∷ rest) name c e =
    ap (λ t. if (t == 37) && (y == 37) then Some z else None) (sym (ap (nth 0) e))
    ∙ ap (λ t. if t == 37 then Some z else None) (sym (ap (nth 1) e))
    ∙ ap Some (sym (ap (nth 2) e))
  where
    nth : ℕ → List ℕ → ℕ
    nth k [] = 0
    nth zero (x ∷ xs) = x
    nth (suc k) (x ∷ xs) = nth k xs

letter_key : (content name : List ℕ) (c : ℕ) → bytes_eq (key content) (37 ∷ 37 ∷ c ∷ name) ≡ true → letter_of content ≡ Some c
letter_key content name c is =
    letter_front (prefix_len (λ b. not (is_blank b || (b == 58))) content) content name c (sym ((bytes_eq-Decides (key content) (37 ∷ 37 ∷ c ∷ name)).0 is))

letter_start : (content name : List ℕ) (c : ℕ) → starts_with nat_eq content (37 ∷ 37 ∷ c ∷ name) ≡ true → letter_of content ≡ Some c
letter_start content name c is =
    letter_front (length (37 ∷ 37 ∷ c ∷ name)) content name c ((bytes_eq-Decides (37 ∷ 37 ∷ c ∷ name) (take (length (37 ∷ 37 ∷ c ∷ name)) content)).0 is)

-- with another letter the key is a different one
pub other_key : (content name : List ℕ) (c : ℕ) → (letter_of content ≡ Some c → ⊥) → bytes_eq (key content) (37 ∷ 37 ∷ c ∷ name) ≡ false
other_key content name c h = by_test (bytes_eq (key content) (37 ∷ 37 ∷ c ∷ name)) (λ is. absurd (h (letter_key content name c is))) (λ isnt. isnt)

pub other_start : (content name : List ℕ) (c : ℕ) → (letter_of content ≡ Some c → ⊥) → starts_with nat_eq content (37 ∷ 37 ∷ c ∷ name) ≡ false
other_start content name c h = by_test (starts_with nat_eq content (37 ∷ 37 ∷ c ∷ name)) (λ is. absurd (h (letter_start content name c is))) (λ isnt. isnt)

-- the key of a line begins with bytes that the line begins with, if none of them ends a key
pub key_starts : (name content : List ℕ) → list_all in_key name ≡ true → starts_with nat_eq (key content) name ≡ starts_with nat_eq content name
key_starts name [] h = refl
key_starts [] (c ∷ cs) h = ap (λ k. starts_with nat_eq k []) (take_while-cons in_key c cs) ∙ nothing (in_key c)
  where
    nothing : (t : Bool) → starts_with nat_eq (cond t (c ∷ key cs) []) [] ≡ true
    nothing true = refl
    nothing false = refl
key_starts (b ∷ bs) (c ∷ cs) h = ap (λ k. starts_with nat_eq k (b ∷ bs)) (take_while-cons in_key c cs) ∙ by_test (in_key c)
    (λ is. ap (λ t. starts_with nat_eq (cond t (c ∷ key cs) []) (b ∷ bs)) is ∙ ap (λ t. (b == c) && t) (key_starts bs cs (rest_in b (list_all in_key bs) h)))
    (λ isnt. ap (λ t. starts_with nat_eq (cond t (c ∷ key cs) []) (b ∷ bs)) isnt
    ∙ by_test (b == c)
    (λ same. absurd (false≢true (sym isnt ∙ ap in_key (sym (eqb-true b c same)) ∙ first_in b (list_all in_key bs) h)))
    (λ other. ap (λ t. t && bytes_eq bs (take (length bs) cs)) (sym other)))
  where
    first_in : (b : ℕ) (t : Bool) → (in_key b && t) ≡ true → in_key b ≡ true
    first_in b t h = by_test (in_key b) (λ is. is) (λ isnt. let h = (rw isnt at h) in cc)

    rest_in : (b : ℕ) (t : Bool) → (in_key b && t) ≡ true → t ≡ true
    rest_in b t h = by_test (in_key b) (λ is. (rw is at h)) (λ isnt. let h = (rw isnt at h) in cc)

pub another : (a b : ℕ) → (a ≡ b → ⊥) → Some a ≡ Some b → ⊥
another a b h e = h (same_Some a b e)

or_false : (t : Bool) → (t || false) ≡ t
or_false true = refl
or_false false = refl

pub no_letter : (k : ℕ) → Some k ≡ None → ⊥
no_letter k e = false≢true (sym (ap is_some e))

begins_none : (content : List ℕ) (depth : ℕ) → starts_with nat_eq content (codes "%%Page:") ≡ false → false ≡ begins_page (at_depth depth (comment_line content))
begins_none content depth h = sym (ap (λ v. ((depth == 0) && true) && v) (comment_is content (codes "%%Page") false refl h) ∙ and_false ((depth == 0) && true))

-- outside of embedded documents a page begins by its key
pub begins_at_0 : (content : List ℕ) (depth : ℕ) (starts : Bool) → depth ≡ 0 → starts ≡ starts_with nat_eq content (codes "%%Page:") → starts ≡ begins_page (at_depth depth (comment_line content))
begins_at_0 content depth starts outside is =
    sym (ap (λ v. ((depth == 0) && true) && v) (comment_is content (codes "%%Page") starts refl (sym is)) ∙ ap (λ d. ((d == 0) && true) && starts) outside)

-- a line with this key begins neither a page nor the trailer
pub begins_neither : (content name : List ℕ) (depth : ℕ) → starts_with nat_eq content (codes "%%Page:") ≡ false → bytes_eq (key content) name ≡ true
    → (bytes_eq name (codes "%%Trailer") || bytes_eq name (codes "%%EOF")) ≡ false
    → (false ≡ begins_page (at_depth depth (comment_line content))) × (false ≡ begins_trailer (at_depth depth (comment_line content)))
begins_neither content name depth h is other = (
  begins_none content depth h,
  sym (ap (λ k. ((depth == 0) && true) && (bytes_eq k (codes "%%Trailer") || (bytes_eq k (codes "%%EOF") || false))) ((bytes_eq-Decides (key content) name).0 is)
      ∙ ap (λ v. ((depth == 0) && true) && (bytes_eq name (codes "%%Trailer") || v)) (or_false (bytes_eq name (codes "%%EOF")))
      ∙ ap (λ v. ((depth == 0) && true) && v) other ∙ and_false ((depth == 0) && true)),
)

-- the line that begins an embedded document
pub deepens : (content : List ℕ) (depth : ℕ) → bytes_eq (key content) (codes "%%BeginDocument") ≡ true → depth + 1 ≡ depth_after depth (comment_line content)
deepens content depth is = sym (ap (λ v. if v || false then depth + 1 else (if bytes_eq (key content) (codes "%%EndDocument") || false then depth - 1 else depth)) is)

-- a line with another letter begins no trailer, and leaves the depth
means_no_end : (content : List ℕ) (depth : ℕ) → (letter_of content ≡ Some 66 → ⊥) → (letter_of content ≡ Some 69 → ⊥) → (letter_of content ≡ Some 84 → ⊥)
    → (false ≡ begins_trailer (at_depth depth (comment_line content))) × (depth ≡ depth_after depth (comment_line content))
means_no_end content depth b e t =
    let begins : bytes_eq (key content) (codes "%%BeginDocument") ≡ false = other_key content (codes "eginDocument") 66 b in
    let ends : bytes_eq (key content) (codes "%%EndDocument") ≡ false = other_key content (codes "ndDocument") 69 e in
    let trails : bytes_eq (key content) (codes "%%Trailer") ≡ false = other_key content (codes "railer") 84 t in
    let eof : bytes_eq (key content) (codes "%%EOF") ≡ false = other_key content (codes "OF") 69 e in (
      sym (ap (λ v. ((depth == 0) && true) && (v || (bytes_eq (key content) (codes "%%EOF") || false))) trails
          ∙ ap (λ v. ((depth == 0) && true) && (v || false)) eof ∙ and_false ((depth == 0) && true)),
      sym (ap (λ v. if v || false then depth + 1 else (if bytes_eq (key content) (codes "%%EndDocument") || false then depth - 1 else depth)) begins
          ∙ ap (λ v. if v || false then depth - 1 else depth) ends),
    )

-- a line with another letter means nothing
pub means_nothing : (content : List ℕ) (depth : ℕ) → (letter_of content ≡ Some 80 → ⊥) → (letter_of content ≡ Some 66 → ⊥) → (letter_of content ≡ Some 69 → ⊥) → (letter_of content ≡ Some 84 → ⊥)
    → (false ≡ begins_page (at_depth depth (comment_line content))) × (false ≡ begins_trailer (at_depth depth (comment_line content))) × (depth ≡ depth_after depth (comment_line content))
means_nothing content depth p b e t =
    let rest = means_no_end content depth b e t in
    (begins_none content depth (other_start content (codes "age:") 80 p), rest.0, rest.1)

-- a line with the letter of a page
pub means_no_more : (content : List ℕ) (depth : ℕ) → letter_of content ≡ Some 80
    → (false ≡ begins_trailer (at_depth depth (comment_line content))) × (depth ≡ depth_after depth (comment_line content))
means_no_more content depth is =
    means_no_end content depth (λ e. another 80 66 (λ same. omega (arith, same)) (sym is ∙ e)) (λ e. another 80 69 (λ same. omega (arith, same)) (sym is ∙ e))
    (λ e. another 80 84 (λ same. omega (arith, same)) (sym is ∙ e))

-- a line with another letter is not dropped from a page
pub drops_nothing : (content : List ℕ) → (letter_of content ≡ Some 80 → ⊥) → (letter_of content ≡ Some 66 → ⊥) → (letter_of content ≡ Some 69 → ⊥) → false ≡ drops_in_page content
drops_nothing content p b e =
    sym
    (ap (λ t. t || (bytes_eq (key content) (codes "%%BeginPageSetup") || (bytes_eq (key content) (codes "%%EndPageSetup") || false))) (key_starts (codes "%%Page") content refl ∙ other_start content (codes "age") 80 p)
    ∙ ap (λ t. t || (bytes_eq (key content) (codes "%%EndPageSetup") || false)) (other_key content (codes "eginPageSetup") 66 b)
    ∙ ap (λ t. t || false) (other_key content (codes "ndPageSetup") 69 e))

-- what is dropped from a page, by the letter
pub page_letter : (content : List ℕ) → letter_of content ≡ Some 80 → starts_with nat_eq content (codes "%%Page") ≡ drops_in_page content
page_letter content is =
    let b : bytes_eq (key content) (codes "%%BeginPageSetup") ≡ false = other_key content (codes "eginPageSetup") 66 (λ e. another 80 66 (λ same. omega (arith, same)) (sym is ∙ e)) in
    let e : bytes_eq (key content) (codes "%%EndPageSetup") ≡ false = other_key content (codes "ndPageSetup") 69 (λ e. another 80 69 (λ same. omega (arith, same)) (sym is ∙ e)) in
    let s : starts_with nat_eq (key content) (codes "%%Page") ≡ starts_with nat_eq content (codes "%%Page") = key_starts (codes "%%Page") content refl in
    sym
    (ap (λ t. t || (bytes_eq (key content) (codes "%%BeginPageSetup") || (bytes_eq (key content) (codes "%%EndPageSetup") || false))) s
    ∙ ap (λ t. starts_with nat_eq content (codes "%%Page") || (t || (bytes_eq (key content) (codes "%%EndPageSetup") || false))) b
    ∙ ap (λ t. starts_with nat_eq content (codes "%%Page") || (t || false)) e
    ∙ or_false (starts_with nat_eq content (codes "%%Page")))

pub key_letter : (content k : List ℕ) (t : Bool) → (letter_of content ≡ Some 80 → ⊥) → k ≡ key content
    → false ≡ bytes_eq k (codes "%%BeginPageSetup") → t ≡ bytes_eq k (codes "%%EndPageSetup") → t ≡ drops_in_page content
key_letter content k t p same b e =
    e ∙ sym (or_false (bytes_eq k (codes "%%EndPageSetup")))
    ∙ ap (λ v. v || (bytes_eq k (codes "%%EndPageSetup") || false)) b
    ∙ ap (λ v. bytes_eq v (codes "%%BeginPageSetup") || (bytes_eq v (codes "%%EndPageSetup") || false)) same
    ∙ ap (λ v. v || (bytes_eq (key content) (codes "%%BeginPageSetup") || (bytes_eq (key content) (codes "%%EndPageSetup") || false)))
    (sym (key_starts (codes "%%Page") content refl ∙ other_start content (codes "age") 80 p))
