-- A body that was found is the prepared body of its page.
use Rattle.std.specs.Prelude.{Ok, map}
use Rattle.std.proofs.Common.{Bool, true, false, if◌then◌else◌, ◌≡◌, ℕ, zero, suc, ◌-◌, ◌<◌, ◌≤◌, List, [], ◌∷◌, length, drop, get_or, refl, ap, arith, sym, ◌∙◌, subst}
use Rattle.std.proofs.lemmas.List.{length-map}
use Rattle.rules.specs.Units.{is_end, cut, ◌>>=◌}
use Rattle.rules.specs.Parts.{NestedUnit, nested, page_run, split_pages, bytes_of, pages}
use Rattle.rules.specs.Filters.{kept, drops_in_page, ended, prepared}
use Rattle.dsc.specs.Units.{or_none, units_of}
use Rattle.dsc.specs.Laws.{StandAlone}
use Rattle.dsc.specs.Marks.{starts_of}
use Rattle.dsc.specs.BodyStarts.{IsBodyStart, ends_line}
use Rattle.dsc.specs.Documents.{HasItsParts}
use Rattle.dsc.proofs.Alone.{pages-alone}
use Rattle.dsc.proofs.Slices.{page_found}

-- units that are cut the same way alone have the same prepared body
pub alone_prepared : (us : List NestedUnit) → StandAlone us → prepared (bytes_of us) ≡ Ok (ended (bytes_of (kept drops_in_page us)))
alone_prepared us h = ap (λ r. r >>= λ vs. Ok (ended (bytes_of (kept drops_in_page (nested vs))))) h.0 ∙ ap (λ vs. Ok (ended (bytes_of (kept drops_in_page vs)))) h.1

-- neither bytes that end with a line end nor the last part of them need one
ends_stay : (xs : List ℕ) (was : Bool) → ends_line was xs ≡ true → ended xs ≡ xs
ends_stay [] was e = refl
ends_stay (b ∷ []) was e = ap (λ t. if t then b ∷ [] else b ∷ 10 ∷ []) e
ends_stay (b ∷ c ∷ bs) was e = ap (λ t. b ∷ t) (ends_stay (c ∷ bs) (is_end b) e)

rest_stays : (k : ℕ) (xs : List ℕ) (was : Bool) → ends_line was xs ≡ true → ended (drop k xs) ≡ drop k xs
rest_stays zero xs was e = ends_stay xs was e
rest_stays (suc k) [] was e = refl
rest_stays (suc k) (x ∷ xs) was e = rest_stays k xs (is_end x) e

mapped : (xs : List (List NestedUnit)) (p : ℕ) → get_or (map bytes_of xs) p [] ≡ bytes_of (get_or xs p [])
mapped [] p = refl
mapped (x ∷ xs) zero = refl
mapped (x ∷ xs) (suc p) = mapped xs p

pub not_0 : (n : ℕ) → (n ≡ 0 → ⊥) → 0 < n
not_0 zero h = absurd (h refl)
not_0 (suc n) h = omega arith

-- in terms of the code
pub body_start_at : (text starts bodies row others : List ℕ) (stop p start first : ℕ) (us : List NestedUnit) → HasItsParts text starts bodies stop → units_of text ≡ us → p < length (pages us)
    → row ≡ bodies → others ≡ starts → start ≡ get_or row p 0 → first ≡ get_or others p 0
    → (p < length row) × (p < length others) × (0 < start → (first ≤ start) × (start - first ≤ length (get_or (pages us) p [])) × (prepared (get_or (pages us) p []) ≡ Ok (drop (start - first) (get_or (pages us) p []))))
body_start_at text starts bodies row others stop p start first us i v h r o s f =
    let vs : List NestedUnit = units_of text in
    let parts : List (List NestedUnit) = split_pages (page_run vs) in
    let below : p < length (pages vs) = subst (λ ws. p < length (pages ws)) (sym v) h in
    let count = length-map parts bytes_of in
    let here : p < length bodies = (let n = i.bodies_are.count in omega (arith, below, count, n)) in
    let found = page_found text starts stop p i.is_cut i.starts_are i.stop_is below in
    let unit : List NestedUnit = get_or parts p [] in
    let alone : StandAlone unit = pages-alone text (or_none (cut text)) i.is_cut p [] (omega (arith, below, count)) in
    let page : get_or (pages us) p [] ≡ bytes_of unit = ap (λ ws. get_or (pages ws) p []) (sym v) ∙ mapped parts p in
    let start_is : start ≡ get_or bodies p 0 = s ∙ ap (λ xs. get_or xs p 0) r in
    let first_is : get_or (starts_of vs) p 0 ≡ first = ap (λ xs. get_or xs p 0) (sym (o ∙ i.starts_are)) ∙ sym f in
    let right : IsBodyStart first start unit = subst (λ k. IsBodyStart k start unit) first_is (subst (λ k. IsBodyStart (get_or (starts_of vs) p 0) k unit) (sym start_is) (i.bodies_are.each p here)) in (
      (let same = ap length r in omega (arith, here, same)),
      (let same = ap length o in omega (arith, found.0, same)),
      λ some.
          let w = right some in (
            w.0,
            (let size = ap length page in let most = w.1 in omega (arith, most, size)),
            ap prepared page ∙ alone_prepared unit alone
                ∙ ap (λ t. Ok (ended t)) w.2 ∙ ap Ok (rest_stays (start - first) (bytes_of unit) false w.3)
                ∙ ap (λ t. Ok (drop (start - first) t)) (sym page),
          ),
    )
