-- Media that pages name, one more at a time.
use Rattle.std.specs.Prelude.{Result, Ok, Err, OnOk, IfSome, Option, Some, None, option_and_then, option_map, if◌then◌else◌, slice_index_or}
use Rattle.std.specs.Ordering.{is_eq, nat_cmp}
use Rattle.std.specs.Cmp.{eq_by_cmp_equiv}
use Rattle.std.specs.Cmp.Lexicographic.{slice_cmp, bytes_decides, nat_list_cmp_total, nat_list_eq_equiv}
use Rattle.std.specs.BTreeMap.{UpdatesBy}
use Rattle.std.specs.Map.{AreApart, IsKeyTest, KeepsOthers, lookup, update}
use Rattle.std.specs.Str.{bytes_eq}
use Rattle.std.proofs.Common.{arith, ◌≡◌, Bool, true, false, cond, nat_lt, ℕ, ◌+◌, ◌<◌, List, [], ◌∷◌, drop, refl, ap, sym, subst, ◌∙◌}
use Rattle.std.proofs.lemmas.Bool.Decides.{nat_tests}
use Rattle.std.proofs.lemmas.Map.Text.{is_eq-slice_cmp}
use Rattle.dsc.proofs.Cases.{by_test}
use Rattle.rules.specs.Papers.{Paper}
use Rattle.rules.specs.Units.{line_len}
use Rattle.papers.specs.Comments.{Medium, medium_of_page, page_head, paper_of_medium}
use Rattle.papers.specs.declared.known_media.KnownMedia.{KnownMedia}
use Rattle.papers.specs.Named.{IsNameKept, Knows, found_at, known_paper, with_media}
use Rattle.papers.proofs.Heads.{head, page_head_is}

-- ---- a map after a change at one name, read at any name
apart : (at other key : List ℕ) → bytes_eq at other ≡ false → is_eq (slice_cmp nat_cmp at key) ≡ true → is_eq (slice_cmp nat_cmp other key) ≡ false
apart at other key n y =
    is_eq-slice_cmp other key
    ∙ nat_list_eq_equiv.symm other key
    ∙ sym (nat_list_eq_equiv.congr at key other (sym (is_eq-slice_cmp at key) ∙ y))
    ∙ n

other_entries : {K X : Type 0} (eq : K → K → Bool) (test : K → Bool) (old new : List (K × X)) → KeepsOthers eq test old new
    → (other : K → Bool) → IsKeyTest eq other → AreApart test other → lookup other new ≡ lookup other old
unfolding KeepsOthers
other_entries eq test old new h = h

by_name : {W : Type 0} (f g : List ℕ → W) (at : List ℕ) (w : W) → g at ≡ w → ((other : List ℕ) → bytes_eq at other ≡ false → g other ≡ f other)
    → (other : List ℕ) → g other ≡ cond (bytes_eq at other) w (f other)
by_name f g at w here apart_from other = by_test (bytes_eq at other)
    (λ is. subst (λ l. g l ≡ w) ((bytes_decides at other).0 is) here ∙ sym (ap (λ b. cond b w (f other)) is))
    (λ isnt. apart_from other isnt ∙ sym (ap (λ b. cond b w (f other)) isnt))

pub updated : (old new : KnownMedia) (at : List ℕ) (w : Option (Option (Option Paper)))
    → UpdatesBy (λ x y. slice_cmp nat_cmp x.items y.items) (λ k. slice_cmp nat_cmp at k.items) old.papers new.papers w
    → (other : List ℕ) → found_at new other ≡ update bytes_eq (found_at old) at w other
updated old new at w h =
    by_name (found_at old) (found_at new) at w h.1
    (λ other e. other_entries _ _ _ _ h.3 _ (λ x y. (eq_by_cmp_equiv nat_list_cmp_total).congr other x.items y.items) (λ k. apart at other k.items e))

-- ---- names that are kept
pub on_ok : {A E P Q : Type 0} (r : Result A E) → (P → Q) → OnOk r P → OnOk r Q
on_ok (Ok v) h p = h p
on_ok (Err e) h p = p

told_in : (page text : List ℕ) → text ≡ drop (line_len page) page → medium_of_page (head text) ≡ medium_of_page (page_head page)
told_in page text at = ap medium_of_page (sym (page_head_is page ∙ ap head (sym at)))

pub kept_name : (old new : KnownMedia) (page text name : List ℕ) → text ≡ drop (line_len page) page → Some name ≡ medium_of_page (head text)
    → ((at : List ℕ) → found_at new at ≡ update bytes_eq (found_at old) name (Some None) at) → IsNameKept new page
kept_name old new page text name at told put =
    let here : found_at new name ≡ Some None = put name ∙ ap (λ b. cond b (Some None) (found_at old name)) ((bytes_decides name name).1 refl) in
    subst (λ n. IfSome n (λ x. found_at new x ≡ Some None)) (told ∙ told_in page text at) here

pub no_name : (known : KnownMedia) (page text : List ℕ) → text ≡ drop (line_len page) page → None ≡ medium_of_page (head text) → IsNameKept known page
no_name known page text at told = subst (λ n. IfSome n (λ x. found_at known x ≡ Some None)) (told ∙ told_in page text at) tt

still_told : (old new : KnownMedia) (n : Option (List ℕ)) → ((at : List ℕ) → found_at old at ≡ Some None → found_at new at ≡ Some None)
    → IfSome n (λ x. found_at old x ≡ Some None) → IfSome n (λ x. found_at new x ≡ Some None)
still_told old new None h is = is
still_told old new (Some name) h is = h name is

below : (k n : ℕ) → nat_lt k n ≡ true → k < n
below k n is = grind (arith, nat_tests, is)

the_last : (k n : ℕ) → k < n + 1 → nat_lt k n ≡ false → n ≡ k
the_last k n less isnt = grind (arith, nat_tests, less, isnt)

-- the pages of which one more is kept
pub pages_kept : (old new : KnownMedia) (ps : List (List ℕ)) (n : ℕ) (page : List ℕ) → page ≡ slice_index_or ps n [] → IsNameKept new page
    → ((at : List ℕ) → found_at old at ≡ Some None → found_at new at ≡ Some None)
    → ((k : ℕ) → k < n → IsNameKept old (slice_index_or ps k [])) → (k : ℕ) → k < n + 1 → IsNameKept new (slice_index_or ps k [])
pages_kept old new ps n page is here h before k less = by_test (nat_lt k n)
    (λ lt. still_told old new (medium_of_page (page_head (slice_index_or ps k []))) h (before k (below k n lt)))
    (λ ge. subst (λ p. IsNameKept new p) (is ∙ ap (λ j. slice_index_or ps j []) (the_last k n less ge)) here)

-- ---- what is found in the end
settles : (name : List ℕ) (paper : Option Paper) (ms : List Medium) → with_media name (Some paper) ms ≡ Some paper
settles name paper [] = refl
settles name paper (m ∷ ms) = settles name paper ms

pick : (name : List ℕ) (m : Medium) (ms : List Medium) (b : Bool) → option_and_then (λ paper. paper) (with_media name None ms) ≡ paper_of_medium name ms
    → option_and_then (λ paper. paper) (with_media name (if b then Some m.paper else None) ms) ≡ (if b then m.paper else paper_of_medium name ms)
pick name m ms true rest = ap (option_and_then (λ paper. paper)) (settles name m.paper ms)
pick name m ms false rest = rest

first_found : (name : List ℕ) (ms : List Medium) → option_and_then (λ paper. paper) (with_media name None ms) ≡ paper_of_medium name ms
first_found name [] = refl
first_found name (m ∷ ms) = pick name m ms (bytes_eq m.name name) (first_found name ms)

found_by : (kept known : KnownMedia) (ms : List Medium) → ((at : List ℕ) → found_at known at ≡ option_map (λ found. with_media at found ms) (found_at kept at))
    → (n : Option (List ℕ)) → IfSome n (λ name. found_at kept name ≡ Some None) → IfSome n (λ name. known_paper known name ≡ paper_of_medium name ms)
found_by kept known ms h None is = is
found_by kept known ms h (Some name) is =
    ap (option_and_then (λ found. option_and_then (λ paper. paper) found)) (h name ∙ ap (option_map (λ found. with_media name found ms)) is) ∙ first_found name ms

pub knows : (kept known : KnownMedia) (ms : List Medium) (page : List ℕ) → ((at : List ℕ) → found_at known at ≡ option_map (λ found. with_media at found ms) (found_at kept at))
    → IsNameKept kept page → Knows known ms page
knows kept known ms page h is = found_by kept known ms h (medium_of_page (page_head page)) is

-- with no media no page's name is one
none_known : (known : KnownMedia) (n : Option (List ℕ)) → ((at : List ℕ) → found_at known at ≡ None) → IfSome n (λ name. known_paper known name ≡ paper_of_medium name [])
none_known known None empty = tt
none_known known (Some name) empty = ap (option_and_then (λ found. option_and_then (λ paper. paper) found)) (empty name)

pub no_media : (known : KnownMedia) (ms : List Medium) (page : List ℕ) → ms ≡ [] → ((at : List ℕ) → found_at known at ≡ None) → Knows known ms page
no_media known ms page none empty = subst (λ m. Knows known m page) (sym none) (none_known known (medium_of_page (page_head page)) empty)
