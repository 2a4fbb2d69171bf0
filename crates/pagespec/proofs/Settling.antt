-- The results of the parsed items, compared with those of the written ones.
use Rattle.std.proofs.Common.{arith, ◌≡◌, ◌%◌, ℕ, List, [], ◌∷◌, ◌++◌, Bool, Option, Some, None, refl, sym, ap, subst, ◌∙◌, length, take, drop, get_or, ◌+◌, ◌<◌}
use Rattle.std.specs.Prelude.{map, flat_map, unwrap_or, option_map, pos, ℤ}
use Rattle.std.specs.List.{AllZip}
use Rattle.std.proofs.lemmas.List.{length-append, length-map, length-drop, map-append, map_more}
use Rattle.std.proofs.lemmas.Slice.Zip.{AllZip-long}
use Rattle.rules.specs.Specification.{Measure, Modifier, Quarters, Scaled, Moved, Turn, WrittenItem, Item, settled_item, quarters, quarter_turn, scale, offset_x, offset_y, zero_points}
use Rattle.pagespec.specs.Items.{measure_of, item_of}
use Rattle.pagespec.specs.declared.item.Item as code
use Rattle.pagespec.specs.Parsed.{Known, first_scale, first_offset}
use Rattle.pagespec.specs.Settled.{item_of_parsed, offset_of_parsed, split_by, AreLengths}
use Rattle.pagespec.specs.declared.item.Measure.{Measure as ParsedMeasure}
use Rattle.pagespec.specs.declared.parsed.ParsedItem.{ParsedItem}
use Rattle.pagespec.proofs.Faults.{Small}

first_scale_is : (ms : List Modifier) → unwrap_or (first_scale ms) (pos 1_000_000_000) ≡ scale ms
first_scale_is [] = refl
first_scale_is (Quarters n ∷ ms) = first_scale_is ms
first_scale_is (Scaled v ∷ ms) = refl
first_scale_is (Moved x y ∷ ms) = first_scale_is ms

abbrev or_nothing : Option (Measure × Measure) → Measure × Measure
or_nothing None = (zero_points, zero_points)
or_nothing (Some m) = m

first_offset_is : (ms : List Modifier) → or_nothing (first_offset ms) ≡ (offset_x ms, offset_y ms)
first_offset_is [] = refl
first_offset_is (Quarters n ∷ ms) = first_offset_is ms
first_offset_is (Scaled v ∷ ms) = first_offset_is ms
first_offset_is (Moved x y ∷ ms) = refl

offset_kept_is : (o : Option (ParsedMeasure × ParsedMeasure)) → offset_of_parsed o ≡ or_nothing (option_map (λ m. (measure_of m.0, measure_of m.1)) o)
offset_kept_is None = refl
offset_kept_is (Some m) = refl

same_turn : (q n : ℕ) → q ≡ n % 4 → q % 4 ≡ n % 4
same_turn q n e = omega arith

turn_is : (q n : ℕ) → q ≡ n % 4 → quarter_turn q ≡ quarter_turn n
turn_is q n e = rw (same_turn q n e) refl

abbrev item : ℕ → Bool → Turn → ℤ → Measure → Measure → Item
item page from_end turn scale x y = record { page = page; from_end = from_end; turn = turn; scale = scale; x = x; y = y }

pub same_item : (p p' : ℕ) (b b' : Bool) (t t' : Turn) (s s' : ℤ) (x x' y y' : Measure) → p ≡ p' → b ≡ b' → t ≡ t' → s ≡ s' → x ≡ x' → y ≡ y' → item p b t s x y ≡ item p' b' t' s' x' y'
same_item p p' b b' t t' s s' x x' y y' ep eb et es ex ey = rw ep (rw eb (rw et (rw es (rw ex (rw ey refl)))))

-- an item with small numbers has the same result, parsed or as written
pub small_settles : (k : ParsedItem) (i : WrittenItem) → Small k i → item_of_parsed k ≡ settled_item i
small_settles k i s =
    let known : Known i.modifiers k.modifiers = s.shows.modifiers.known s.large in
    let both : offset_of_parsed k.modifiers.offset ≡ (offset_x i.modifiers, offset_y i.modifiers) =
    offset_kept_is k.modifiers.offset ∙ (ap or_nothing known.offset ∙ first_offset_is i.modifiers) in
    let scale_is : unwrap_or k.modifiers.scale (pos 1_000_000_000) ≡ scale i.modifiers =
    ap (λ o. unwrap_or o (pos 1_000_000_000)) known.scale ∙ first_scale_is i.modifiers in
    same_item _ _ _ _ _ _ _ _ _ _ _ _ s.page s.shows.end (turn_is k.modifiers.quarters (quarters i.modifiers) s.shows.modifiers.turn) scale_is (ap (λ p. p.0) both) (ap (λ p. p.1) both)

pub settles : (ks : List ParsedItem) (is : List WrittenItem) → AllZip Small ks is → map item_of_parsed ks ≡ map settled_item is
settles [] [] h = refl
settles [] (i ∷ is) h = absurd h
settles (k ∷ ks) [] h = absurd h
settles (k ∷ ks) (i ∷ is) h = ap (λ x. x ∷ map item_of_parsed ks) (small_settles k i h.0) ∙ ap (λ xs. settled_item i ∷ xs) (settles ks is h.1)

take_front : {X : Type 0} (xs ys : List X) → take (length xs) (xs ++ ys) ≡ xs
take_front [] ys = refl
take_front (x ∷ xs) ys = ap (λ zs. x ∷ zs) (take_front xs ys)

drop_front : {X : Type 0} (xs ys : List X) → drop (length xs) (xs ++ ys) ≡ ys
drop_front [] ys = refl
drop_front (x ∷ xs) ys = drop_front xs ys

-- groups that were put in one row are recovered by their lengths
pub split_groups : {X : Type 0} (gs : List (List X)) → split_by (map length gs) (flat_map (λ g. g) gs) ≡ gs
split_groups [] = refl
split_groups (g ∷ gs) =
    ap (λ x. x ∷ split_by (map length gs) (drop (length g) (g ++ flat_map (λ h. h) gs))) (take_front g (flat_map (λ h. h) gs))
    ∙ ap (λ xs. g ∷ xs) (ap (split_by (map length gs)) (drop_front g (flat_map (λ h. h) gs)) ∙ split_groups gs)

pub lengths_fit : {X : Type 0} (gs : List (List X)) → AreLengths (map length gs) (flat_map (λ g. g) gs)
lengths_fit [] = tt
lengths_fit (g ∷ gs) =
    (omega (arith, length-append g (flat_map (λ h. h) gs)), subst (AreLengths (map length gs)) (sym (drop_front g (flat_map (λ h. h) gs))) (lengths_fit gs))

pub map_row : {X Y : Type 0} (f : X → Y) (gs : List (List X)) → map f (flat_map (λ g. g) gs) ≡ flat_map (λ g. g) (map (λ g. map f g) gs)
map_row f [] = refl
map_row f (g ∷ gs) = map-append f g (flat_map (λ h. h) gs) ∙ ap (λ xs. map f g ++ xs) (map_row f gs)

map_lengths : {X Y : Type 0} (f : X → Y) (gs : List (List X)) → map length gs ≡ map length (map (λ g. map f g) gs)
map_lengths f [] = refl
map_lengths f (g ∷ gs) = ap (λ n. n ∷ map length gs) (sym (length-map g f)) ∙ ap (λ ns. length (map f g) ∷ ns) (map_lengths f gs)

-- groups of parsed items, recovered by their lengths, have the results of the groups themselves
pub groups_settle : (ks : List ParsedItem) (gs : List (List WrittenItem)) (lengths : List ℕ) → AllZip Small ks (flat_map (λ g. g) gs) → lengths ≡ map length gs
    → split_by lengths (map item_of_parsed ks) ≡ map (λ g. map settled_item g) gs
groups_settle ks gs lengths zip e =
    ap (λ ns. split_by ns (map item_of_parsed ks)) (e ∙ map_lengths settled_item gs)
    ∙ (ap (split_by (map length (map (λ g. map settled_item g) gs))) (settles ks (flat_map (λ g. g) gs) zip ∙ map_row settled_item gs)
    ∙ split_groups (map (λ g. map settled_item g) gs))

lengths_same : {X Y : Type 0} (ns : List ℕ) (xs : List X) (ys : List Y) → length xs ≡ length ys → AreLengths ns ys → AreLengths ns xs
lengths_same [] xs ys e h = tt
lengths_same (n ∷ ns) xs ys e h = (omega (arith, e, h.0), lengths_same ns (drop n xs) (drop n ys) (omega (arith, e, length-drop n xs, length-drop n ys)) h.1)

-- the lengths of the groups fit the parsed items
pub parsed_fit : {X Y : Type 0} (R : X → Y → Type 0) (xs : List X) (gs : List (List Y)) (lengths : List ℕ) → AllZip R xs (flat_map (λ g. g) gs) → lengths ≡ map length gs → AreLengths lengths xs
parsed_fit R xs gs lengths zip e =
    subst (λ ns. AreLengths ns xs) (sym e) (lengths_same (map length gs) xs (flat_map (λ g. g) gs) (sym (AllZip-long R xs (flat_map (λ g. g) gs) zip)) (lengths_fit gs))

-- the loop over groups: these are its results so far, and the rest is split further
pub record SettlesOn (all left : List ℕ) (parsed rest : List ParsedItem) (groups : List (List Item)) : Type 0 where
  pub done : groups ++ split_by left (map item_of_parsed rest) ≡ split_by all (map item_of_parsed parsed)
  pub fits : AreLengths left rest

-- one more item of a group
pub settled_more : (group new : List code.Item) (parsed : List ParsedItem) (i : ℕ) (item : ParsedItem) (made : code.Item) → map item_of group ≡ map item_of_parsed (take i parsed) → new ≡ group ++ made ∷ []
    → item_of made ≡ item_of_parsed item → item ≡ get_or parsed i item → i < length parsed → map item_of new ≡ map item_of_parsed (take (i + 1) parsed)
settled_more group new parsed i item made so_far pushed same here lt =
    ap (map item_of) pushed ∙ map-append item_of group (made ∷ []) ∙ ap (λ xs. xs ++ item_of made ∷ []) so_far
    ∙ ap (λ x. map item_of_parsed (take i parsed) ++ x ∷ []) (same ∙ ap item_of_parsed here)
    ∙ sym (map_more item_of_parsed parsed i item lt)
