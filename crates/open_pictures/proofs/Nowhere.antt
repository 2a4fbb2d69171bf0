-- A place with no matrix and no clip changes nothing. So what is placeless prints nothing, and does the same whatever comes
-- after it in the text.
use Rattle.std.specs.Prelude.{Option, Some, None}
use Rattle.std.proofs.Common.{◌≡◌, refl, ap, ap₂, ◌∙◌, sym, subst, true, false, List, [], ◌∷◌, ◌++◌, map, append-nil}
use Rattle.pictures.specs.Objects.{Token}
use Rattle.pictures.specs.Machine.{State, Graphics, Snapshot, Segment, Clip, Painting, step}
use Rattle.pictures.specs.Placing.{Around, Place, state_at, segment_at, clip_at, graphics_at, snapshot_at, painting_at}
use Rattle.pictures.proofs.Commutes.{Follows, steps_there}
use Rattle.pictures.specs.Sheets.{with_more}
use Rattle.open_pictures.specs.Machine.{Further}
use Rattle.open_pictures.specs.Blindness.{IsPlaceless, SeesNothingAfter, PlacelessRunsPreambles}

abbrev no_place : Place
no_place = record { chain = []; clip = [] }

abbrev pub nowhere : List Token → List (List Painting) → Around
nowhere more sheets = record { place = no_place; left = more; saves = []; painted = []; sheets = sheets }

same_map : {A : Type 0} (f : A → A) (xs : List A) → ((x : A) → f x ≡ x) → map f xs ≡ xs
same_map f [] h = refl
same_map f (x ∷ xs) h = ap₂ (λ y ys. y ∷ ys) (h x) (same_map f xs h)

segment_same : (x : Segment) → segment_at no_place x ≡ x
segment_same x = ap (λ c. record x { chain = c }) (append-nil x.chain)

clip_same : (x : Clip) → clip_at no_place x ≡ x
clip_same x = ap (λ p. record x { path = p }) (same_map (segment_at no_place) x.path segment_same)

graphics_same : (g : Graphics) → graphics_at no_place g ≡ g
graphics_same g =
    ap₂ (λ c p. record g { chain = c; path = p; clip = map (clip_at no_place) g.clip ++ [] }) (append-nil g.chain) (same_map (segment_at no_place) g.path segment_same)
    ∙ ap (λ c. record g { clip = c }) (append-nil (map (clip_at no_place) g.clip) ∙ same_map (clip_at no_place) g.clip clip_same)

painting_same : (x : Painting) → painting_at no_place x ≡ x
painting_same x = ap (λ g. record x { graphics = g }) (graphics_same x.graphics)

snapshot_same : (x : Snapshot) → snapshot_at no_place x ≡ x
snapshot_same x = ap₂ (λ g gs. record x { graphics = g; stacked = gs }) (graphics_same x.graphics) (same_map (graphics_at no_place) x.stacked graphics_same)

abbrev here : List Token → List (List Painting) → State → State
here more sheets s = record s { left = s.left ++ more; sheets = sheets }

pub at_nowhere : (more : List Token) (sheets : List (List Painting)) (s : State) → state_at (nowhere more sheets) s ≡ here more sheets s
at_nowhere more sheets s =
    ap₂ (λ g gs. record (here more sheets s) {
      graphics = g;
      stacked = gs;
      saves = map (snapshot_at no_place) s.saves ++ [];
      painted = map (painting_at no_place) s.painted ++ [];
    }) (graphics_same s.graphics) (same_map (graphics_at no_place) s.stacked graphics_same)
    ∙ ap₂ (λ bs ps. record (here more sheets s) { saves = bs; painted = ps })
    (append-nil (map (snapshot_at no_place) s.saves) ∙ same_map (snapshot_at no_place) s.saves snapshot_same)
    (append-nil (map (painting_at no_place) s.painted) ∙ same_map (painting_at no_place) s.painted painting_same)

pub just_here : (s : State) → state_at (nowhere [] s.sheets) s ≡ s
just_here s = at_nowhere [] s.sheets s ∙ ap (λ l. record s { left = l }) (append-nil s.left)

abbrev sheets_or : List (List Painting) → Option State → List (List Painting)
sheets_or none None = none
sheets_or none (Some t) = t.sheets

-- what a held machine does, a free one does, and it prints nothing

pub free_step : (s t : State) → step true s ≡ Some t → step false s ≡ Some (state_at (nowhere [] s.sheets) t)
free_step s t e =
    let a : Around = nowhere [] s.sheets in
    subst (λ r. step false r ≡ Some (state_at a t)) (just_here s)
    (subst (λ r. Follows a r (step false (state_at a s))) e (steps_there a s))

pub further_prints_nothing : (x : Further) (s t : State) → IsPlaceless x → step false s ≡ None → x s ≡ Some t → t.sheets ≡ s.sheets
further_prints_nothing x s t p e k =
    let a : Around = nowhere [] s.sheets in
    let there : x s ≡ Some (state_at a t) = subst (λ r. x r ≡ Some (state_at a t)) (just_here s) (p a s t e k).1 in
    ap (sheets_or s.sheets) (sym k ∙ there)

placeless_sees_nothing : (x : Further) → IsPlaceless x → SeesNothingAfter x
placeless_sees_nothing x p more s t e k =
    let a : Around = nowhere more s.sheets in
    let z = p a s t e k in
    let same : t.sheets ≡ s.sheets = further_prints_nothing x s t p e k in
    let end : state_at a t ≡ with_more more t = at_nowhere more s.sheets t ∙ ap (λ ps. record (with_more more t) { sheets = ps }) (sym same) in (
      subst (λ r. step false r ≡ None) (at_nowhere more s.sheets s) z.0,
      subst (λ r. x r ≡ Some (state_at a t)) (at_nowhere more s.sheets s) z.1 ∙ ap (λ r. Some r) end,
    )

pub placeless_runs_preambles : PlacelessRunsPreambles
placeless_runs_preambles x p = record { extends = λ s t e k. k; sees_nothing_after = placeless_sees_nothing x p }
