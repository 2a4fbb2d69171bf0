-- The places of sheets that came together say where each of them is.
use Rattle.std.proofs.Common.{ℕ, zero, suc, ◌+◌, ◌%◌, ◌<◌, ◌≤◌, ◌≡◌, ◌∙◌, sym, ap, subst, refl, true, false, below_more, ne_eqb, arith}
use Rattle.std.proofs.Common.{slice_set, slice_index_or, List, [], ◌∷◌, Option, Some, None, length}
use Rattle.std.specs.Prelude.{◌≢◌, All, slice_get}
use Rattle.std.proofs.lemmas.Option.{same_Some, slice_get_within, get_or_from_slice_get, slice_get-get_or}
use Rattle.sheet_text.specs.Texts.{TextsView, sheets_of}
use Rattle.sheet_writer.specs.declared.reorder_buffer.Place.{Place}
use Rattle.sheet_writer.specs.declared.reorder_buffer.ReorderBuffer.{ReorderBuffer}
use Rattle.sheet_writer.specs.Places.{last_entry, buffer_place, HavePlacesOfTheirOwn, is_of_sheet, is_nth, is_there, has_come}
use Rattle.sheet_writer.proofs.Places.{length_filled, get_filled, number_is, number_is_not}

-- the places of the first n of these sheets say that each is in this group
abbrev pub AreMarked : ReorderBuffer → List ℕ → (group n : ℕ) → List Place → Type 0
AreMarked early sheets group n places = HavePlacesOfTheirOwn early sheets → (k : ℕ) → k < n → (one : ℕ) → slice_get sheets k ≡ Some one
    → slice_get places (buffer_place early one) ≡ Some (record { group = group; nth = k })

-- one more sheet
pub marked_more : (early : ReorderBuffer) (sheets : List ℕ) (group n sheet place : ℕ) (old new : List Place)
    → slice_get sheets n ≡ Some sheet → place ≡ buffer_place early sheet
    → (place < length early.places.items → slice_get new place ≡ Some (record { group = group; nth = n }))
    → ((k : ℕ) → k ≢ place → slice_get new k ≡ slice_get old k)
    → AreMarked early sheets group n old → AreMarked early sheets group (n + 1) new
marked_more early sheets group n sheet place old new at is here others before own =
    let within : n < length sheets = slice_get_within sheets n sheet at in
    let read : slice_index_or sheets n 0 ≡ sheet = get_or_from_slice_get sheets n sheet 0 at in
    let its : buffer_place early (slice_index_or sheets n 0) ≡ place = ap (λ s. buffer_place early s) read ∙ sym is in
    below_more (λ k. (one : ℕ) → slice_get sheets k ≡ Some one → slice_get new (buffer_place early one) ≡ Some (record { group = group; nth = k })) n
    (λ k less one found.
    others (buffer_place early one)
    (λ same. own.1 k n 0 less within (ap (λ s. buffer_place early s) (get_or_from_slice_get sheets k one 0 found) ∙ same ∙ sym its))
    ∙ before own k less one found)
    (λ one found.
    subst (λ p. slice_get new p ≡ Some (record { group = group; nth = n })) (is ∙ ap (λ s. buffer_place early s) (same_Some sheet one (sym at ∙ found)))
    (here (subst (λ p. p < length early.places.items) its (own.0 n 0 within))))

-- this place belongs to none of these sheets, so it isn't that of this one
pub not_its_place : (early : ReorderBuffer) (sheets : List ℕ) (n sheet place k : ℕ) → slice_get sheets n ≡ Some sheet → place ≡ buffer_place early sheet
    → All (λ one. k ≢ buffer_place early one) sheets → k ≢ place
not_its_place early sheets n sheet place k at is none same =
    none n 0 (slice_get_within sheets n sheet at)
    (same ∙ is ∙ ap (λ s. buffer_place early s) (sym (get_or_from_slice_get sheets n sheet 0 at)))

-- whether a sheet came, once this group is put at its place
come_by : (groups before : List (Option TextsView)) (group sheet : ℕ) (x : Option TextsView) (places : List Place) → groups ≡ before
    → is_there sheet (slice_set groups group x) (slice_get places (sheet % length (slice_set groups group x)))
    ≡ is_there sheet (slice_set before group x) (slice_get places (sheet % length before))
come_by groups before group sheet x places same =
    ap (λ gs. is_there sheet (slice_set gs group x) (slice_get places (sheet % length (slice_set gs group x)))) same
    ∙ ap (λ n. is_there sheet (slice_set before group x) (slice_get places (sheet % n))) (length_filled before group x)

-- each sheet of a group has come once their places are marked and the group is put
pub have_come : (early : ReorderBuffer) (finished : TextsView) (group : ℕ) (groups : List (Option TextsView)) (places : List Place)
    → groups ≡ early.groups.items → group < length early.groups.items
    → ((nth sheet : ℕ) → slice_get (sheets_of finished) nth ≡ Some sheet → slice_get places (buffer_place early sheet) ≡ Some (record { group = group; nth = nth }))
    → All (λ sheet. is_there sheet (slice_set groups group (Some finished)) (slice_get places (sheet % length (slice_set groups group (Some finished)))) ≡ true)
    (sheets_of finished)
have_come early finished group groups places same lt marked k d within =
    let sheet : ℕ = slice_index_or (sheets_of finished) k d in
    let at : slice_get (sheets_of finished) k ≡ Some sheet = slice_get-get_or (sheets_of finished) k d within in
    let now : List (Option TextsView) = slice_set early.groups.items group (Some finished) in
    come_by groups early.groups.items group sheet (Some finished) places same
    ∙ ap (λ p. is_there sheet now p) (marked k sheet at)
    ∙ ap (λ x. is_nth sheet k x) (get_filled early.groups.items group (Some finished) lt)
    ∙ number_is sheet (slice_get (sheets_of finished) k) at

-- a sheet outside the group stays there when the group is put at a free place
there_as_before : (finished : TextsView) (sheet nth : ℕ) → is_of_sheet sheet (slice_get (sheets_of finished) nth) ≡ false
    → (groups : List (Option TextsView)) (group k : ℕ) → slice_get groups group ≡ Some None
    → is_nth sheet nth (slice_get (slice_set groups group (Some finished)) k) ≡ is_nth sheet nth (slice_get groups k)
there_as_before finished sheet nth other [] group k free = refl
there_as_before finished sheet nth other (g ∷ groups) zero zero free = other ∙ ap (λ x. is_nth sheet nth x) (sym free)
there_as_before finished sheet nth other (g ∷ groups) zero (suc k) free = refl
there_as_before finished sheet nth other (g ∷ groups) (suc group) zero free = refl
there_as_before finished sheet nth other (g ∷ groups) (suc group) (suc k) free = there_as_before finished sheet nth other groups group k free

-- whether another sheet has come doesn't change
pub come_as_before : (early : ReorderBuffer) (finished : TextsView) (group : ℕ) (groups : List (Option TextsView)) (places : List Place) (sheet : ℕ)
    → groups ≡ early.groups.items → slice_get early.groups.items group ≡ Some None
    → slice_get places (buffer_place early sheet) ≡ slice_get early.places.items (buffer_place early sheet)
    → All (λ one. buffer_place early sheet ≢ buffer_place early one) (sheets_of finished)
    → is_there sheet (slice_set groups group (Some finished)) (slice_get places (sheet % length (slice_set groups group (Some finished)))) ≡ has_come early sheet
come_as_before early finished group groups places sheet same free kept elsewhere =
    come_by groups early.groups.items group sheet (Some finished) places same
    ∙ ap (λ p. is_there sheet (slice_set early.groups.items group (Some finished)) p) kept
    ∙ there (slice_get early.places.items (buffer_place early sheet))
  where
    not_among : (at : Option ℕ) (nth : ℕ) → slice_get (sheets_of finished) nth ≡ at → is_of_sheet sheet at ≡ false
    not_among None nth is = refl
    not_among (Some number) nth is = ne_eqb number sheet
        (λ one. elsewhere nth 0 (slice_get_within (sheets_of finished) nth number is)
        (ap (λ s. buffer_place early s) (sym (get_or_from_slice_get (sheets_of finished) nth number 0 is ∙ one))))

    there : (p : Option Place) → is_there sheet (slice_set early.groups.items group (Some finished)) p ≡ is_there sheet early.groups.items p
    there None = refl
    there (Some p) =
        there_as_before finished sheet p.nth (not_among (slice_get (sheets_of finished) p.nth) p.nth refl) early.groups.items group p.group free

-- the last of some sheets is at least each of them
at_most_last : (sheets : List ℕ) (nth sheet : ℕ) → slice_get sheets nth ≡ Some sheet → sheet ≤ last_entry sheets
at_most_last [] nth sheet at = absurd (cc (at))
at_most_last (one ∷ sheets) zero sheet at = let is : one ≡ sheet = same_Some one sheet at in omega (arith, is)
at_most_last (one ∷ sheets) (suc nth) sheet at = let rest = at_most_last sheets nth sheet at in omega (arith, rest)

-- a sheet outside the group stays there when the group is taken
there_when_taken : (finished : TextsView) (sheet nth : ℕ) → is_of_sheet sheet (slice_get (sheets_of finished) nth) ≡ false
    → (groups : List (Option TextsView)) (group k : ℕ) → slice_get groups group ≡ Some (Some finished)
    → is_nth sheet nth (slice_get (slice_set groups group None) k) ≡ is_nth sheet nth (slice_get groups k)
there_when_taken finished sheet nth other [] group k there = refl
there_when_taken finished sheet nth other (g ∷ groups) zero zero there = sym (ap (λ x. is_nth sheet nth x) there ∙ other)
there_when_taken finished sheet nth other (g ∷ groups) zero (suc k) there = refl
there_when_taken finished sheet nth other (g ∷ groups) (suc group) zero there = refl
there_when_taken finished sheet nth other (g ∷ groups) (suc group) (suc k) there = there_when_taken finished sheet nth other groups group k there

-- whether a later sheet than those of the group has come doesn't change
pub later_as_before : (early : ReorderBuffer) (finished : TextsView) (group : ℕ) (left : Option TextsView) (sheet later : ℕ)
    → slice_get early.groups.items group ≡ Some (Some finished) → left ≡ None → last_entry (sheets_of finished) ≡ sheet → sheet < later
    → is_there later (slice_set early.groups.items group left) (slice_get early.places.items (later % length (slice_set early.groups.items group left))) ≡ has_come early later
later_as_before early finished group left sheet later there none last less =
    come_by early.groups.items early.groups.items group later left early.places.items refl
    ∙ ap (λ x. is_there later (slice_set early.groups.items group x) (slice_get early.places.items (buffer_place early later))) none
    ∙ stays (slice_get early.places.items (buffer_place early later))
  where
    stays : (p : Option Place) → is_there later (slice_set early.groups.items group None) p ≡ is_there later early.groups.items p
    stays None = refl
    stays (Some p) =
        there_when_taken finished later p.nth
        (number_is_not later (slice_get (sheets_of finished) p.nth)
        (λ found. let most = at_most_last (sheets_of finished) p.nth later found in omega (arith, most, last, less)))
        early.groups.items group p.group there
