-- The current point in user space is the same in every place.
use Rattle.std.specs.Prelude.{None, if◌then◌else◌, bytes_eq, flat_map}
use Rattle.std.proofs.Common.{◌≡◌, ℕ, refl, ap, ap₂, ◌∙◌, sym, Bool, true, false, List, [], ◌∷◌, ◌++◌, true≢false}
use Rattle.std.proofs.lemmas.Grind.{flat_map-append}
use Rattle.std.proofs.lemmas.List.{append_cancel_right}
use Rattle.std.proofs.lemmas.Slice.Eq.{bytes_eq-Decides}
use Rattle.pictures.specs.Objects.{Call}
use Rattle.open_pictures.specs.Points.{written_call, is_same_transformation, element_end, PointIsPlaceless}

same_tests : (a b : Bool) → (a ≡ true → b ≡ true) → (b ≡ true → a ≡ true) → a ≡ b
same_tests true b f g = sym (f refl)
same_tests false true f g = absurd (true≢false (sym (g refl)))
same_tests false false f g = refl

same_before : (a b p : List ℕ) → bytes_eq (a ++ p) (b ++ p) ≡ bytes_eq a b
same_before a b p =
    same_tests (bytes_eq (a ++ p) (b ++ p)) (bytes_eq a b)
    (λ e. (bytes_eq-Decides a b).1 (append_cancel_right a b p ((bytes_eq-Decides (a ++ p) (b ++ p)).0 e)))
    (λ e. (bytes_eq-Decides (a ++ p) (b ++ p)).1 (ap (λ l. l ++ p) ((bytes_eq-Decides a b).0 e)))

same_there : (a b p : List Call) → is_same_transformation (a ++ p) (b ++ p) ≡ is_same_transformation a b
same_there a b p =
    ap₂ bytes_eq (flat_map-append written_call a p) (flat_map-append written_call b p)
    ∙ same_before (flat_map written_call a) (flat_map written_call b) (flat_map written_call p)

pub point_is_placeless : PointIsPlaceless
point_is_placeless p chain [] = refl
point_is_placeless p chain (x ∷ xs) =
    ap₂ (λ same start. if same then element_end x.call x.settings start else None) (same_there x.chain chain p.chain)
    (point_is_placeless p chain xs)
