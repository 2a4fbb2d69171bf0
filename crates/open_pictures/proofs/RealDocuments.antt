-- A document is shown if its preamble and pages run as the law asks.
use Rattle.std.specs.Prelude.{Option, Ok, length}
use Rattle.std.proofs.Common.{◌≡◌, ℕ, ◌<◌, ◌∙◌, subst, List, [], ◌∷◌, true, false}
use Rattle.rules.specs.Parts.{NestedUnit, pages, preamble, bytes_of}
use Rattle.rules.specs.Run.{document_of}
use Rattle.pictures.specs.Machine.{State, Painting, steps}
use Rattle.pictures.specs.Scanner.{tokens, EndsBetweenTokens}
use Rattle.pictures.specs.Sheets.{IsGround}
use Rattle.pictures.specs.Kept.{comments_apart_with, preamble_comments_apart}
use Rattle.pictures.proofs.Output.{on_sheets}
use Rattle.pictures.proofs.DocumentRun.{on_all_sheets}
use Rattle.pictures.specs.DocumentRun.{OnPages}
use Rattle.open_pictures.specs.Machine.{open_step}
use Rattle.open_pictures.specs.Blindness.{IsBlind}
use Rattle.open_pictures.specs.Documents.{begun_machine, plain_work, OpenPreambleRuns, OpenPagePrints}
use Rattle.open_pictures.specs.Values.{values, no_others}
use Rattle.open_pictures.proofs.Nowhere.{placeless_runs_preambles}
use Rattle.open_pictures.proofs.Imposed.{open_made_sheets_show_the_pages, open_sheets_show_the_pages}
use Rattle.open_pictures.proofs.Values.{no_others_ask, values_are_blind}
use Rattle.open_pictures.specs.RealDocuments.{IsDocumentShown}
use Rattle.open_pictures.proofs.Preambles.{reached, is_ready, ready}

pub blind : IsBlind values
blind = values_are_blind no_others no_others_ask

-- of lines it counts whether there are any
apart_with : (lines : List (List ℕ)) (us : List NestedUnit) → preamble_comments_apart us ≡ true → comments_apart_with ([] ∷ []) us ≡ true → comments_apart_with lines us ≡ true
apart_with [] us none some = none
apart_with (l ∷ lines) us none some = some

-- it is accepted, and its preamble, in so many steps, leaves what the law asks
pub shown : (text : List ℕ) (us : List NestedUnit) (r : Option State) (steps_of count : ℕ) (picture : ℕ → List Painting) → document_of text ≡ Ok us
    → preamble_comments_apart us ≡ true → comments_apart_with ([] ∷ []) us ≡ true → length (pages us) ≡ count → EndsBetweenTokens (bytes_of (preamble us))
    → steps (open_step values false) steps_of (begun_machine plain_work (tokens (bytes_of (preamble us)))) ≡ r → is_ready r ≡ true
    → ((p : ℕ) → p < count → OpenPagePrints values us (reached r) p (picture p)) → IsDocumentShown text count
shown text us r steps_of count picture document apart beside pages complete run e prints =
    let z = ready r e in
    let s : State = reached r in
    let runs : OpenPreambleRuns values plain_work IsGround (bytes_of (preamble us)) s =
    (complete, (steps_of, run ∙ z.run), z.left, z.painted, z.sheets, z.plain.ground) in
    let each : OnPages (λ p. OpenPagePrints values us s p (picture p)) us = λ p lt. prints p (subst (λ n. p < n) pages lt) in (
      us,
      s,
      picture,
      document,
      pages,
      runs,
      each,
      λ frame sides spec.
          open_sheets_show_the_pages values values plain_work frame sides spec text us picture s blind (placeless_runs_preambles values blind.placeless) document apart runs z.plain
          (on_all_sheets (λ p. OpenPagePrints values us s p (picture p)) frame sides spec us each),
      λ border dress all quiet h.
          open_made_sheets_show_the_pages values values plain_work border dress all text us picture s blind (placeless_runs_preambles values blind.placeless) quiet document (apart_with dress.header us apart beside) runs z.plain
          (on_sheets (λ k paper p. p < count) (λ k paper p. OpenPagePrints values us s p (picture p)) (λ k paper p lt. prints p lt) 0 all h),
    )
