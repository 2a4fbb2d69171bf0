-- What comes of a request.
use Rattle.std.proofs.Common.{◌≡◌, ◌∙◌, ap, arith, ℕ, ◌+◌, ◌≤◌, List, [], length, take, Bool, Option, Some, None, Result, Ok, Err, inl, inr, refl, subst, sym}
use Rattle.std.specs.Prelude.{⊤, ◌⊎◌, option_map, string_bytes}
use Rattle.std.specs.Io.KnownBytes.{Appends}
use Rattle.world.specs.Outputs.{OutputView, fresh_output, reported_if}
use Rattle.impose_cli.specs.Endings.{AfterWrite, Edge, IsSaidOf, IsUncreatedFault, RunsRequest, has_output, shown}
use Rattle.imposer.specs.declared.outcome.RunError.TheVariants as run
use Rattle.world.specs.Worlds.{WorldView}
use Rattle.impose_cli.specs.Looks.{IsRowText}
use Rattle.impose_cli.specs.Fronts.{FindsForeign, Inputs, RegularFiles, SameFiles}
use Rattle.impose_cli.specs.Programs.{BreaksAt, EndsRequest, FailsToWrite, HasGiven, IsCreatedFor, IsReadOf, FailsToRead, MakesProduct, MayReadInput, Prints, RefusesUnopened, ShowsSheets, Writes}
use Rattle.impose_cli.specs.Printed.{IsSpecText}
use Rattle.world.specs.declared.rest.Rest.{Rest}
use Rattle.world.specs.declared.rest.Rest.TheVariants.{Output, World}
use Rattle.impose_messages.specs.declared.fault.ImposeFault.{ImposeFault}
use Rattle.impose_messages.specs.declared.fault.ImposeFault.TheVariants as fault
use Rattle.impose_messages.specs.declared.finished.Done.{Done}
use Rattle.impose_messages.specs.declared.finished.Done.TheVariants as done
use Rattle.impose_cli.specs.declared.look.Overview.{Overview}
use Rattle.impose_words.specs.declared.request.Product.{Product}
use Rattle.impose_words.specs.declared.request.Product.TheVariants as product
use Rattle.impose_words.specs.declared.request.ImposeRequest.{ImposeRequest}

-- nothing was created: the request is refused unread, or the input can't be read
pub stopped_before : {V O : Type 0} (seen : V → WorldView) (r : ImposeRequest) (gives : Inputs) (same : SameFiles) (terminal : Option Bool) (foreign : Bool) (reports_outputs : Edge V O) (f : ImposeFault) (outcome : Result Done ImposeFault)
    (world left : V) (rest : Rest V O) (written : Option (List ℕ)) → outcome ≡ Err f → rest ≡ World left
    → (RefusesUnopened same terminal foreign r f × (left ≡ world)) ⊎ (MayReadInput same terminal foreign r × FailsToRead (option_map string_bytes r.infile) (seen world) (seen left) f)
    → EndsRequest seen r gives same terminal foreign reports_outputs outcome world rest written
stopped_before seen r gives same terminal foreign reports_outputs f outcome world left rest written told none why = inl (f, left, told, none, why)

-- the input was read, and what is asked for was made of it
pub took : {V O : Type 0} (seen : V → WorldView) (r : ImposeRequest) (gives : Inputs) (files : SameFiles) (terminal : Option Bool) (foreign : Bool) (reports_outputs told : Edge V O) (input : List ℕ) (name : Option (List ℕ))
    (outcome : Result Done ImposeFault) (world read : V) (rest : Rest V O) (written : Option (List ℕ))
    → name ≡ option_map string_bytes r.infile → IsReadOf (gives name) input → HasGiven name (seen world) (seen read)
    → MayReadInput files terminal foreign r → told ≡ reports_outputs → MakesProduct r.product r input told outcome read rest written
    → EndsRequest seen r gives files terminal foreign reports_outputs outcome world rest written
took seen r gives files terminal foreign reports_outputs told input name outcome world read rest written named first given possible same taken =
    inr (
      input,
      read,
      subst (λ n. IsReadOf (gives n) input) named first,
      subst (λ n. HasGiven n (seen world) (seen read)) named given,
      possible,
      subst (λ t. MakesProduct r.product r input t outcome read rest written) same taken,
    )

-- the request was carried out in the world that was asked for the paper at home and for OUTFILE, which is as it was else
pub at_home : {V O : Type 0} (seen : V → WorldView) (r : ImposeRequest) (gives given : Inputs) (files known : SameFiles) (terminal found : Option Bool) (foreign : Bool) (reports_outputs told : Edge V O) (outcome : Result Done ImposeFault)
    (world : V) (rest : Rest V O) (written : Option (List ℕ)) → given ≡ gives → known ≡ files → found ≡ terminal → told ≡ reports_outputs
    → EndsRequest seen r given known found foreign told outcome world rest written → EndsRequest seen r gives files terminal foreign reports_outputs outcome world rest written
at_home seen r gives given files known terminal found foreign reports_outputs told outcome world rest written same_gives same_files same_terminal same_tells h =
    subst (λ t. EndsRequest seen r gives files terminal foreign t outcome world rest written) same_tells
    (subst (λ o. EndsRequest seen r gives files o foreign told outcome world rest written) same_terminal
    (subst (λ k. EndsRequest seen r gives k found foreign told outcome world rest written) same_files
    (subst (λ g. EndsRequest seen r g known found foreign told outcome world rest written) same_gives h)))

-- OUTFILE was looked at in a world that gives the same
pub found_at_home : (r : ImposeRequest) (gives given : Inputs) (regular : RegularFiles) (same known : SameFiles) (old new : WorldView) (foreign : Bool) → given ≡ gives → known ≡ same
    → FindsForeign r given regular known old new foreign → FindsForeign r gives regular same old new foreign
found_at_home r gives given regular same known old new foreign same_gives same_files h =
    subst (λ k. FindsForeign r gives regular k old new foreign) same_files (subst (λ g. FindsForeign r g regular known old new foreign) same_gives h)

-- a text was written
pub wrote_text : {V O : Type 0} (name : Option (List ℕ)) (text : List ℕ) (what : Done) (e : Edge V O) (world : V) (output : O) (rest : Rest V O) (start : OutputView)
    → start ≡ fresh_output (reported_if e.reports_outputs name []) → Appends start.bytes (e.shows output).bytes text → (e.shows output).failures ≡ start.failures
    → rest ≡ Output output → Writes name text what e (Ok what) world rest (shown e.shows rest)
wrote_text name text what e world output rest start began wrote steady is =
    subst (λ x. Writes name text what e (Ok what) world x (shown e.shows x)) (sym is)
    (refl, subst (λ (s : OutputView). Appends s.bytes (e.shows output).bytes text) began wrote, (output, refl, steady ∙ ap (λ (s : OutputView). s.failures) began))

-- a first part of it was
pub wrote_part : {V O : Type 0} (name : Option (List ℕ)) (text : List ℕ) (what : Done) (e : Edge V O) (world : V) (output : O) (rest : Rest V O) (start : OutputView) (n : ℕ) (f : ImposeFault) (outcome : Result Done ImposeFault)
    → start ≡ fresh_output (reported_if e.reports_outputs name []) → n ≤ length text → Appends start.bytes (e.shows output).bytes (take n text) → (e.shows output).failures ≡ start.failures + 1
    → rest ≡ Output output → f ≡ fault.Write n (e.shows output).cause → outcome ≡ Err f → Writes name text what e outcome world rest (shown e.shows rest)
wrote_part name text what e world output rest start n f outcome began within wrote failed is named told =
    let appended = subst (λ (s : OutputView). Appends s.bytes (e.shows output).bytes (take n text)) began wrote in
    let fails : (e.shows output).failures ≡ start.failures + 1 = failed in
    subst (λ o. Writes name text what e o world rest (shown e.shows rest)) (sym (told ∙ ap Err named))
    (subst (λ x. Writes name text what e (Err (fault.Write n (e.shows output).cause)) world x (shown e.shows x)) (sym is) (inr (within, appended, (output, refl, omega (arith, fails), refl))))

-- no output could be created
pub uncreated : {V O : Type 0} (name : Option (List ℕ)) (text : List ℕ) (what : Done) (reports_outputs : Edge V O) (f : ImposeFault) (outcome : Result Done ImposeFault)
    (world : V) (rest : Rest V O) (written : Option (List ℕ)) → outcome ≡ Err f → IsUncreatedFault reports_outputs name (reports_outputs.seen world) f rest
    → Writes name text what reports_outputs outcome world rest written
uncreated name text what reports_outputs f outcome world rest written told none =
    subst (λ o. Writes name text what reports_outputs o world rest written) (sym told) (inl none)

-- the specification was printed to standard output
pub printed : {V O : Type 0} (r : ImposeRequest) (input : List ℕ) (reports_outputs : Edge V O) (text : List ℕ) (outcome : Result Done ImposeFault)
    (world : V) (rest : Rest V O) (written : Option (List ℕ)) → IsSpecText r input text
    → Writes None text done.Printed reports_outputs outcome world rest written → Prints r input reports_outputs outcome world rest written
printed r input reports_outputs text outcome world rest written told h = inr (text, told, h)

-- the plan or the picture was written to the output of that name
pub shown_whole : {V O : Type 0} (l : Overview) (name : Option (List ℕ)) (r : ImposeRequest) (input : List ℕ) (reports_outputs : Edge V O) (text : List ℕ)
    (outcome : Result Done ImposeFault) (world : V) (rest : Rest V O) (written : Option (List ℕ)) → IsRowText r input l text
    → Writes name text done.Shown reports_outputs outcome world rest written → ShowsSheets l name r input reports_outputs outcome world rest written
shown_whole l name r input reports_outputs text outcome world rest written told h = inr (text, told, h)

-- ---- an output that exists

uncreated_after : {V O : Type 0} (e : Edge V O) (name : Option (List ℕ)) (before : WorldView) (f : ImposeFault) (rest : Rest V O) → IsUncreatedFault e name before f rest → AfterWrite f (λ n. ⊤) (λ n. ⊤)
uncreated_after e name before (fault.Write n (Some cause)) rest h = tt
uncreated_after e name before other rest h = absurd h

breaks_after : {V O : Type 0} (old new : Option (List ℕ)) (text : List ℕ) (e : Edge V O) (f : ImposeFault) (rest : Rest V O) → BreaksAt old new text e f rest → AfterWrite f (λ n. ⊤) (λ n. ⊤)
breaks_after old new text e (fault.Write n cause) rest h = tt
breaks_after old new text e other rest h = absurd h

said_after : (view : OutputView) (n : ℕ) (f : ImposeFault) → IsSaidOf view n f → AfterWrite f (λ n. ⊤) (λ n. ⊤)
said_after view n (fault.Write m cause) h = tt
said_after view n (fault.Run (run.NoMemory m)) h = tt
said_after view n other h = absurd h

text_created : {V O : Type 0} (name : Option (List ℕ)) (text : List ℕ) (reports_outputs : Edge V O) (f : ImposeFault) (world : V) (rest : Rest V O) (written : Option (List ℕ)) → FailsToWrite name text reports_outputs f world rest written → IsCreatedFor (Err f) rest
text_created name text reports_outputs f world rest written h = elim h [
  | inl absent ↦ inr (uncreated_after reports_outputs name (reports_outputs.seen world) f rest absent)
  | inr broke ↦ inr (breaks_after (reported_if reports_outputs.reports_outputs name []) written text reports_outputs f rest broke)
]

run_created : {V O : Type 0} (r : ImposeRequest) (input : List ℕ) (reports_outputs : Edge V O) (f : ImposeFault) (world : V) (rest : Rest V O) (written : Option (List ℕ)) → RunsRequest r input reports_outputs (Err f) world rest written → IsCreatedFor (Err f) rest
run_created r input reports_outputs f world rest written h = elim h [
  | inl stopped ↦ inl (ap has_output stopped.1)
  | inr some ↦ elim some.3 [
    | inl absent ↦ elim absent [
      | inl spent ↦ inr (subst (λ e. AfterWrite e (λ n. ⊤) (λ n. ⊤)) (sym spent.0) tt)
      | inr refused ↦ inr (uncreated_after reports_outputs (option_map string_bytes r.outfile) (reports_outputs.seen world) f rest refused)
    ]
    | inr broke ↦ inr (said_after (reports_outputs.shows broke.0) broke.2 f broke.3)
  ]
]

made_created : {V O : Type 0} (p : Product) (r : ImposeRequest) (input : List ℕ) (reports_outputs : Edge V O) (f : ImposeFault) (world : V) (rest : Rest V O) (written : Option (List ℕ)) → MakesProduct p r input reports_outputs (Err f) world rest written → IsCreatedFor (Err f) rest
made_created product.Sheets r input reports_outputs f world rest written h = run_created r input reports_outputs f world rest written h
made_created product.Specification r input reports_outputs f world rest written h = elim h [
  | inl stopped ↦ inl (ap has_output stopped.3)
  | inr some ↦ text_created None some.0 reports_outputs f world rest written some.2
]
made_created product.Plan r input reports_outputs f world rest written h = elim h [
  | inl stopped ↦ inl (ap has_output stopped.3)
  | inr some ↦ text_created None some.0 reports_outputs f world rest written some.2
]
made_created (product.Picture file) r input reports_outputs f world rest written h = elim h [
  | inl stopped ↦ inl (ap has_output stopped.3)
  | inr some ↦ text_created (option_map string_bytes file) some.0 reports_outputs f world rest written some.2
]

pub created_for : {V O : Type 0} (seen : V → WorldView) (r : ImposeRequest) (gives : Inputs) (same : SameFiles) (terminal : Option Bool) (foreign : Bool) (reports_outputs : Edge V O) (outcome : Result Done ImposeFault) (world : V) (rest : Rest V O) (written : Option (List ℕ)) → EndsRequest seen r gives same terminal foreign reports_outputs outcome world rest written → IsCreatedFor outcome rest
created_for seen r gives same terminal foreign reports_outputs (Ok what) world rest written h = tt
created_for seen r gives same terminal foreign reports_outputs (Err f) world rest written h = elim h [
  | inl stopped ↦ inl (ap has_output stopped.3)
  | inr made ↦ made_created r.product r made.0 reports_outputs f made.1 rest written made.5
]
