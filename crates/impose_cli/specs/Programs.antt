-- The whole program: what its words ask for, what it reads, what it creates and writes, and how it ends.
use Rattle.std.specs.Prelude.{⊤, ◌≡◌, ◌⊎◌, ◌+◌, ◌≤◌, ℕ, Bool, List, [], length, take, true, false, Option, Some, None, Result, Ok, Err, IfSome}
use Rattle.std.specs.Prelude.{codes, option_map, string_bytes}
use Rattle.std.specs.Io.KnownBytes.{Appends}
use Rattle.std.specs.IoError.{error_kind}
use Rattle.std.specs.declared.io.ErrorKind.TheVariants.{OutOfMemory}
use Rattle.clap.specs.Words.{Text}
use Rattle.world.specs.Outputs.{reported_if}
use Rattle.world.specs.Input.{document_in, most_bytes}
use Rattle.world.specs.Rests.{has_output, shown}
use Rattle.world.specs.Worlds.{HasGranted, WasAsked, WorldView, opening}
use Rattle.rules.specs.Papers.{Paper}
use Rattle.paper_names.specs.Home.{default_paper}
use Rattle.impose_cli.specs.Endings.{AfterWrite, Edge, HasFailed, IsUncreatedFault, IsUnfailed, RefusesRowRun, RunsRequest}
use Rattle.impose_messages.specs.Faults.{without_memory}
use Rattle.impose_cli.specs.Fronts.{FindsForeign, Inputs, LooksAt, RegularFiles, SameFiles}
use Rattle.impose_cli.specs.Looks.{IsRowText}
use Rattle.impose_cli.specs.Printed.{IsSpecText, RefusesPrinting}
use Rattle.impose_messages.specs.Statuses.{fault_status}
use Rattle.impose_cli.specs.Precheck.{MayBeRead, RefusesRequest}
use Rattle.impose_words.specs.Faults.{RefusesCommand}
use Rattle.impose_messages.specs.declared.fault.ImposeFault.{ImposeFault}
use Rattle.impose_messages.specs.declared.fault.ImposeFault.TheVariants as fault
use Rattle.impose_messages.specs.declared.finished.Done.{Done}
use Rattle.impose_messages.specs.declared.finished.Done.TheVariants as done
use Rattle.world.specs.declared.rest.Rest.{Rest}
use Rattle.world.specs.declared.rest.Rest.TheVariants.{World}
use Rattle.impose_cli.specs.declared.look.Overview.{Overview}
use Rattle.impose_cli.specs.declared.look.Overview.TheVariants as look
use Rattle.impose_words.specs.declared.request.Product.{Product}
use Rattle.impose_words.specs.declared.request.Product.TheVariants as product
use Rattle.impose_words.specs.declared.request.ImposeRequest.{ImposeRequest}

-- the exit status: 0 if something was done
abbrev pub status_of : Result Done ImposeFault → ℕ
status_of (Ok what) = 0
status_of (Err f) = fault_status f

-- ---- the document

-- the document was read that is in the first bytes, as many as are read at most
abbrev pub IsReadOf : (given : Option (List ℕ)) → (document : List ℕ) → Type 0
IsReadOf given document = IfSome given (λ all. document ≡ document_in (take most_bytes all))

-- ---- the paper at home

-- the file that names it
abbrev pub home_file : List ℕ
home_file = codes "/etc/papersize"

-- as many of its bytes are read
abbrev pub most_home_bytes : ℕ
most_home_bytes = 4_096

-- the paper at home is by the value of PAPERSIZE and by what was read of that file
abbrev pub FindsHome : (variable : List ℕ) → Inputs → RegularFiles → (old new : WorldView) → Paper → Type 0
FindsHome variable gives regular old new home =
    (file : List ℕ) × LooksAt home_file most_home_bytes gives regular old new file × (home ≡ default_paper variable file)

-- ---- faults

-- A world after an input that couldn't be opened or read: it failed once more, but not for want of memory, and the fault has its cause.
-- For want of memory it failed for that, or memory ran out outside it.
abbrev pub IsUnread : (old new : WorldView) → ImposeFault → Type 0
IsUnread old new (fault.Read cause) =
    (new.failures ≡ old.failures + 1) × (new.cause ≡ option_map error_kind cause) × ¬ (new.cause ≡ Some OutOfMemory)
IsUnread old new (fault.Run e) =
    (fault.Run e ≡ without_memory)
    × ((new.failures ≡ old.failures) ⊎ ((new.failures ≡ old.failures + 1) × (new.cause ≡ Some OutOfMemory)))
IsUnread old new other = ⊥

-- the input of this name was asked for, and nothing else, and it couldn't be opened or read
abbrev pub FailsToRead : (name : Option (List ℕ)) → (old new : WorldView) → ImposeFault → Type 0
FailsToRead name old new f = WasAsked (opening name) old new × IsUnread old new f

-- the input of this name was asked for, and nothing else, and it was read without a failure
abbrev pub HasGiven : (name : Option (List ℕ)) → (old new : WorldView) → Type 0
HasGiven name old new = HasGranted (opening name) old new

-- ---- texts

-- a write or the flush failed, and the fault says after how many bytes of the text, and why: these were written
abbrev pub BreaksAt : {W O : Type 0} → (old new : Option (List ℕ)) → (text : List ℕ) → (edge : Edge W O) → ImposeFault → (rest : Rest W O) → Type 0
BreaksAt old new text edge (fault.Write n cause) rest = (n ≤ length text) × Appends old new (take n text) × HasFailed edge cause rest
BreaksAt old new text edge other rest = ⊥

-- a text wasn't written whole to the output of this name
abbrev pub FailsToWrite : {W O : Type 0} → (name : Option (List ℕ)) → (text : List ℕ) → (edge : Edge W O) → ImposeFault
    → (world : W) → (rest : Rest W O) → (written : Option (List ℕ)) → Type 0
FailsToWrite name text edge f world rest written =
    IsUncreatedFault edge name (edge.seen world) f rest ⊎ BreaksAt (reported_if edge.reports_outputs name []) written text edge f rest

-- What comes of a text that is written to the output of this name: the output shows its name and exactly the text, and hasn't
-- failed; or a write failed.
abbrev pub Writes : {W O : Type 0} → (name : Option (List ℕ)) → (text : List ℕ) → Done → (edge : Edge W O) → Result Done ImposeFault
    → (world : W) → (rest : Rest W O) → (written : Option (List ℕ)) → Type 0
Writes name text what edge (Ok said) world rest written =
    (said ≡ what) × Appends (reported_if edge.reports_outputs name []) written text × IsUnfailed edge rest
Writes name text what edge (Err f) world rest written = FailsToWrite name text edge f world rest written

-- What comes of a request to report something: it is refused, and the world is back; or there is such a text, and this comes of it.
abbrev pub Reports : {W O : Type 0} → (Refuses : ImposeFault → Type 0) → (IsText : List ℕ → Type 0) → (name : Option (List ℕ)) → Done → (edge : Edge W O)
    → Result Done ImposeFault → (world : W) → (rest : Rest W O) → (written : Option (List ℕ)) → Type 0
Reports Refuses IsText name what edge outcome world rest written =
    ((f : ImposeFault) × (outcome ≡ Err f) × Refuses f × (rest ≡ World world))
    ⊎ ((text : List ℕ) × IsText text × Writes name text what edge outcome world rest written)

-- the specification for this input is printed to standard output
abbrev pub Prints : {W O : Type 0} → ImposeRequest → (input : List ℕ) → (edge : Edge W O) → Result Done ImposeFault
    → (world : W) → (rest : Rest W O) → (written : Option (List ℕ)) → Type 0
Prints r input edge outcome world rest written =
    Reports (RefusesPrinting r input) (IsSpecText r input) None done.Printed edge outcome world rest written

-- the sheets that would be imposed are shown in the output of this name; or they are refused as their run would be
abbrev pub ShowsSheets : {W O : Type 0} → Overview → (name : Option (List ℕ)) → ImposeRequest → (input : List ℕ) → (edge : Edge W O) → Result Done ImposeFault
    → (world : W) → (rest : Rest W O) → (written : Option (List ℕ)) → Type 0
ShowsSheets l name r input edge outcome world rest written =
    Reports (RefusesRowRun r input) (IsRowText r input l) name done.Shown edge outcome world rest written

-- ---- all of it

-- this is made of what the input gives: the sheets in OUTFILE, a specification or a plan on standard output, or a picture in
-- its own file
abbrev pub MakesProduct : {W O : Type 0} → Product → ImposeRequest → (input : List ℕ) → (edge : Edge W O) → Result Done ImposeFault
    → (world : W) → (rest : Rest W O) → (written : Option (List ℕ)) → Type 0
MakesProduct product.Sheets r input edge outcome world rest written = RunsRequest r input edge outcome world rest written
MakesProduct product.Specification r input edge outcome world rest written = Prints r input edge outcome world rest written
MakesProduct product.Plan r input edge outcome world rest written =
    ShowsSheets look.Plan None r input edge outcome world rest written
MakesProduct (product.Picture file) r input edge outcome world rest written =
    ShowsSheets look.Picture (option_map string_bytes file) r input edge outcome world rest written

-- whether the picture is to be written to the file that is read, under whatever name, as far as that is known
abbrev pub IsDrawnOver : SameFiles → Product → (infile : Option (List ℕ)) → (is : Bool) → Type 0
IsDrawnOver same (product.Picture (Some file)) infile is = IfSome (same infile (string_bytes file)) (λ known. is ≡ known)
IsDrawnOver same other infile is = is ≡ false

-- whether the sheets are to be written to standard output, and that is a terminal, as far as that is known
abbrev pub IsForTerminal : (terminal : Option Bool) → Product → (outfile : Option (List ℕ)) → (is : Bool) → Type 0
IsForTerminal terminal product.Sheets None is = IfSome terminal (λ known. is ≡ known)
IsForTerminal terminal other outfile is = is ≡ false

-- the request may be read for, nothing is drawn over what is read, no sheets come on a terminal, and no document by others is in OUTFILE
abbrev pub MayReadInput : SameFiles → (terminal : Option Bool) → (foreign : Bool) → ImposeRequest → Type 0
MayReadInput same terminal foreign r = MayBeRead r × IsDrawnOver same r.product (option_map string_bytes r.infile) false
    × IsForTerminal terminal r.product (option_map string_bytes r.outfile) false × (foreign ≡ false)

-- a request is refused before its input is opened: by itself, since its picture would be written to the file that is read, since its
-- sheets would come on a terminal, or since they would replace a document by others
abbrev pub RefusesUnopened : SameFiles → (terminal : Option Bool) → (foreign : Bool) → ImposeRequest → ImposeFault → Type 0
RefusesUnopened same terminal foreign r f = RefusesRequest r f
    ⊎ ((MayBeRead r × (f ≡ fault.OverInput) × IsDrawnOver same r.product (option_map string_bytes r.infile) true)
    ⊎ ((MayBeRead r × (f ≡ fault.OnTerminal) × IsForTerminal terminal r.product (option_map string_bytes r.outfile) true)
    ⊎ (MayBeRead r × (f ≡ fault.OverDocument) × (foreign ≡ true))))

-- What comes of a request, by whether a document by others was found in OUTFILE: it is refused before its input is opened; or it isn't,
-- and its input can't be read, and the world is back; or the input was read, and what is asked for is made of it (RULES, 16)
abbrev pub EndsRequest : {W O : Type 0} → (seen : W → WorldView) → ImposeRequest → Inputs → SameFiles → (terminal : Option Bool) → (foreign : Bool)
    → (edge : Edge W O) → Result Done ImposeFault → (world : W) → (rest : Rest W O) → (written : Option (List ℕ)) → Type 0
EndsRequest {W} seen r gives same terminal foreign edge outcome world rest written =
    ((f : ImposeFault) × (left : W) × (outcome ≡ Err f) × (rest ≡ World left)
    × ((RefusesUnopened same terminal foreign r f × (left ≡ world))
    ⊎ (MayReadInput same terminal foreign r × FailsToRead (option_map string_bytes r.infile) (seen world) (seen left) f)))
    ⊎ ((document : List ℕ) × (read : W) × IsReadOf (gives (option_map string_bytes r.infile)) document
    × HasGiven (option_map string_bytes r.infile) (seen world) (seen read) × MayReadInput same terminal foreign r
    × MakesProduct r.product r document edge outcome read rest written)

-- what is refused has no output: one that exists is that of a request that was carried out, or for which a write failed or
-- memory ran out
abbrev pub IsCreatedFor : {W O : Type 0} → Result Done ImposeFault → (rest : Rest W O) → Type 0
IsCreatedFor (Ok what) rest = ⊤
IsCreatedFor (Err f) rest = (has_output rest ≡ false) ⊎ AfterWrite f (λ n. ⊤) (λ n. ⊤)

-- what the program finds around it: what inputs give, which files are regular, which are the same as the input, whether standard output
-- is a terminal, and what is seen of the world and its outputs
pub record Surroundings (W O : Type 0) : Type 0 where
  pub gives : Inputs
  pub regular : W → RegularFiles
  pub same : SameFiles
  pub terminal : Option Bool
  pub edge : Edge W O

-- How the program ends: the words are refused, and the world is back; or there is a request, with the paper at home; OUTFILE is looked at,
-- and this comes of it. That the request is what the words ask for is said apart.
abbrev pub EndsProgram : {W O : Type 0} → (words : List Text) → (variable : List ℕ) → Surroundings W O → Option ImposeRequest
    → Result Done ImposeFault → (world : W) → (rest : Rest W O) → Type 0
EndsProgram words variable around None (Ok what) world rest = ⊥
EndsProgram words variable around None (Err (fault.Command f)) world rest = RefusesCommand words f × (rest ≡ World world)
EndsProgram words variable around None (Err other) world rest = ⊥
EndsProgram {W} words variable around (Some r) outcome world rest =
    (looked : W)
    × FindsHome variable around.gives (around.regular world) (around.edge.seen world) (around.edge.seen looked) r.default_paper
    × (found : W) × (foreign : Bool)
    × FindsForeign r around.gives (around.regular looked) around.same (around.edge.seen looked) (around.edge.seen found) foreign
    × EndsRequest around.edge.seen r around.gives around.same around.terminal foreign around.edge outcome found rest (shown around.edge.shows rest)
