-- What comes of what is to be written.
use Rattle.std.proofs.Common.{◌≡◌, ◌∙◌, ◌⊎◌, ℕ, ◌-◌, ◌≤◌, List, [], Bool, true, false, Option, Some, None, Result, Ok, Err, ap, append-nil, arith, inl, inr, length, refl, subst, sym, take}
use Rattle.std.specs.Prelude.{MatchResult}
use Rattle.std.specs.Io.KnownBytes.{Appends, Keeps, append_known}
use Rattle.std.proofs.KnownBytes.{Appends-kept, Keeps-refl}
use Rattle.std.proofs.Math.Seq.{take-length}
use Rattle.std.proofs.lemmas.List.{length-map}
use Rattle.std.specs.IoError.{error_kind}
use Rattle.std.specs.declared.io.ErrorKind.{ErrorKind}
use Rattle.std.specs.declared.io.ErrorKind.TheVariants.{OutOfMemory}
use Rattle.std.below.std_io.specs.declared.io.error.Error.{Error}
use Rattle.impose_messages.specs.Faults.{without_memory}
use Rattle.world.specs.Worlds.{HasRefused, WorldView, creating}
use Rattle.world.specs.Lates.{named_view}
use Rattle.world.specs.Outputs.{OutputView, fresh_output, named, reported_if}
use Rattle.world.proofs.Naming.{named_front, unnamed_kept}
use Rattle.sheet_writer.specs.Sinks.{SinkView}
use Rattle.sheet_text.specs.Jobs.{JobView, output_of}
use Rattle.rules.specs.Sheets.{Plan, layout}
use Rattle.rules.specs.Parts.{NestedUnit, pages}
use Rattle.rules.specs.Output.{Border}
use Rattle.rules.specs.Made.{MadeSheet}
use Rattle.rules.specs.Dress.{Dress}
use Rattle.rules.specs.MadeOutput.{made_output}
use Rattle.rules.specs.MadePlans.{made_layout}
use Rattle.papers.specs.Reported.{reporting}
use Rattle.dressing.specs.Numbered.{Drawn, drawn_on}
use Rattle.row_runs.specs.SheetsRuns.{reporting_output}
use Rattle.sheet_plan.specs.OfSheets.{made_plan}
use Rattle.sheet_plan.specs.Places.{born_complete}
use Rattle.imposer.specs.Gathering.{ReportsOf}
use Rattle.imposer.specs.Outcomes.{AfterError}
use Rattle.imposer.specs.declared.outcome.Report.{Report}
use Rattle.imposer.specs.declared.outcome.RunError.{RunError}
use Rattle.imposer.specs.declared.outcome.RunError.TheVariants as run
use Rattle.impose_cli.specs.RowRuns.{ReportsOn}
use Rattle.impose_cli.specs.Endings.{BreaksOff, Comes, Edge, HasFirst, Holds, IsNotCreated, IsSaidOf, WritesJob, reported_by, shown}
use Rattle.world.specs.declared.rest.Rest.{Rest}
use Rattle.world.specs.declared.rest.Rest.TheVariants.{Output, World}
use Rattle.impose_messages.specs.declared.finished.Findings.{Findings}
use Rattle.impose_messages.specs.declared.finished.SheetFacts.{SheetFacts}
use Rattle.impose_messages.specs.declared.fault.ImposeFault.{ImposeFault}
use Rattle.impose_messages.specs.declared.fault.ImposeFault.TheVariants as fault
use Rattle.impose_messages.specs.declared.finished.Done.{Done}
use Rattle.impose_messages.specs.declared.finished.Done.TheVariants as done

-- ---- what comes of it

-- it is refused
pub comes_refused : {T V O : Type 0} (R : ImposeFault → Type 0) (W : (old new : Option (List ℕ)) → T → Type 0) (name : Option (List ℕ)) (reports_outputs : Edge V O) (f : ImposeFault) (outcome : Result T ImposeFault) (world : V) (rest : Rest V O) (written : Option (List ℕ))
    → outcome ≡ Err f → rest ≡ World world → R f → Comes R W name reports_outputs outcome world rest written
comes_refused R W name reports_outputs f outcome world rest written is none why =
    subst (λ o. Comes R W name reports_outputs o world rest written) (sym is) (inl (why, none))

-- the same of other words for it
pub comes_as : {T V O : Type 0} (R R' : ImposeFault → Type 0) (W W' : (old new : Option (List ℕ)) → T → Type 0) (name : Option (List ℕ)) (reports_outputs : Edge V O) (outcome : Result T ImposeFault) (world : V) (rest : Rest V O) (written : Option (List ℕ))
    → ((f : ImposeFault) → R f → R' f) → ((old new : Option (List ℕ)) (x : T) → W old new x → W' old new x)
    → Comes R W name reports_outputs outcome world rest written → Comes R' W' name reports_outputs outcome world rest written
comes_as R R' W W' name reports_outputs (Ok x) world rest written refused wrote h = (wrote _ _ x h.0, h.1)
comes_as R R' W W' name reports_outputs (Err f) world rest written refused wrote h = elim h [
  | inl stopped ↦ inl (refused f stopped.0, stopped.1)
  | inr some ↦ inr (some.0, some.1, wrote _ _ some.1 some.2, some.3)
]

-- and of what is reported
pub comes_reported : {V O : Type 0} (R R' : ImposeFault → Type 0) (W : (old new : Option (List ℕ)) → Report → Type 0) (W' : (old new : Option (List ℕ)) → Done → Type 0) (findings : Findings) (sheets : SheetFacts) (name : Option (List ℕ)) (reports_outputs : Edge V O)
    (outcome : Result Report ImposeFault) (world : V) (rest : Rest V O) (written : Option (List ℕ))
    → ((f : ImposeFault) → R f → R' f) → ((old new : Option (List ℕ)) (report : Report) → W old new report → W' old new (done.Imposed (record { report = report; sheets = sheets; findings = findings })))
    → Comes R W name reports_outputs outcome world rest written → Comes R' W' name reports_outputs (reported_by findings sheets outcome) world rest written
comes_reported R R' W W' findings sheets name reports_outputs (Ok report) world rest written refused wrote h = (wrote _ _ report h.0, h.1)
comes_reported R R' W W' findings sheets name reports_outputs (Err f) world rest written refused wrote h = elim h [
  | inl stopped ↦ inl (refused f stopped.0, stopped.1)
  | inr some ↦ inr (some.0, done.Imposed (record { report = some.1; sheets = sheets; findings = findings }), wrote _ _ some.1 some.2, some.3)
]

-- ---- made sheets

-- the report on them, if they are so many pages' and each sheet has the lines that report its paper
report_told : (j : JobView) (plan : Plan) (n : ℕ) (border : Option Border) (drawn : Drawn) (all : List MadeSheet) (us : List NestedUnit) (report : Report)
    → j.plan ≡ plan → plan ≡ made_plan n all → layout plan ≡ made_layout n all → n ≡ length (pages us)
    → output_of j ≡ reporting_output border drawn all us → ReportsOf j report → ReportsOn border drawn all us report
report_told j plan n border drawn all us report of planned laid count out told = record {
  page_count = told.page_count ∙ ap (λ (p : Plan). p.pages) (of ∙ planned) ∙ count;
  sheet_count = told.sheet_count ∙ ap (λ (p : Plan). length p.sheets) (of ∙ planned) ∙ length-map all _;
  born_blank = told.born_blank ∙ ap (λ (p : Plan). length (born_complete (layout p))) of ∙ ap (λ l. length (born_complete l)) laid ∙ ap (λ k. length (born_complete (made_layout k all))) count;
  swept_within = told.swept_within;
  byte_count = told.byte_count ∙ ap length out;
}

-- what comes of their job comes of them
pub made_comes : {V O : Type 0} (R : ImposeFault → Type 0) (W : (old new : Option (List ℕ)) → Report → Type 0) (j : JobView) (plan : Plan) (n : ℕ) (border : Option Border) (dress : Dress) (drawn : Drawn) (all : List MadeSheet) (us : List NestedUnit)
    (name : Option (List ℕ)) (reports_outputs : Edge V O) (outcome : Result Report ImposeFault) (world : V) (rest : Rest V O) (written : Option (List ℕ))
    → j.plan ≡ plan → plan ≡ made_plan n all → layout plan ≡ made_layout n all → n ≡ length (pages us) → output_of j ≡ made_output border dress all us → dress ≡ drawn_on drawn (reporting all)
    → ((old new : Option (List ℕ)) (report : Report) → Appends old new (reporting_output border drawn all us) → ReportsOn border drawn all us report → W old new report)
    → Comes (λ f. ⊥) (WritesJob j) name reports_outputs outcome world rest written → Comes R W name reports_outputs outcome world rest written
made_comes R W j plan n border dress drawn all us name reports_outputs outcome world rest written of planned laid count output dressed wrote h =
    let out : output_of j ≡ reporting_output border drawn all us = output ∙ ap (λ (d : Dress). made_output border d all us) dressed in
    comes_as (λ f. ⊥) R (WritesJob j) W name reports_outputs outcome world rest written (λ f none. absurd none)
    (λ old new report done. wrote old new report (subst (Appends old new) out done.0) (report_told j plan n border drawn all us report of planned laid count out done.1)) h

-- ---- the sheets of a job

-- the numbers of a whole output
abbrev report_of : JobView → Report
report_of j = record {
  pages = j.plan.pages;
  sheets = length j.plan.sheets;
  born = length (born_complete (layout j.plan));
  swept = 0;
  bytes = length (output_of j);
}

whole : (j : JobView) → WritesJob j (Some []) (Some (output_of j)) (report_of j)
whole j = (refl, record { page_count = refl; sheet_count = refl; born_blank = refl; swept_within = omega arith; byte_count = refl })

abbrev Left : {V O : Type 0} → JobView → (name : Option (List ℕ)) → (reports_outputs : Edge V O) → Result Report ImposeFault → (world : V) → (rest : Rest V O) → (written : Option (List ℕ)) → Type 0
Left j name reports_outputs outcome world rest written = Comes (λ f. ⊥) (WritesJob j) name reports_outputs outcome world rest written

-- an output wasn't created, and the fault is that of its error's kind
pub is_not_created : {V O : Type 0} (e : Edge V O) (name : Option (List ℕ)) (before : WorldView) (left : V) (cause : Error) (outcome : Result Report ImposeFault) (rest : Rest V O)
    → HasRefused (creating name) (error_kind cause) before (e.seen left)
    → ((error_kind cause ≡ OutOfMemory) × (outcome ≡ Err without_memory)) ⊎ (¬ (error_kind cause ≡ OutOfMemory) × (outcome ≡ Err (fault.Write 0 (Some cause))))
    → rest ≡ World left → MatchResult outcome (λ report. ⊥) (λ f. IsNotCreated e name before f rest)
is_not_created e name before left cause outcome rest refused (inl memory) back =
    subst (λ o. MatchResult o (λ report. ⊥) (λ f. IsNotCreated e name before f rest)) (sym memory.1)
    (inl (refl, inr (left, back, subst (λ k. HasRefused (creating name) k before (e.seen left)) memory.0 refused)))
is_not_created e name before left cause outcome rest refused (inr other) back =
    subst (λ o. MatchResult o (λ report. ⊥) (λ f. IsNotCreated e name before f rest)) (sym other.1) (inr (refl, (left, back, refused)))

-- a world that was asked for nothing before refused it
pub refused_world : (name name' : Option (List ℕ)) (old before new : WorldView) (kind : ErrorKind) → name ≡ name' → old ≡ before → HasRefused (creating name) kind old new
    → HasRefused (creating name') kind before new
refused_world name name' old before new kind named same h = subst (λ n. HasRefused (creating n) kind before new) named (subst (λ v. HasRefused (creating name) kind v new) same h)

-- so of a run that broke off
pub refused_off : {V O : Type 0} (e : Edge V O) (name : Option (List ℕ)) (before : WorldView) (taken : ℕ) (told : Option (List ℕ)) (outcome : Result Report ImposeFault) (rest : Rest V O)
    → MatchResult outcome (λ report. ⊥) (λ f. IsNotCreated e name before f rest) → MatchResult outcome (λ report. ⊥) (λ f. BreaksOff e name before taken told f rest)
refused_off e name before taken told (Ok report) rest h = absurd h
refused_off e name before taken told (Err f) rest h = inl h

-- and of one whose end had nothing to write
pub refused_whole : {V O : Type 0} (e : Edge V O) (name : Option (List ℕ)) (before : WorldView) (outcome : Result Report ImposeFault) (rest : Rest V O) (P : Report → Type 0)
    → MatchResult outcome (λ report. ⊥) (λ f. IsNotCreated e name before f rest) → MatchResult outcome P (λ f. IsNotCreated e name before f rest)
refused_whole e name before (Ok report) rest P h = absurd h
refused_whole e name before (Err f) rest P h = h

-- the world wasn't asked for an output
pub unasked_off : {V O : Type 0} (e : Edge V O) (name : Option (List ℕ)) (before : WorldView) (left : V) (taken : ℕ) (told : Option (List ℕ)) (outcome : Result Report ImposeFault) (rest : Rest V O)
    → outcome ≡ Err without_memory → rest ≡ World left → e.seen left ≡ before → MatchResult outcome (λ report. ⊥) (λ f. BreaksOff e name before taken told f rest)
unasked_off e name before left taken told outcome rest is back same =
    subst (λ o. MatchResult o (λ report. ⊥) (λ f. BreaksOff e name before taken told f rest)) (sym is) (inl (inl (refl, inl (left, back, same))))

-- an output is there
pub there_off : {V O : Type 0} (e : Edge V O) (name : Option (List ℕ)) (before : WorldView) (output : O) (waiting : List ℕ) (taken n : ℕ) (told : Option (List ℕ)) (outcome : Result Report ImposeFault) (rest : Rest V O)
    → MatchResult outcome (λ report. ⊥) (IsSaidOf (e.shows output) n) → rest ≡ Output output → n ≡ taken - length waiting
    → told ≡ append_known (named (e.shows output).bytes) waiting → MatchResult outcome (λ report. ⊥) (λ f. BreaksOff e name before taken told f rest)
there_off e name before output waiting taken n told (Ok report) rest said is counted holds = absurd said
there_off e name before output waiting taken n told (Err f) rest said is counted holds =
    inr (output, is, waiting, subst (λ m. IsSaidOf (e.shows output) m f) counted said, holds)

-- all was written out to an output that is there
pub held_there : {V O : Type 0} (e : Edge V O) (view : OutputView) (buffer : List ℕ) (output : O) → view ≡ named_view (e.shows output) → buffer ≡ []
    → Holds e (record { bytes = append_known view.bytes buffer; failures = view.failures }) (Output output)
held_there e view buffer output is none =
    let out = (e.shows output).bytes in
    let told : append_known view.bytes buffer ≡ append_known (named out) []
    = ap (λ (v : OutputView). append_known v.bytes buffer) is ∙ ap (λ l. append_known (named out) l) none in (
      output,
      refl,
      unnamed_kept (append_known view.bytes buffer) out (subst (Keeps (append_known view.bytes buffer)) told (Keeps-refl (append_known view.bytes buffer))),
      sym (ap (λ (v : OutputView). v.failures) is),
    )

none_behind : (told : Option (List ℕ)) → Keeps (append_known told []) told
none_behind None = tt
none_behind (Some xs) = sym (append-nil xs)

-- there was nothing to write, and the output was created
pub held_fresh : {V O : Type 0} (e : Edge V O) (view : OutputView) (buffer : List ℕ) (output : O) (told told' : Option (List ℕ)) → view ≡ fresh_output told → e.shows output ≡ fresh_output told' → told' ≡ told → buffer ≡ []
    → Holds e (record { bytes = append_known view.bytes buffer; failures = view.failures }) (Output output)
held_fresh e view buffer output told told' is fresh same none =
    let out : (e.shows output).bytes ≡ told = ap (λ (v : OutputView). v.bytes) fresh ∙ same in
    let front : append_known view.bytes buffer ≡ append_known told [] = ap (λ (v : OutputView). append_known v.bytes buffer) is ∙ ap (append_known told) none in (
      output,
      refl,
      subst (λ a. Keeps a (e.shows output).bytes) (sym front) (subst (Keeps (append_known told [])) (sym out) (none_behind told)),
      ap (λ (v : OutputView). v.failures) fresh ∙ sym (ap (λ (v : OutputView). v.failures) is),
    )

-- memory ran out before anything was made
pub job_unasked : {V O : Type 0} (j : JobView) (name : Option (List ℕ)) (e : Edge V O) (outcome : Result Report ImposeFault) (world : V) (rest : Rest V O) (written : Option (List ℕ))
    → outcome ≡ Err without_memory → rest ≡ World world → Left j name e outcome world rest written
job_unasked j name e outcome world rest written is back =
    subst (λ o. Left j name e o world rest written) (sym is) (inr (output_of j, report_of j, whole j, inl (inl (refl, inl (world, back, refl)))))

-- they were written
pub job_held : {V O : Type 0} (j : JobView) (name : Option (List ℕ)) (e : Edge V O) (before : WorldView) (report : Report) (sink : SinkView) (outcome : Result Report ImposeFault) (world : V) (rest : Rest V O) (start all : Option (List ℕ))
    → e.seen world ≡ before → start ≡ reported_if e.reports_outputs name [] → Appends start all (output_of j) × ReportsOf j report → Keeps all sink.bytes → sink.failures ≡ 0
    → MatchResult outcome (λ r. (r ≡ report) × Holds e sink rest) (λ f. IsNotCreated e name before f rest) → Left j name e outcome world rest (shown e.shows rest)
job_held j name e before report sink (Ok r) world rest start all same began wrote kept steady h =
    let held = h.1 in
    let output = held.0 in
    let out = (e.shows output).bytes in
    let appended : Appends (reported_if e.reports_outputs name []) out (output_of j)
    = subst (λ s. Appends s out (output_of j)) began (Appends-kept start sink.bytes out (output_of j) (Appends-kept start all sink.bytes (output_of j) wrote.0 kept) held.2) in
    subst (λ x. Left j name e (Ok r) world x (shown e.shows x)) (sym held.1)
    ((appended, subst (ReportsOf j) (sym h.0) wrote.1), (output, refl, held.3 ∙ steady))
job_held j name e before report sink (Err f) world rest start all same began wrote kept steady h =
    inr (output_of j, report_of j, whole j, inl (subst (λ b. IsNotCreated e name b f rest) (sym same) h))

first_of : (name : Option (List ℕ)) (reports_outputs : Bool) (taken : ℕ) (text waiting : List ℕ) (told out : Option (List ℕ)) → taken ≤ length text
    → Appends (reported_if reports_outputs name []) told (take taken text) → told ≡ append_known (named out) waiting → HasFirst (reported_if reports_outputs name []) out text (taken - length waiting)
first_of name false taken text waiting told out within wrote holds = tt
first_of name true taken text waiting told out within wrote holds = named_front name taken text waiting told out within wrote holds

-- a part of them was
pub job_broke : {V O : Type 0} (j : JobView) (name : Option (List ℕ)) (e : Edge V O) (before : WorldView) (taken : ℕ) (outcome : Result Report ImposeFault) (world : V) (rest : Rest V O) (written start all told : Option (List ℕ))
    → e.seen world ≡ before → start ≡ reported_if e.reports_outputs name [] → taken ≤ length (output_of j) → Appends start all (take taken (output_of j)) → Keeps all told
    → MatchResult outcome (λ report. ⊥) (λ f. BreaksOff e name before taken told f rest) → Left j name e outcome world rest written
job_broke j name e before taken (Ok report) world rest written start all told same began within wrote kept h = absurd h
job_broke j name e before taken (Err f) world rest written start all told same began within wrote kept (inl none) =
    inr (output_of j, report_of j, whole j, inl (subst (λ b. IsNotCreated e name b f rest) (sym same) none))
job_broke j name e before taken (Err f) world rest written start all told same began within wrote kept (inr broke) =
    let text = output_of j in
    let appended = subst (λ s. Appends s told (take taken text)) began (Appends-kept start all told (take taken text) wrote kept) in
    inr (text, report_of j, whole j, inr (broke.0, broke.1, taken - length broke.2, broke.3, first_of name e.reports_outputs taken text broke.2 told (e.shows broke.0).bytes within appended broke.4))

-- as many as the sink had taken, before an error
pub taken_of : (j : JobView) (error : RunError) (n : ℕ) (start all : Option (List ℕ)) → AfterError error ⊥ (λ k. n ≡ k) (λ k. n ≡ k)
    → AfterError error ⊥ (λ k. (k ≤ length (output_of j)) × Appends start all (take k (output_of j))) (λ k. (k ≤ length (output_of j)) × Appends start all (take k (output_of j)))
    → (n ≤ length (output_of j)) × Appends start all (take n (output_of j))
taken_of j (run.NoMemory k) n start all is wrote = subst (λ m. (m ≤ length (output_of j)) × Appends start all (take m (output_of j))) (sym is) wrote
taken_of j (run.Write k) n start all is wrote = subst (λ m. (m ≤ length (output_of j)) × Appends start all (take m (output_of j))) (sym is) wrote
taken_of j other n start all is wrote = absurd wrote

-- all of them, when their run had finished
pub taken_whole : (j : JobView) (n : ℕ) (start all : Option (List ℕ)) → n ≡ length (output_of j) → Appends start all (output_of j)
    → (n ≤ length (output_of j)) × Appends start all (take n (output_of j))
taken_whole j n start all is wrote =
    (omega (arith, is), subst (λ t. Appends start all t) (sym (ap (λ m. take m (output_of j)) is ∙ take-length (output_of j))) wrote)
