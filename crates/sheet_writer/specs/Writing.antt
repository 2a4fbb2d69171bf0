-- How far the output of a job is written.
use Rattle.std.specs.Prelude.{◌≡◌, ℕ, ◌+◌, ◌<◌, ◌≤◌, List, ◌++◌, length, take, flat_map, All, slice_get, Option, Some, None}
use Rattle.std.specs.List.{range_with_len}
use Rattle.std.specs.Io.KnownBytes.{Appends}
use Rattle.rules.specs.MadeOutput.{dressed_preamble}
use Rattle.sheet_text.specs.Jobs.{JobView, text_of, output_of}
use Rattle.sheet_text.specs.Texts.{TextsView}
use Rattle.sheet_writer.specs.Sinks.{SinkView, Took, FailedBehind, IsUntouched}
use Rattle.sheet_writer.specs.declared.writing.Halt.{Halt}
use Rattle.sheet_writer.specs.declared.writing.Halt.TheVariants.{Failed, NoMemory}
use Rattle.sheet_writer.specs.declared.writing.Progress.{Progress}

-- the header and the first n sheets
abbrev pub front_text : JobView → ℕ → List ℕ
front_text job n =
    dressed_preamble (length job.plan.sheets) job.header job.units
    ++ flat_map (text_of job) (take n (range_with_len 0 (length job.plan.sheets)))

-- the texts of this many sheets, from this one on
abbrev pub texts_from : JobView → (first count : ℕ) → List ℕ
texts_from job first count = flat_map (text_of job) (range_with_len first count)

-- the first n bytes of the output were written, and nothing else
abbrev pub WroteFirst : JobView → (old new : SinkView) → ℕ → Type 0
WroteFirst job old new n = (n ≤ length (output_of job)) × Appends old.bytes new.bytes (take n (output_of job))

-- the three cases: nothing halted; the sink failed; memory was refused
abbrev pub AfterHalt : Option Halt → Type 0 → Type 0 → Type 0 → Type 0
AfterHalt None Goes Fails Starves = Goes
AfterHalt (Some Failed) Goes Fails Starves = Fails
AfterHalt (Some NoMemory) Goes Fails Starves = Starves

-- the result of giving a text to a sink: it is given none of it only if a report couldn't count the bytes
abbrev pub Handed : List ℕ → (old new : SinkView) → Progress → Progress → Type 0
Handed text old new p q = AfterHalt q.halted
    ((q.written ≡ p.written + length text) × Took old new text)
    ((k : ℕ) × (k ≤ length text) × (q.written ≡ p.written + k) × FailedBehind old new (take k text))
    ((q.written ≡ p.written) × IsUntouched old new × (18_446_744_073_709_551_615 < p.written + length text))

-- the progress holds, or some beginning of the output was written and then no more; the sink failed only if the halt
-- says so
abbrev pub Halts : JobView → (old new : SinkView) → Progress → Type 0 → Type 0
Halts job old new p Goes = AfterHalt p.halted Goes
    (WroteFirst job old new p.written × (new.failures ≡ old.failures + 1))
    (WroteFirst job old new p.written × (new.failures ≡ old.failures))

-- the header and the sheets before the next one were written
abbrev pub HasFront : JobView → (old new : SinkView) → Progress → Type 0
HasFront job old new p = (p.next ≤ length job.plan.sheets) × (p.written ≡ length (front_text job p.next))
    × Took old new (front_text job p.next)

-- they are written so far, or it halted
abbrev pub IsProgress : JobView → (old new : SinkView) → Progress → Type 0
IsProgress job old new p = Halts job old new p (HasFront job old new p)

-- wherever the writing began, it is still right
abbrev pub GoesOn : JobView → (old new : SinkView) → Progress → Progress → Type 0
GoesOn job old new p q = (start : SinkView) → IsProgress job start old p → IsProgress job start new q

-- the whole output was written
abbrev pub HasAll : JobView → (old new : SinkView) → Progress → Type 0
HasAll job old new p = (p.written ≡ length (output_of job)) × Took old new (output_of job)

-- the whole output was written, or it halted
abbrev pub Ends : JobView → (old new : SinkView) → Progress → Type 0
Ends job old new p = Halts job old new p (HasAll job old new p)

-- wherever the writing began, its end is correct
abbrev pub EndsAfter : JobView → (old new : SinkView) → Progress → Progress → Type 0
EndsAfter job old new p q = (start : SinkView) → IsProgress job start old p → Ends job start new q

-- each of these sheets has its own text
abbrev pub HaveTexts : (text : ℕ → List ℕ) → TextsView → Type 0
HaveTexts text texts = All (λ (t : ℕ × List ℕ). t.1 ≡ text t.0) texts

-- each sheet that came before its turn has its text
abbrev pub AreEarly : JobView → List (Option TextsView) → Type 0
AreEarly job groups = (k : ℕ) (m : TextsView) → slice_get groups k ≡ Some (Some m) → HaveTexts (text_of job) m
