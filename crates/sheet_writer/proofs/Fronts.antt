-- How the steps of writing produce the output.
use Rattle.std.proofs.Common.{ℕ, zero, suc, ◌+◌, ◌<◌, ◌≤◌, ◌≡◌, ◌∙◌, refl, ap, sym, subst, List, [], ◌∷◌, ◌++◌, length, take, drop, Option, Some, None, slice_get, true, true≢false, ◌⊎◌, inl, inr, ⊎_elim, slice_set, arith, append_assoc, append-nil}
use Rattle.std.specs.Prelude.{flat_map, is_some}
use Rattle.std.specs.List.{range_with_len}
use Rattle.std.specs.Io.KnownBytes.{Appends, Keeps}
use Rattle.std.proofs.KnownBytes.{Appends-trans, Appends-kept, Keeps-refl}
use Rattle.std.proofs.Math.Seq.{take-append-add, take-append_seam}
use Rattle.std.proofs.lemmas.List.{take-append-drop, length-append, take-append-le}
use Rattle.std.proofs.lemmas.Grind.{flat_map-append}
use Rattle.rules.specs.Filters.{trailer_text}
use Rattle.rules.specs.MadeOutput.{dressed_preamble}
use Rattle.sheet_text.specs.Jobs.{JobView, text_of, output_of}
use Rattle.sheet_writer.specs.Sinks.{SinkView, Took, FailedBehind, IsUntouched}
use Rattle.sheet_writer.specs.Writing.{front_text, WroteFirst, AfterHalt, Halts, Handed, HasFront, HasAll, IsProgress, Ends, HaveTexts, AreEarly, texts_from}
use Rattle.sheet_text.specs.Texts.{TextsView}
use Rattle.sheet_writer.specs.declared.writing.Halt.{Halt}
use Rattle.sheet_writer.specs.declared.writing.Halt.TheVariants.{Failed, NoMemory}
use Rattle.sheet_writer.specs.declared.writing.Progress.{Progress}
use Rattle.sheet_writer.proofs.Sheets.{job_sheet_more, output_is}

-- the output begins with the header and the first sheets
front_begins : (job : JobView) (n : ℕ) → (rest : List ℕ) × (front_text job n ++ rest ≡ output_of job)
front_begins job n =
    let row = range_with_len 0 (length job.plan.sheets) in
    let text : ℕ → List ℕ = text_of job in
    let header = dressed_preamble (length job.plan.sheets) job.header job.units in
    let whole : flat_map text (take n row) ++ flat_map text (drop n row) ≡ flat_map text row = sym (flat_map-append text (take n row) (drop n row)) ∙ ap (λ xs. flat_map text xs) (take-append-drop n row) in (
      flat_map text (drop n row) ++ trailer_text job.units,
      sym (append_assoc (header ++ flat_map text (take n row)) (flat_map text (drop n row)) (trailer_text job.units))
          ∙ ap (λ t. t ++ trailer_text job.units) (append_assoc header (flat_map text (take n row)) (flat_map text (drop n row)) ∙ ap (λ t. header ++ t) whole),
    )

-- a first part of a whole, and some bytes after it
part_behind : (front text rest whole : List ℕ) (k : ℕ) → (front ++ text) ++ rest ≡ whole → k ≤ length text → (length front + k ≤ length whole) × (take (length front + k) whole ≡ front ++ take k text)
part_behind front text rest whole k is within =
    let seam : front ++ (text ++ rest) ≡ whole = sym (append_assoc front text rest) ∙ is in
    let sizes : length front + (length text + length rest) ≡ length whole = ap (λ n. length front + n) (sym (length-append text rest)) ∙ sym (length-append front (text ++ rest)) ∙ ap (λ t. length t) seam in
    (omega (arith, sizes), ap (λ t. take (length front + k) t) (sym seam) ∙ take-append-add front (text ++ rest) k ∙ ap (λ t. front ++ t) (take-append-le k text rest within))

-- so far the front was written, and some bytes after it: these are the first bytes of the whole
wrote_behind : (job : JobView) (start old new : SinkView) (front text rest : List ℕ) (k : ℕ) → (front ++ text) ++ rest ≡ output_of job → k ≤ length text
    → Appends start.bytes old.bytes front → Appends old.bytes new.bytes (take k text) → WroteFirst job start new (length front + k)
wrote_behind job start old new front text rest k is within so_far next =
    let part = part_behind front text rest (output_of job) k is within in
    (part.0, subst (Appends start.bytes new.bytes) (sym part.1) (Appends-trans start.bytes old.bytes new.bytes front (take k text) so_far next))

wrote_front : (job : JobView) (start old new : SinkView) (n : ℕ) → Appends start.bytes old.bytes (front_text job n) → Keeps old.bytes new.bytes → WroteFirst job start new (length (front_text job n))
wrote_front job start old new n so_far same =
    let begins = front_begins job n in
    let front = front_text job n in
    let sizes : length front + length begins.0 ≡ length (output_of job) = sym (length-append front begins.0) ∙ ap (λ t. length t) begins.1 in
    let first : take (length front) (output_of job) ≡ front = ap (λ t. take (length front) t) (sym begins.1) ∙ take-append_seam front begins.0 in
    (omega (arith, sizes), subst (Appends start.bytes new.bytes) (sym first) (Appends-kept start.bytes old.bytes new.bytes front so_far same))

-- each of the three by its own step
by_halt : (h : Option Halt) (Goes Fails Starves Goes' Fails' Starves' : Type 0) → (Goes → Goes') → (Fails → Fails') → (Starves → Starves')
    → AfterHalt h Goes Fails Starves → AfterHalt h Goes' Fails' Starves'
by_halt None Goes Fails Starves Goes' Fails' Starves' goes fails starves is = goes is
by_halt (Some Failed) Goes Fails Starves Goes' Fails' Starves' goes fails starves is = fails is
by_halt (Some NoMemory) Goes Fails Starves Goes' Fails' Starves' goes fails starves is = starves is

-- the consequences of giving a text to the sink
after_handed : (job : JobView) (start old new : SinkView) (p q : Progress) (text : List ℕ) (Goes : Type 0)
    → ((q.written ≡ p.written + length text) × Took old new text → Goes)
    → ((k : ℕ) × (k ≤ length text) × (q.written ≡ p.written + k) × FailedBehind old new (take k text) → WroteFirst job start new q.written × (new.failures ≡ start.failures + 1))
    → ((q.written ≡ p.written) × IsUntouched old new × (18_446_744_073_709_551_615 < p.written + length text)
    → WroteFirst job start new q.written × (new.failures ≡ start.failures))
    → Handed text old new p q → Halts job start new q Goes
after_handed job start old new p q text Goes goes fails starves handed = by_halt q.halted _ _ _ _ _ _ goes fails starves handed

-- nothing halted
pub while_going : (job : JobView) (old new : SinkView) (p : Progress) (Goes : Type 0) → p.halted ≡ None → Halts job old new p Goes → Goes
while_going job old new p Goes going is =
    subst (λ h. AfterHalt h Goes (WroteFirst job old new p.written × (new.failures ≡ old.failures + 1)) (WroteFirst job old new p.written × (new.failures ≡ old.failures))) going is

-- the sink failed
pub if_failed : (job : JobView) (old new : SinkView) (p : Progress) (Goes : Type 0) → p.halted ≡ Some Failed → Halts job old new p Goes
    → WroteFirst job old new p.written × (new.failures ≡ old.failures + 1)
if_failed job old new p Goes failed is =
    subst (λ h. AfterHalt h Goes (WroteFirst job old new p.written × (new.failures ≡ old.failures + 1)) (WroteFirst job old new p.written × (new.failures ≡ old.failures))) failed is

-- memory was refused
pub if_starved : (job : JobView) (old new : SinkView) (p : Progress) (Goes : Type 0) → p.halted ≡ Some NoMemory → Halts job old new p Goes
    → WroteFirst job old new p.written × (new.failures ≡ old.failures)
if_starved job old new p Goes starved is =
    subst (λ h. AfterHalt h Goes (WroteFirst job old new p.written × (new.failures ≡ old.failures + 1)) (WroteFirst job old new p.written × (new.failures ≡ old.failures))) starved is

-- a text that makes the front of m sheets from that of n
handed_behind : (job : JobView) (start old new : SinkView) (p q : Progress) (text : List ℕ)
    → front_text job p.next ++ text ≡ front_text job q.next → q.next ≤ length job.plan.sheets → p.halted ≡ None
    → Handed text old new p q → IsProgress job start old p → IsProgress job start new q
handed_behind job start old new p q text grown within none handed stands =
    let front = front_text job p.next in
    let was = while_going job start old p (HasFront job start old p) none stands in
    after_handed job start old new p q text (HasFront job start new q)
    (λ (more, took). (
      within,
      more ∙ ap (λ k. k + length text) was.1 ∙ sym (length-append front text) ∙ ap (λ t. length t) grown,
      (subst (Appends start.bytes new.bytes) grown (Appends-trans start.bytes old.bytes new.bytes front text was.2.0 took.0), took.1 ∙ was.2.1),
    ))
    (λ (k, few, more, failed).
    let begins = front_begins job q.next in
    let whole : (front ++ text) ++ begins.0 ≡ output_of job = ap (λ t. t ++ begins.0) grown ∙ begins.1 in (
      subst (WroteFirst job start new) (sym (more ∙ ap (λ x. x + k) was.1)) (wrote_behind job start old new front text begins.0 k whole few was.2.0 failed.0),
      failed.1 ∙ ap (λ x. x + 1) was.2.1,
    ))
    (λ (more, same, many). (subst (WroteFirst job start new) (sym (more ∙ was.1)) (wrote_front job start old new p.next was.2.0 same.0), same.1 ∙ was.2.1))
    handed

-- some more sheets
front_more : (job : JobView) (n count : ℕ) → n + count ≤ length job.plan.sheets → front_text job n ++ texts_from job n count ≡ front_text job (n + count)
front_more job n zero within = append-nil (front_text job n) ∙ ap (front_text job) (omega arith)
front_more job n (suc count) within =
    let header = dressed_preamble (length job.plan.sheets) job.header job.units in
    sym (append_assoc (front_text job n) (text_of job n) (texts_from job (n + 1) count))
    ∙ ap (λ t. t ++ texts_from job (n + 1) count) (job_sheet_more job header n (omega (arith, within)))
    ∙ front_more job (n + 1) count (omega (arith, within)) ∙ ap (front_text job) (omega arith)

-- the next sheets were given to the sink
pub sheets_handed : (job : JobView) (start old new : SinkView) (p q : Progress) (text : List ℕ) (count : ℕ)
    → q.next ≡ p.next + count → p.next + count ≤ length job.plan.sheets → text ≡ texts_from job p.next count → p.halted ≡ None
    → Handed text old new p q → IsProgress job start old p → IsProgress job start new q
sheets_handed job start old new p q text count next within is =
    handed_behind job start old new p q text
    (ap (λ t. front_text job p.next ++ t) is ∙ front_more job p.next count within ∙ ap (front_text job) (sym next))
    (omega (arith, next, within))

-- the header was given to it, before anything else
pub header_handed : (job : JobView) (old new : SinkView) (p q : Progress) (text : List ℕ)
    → p.written ≡ 0 → q.next ≡ 0 → text ≡ dressed_preamble (length job.plan.sheets) job.header job.units
    → Handed text old new p q → IsProgress job old new q
header_handed job old new p q text fresh first is handed =
    let whole : text ≡ front_text job q.next = is ∙ sym (append-nil _) ∙ ap (front_text job) (sym first) in
    after_handed job old old new p q text (HasFront job old new q)
    (λ (more, took). (omega (arith, first), omega (arith, more, fresh, ap (λ t. length t) whole), (subst (Appends old.bytes new.bytes) whole took.0, took.1)))
    (λ (k, few, more, failed).
    let begins = front_begins job q.next in
    let all : text ++ begins.0 ≡ output_of job = ap (λ t. t ++ begins.0) whole ∙ begins.1 in
    let part = part_behind [] text begins.0 (output_of job) k all few in
    (subst (WroteFirst job old new) (sym (more ∙ ap (λ x. x + k) fresh)) (part.0, subst (Appends old.bytes new.bytes) (sym part.1) failed.0), failed.1))
    (λ (more, same, many).
    (subst (WroteFirst job old new) (sym (more ∙ fresh)) (omega arith, nothing old.bytes new.bytes same.0), same.1))
    handed
  where
    nothing : (a b : Option (List ℕ)) → Keeps a b → Appends a b []
    nothing None b keeps = tt
    nothing (Some xs) None keeps = keeps
    nothing (Some xs) (Some ys) keeps = keeps ∙ sym (append-nil xs)

-- what is found after a store was stored, or was there
found_after : {A : Type 0} (xs : List A) (j i : ℕ) (y z : A) → slice_get (slice_set xs j y) i ≡ Some z → ((i ≡ j) × (Some y ≡ Some z)) ⊎ (slice_get xs i ≡ Some z)
found_after [] j i y z e = inr e
found_after (x ∷ xs) zero zero y z e = inl (refl, e)
found_after (x ∷ xs) zero (suc i) y z e = inr e
found_after (x ∷ xs) (suc j) zero y z e = inr e
found_after (x ∷ xs) (suc j) (suc i) y z e = ⊎_elim (λ p. inl (ap suc p.0, p.1)) (λ p. inr p) (found_after xs j i y z e)

some_inside : {A : Type 0} (x y : A) → Some x ≡ Some y → x ≡ y
some_inside {A = A} x y e = ap (λ o. inside o) e
  where
    inside : Option A → A
    inside None = x
    inside (Some z) = z

-- a sheet's place was filled
pub early_filled : (job : JobView) (places : List (Option TextsView)) (j : ℕ) (new : TextsView) → HaveTexts (text_of job) new → AreEarly job places → AreEarly job (slice_set places j (Some new))
early_filled job places j new is early k m at = ⊎_elim
    (λ p. let same : new ≡ m = some_inside new m (some_inside (Some new) (Some m) p.1) in subst (λ t. HaveTexts (text_of job) t) same is)
    (λ p. early k m p)
    (found_after places j k (Some new) (Some m) at)

-- and if one is taken away, those that are left have theirs
pub early_taken : (job : JobView) (places : List (Option TextsView)) (j : ℕ) (left : Option TextsView) → left ≡ None → AreEarly job places → AreEarly job (slice_set places j left)
early_taken job places j left none early k m at = ⊎_elim
    (λ p. let there = some_inside left (Some m) p.1 in absurd (cc (none, there)))
    (λ p. early k m p)
    (found_after places j k left (Some m) at)

-- the next sheet couldn't be made
pub starves : (job : JobView) (start now : SinkView) (p q : Progress) (swept : ℕ) → p.halted ≡ None → q ≡ record p { swept = swept; halted = Some NoMemory }
    → IsProgress job start now p → IsProgress job start now q
starves job start now p q swept none is stands =
    let was = while_going job start now p (HasFront job start now p) none stands in
    subst (λ r. IsProgress job start now r) (sym is)
    (subst (WroteFirst job start now) (sym was.1) (wrote_front job start now now p.next was.2.0 (Keeps-refl now.bytes)), was.2.1)

-- what was halted has ended
pub halted_ends : (job : JobView) (start now : SinkView) (p : Progress) → is_some p.halted ≡ true → IsProgress job start now p → Ends job start now p
halted_ends job start now p some stands = halts p.halted _ _ _ _ some stands
  where
    halts : (h : Option Halt) (Goes Goes' Fails Starves : Type 0) → is_some h ≡ true → AfterHalt h Goes Fails Starves → AfterHalt h Goes' Fails Starves
    halts None Goes Goes' Fails Starves some is = absurd (true≢false (sym some))
    halts (Some Failed) Goes Goes' Fails Starves some is = is
    halts (Some NoMemory) Goes Goes' Fails Starves some is = is

-- the trailer after all sheets makes the output
whole_output : (job : JobView) (n : ℕ) (text : List ℕ) → n ≡ length job.plan.sheets → text ≡ trailer_text job.units → front_text job n ++ text ≡ output_of job
whole_output job n text all is = output_is job (length job.plan.sheets) n _ _ _ refl all refl is refl

-- the trailer was handed to the sink, after all sheets
pub trailer_handed : (job : JobView) (start old new : SinkView) (p q : Progress) (text : List ℕ)
    → p.next ≡ length job.plan.sheets → text ≡ trailer_text job.units → p.halted ≡ None
    → Handed text old new p q → IsProgress job start old p → Ends job start new q
trailer_handed job start old new p q text all is none handed stands =
    let front = front_text job p.next in
    let whole : front ++ text ≡ output_of job = whole_output job p.next text all is in
    let was = while_going job start old p (HasFront job start old p) none stands in
    after_handed job start old new p q text (HasAll job start new q)
    (λ (more, took). (
      more ∙ ap (λ k. k + length text) was.1 ∙ sym (length-append front text) ∙ ap (λ t. length t) whole,
      (subst (Appends start.bytes new.bytes) whole (Appends-trans start.bytes old.bytes new.bytes front text was.2.0 took.0), took.1 ∙ was.2.1),
    ))
    (λ (k, few, more, failed).
    let all' : (front ++ text) ++ [] ≡ output_of job = append-nil _ ∙ whole in (
      subst (WroteFirst job start new) (sym (more ∙ ap (λ x. x + k) was.1)) (wrote_behind job start old new front text [] k all' few was.2.0 failed.0),
      failed.1 ∙ ap (λ x. x + 1) was.2.1,
    ))
    (λ (more, same, many). (subst (WroteFirst job start new) (sym (more ∙ was.1)) (wrote_front job start old new p.next was.2.0 same.0), same.1 ∙ was.2.1))
    handed

-- no sheet came yet
abbrev pub AreNone : List (Option TextsView) → Type 0
AreNone places = (k : ℕ) (m : TextsView) → slice_get places k ≡ Some (Some m) → ⊥

pub none_pushed : (places : List (Option TextsView)) → AreNone places → AreNone (places ++ None ∷ [])
none_pushed [] none zero m at = absurd (cc (at))
none_pushed [] none (suc k) m at = absurd (cc (at))
none_pushed (x ∷ places) none zero m at = none zero m at
none_pushed (x ∷ places) none (suc k) m at = none_pushed places (λ j t e. none (suc j) t e) k m at
