use Rattle.std.proofs.Common.{arith, sym, ◌∙◌, ◌≤◌, length}
use Rattle.rules.specs.Run.{most_pages}
use Rattle.dsc.proofs.Reading.{Opens, many_read, none_read, good_read, some_of, none_of}
use Rattle.dsc.proofs.document.Document.read.Goals as goal

pub returns-then-len-gt-MOST_PAGES-clause-answer : goal.returns-then-len-gt-MOST_PAGES-clause-answer
returns-then-len-gt-MOST_PAGES-clause-answer c =
    let opens : Opens c.args.text.now = (c.if-text-gt-MOST_BYTES.false, sym c.starts_with.ensures.value ∙ c.if-not-starts_with.false) in
    many_read 1_000_001 c.args.text.now c.in_ok-seen.seen.starts.items c.in_ok-seen.seen.stop opens (omega arith) c.in_ok-seen.ensures.marks (omega (arith, c.if-len-gt-MOST_PAGES.true, c.len.ensures, c.in_ok-seen.seen.starts.ok.0))

pub returns-then-is_empty-clause-answer : goal.returns-then-is_empty-clause-answer
returns-then-is_empty-clause-answer c =
    let opens : Opens c.args.text.now = (c.if-text-gt-MOST_BYTES.false, sym c.starts_with.ensures.value ∙ c.if-not-starts_with.false) in
    let none = none_of _ (sym c.is_empty.ensures ∙ c.if-is_empty.true) in
    none_read 1_000_001 c.args.text.now c.in_ok-seen.seen.starts.items c.in_ok-seen.seen.stop opens (omega arith) c.in_ok-seen.ensures.marks (omega (arith, none, c.in_ok-seen.seen.starts.ok.0))

pub invariant_of-result : goal.invariant_of-result
invariant_of-result c =
    let opens : Opens c.args.text.now = (c.if-text-gt-MOST_BYTES.false, sym c.starts_with.ensures.value ∙ c.if-not-starts_with.false) in
    let some = some_of _ (sym c.is_empty.ensures ∙ c.if-is_empty.false) in
    let few : length c.in_ok-seen.seen.starts.items ≤ most_pages = omega (arith, c.if-len-gt-MOST_PAGES.false, c.len.ensures, c.in_ok-seen.seen.starts.ok.0) in
    let w = good_read 1_000_001 c.args.text.now c.in_ok-seen.seen.starts.items c.in_ok-seen.seen.stop opens (omega arith) c.in_ok-seen.ensures.marks (omega (arith, some, c.in_ok-seen.seen.starts.ok.0)) few in
    record { accepted = w.0; is_cut = w.1; starts_are = w.2; some = omega (arith, some, c.in_ok-seen.seen.starts.ok.0); few = few; stop_is = c.stop_or-stop.ensures ∙ w.3; bodies_are = c.in_ok-seen.ensures.bodies (omega (arith, few)) }

pub returns-clause-answer : goal.returns-clause-answer
returns-clause-answer c =
    let opens : Opens c.args.text.now = (c.if-text-gt-MOST_BYTES.false, sym c.starts_with.ensures.value ∙ c.if-not-starts_with.false) in
    let some = some_of _ (sym c.is_empty.ensures ∙ c.if-is_empty.false) in
    let few : length c.in_ok-seen.seen.starts.items ≤ most_pages = omega (arith, c.if-len-gt-MOST_PAGES.false, c.len.ensures, c.in_ok-seen.seen.starts.ok.0) in
    let w = good_read 1_000_001 c.args.text.now c.in_ok-seen.seen.starts.items c.in_ok-seen.seen.stop opens (omega arith) c.in_ok-seen.ensures.marks (omega (arith, some, c.in_ok-seen.seen.starts.ok.0)) few in
    w.0
