use Rattle.std.proofs.Common.{rules, arith, ◌≡◌, ◌<◌, length, drop, ap, sym, ◌∙◌, true, false}
use Rattle.rules.specs.Units.{content_of, line_len}
use Rattle.dsc.specs.Header.{stays, is_last, header_run}
use Rattle.dsc.proofs.HeaderRun.{run_none, run_last, run_more}
use Rattle.dsc.proofs.header.header_run.Goals as goal

pub returns-then-not-stays-clause-value : goal.returns-then-not-stays-clause-value
returns-then-not-stays-clause-value c =
    let not_one : stays (content_of c.loop-rest.rest.now) ≡ false = ap stays (sym c.first_content-content.ensures) ∙ sym c.stays.ensures ∙ c.if-not-stays.true in
    let e = run_none c.loop-rest.rest.now not_one in
    let so_far = c.loop-rest.invariant.so_far in
    omega (arith, e, so_far)

pub returns-then-is_last-clause-value : goal.returns-then-is_last-clause-value
returns-then-is_last-clause-value c =
    let some : 0 < length c.loop-rest.rest.now = search rules in
    let one : stays (content_of c.loop-rest.rest.now) ≡ true = ap stays (sym c.first_content-content.ensures) ∙ sym c.stays.ensures ∙ c.if-not-stays.false in
    let last : is_last (content_of c.loop-rest.rest.now) ≡ true = ap (is_last) (sym c.first_content-content.ensures) ∙ sym c.is_last.ensures ∙ c.if-is_last.true in
    let e = run_last c.loop-rest.rest.now some one last in
    let so_far = c.loop-rest.invariant.so_far in
    let size = c.first_len-len.ensures.value in
    omega (arith, e, so_far, size)

pub loop-rest-preserved : goal.loop-rest-preserved
loop-rest-preserved c =
    let some : 0 < length c.loop-rest.rest.now = search rules in
    let one : stays (content_of c.loop-rest.rest.now) ≡ true = ap stays (sym c.first_content-content.ensures) ∙ sym c.stays.ensures ∙ c.if-not-stays.false in
    let last : is_last (content_of c.loop-rest.rest.now) ≡ false = ap (is_last) (sym c.first_content-content.ensures) ∙ sym c.is_last.ensures ∙ c.if-is_last.false in
    let e = run_more c.loop-rest.rest.now some one last in
    let so_far = c.loop-rest.invariant.so_far in
    let placed = c.loop-rest.invariant.placed in
    let size = c.first_len-len.ensures.value in
    let fits = c.first_len-len.ensures.within in
    let left = c.split_at.ensures.back_len in
    let rest : header_run c.split_at.result.1.now ≡ header_run (drop (line_len c.loop-rest.rest.now) c.loop-rest.rest.now) = ap header_run (c.split_at.ensures.back ∙ ap (λ k. drop k c.loop-rest.rest.now) size) in
    record { placed = omega (arith, placed, left, fits); so_far = omega (arith, e, so_far, size, rest) }
