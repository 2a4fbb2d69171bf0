use Rattle.std.proofs.Common.{◌+◌, ◌-◌, ◌^◌, ap, arith, length}
use Rattle.rules.specs.Parts.{pages}
use Rattle.rules.specs.Sheets.{Plan}
use Rattle.imposer.specs.Windows.{text_bytes}
use Rattle.imposer.proofs.TextBytes.{none, length_read, read_off, pages_next, pages_all, texts_next, texts_all}
use Rattle.imposer.proofs.window.bytes_of_pages.Goals as goal

pub loop-page-init : goal.loop-page-init
loop-page-init c = record { together = none (2 ^ 64 - 1); texts = none (2 ^ 64 - 1) }

pub loop-page-preserved : goal.loop-page-preserved
loop-page-preserved c =
    let job = c.args.job.now in
    let page = c.loop-page.page in
    let units = c.document.result.now in
    let same = ap (λ (plan : Plan). plan.pages) c.plan.ensures.value in
    record {
      together = pages_next _ (pages job.units) page (length c.page-bytes.result.now) c.loop-page.of_pages c.saturating_add-of_pages.result
          (omega (arith, c.loop-page-test.true, c.pages-page-end.ensures.value, same, c.plan.ensures.same_pages))
          (length_read job page units c.page-bytes.result.now c.document.ensures c.page-bytes.ensures.page)
          c.loop-page.invariant.together c.saturating_add-of_pages.ensures;
      texts = texts_next _ (text_bytes job) page (length c.page-bytes.result.now + 256) (length c.slots_of_page-slots.result.now)
          c.loop-page.of_slots c.saturating_add-placed.result c.saturating_mul.result c.saturating_add-of_slots.result
          (read_off job page units c.plan-in-loop-page.result.now c.page-bytes.result.now c.slots_of_page-slots.result.now
          c.document.ensures c.plan-in-loop-page.ensures.value c.page-bytes.ensures.page c.slots_of_page-slots.ensures.value)
          c.loop-page.invariant.texts c.saturating_add-placed.ensures c.saturating_mul.ensures c.saturating_add-of_slots.ensures;
    }

pub returns-clause-pages : goal.returns-clause-pages
returns-clause-pages c =
    let same = ap (λ (plan : Plan). plan.pages) c.plan.ensures.value in
    pages_all _ (pages c.args.job.now.units) c.loop-page.page c.loop-page.of_pages
    (omega (arith, c.loop-page-test.false, c.loop-page.auto.page-end, c.pages-page-end.ensures.value, same, c.plan.ensures.same_pages))
    c.loop-page.invariant.together

pub returns-clause-texts : goal.returns-clause-texts
returns-clause-texts c =
    let same = ap (λ (plan : Plan). plan.pages) c.plan.ensures.value in
    texts_all _ c.args.job.now c.loop-page.page c.loop-page.of_slots
    (omega (arith, c.loop-page-test.false, c.loop-page.auto.page-end, c.pages-page-end.ensures.value, same, c.plan.ensures.same_pages))
    c.loop-page.invariant.texts
