use Rattle.std.proofs.Common.{arith, ◌≡◌, length, refl, sym, ap, ◌∙◌, subst}
use Rattle.rules.specs.Sheets.{Layout, layout as layout_of}
use Rattle.gather_table.specs.Counts.{KeepsCounts}
use Rattle.gather_table.specs.History.{IsLegal}
use Rattle.gather_table.proofs.Placing.{opens}
use Rattle.gather_table.proofs.Blanks.{sound_of}
use Rattle.rules.proofs.SeatViews.{stands_open, view_opens}
use Rattle.gather_table.proofs.table.GatherTable.new.Goals as goal

pub of_words-requires : goal.of_words-requires
of_words-requires c = rw c.as_slice-2.ensures.value (opens (layout_of c.args.plan.now) c.in_ok-words.words.items c.in_ok-words.ensures.start)

pub invariant_of-result : goal.invariant_of-result
invariant_of-result c = (c.in_ok-table.ensures.1, tt)

pub invariant_of-result-2 : goal.invariant_of-result-2
invariant_of-result-2 c =
    let h = c.in_ok-table.ensures in
    let same : layout_of c.in_ok-table.table.shared.key ≡ layout_of c.args.plan.now = ap layout_of h.5 in
    let words = h.0 ∙ ap length c.as_slice-2.ensures.value in
    subst (λ (p : Layout). KeepsCounts p c.in_ok-table.table.shared.table_id.words c.pages-pages.result c.in_ok-homes.homes.items) (sym same)
    (record {
      sound = sound_of c.args.plan.now c.pages-pages.ensures.sound;
      pages = c.pages-pages.ensures.value;
      words_are = let as_many = c.in_ok-words.ensures.count in let all = c.in_ok-homes.ensures.words in omega arith;
      count = c.in_ok-homes.ensures.homes.count;
      homes_are = c.in_ok-homes.ensures.homes.each;
    })

pub invariant_of-result-3 : goal.invariant_of-result-3
invariant_of-result-3 c = let h = c.in_ok-table.ensures in (ap (λ p. p.1) h.4, stands_open IsLegal _ (layout_of c.args.plan.now) 4294967296 tt (ap (λ p. p.0) h.4) refl)

pub returns-clause-seat : goal.returns-clause-seat
returns-clause-seat c = let h = c.in_ok-table.ensures in view_opens _ _ _ (layout_of c.args.plan.now) _ h.2 (ap (λ p. p.0) h.4) (sym (ap layout_of h.5))
