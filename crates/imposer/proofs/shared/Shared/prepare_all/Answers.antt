use Rattle.std.proofs.Common.{rules, arith, ◌+◌, ◌<◌, ◌≤◌, ◌∙◌, min, ap, sym, subst}
use Rattle.rules.specs.Sheets.{Layout, Plan}
use Rattle.imposer.specs.Promises.{HasPrepared}
use Rattle.imposer.proofs.ByRight.{room_for_page, unused_puts_all}
use Rattle.imposer.proofs.Held.{unused_done}
use Rattle.imposer.proofs.OwnPages.{done_all, done_next, none_before, own_first, own_next, room_first, room_here, room_next}
use Rattle.imposer.proofs.shared.Shared.prepare_all.Goals as goal
use Rattle.imposer.proofs.shared.Shared.prepare_all.Goals.{else-loop-page-test, then-loop-page-test+in_ok-prepare_page+else-page-step-pages}

pub loop-page-init : goal.loop-page-init
loop-page-init g c =
    let layout = c.args.self.now.objects.table.now.layout in
    let below = c.requires.number in
    record {
      own = own_first c.args.count c.args.number below;
      held = search rules;
      done = λ none h.
          unused_done h c.args.held.now.tokens c.requires.held.new.unused
          ∙ sym (none_before h layout c.args.count c.args.number (min c.args.number layout.pages) (omega (arith, below)) (omega arith));
      put = search rules;
      by_right = λ yes. (
        room_first layout c.args.count c.args.number c.args.held.now.tokens below (c.requires.held.room yes),
        unused_puts_all c.args.held.now.tokens c.requires.held.new.unused,
      );
    }

pub loop-page-preserved : goal.loop-page-preserved
loop-page-preserved g c =
    let layout = c.args.self.now.objects.table.now.layout in
    let some : 0 < c.args.count = omega (arith, c.requires.number) in
    let own = c.loop-page.invariant.own in
    let within : c.loop-page.page < layout.pages = subst (λ (l : Layout). c.loop-page.page < l.pages) (sym c.args.self.now.objects.same_plan) (omega (arith, c.pages-pages.ensures.value, ap (λ (plan : Plan). plan.pages) c.plan.ensures.value)) in
    record {
      own = own_next c.args.count c.args.number c.loop-page.page some own;
      held = c.in_ok-prepare_page.ensures.held;
      done = λ none h.
          let step = c.in_ok-prepare_page.ensures.done none in
          done_next h layout c.args.count c.args.number c.loop-page.page layout.pages _ _ some own within (c.loop-page.invariant.done step.0 h) (step.1 h);
      put = c.in_ok-prepare_page.ensures.put c.loop-page.invariant.put;
      by_right = λ yes.
          let was = c.loop-page.invariant.by_right yes in
          let here = room_here layout c.args.count c.args.number c.loop-page.page c.loop-page.held.tokens within was.0 in
          let puts = c.in_ok-prepare_page.ensures.by_right (room_for_page layout c.args.count c.args.number c.loop-page.page c.loop-page.held.tokens within own here) in
          (room_next layout c.args.count c.args.number c.loop-page.page _ _ some own within was.0 puts, puts.all was.1);
    }

pub returns-clause-prepared : goal.returns-clause-prepared
returns-clause-prepared g c =
    let layout = c.args.self.now.objects.table.now.layout in
    let some : 0 < c.args.count = omega (arith, c.requires.number) in
    let own = c.loop-page.invariant.own in
    let pages = c.pages-pages.ensures.value in
    let planned = ap (λ (plan : Plan). plan.pages) c.plan.ensures.value in
    elim c.loop-page-test.branch [
      | else-loop-page-test w ↦
          let last : layout.pages ≤ c.loop-page.page =
          subst (λ (l : Layout). l.pages ≤ c.loop-page.page) (sym c.args.self.now.objects.same_plan) (omega (arith, pages, planned)) in
          subst (HasPrepared c.args.self.now c.args.count c.args.number) (sym w.held-is) (record {
            work = λ none h. done_all h layout c.args.count c.args.number c.loop-page.page layout.pages _ last (c.loop-page.invariant.done none h);
            order = c.loop-page.invariant.put;
            puts = λ yes. (c.loop-page.invariant.by_right yes).1;
          })
      | then-loop-page-test+in_ok-prepare_page+else-page-step-pages w ↦
          let within : c.loop-page.page < layout.pages =
          subst (λ (l : Layout). c.loop-page.page < l.pages) (sym c.args.self.now.objects.same_plan) (omega (arith, pages, planned)) in
          let last : layout.pages ≤ c.loop-page.page + c.args.count =
          subst (λ (l : Layout). l.pages ≤ c.loop-page.page + c.args.count) (sym c.args.self.now.objects.same_plan) (omega (arith, pages, planned)) in
          subst (HasPrepared c.args.self.now c.args.count c.args.number) (sym w.held-is) (record {
            work = λ none h.
                let step = w.in_ok-prepare_page.ensures.done none in
                done_all h layout c.args.count c.args.number (c.loop-page.page + c.args.count) layout.pages _ last
                (done_next h layout c.args.count c.args.number c.loop-page.page layout.pages _ _ some own within (c.loop-page.invariant.done step.0 h) (step.1 h));
            order = w.in_ok-prepare_page.ensures.put c.loop-page.invariant.put;
            puts = λ yes.
                let was = c.loop-page.invariant.by_right yes in
                let here = room_here layout c.args.count c.args.number c.loop-page.page c.loop-page.held.tokens within was.0 in
                (w.in_ok-prepare_page.ensures.by_right (room_for_page layout c.args.count c.args.number c.loop-page.page c.loop-page.held.tokens within own here)).all was.1;
          })
    ]
