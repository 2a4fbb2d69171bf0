use Rattle.std.proofs.Common.{arith, length, sym, ap, ◌∙◌, ◌≡◌, ◌<◌, subst}
use Rattle.std.specs.declared.vec.Vec.{Vec}
use Rattle.std.specs.declared.alloc.Global.{Global}
use Rattle.std.proofs.lemmas.Option.{slice_get_within}
use Rattle.sheet_plan.specs.declared.made.KeptSlot.{KeptSlot}
use Rattle.sheet_plan.specs.declared.made.Placing.{Placing}
use Rattle.sheet_plan.specs.OfSheets.{slot_of}
use Rattle.sheet_plan.specs.Store.{Begins, IsGrown, slot_kept}
use Rattle.sheet_plan.proofs.Stored.{begins_same, begins_self, grown_both, grown_placings, added_slot, number_kept}
use Rattle.sheet_plan.proofs.made.keep_slot.Goals as goal
use Rattle.sheet_plan.proofs.made.keep_slot.Goals.{in-Blank, in-Placed+in_ok-place-in-Placed+in_ok-count_in_u32-in-Placed}

pub returns-clause-grown : goal.returns-clause-grown
returns-clause-grown c =
    elim c.match-made.branch [
      | in-Blank w ↦
          let q = ap (λ (v : Vec Placing Global). v.items) w.placings-is in
          let n = ap (λ (k : KeptSlot). k.placing) w.kept-is in
          grown_both _ _ _ _ c.match-made.kept (subst (Begins c.args.placings.now.items) (sym q) (begins_self c.args.placings.now.items)) c.in_ok-push.ensures.items (omega arith)
      | in-Placed+in_ok-place-in-Placed+in_ok-count_in_u32-in-Placed w ↦
          let q = ap (λ (v : Vec Placing Global). v.items) w.placings-is in
          let long : length c.match-made.placings.items ≡ length w.keep_placing.new.placings.items = ap length q in
          let n = ap (λ (k : KeptSlot). k.placing) w.kept-is in
          let e = w.in_ok-count_in_u32-in-Placed.ensures in
          let lt : w.in_ok-place-in-Placed.place < length w.keep_placing.new.placings.items = slice_get_within w.keep_placing.new.placings.items w.in_ok-place-in-Placed.place _ w.in_ok-place-in-Placed.ensures.there in
          grown_both _ _ _ _ c.match-made.kept (subst (Begins c.args.placings.now.items) (sym q) w.keep_placing.ensures.begins) c.in_ok-push.ensures.items (omega (arith, long, n, e, lt))
    ]

pub returns-clause-added : goal.returns-clause-added
returns-clause-added c =
    elim c.match-made.branch [
      | in-Blank w ↦
          added_slot _ _ _ c.match-made.kept _ c.in_ok-push.ensures.items (ap (slot_kept c.match-made.placings.items) w.kept-is ∙ ap slot_of (sym w.in-Blank.is))
      | in-Placed+in_ok-place-in-Placed+in_ok-count_in_u32-in-Placed w ↦
          let q = ap (λ (v : Vec Placing Global). v.items) w.placings-is in
          added_slot _ _ _ c.match-made.kept _ c.in_ok-push.ensures.items
          (ap (slot_kept c.match-made.placings.items) w.kept-is
          ∙ ap (λ ps. slot_kept ps (record { page = w.in-Placed.page; placing = w.in_ok-count_in_u32-in-Placed.field-0 })) q
          ∙ number_kept _ _ _ _ _ w.in_ok-count_in_u32-in-Placed.ensures.value w.in_ok-place-in-Placed.ensures.there
          ∙ ap slot_of (sym w.in-Placed.is))
    ]

pub returns-in_err-place-in-Placed-clause-grown : goal.returns-in_err-place-in-Placed-clause-grown
returns-in_err-place-in-Placed-clause-grown c = grown_placings _ _ _ c.keep_placing.ensures.begins

pub returns-in_err-count_in_u32-in-Placed-clause-grown : goal.returns-in_err-count_in_u32-in-Placed-clause-grown
returns-in_err-count_in_u32-in-Placed-clause-grown c = grown_placings _ _ _ c.keep_placing.ensures.begins

pub returns-in_err-push-clause-grown : goal.returns-in_err-push-clause-grown
returns-in_err-push-clause-grown c =
    subst (IsGrown c.args.placings.now.items c.match-made.placings.items c.args.slots.now.items) (sym c.in_err-push.ensures.items) (
    elim c.match-made.branch [
      | in-Blank w ↦ grown_placings _ _ _ (begins_same _ _ (ap (λ (v : Vec Placing Global). v.items) w.placings-is))
      | in-Placed+in_ok-place-in-Placed+in_ok-count_in_u32-in-Placed w ↦
          grown_placings _ _ _ (subst (Begins c.args.placings.now.items) (sym (ap (λ (v : Vec Placing Global). v.items) w.placings-is)) w.keep_placing.ensures.begins)
    ])
