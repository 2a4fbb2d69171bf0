use Rattle.std.proofs.Common.{arith, map, take, sym, ap, ◌∙◌, subst}
use Rattle.sheet_plan.specs.OfSheets.{slot_of}
use Rattle.sheet_plan.specs.Store.{AreKept, slots_end, sheets_from}
use Rattle.sheet_plan.proofs.Stored.{still_after, named_after, put_after, grown_none, on_err}
use Rattle.sheet_plan.proofs.made.MadeSheets.push.Goals as goal

pub invariant_of-self : goal.invariant_of-self
invariant_of-self c =
    let s = still_after c.self.inside.placings.items c.keep_placing.new.placings.items c.keep_placing.new.placings.items c.self.inside.slots.items c.truncate.new.self.items c.truncate.new.self.items c.self.inside.sheets.items c.self.invariant.0 c.keep_placing.ensures.begins (c.truncate.ensures.items ∙ ap (λ n. take n c.self.inside.slots.items) (c.last_end-start.ensures ∙ ap (slots_end 0) c.as_slice.ensures.value)) (grown_none c.keep_placing.new.placings.items c.truncate.new.self.items) in
    (s.kept, c.self.invariant.1)

pub returns-in_err-paper-clause-unchanged : goal.returns-in_err-paper-clause-unchanged
returns-in_err-paper-clause-unchanged c =
    let s = still_after c.self.inside.placings.items c.keep_placing.new.placings.items c.keep_placing.new.placings.items c.self.inside.slots.items c.truncate.new.self.items c.truncate.new.self.items c.self.inside.sheets.items c.self.invariant.0 c.keep_placing.ensures.begins (c.truncate.ensures.items ∙ ap (λ n. take n c.self.inside.slots.items) (c.last_end-start.ensures ∙ ap (slots_end 0) c.as_slice.ensures.value)) (grown_none c.keep_placing.new.placings.items c.truncate.new.self.items) in
    on_err _ _ (s.same ∙ c.self.view_is)

pub keep_slots-requires : goal.keep_slots-requires
keep_slots-requires c =
    named_after c.self.inside.placings.items c.keep_placing.new.placings.items c.self.inside.slots.items c.truncate.new.self.items c.self.inside.sheets.items c.self.invariant.0 c.keep_placing.ensures.begins (c.truncate.ensures.items ∙ ap (λ n. take n c.self.inside.slots.items) (c.last_end-start.ensures ∙ ap (slots_end 0) c.as_slice.ensures.value))

pub invariant_of-self-in_err-keep_slots : goal.invariant_of-self-in_err-keep_slots
invariant_of-self-in_err-keep_slots c =
    let s = still_after c.self.inside.placings.items c.keep_placing.new.placings.items c.keep_slots.new.placings.items c.self.inside.slots.items c.truncate.new.self.items c.keep_slots.new.slots.items c.self.inside.sheets.items c.self.invariant.0 c.keep_placing.ensures.begins (c.truncate.ensures.items ∙ ap (λ n. take n c.self.inside.slots.items) (c.last_end-start.ensures ∙ ap (slots_end 0) c.as_slice.ensures.value)) c.keep_slots.ensures.grown in
    (s.kept, c.self.invariant.1)

pub returns-in_err-keep_slots-clause-unchanged : goal.returns-in_err-keep_slots-clause-unchanged
returns-in_err-keep_slots-clause-unchanged c =
    let s = still_after c.self.inside.placings.items c.keep_placing.new.placings.items c.keep_slots.new.placings.items c.self.inside.slots.items c.truncate.new.self.items c.keep_slots.new.slots.items c.self.inside.sheets.items c.self.invariant.0 c.keep_placing.ensures.begins (c.truncate.ensures.items ∙ ap (λ n. take n c.self.inside.slots.items) (c.last_end-start.ensures ∙ ap (slots_end 0) c.as_slice.ensures.value)) c.keep_slots.ensures.grown in
    on_err _ _ (s.same ∙ c.self.view_is)

pub invariant_of-self-in_err-end : goal.invariant_of-self-in_err-end
invariant_of-self-in_err-end c =
    let s = still_after c.self.inside.placings.items c.keep_placing.new.placings.items c.keep_slots.new.placings.items c.self.inside.slots.items c.truncate.new.self.items c.keep_slots.new.slots.items c.self.inside.sheets.items c.self.invariant.0 c.keep_placing.ensures.begins (c.truncate.ensures.items ∙ ap (λ n. take n c.self.inside.slots.items) (c.last_end-start.ensures ∙ ap (slots_end 0) c.as_slice.ensures.value)) c.keep_slots.ensures.grown in
    (s.kept, c.self.invariant.1)

pub returns-in_err-end-clause-unchanged : goal.returns-in_err-end-clause-unchanged
returns-in_err-end-clause-unchanged c =
    let s = still_after c.self.inside.placings.items c.keep_placing.new.placings.items c.keep_slots.new.placings.items c.self.inside.slots.items c.truncate.new.self.items c.keep_slots.new.slots.items c.self.inside.sheets.items c.self.invariant.0 c.keep_placing.ensures.begins (c.truncate.ensures.items ∙ ap (λ n. take n c.self.inside.slots.items) (c.last_end-start.ensures ∙ ap (slots_end 0) c.as_slice.ensures.value)) c.keep_slots.ensures.grown in
    on_err _ _ (s.same ∙ c.self.view_is)

pub invariant_of-self-in_err-push : goal.invariant_of-self-in_err-push
invariant_of-self-in_err-push c =
    let s = still_after c.self.inside.placings.items c.keep_placing.new.placings.items c.keep_slots.new.placings.items c.self.inside.slots.items c.truncate.new.self.items c.keep_slots.new.slots.items c.self.inside.sheets.items c.self.invariant.0 c.keep_placing.ensures.begins (c.truncate.ensures.items ∙ ap (λ n. take n c.self.inside.slots.items) (c.last_end-start.ensures ∙ ap (slots_end 0) c.as_slice.ensures.value)) c.keep_slots.ensures.grown in
    (subst (AreKept c.keep_slots.new.placings.items c.keep_slots.new.slots.items) (sym c.in_err-push.ensures.items) s.kept, c.self.invariant.1)

pub returns-in_err-push-clause-unchanged : goal.returns-in_err-push-clause-unchanged
returns-in_err-push-clause-unchanged c =
    let s = still_after c.self.inside.placings.items c.keep_placing.new.placings.items c.keep_slots.new.placings.items c.self.inside.slots.items c.truncate.new.self.items c.keep_slots.new.slots.items c.self.inside.sheets.items c.self.invariant.0 c.keep_placing.ensures.begins (c.truncate.ensures.items ∙ ap (λ n. take n c.self.inside.slots.items) (c.last_end-start.ensures ∙ ap (slots_end 0) c.as_slice.ensures.value)) c.keep_slots.ensures.grown in
    on_err _ _ (ap (sheets_from c.keep_slots.new.placings.items c.keep_slots.new.slots.items 0) c.in_err-push.ensures.items ∙ s.same ∙ c.self.view_is)

pub invariant_of-self-2 : goal.invariant_of-self-2
invariant_of-self-2 c =
    let put = put_after c.self.inside.placings.items c.keep_placing.new.placings.items c.keep_slots.new.placings.items c.self.inside.slots.items c.truncate.new.self.items c.keep_slots.new.slots.items c.self.inside.sheets.items c.push.new.self.items (record { end = c.in_ok-end.end; paper = c.in_ok-paper.paper }) (record { item = c.self.inside.nothing; paper = c.args.paper.now }) (map slot_of c.args.slots.now) c.args.self.now c.self.invariant.0 c.self.view_is c.keep_placing.ensures.begins (c.truncate.ensures.items ∙ ap (λ n. take n c.self.inside.slots.items) (c.last_end-start.ensures ∙ ap (slots_end 0) c.as_slice.ensures.value)) c.in_ok-paper.ensures.there c.keep_slots.ensures.grown (let e = c.in_ok-end.ensures in let l = c.len.ensures in omega arith) c.in_ok-keep_slots.ensures.added c.in_ok-push.ensures.items in
    (put.kept, c.self.invariant.1)

pub returns-clause-pushed : goal.returns-clause-pushed
returns-clause-pushed c =
    let put = put_after c.self.inside.placings.items c.keep_placing.new.placings.items c.keep_slots.new.placings.items c.self.inside.slots.items c.truncate.new.self.items c.keep_slots.new.slots.items c.self.inside.sheets.items c.push.new.self.items (record { end = c.in_ok-end.end; paper = c.in_ok-paper.paper }) (record { item = c.self.inside.nothing; paper = c.args.paper.now }) (map slot_of c.args.slots.now) c.args.self.now c.self.invariant.0 c.self.view_is c.keep_placing.ensures.begins (c.truncate.ensures.items ∙ ap (λ n. take n c.self.inside.slots.items) (c.last_end-start.ensures ∙ ap (slots_end 0) c.as_slice.ensures.value)) c.in_ok-paper.ensures.there c.keep_slots.ensures.grown (let e = c.in_ok-end.ensures in let l = c.len.ensures in omega arith) c.in_ok-keep_slots.ensures.added c.in_ok-push.ensures.items in
    put.view
