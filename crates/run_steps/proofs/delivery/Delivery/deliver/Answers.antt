use Rattle.std.proofs.Common.{◌≡◌, [], ◌∷◌, length, refl, subst, sym, ap, ◌∙◌, arith}
use Rattle.rules.specs.Sheets.{Layout}
use Rattle.sheet_plan.specs.Places.{places_of}
use Rattle.gather_table.specs.History.{Publish}
use Rattle.handover.specs.Shelves.{GivesNoReceipt}
use Rattle.run_steps.specs.Delivery.{HandedOn, completed, place_calls}
use Rattle.run_steps.proofs.HandingOn.{none_handed_back}
use Rattle.run_steps.proofs.Marks.{delivered, still_seat}
use Rattle.run_steps.proofs.Shares.{places_complete}
use Rattle.run_steps.proofs.PlacesOf.{ready_published}
use Rattle.run_steps.proofs.delivery.Delivery.deliver.Goals as goal

pub mark_places-requires-clause-places : goal.mark_places-requires-clause-places
mark_places-requires-clause-places g c =
    let page = c.page-page.result in
    ready_published c.args.self.now.table.now.layout c.args.seat.now c.publish-published.new.seat page _
    c.publish-published.result c.slots_of_page-places.result.now c.requires.seat.1 c.publish-published.ensures
    (c.slots_of_page-places.ensures.value ∙ ap (λ (l : Layout). places_of l page) (sym c.args.self.now.same_plan))

pub returns-clause-seat : goal.returns-clause-seat
returns-clause-seat g c =
    let marked = c.mark_places in
    still_seat c.args.self.now.table.now c.args.seat.now marked.new.seat
    (Publish _ _ _
    ∷ place_calls c.slots_of_page-places.result.now marked.new.answers.replies.items marked.new.answers.closings.items)
    c.requires.seat (c.publish-published.new.seat, c.publish-published.ensures, marked.ensures.called)

pub returns-clause-by_right : goal.returns-clause-by_right
returns-clause-by_right g c = λ enough.
    let layout = c.args.self.now.table.now.layout in
    let places = c.slots_of_page-places.result.now in
    let marked = c.mark_places in
    let few = places_complete places marked.new.answers.replies.items marked.new.answers.closings.items in
    let same : length places ≡ length (places_of layout c.args.prepared.page) =
    ap length (c.slots_of_page-places.ensures.value ∙ ap (λ (l : Layout). places_of l c.page-page.result) (sym c.args.self.now.same_plan))
    ∙ ap (λ p. length (places_of layout p)) c.page-page.ensures in
    (none_handed_back c.args.self.now.ready.now _ marked.new.answers.handed_back.items c.args.pass.now marked.new.pass
    marked.ensures.handed_on (omega (arith, enough, few, same))).0

pub mark_places-requires-clause-seat : goal.mark_places-requires-clause-seat
mark_places-requires-clause-seat g c =
    still_seat c.args.self.now.table.now c.args.seat.now c.publish-published.new.seat (Publish _ _ _ ∷ []) c.requires.seat (c.publish-published.new.seat, c.publish-published.ensures, refl)

pub returns-clause-called : goal.returns-clause-called
returns-clause-called g c =
    let layout = c.args.self.now.table.now.layout in
    let places = c.slots_of_page-places.ensures.value ∙ ap (λ (l : Layout). places_of l c.page-page.result) (sym c.args.self.now.same_plan) ∙ ap (places_of layout) c.page-page.ensures in
    delivered layout _ _ _ _ _ _ _ _ _ _ _ c.page-page.ensures c.index.ensures places c.publish-published.ensures c.mark_places.ensures.called

pub returns-clause-answered : goal.returns-clause-answered
returns-clause-answered g c =
    let layout = c.args.self.now.table.now.layout in
    let places = c.slots_of_page-places.ensures.value ∙ ap (λ (l : Layout). places_of l c.page-page.result) (sym c.args.self.now.same_plan) ∙ ap (places_of layout) c.page-page.ensures in
    record { marks = c.mark_places.ensures.replies ∙ ap length places; closes = c.mark_places.ensures.closings }

pub returns-clause-handed_on : goal.returns-clause-handed_on
returns-clause-handed_on g c =
    let layout = c.args.self.now.table.now.layout in
    let places = c.slots_of_page-places.ensures.value ∙ ap (λ (l : Layout). places_of l c.page-page.result) (sym c.args.self.now.same_plan) ∙ ap (places_of layout) c.page-page.ensures in
    subst (λ xs. HandedOn c.args.self.now.ready.now (completed (place_calls xs c.mark_places.new.answers.replies.items c.mark_places.new.answers.closings.items)) c.mark_places.new.answers.handed_back.items c.args.pass.now c.mark_places.new.pass) places
    c.mark_places.ensures.handed_on

pub returns-clause-pass : goal.returns-clause-pass
returns-clause-pass g c = c.mark_places.ensures.pass

pub returns-clause-receipt : goal.returns-clause-receipt
returns-clause-receipt g c = c.in-Ok-put_as.ensures.put

pub returns-in-NoMemory-clause-refused : goal.returns-in-NoMemory-clause-refused
returns-in-NoMemory-clause-refused g c = subst (GivesNoReceipt c.args.self.now.shelf.now c.args.prepared) c.in-NoMemory.is c.in-Err.ensures.refused

pub returns-in-ShelfFull-clause-refused : goal.returns-in-ShelfFull-clause-refused
returns-in-ShelfFull-clause-refused g c = subst (GivesNoReceipt c.args.self.now.shelf.now c.args.prepared) c.in-ShelfFull.is c.in-Err.ensures.refused
