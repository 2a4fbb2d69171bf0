use Rattle.std.specs.Prelude.{Ok}
use Rattle.std.proofs.Common.{refl, ap, sym, subst, ◌∙◌, []}
use Rattle.dsc.specs.Laws.{HasBody}
use Rattle.dsc.proofs.Slices.{page_at}
use Rattle.dsc.proofs.Reading.{pages_bodied}
use Rattle.dsc.proofs.document.Document.page.Goals as goal

pub entry-requires : goal.entry-requires
entry-requires c = (page_at c.self.inside.text.now _ c.as_slice-starts.result.now _ c.args.p _ _ _ c.self.invariant c.self.view_is c.requires c.as_slice-starts.ensures.value refl refl).0

pub next_or-requires : goal.next_or-requires
next_or-requires c = (page_at c.self.inside.text.now _ c.as_slice-starts.result.now _ c.args.p _ _ _ c.self.invariant c.self.view_is c.requires c.as_slice-starts.ensures.value refl refl).0

pub text_part-requires : goal.text_part-requires
text_part-requires c =
    let found = page_at c.self.inside.text.now _ c.as_slice-starts.result.now _ c.args.p c.entry.result c.next_or.result _ c.self.invariant c.self.view_is c.requires c.as_slice-starts.ensures.value c.entry.ensures c.next_or.ensures in
    record { order = found.1; within = found.2 }

pub returns-clause-page : goal.returns-clause-page
returns-clause-page c =
    c.text_part.ensures
    ∙ (page_at c.self.inside.text.now _ c.as_slice-starts.result.now _ c.args.p c.entry.result c.next_or.result _ c.self.invariant c.self.view_is c.requires c.as_slice-starts.ensures.value c.entry.ensures c.next_or.ensures).3

pub returns-clause-has_a_body : goal.returns-clause-has_a_body
returns-clause-has_a_body c =
    let found = page_at c.self.inside.text.now _ c.as_slice-starts.result.now _ c.args.p c.entry.result c.next_or.result _ c.self.invariant c.self.view_is c.requires c.as_slice-starts.ensures.value c.entry.ensures c.next_or.ensures in
    subst HasBody (sym (c.text_part.ensures ∙ found.3)) (pages_bodied c.self.inside.text.now _ (c.self.invariant.accepted ∙ ap Ok c.self.view_is) c.args.p [] c.requires)
