use Rattle.std.proofs.Common.{◌≡◌, ℕ, List, sym, subst}
use Rattle.std.proofs.lemmas.List.Elements.{All-push}
use Rattle.sheet_text.specs.Jobs.{text_of}
use Rattle.sheet_writer.specs.Writing.{HaveTexts}
use Rattle.test_runs.proofs.tests.groups.finish.Goals as goal

pub returns : goal.returns
returns g c =
    subst (λ ts. HaveTexts (text_of c.args.job.now) ts) (sym (rw c.done.ensures at c.push.ensures.pushed))
    (All-push (λ (t : ℕ × List ℕ). t.1 ≡ text_of c.args.job.now t.0) _ _ c.requires.texts c.text_with-text.ensures)
