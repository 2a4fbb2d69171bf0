-- The texts of a batch, by the channel's rule and by the job.
use Rattle.std.proofs.Common.{◌≡◌, ℕ, List, [], ◌∷◌, ◌++◌, sym, ap, subst, ◌∙◌}
use Rattle.std.proofs.lemmas.List.Elements.{All-nil, All-push, All-weaker}
use Rattle.sheet_text.specs.Jobs.{JobView, text_of}
use Rattle.sheet_text.specs.Texts.{TextsView}
use Rattle.sheet_writer.specs.Writing.{HaveTexts}

-- no sheet and no text
pub have_none : (text : ℕ → List ℕ) (m : TextsView) → m ≡ [] → HaveTexts text m
have_none text m none = subst (λ ts. HaveTexts text ts) (sym none) (All-nil (λ (t : ℕ × List ℕ). t.1 ≡ text t.0))

-- one sheet more, with the text that the job has for it
pub have_pushed : (text : ℕ → List ℕ) (job ruled : JobView) (old new : TextsView) (sheet : ℕ) (own : List ℕ) → ruled ≡ job
    → ((s : ℕ) → text s ≡ text_of ruled s) → new ≡ old ++ (sheet, own) ∷ [] → own ≡ text_of job sheet → HaveTexts text old → HaveTexts text new
have_pushed text job ruled old new sheet own same texts pushed is have =
    let ruled_text : own ≡ text sheet = is ∙ ap (λ (j : JobView). text_of j sheet) (sym same) ∙ sym (texts sheet) in
    subst (λ ts. HaveTexts text ts) (sym pushed) (All-push (λ (t : ℕ × List ℕ). t.1 ≡ text t.0) old (sheet, own) have ruled_text)

-- texts by the rule are those of the job
pub have_of_job : (text : ℕ → List ℕ) (job ruled : JobView) (m : TextsView) → ruled ≡ job
    → ((s : ℕ) → text s ≡ text_of ruled s) → HaveTexts text m → HaveTexts (text_of job) m
have_of_job text job ruled m same texts have =
    All-weaker (λ (t : ℕ × List ℕ). t.1 ≡ text t.0) (λ t. t.1 ≡ text_of job t.0) (λ t is. is ∙ texts t.0 ∙ ap (λ (j : JobView). text_of j t.0) same) m have
