use Rattle.std.proofs.Common.{rules, ap, ◌∙◌, ◌++◌, ◌∷◌, []}
use Rattle.sheet_text.proofs.TextsBehind.{pushed_in, pushed_behind}
use Rattle.sheet_text.proofs.texts.Texts.push.Goals as goal

pub invariant_of-self-2 : goal.invariant_of-self-2
invariant_of-self-2 c =
    pushed_in _ _ _ _ _ _ (c.in_ok-extend_from_slice.ensures.items ∙ ap (λ x. c.self.inside.own.items ++ x) c.as_slice.ensures.value) (c.push_reserved.ensures.items ∙ ap (λ ps. ps ++ record { sheet = c.args.sheet; start = c.len-start.result; end = c.len.result; slices = c.replace-slices.result } ∷ []) c.in_ok-reserve.ensures.items) (c.len-start.ensures ∙ search rules) (c.len.ensures ∙ search rules) (ap (λ v. v.items) c.replace-slices.ensures.value) c.self.invariant c.text.invariant

pub returns-clause-pushed : goal.returns-clause-pushed
returns-clause-pushed c =
    pushed_behind _ _ _ _ _ _ (c.in_ok-extend_from_slice.ensures.items ∙ ap (λ x. c.self.inside.own.items ++ x) c.as_slice.ensures.value) (c.push_reserved.ensures.items ∙ ap (λ ps. ps ++ record { sheet = c.args.sheet; start = c.len-start.result; end = c.len.result; slices = c.replace-slices.result } ∷ []) c.in_ok-reserve.ensures.items) (c.len-start.ensures ∙ search rules) (c.len.ensures ∙ search rules) (ap (λ v. v.items) c.replace-slices.ensures.value) c.self.invariant c.self.view_is c.text.view_is
