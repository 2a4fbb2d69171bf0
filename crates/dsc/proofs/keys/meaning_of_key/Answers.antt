use Rattle.std.specs.Prelude.{codes}
use Rattle.std.specs.Str.{bytes_eq}
use Rattle.std.proofs.Common.{◌≡◌, ◌∙◌, true, ap, refl, sym}
use Rattle.rules.specs.Units.{key}
use Rattle.dsc.proofs.Letters.{begins_neither, deepens}
use Rattle.dsc.proofs.keys.meaning_of_key.Goals as goal

pub returns-then-eq : goal.returns-then-eq
returns-then-eq c =
    let is : bytes_eq (key c.args.content.now) (codes "%%BeginDocument") ≡ true =
    sym (c.if-eq.ensures ∙ ap (bytes_eq c.key_of-key.result.now) c.as_slice.ensures ∙ ap (λ k. bytes_eq k (codes "%%BeginDocument")) c.key_of-key.ensures) in
    let neither = begins_neither c.args.content.now (codes "%%BeginDocument") c.args.depth c.requires.no_page is refl in
    record { page = neither.0; trailer = neither.1; depth = deepens c.args.content.now c.args.depth is }

pub returns-then-eq-2-clause-page : goal.returns-then-eq-2-clause-page
returns-then-eq-2-clause-page c =
    let is : bytes_eq (key c.args.content.now) (codes "%%EndDocument") ≡ true =
    sym (c.if-eq-2.ensures ∙ ap (bytes_eq c.key_of-key.result.now) c.as_slice-else-eq.ensures ∙ ap (λ k. bytes_eq k (codes "%%EndDocument")) c.key_of-key.ensures) in
    (begins_neither c.args.content.now (codes "%%EndDocument") c.args.depth c.requires.no_page is refl).0

pub returns-then-eq-2-clause-trailer : goal.returns-then-eq-2-clause-trailer
returns-then-eq-2-clause-trailer c =
    let is : bytes_eq (key c.args.content.now) (codes "%%EndDocument") ≡ true =
    sym (c.if-eq-2.ensures ∙ ap (bytes_eq c.key_of-key.result.now) c.as_slice-else-eq.ensures ∙ ap (λ k. bytes_eq k (codes "%%EndDocument")) c.key_of-key.ensures) in
    (begins_neither c.args.content.now (codes "%%EndDocument") c.args.depth c.requires.no_page is refl).1
