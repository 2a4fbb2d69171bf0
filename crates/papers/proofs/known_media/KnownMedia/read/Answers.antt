use Rattle.std.proofs.Common.{rules, ◌≡◌, ◌∷◌, [], List, ap, subst, sym}
use Rattle.std.specs.Prelude.{codes, flat_map, slice_index_or}
use Rattle.rules.specs.Parts.{pages}
use Rattle.papers.specs.Media.{comment_values, contents, continued}
use Rattle.papers.specs.Comments.{media, medium_in}
use Rattle.papers.specs.Named.{Knows}
use Rattle.papers.proofs.KnownNames.{knows, no_media}
use Rattle.papers.proofs.known_media.KnownMedia.read.Goals as goal

pub returns-in_ok-find-in-Some : goal.returns-in_ok-find-in-Some
returns-in_ok-find-in-Some c = λ k less.
    let page = slice_index_or (pages c.args.document.now) k [] in
    let told : comment_values (codes "%%DocumentMedia") (contents c.args.header.now) ≡ c.in-Some.first.now ∷ continued (contents c.in-Some.others.now) = search rules in
    subst (λ (lines : List (List _)). Knows c.find.new.self (flat_map medium_in lines) page) (sym told)
    (knows c.in_ok-known-in-Some.known c.find.new.self _ page c.in_ok-find-in-Some.ensures (c.in_ok-known-in-Some.ensures k less))

pub returns-in-None : goal.returns-in-None
returns-in-None c = λ k less.
    let none : comment_values (codes "%%DocumentMedia") (contents c.args.header.now) ≡ [] = search rules in
    no_media (record { papers = c.new.result }) (media (contents c.args.header.now)) (slice_index_or (pages c.args.document.now) k []) (ap (flat_map medium_in) none) (λ at. search rules)
