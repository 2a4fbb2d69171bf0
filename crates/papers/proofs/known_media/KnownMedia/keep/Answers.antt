use Rattle.std.proofs.Common.{rules, ◌≡◌, Some, None}
use Rattle.papers.specs.Comments.{medium_of_page}
use Rattle.papers.proofs.Heads.{head}
use Rattle.papers.proofs.KnownNames.{kept_name, no_name, on_ok}
use Rattle.papers.proofs.known_media.KnownMedia.keep.Goals as goal

pub returns-in_ok-kept-in-Some-clause-kept : goal.returns-in_ok-kept-in-Some-clause-kept
returns-in_ok-kept-in-Some-clause-kept c =
    let told : Some c.in_ok-kept-in-Some.kept.items ≡ medium_of_page (head c.after_first_line.result.now) = search rules in
    on_ok c.put.result (kept_name c.args.self.now c.put.new.self c.args.page.now c.after_first_line.result.now c.in_ok-kept-in-Some.kept.items c.after_first_line.ensures told) c.put.ensures

pub returns-in-None-clause-kept : goal.returns-in-None-clause-kept
returns-in-None-clause-kept c =
    let told : None ≡ medium_of_page (head c.after_first_line.result.now) = search rules in
    no_name c.args.self.now c.args.page.now c.after_first_line.result.now c.after_first_line.ensures told
