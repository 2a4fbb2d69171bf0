use Rattle.std.proofs.Common.{rules, ◌≡◌, ◌∙◌, ◌+◌, ap, false, true}
use Rattle.papers.specs.Media.{contents}
use Rattle.row_runs.specs.DeclaredPages.{trailer_at}
use Rattle.row_runs.proofs.TrailerLines.{last_found, none_found, none_later, shorter, still_none}
use Rattle.row_runs.proofs.declared_pages.last_lines.Goals as goal

pub returns-then-trailer_at : goal.returns-then-trailer_at
returns-then-trailer_at c =
    let is : trailer_at c.in-Some.at c.args.text.now ≡ true = search rules in
    ap contents c.after_line.ensures
    ∙ last_found c.in-Some.at c.args.text.now is
    (none_later c.args.text.now c.loop-at.front.now _ c.in-Some.at (search rules) c.loop-at.invariant.front c.in-Some.ensures c.loop-at.invariant.none)

pub loop-at-preserved : goal.loop-at-preserved
loop-at-preserved c =
    let isnt : trailer_at c.in-Some.at c.args.text.now ≡ false = search rules in
    record {
      front = shorter c.args.text.now c.loop-at.front.now c.split_at.result.0.now (c.in-Some.at + 8) c.loop-at.invariant.front c.split_at.ensures.front c.split_at.ensures.front_len;
      none = still_none c.args.text.now c.loop-at.front.now c.split_at.result.0.now _ c.in-Some.at (search rules) c.loop-at.invariant.front c.in-Some.ensures isnt c.split_at.ensures.front_len c.loop-at.invariant.none;
    }

pub returns : goal.returns
returns c = none_found c.args.text.now c.loop-at.front.now _ (search rules) c.loop-at.invariant.front c.in_default.ensures c.loop-at.invariant.none
