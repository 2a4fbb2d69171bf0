use Rattle.std.proofs.Common.{sym, subst}
use Rattle.imposer.specs.Promises.{OnlyImposes}
use Rattle.imposer.proofs.Held.{imposes_both}
use Rattle.imposer.proofs.shared.RunInput.impose_all.Goals as goal
use Rattle.imposer.proofs.shared.RunInput.impose_all.Goals.{in-None, in-Some+in_ok-impose_next+else-branch+then-none_left+then-is_empty}

pub loop-preserved-then-branch : goal.loop-preserved-then-branch
loop-preserved-then-branch g c =
    (tt, tt, c.impose_next.ensures.ticket, imposes_both _ _ _ _ c.loop.invariant.3 c.in_ok-impose_next.ensures.imposes)

pub loop-preserved : goal.loop-preserved
loop-preserved g c =
    (tt, tt, c.impose_next.ensures.ticket, imposes_both _ _ _ _ c.loop.invariant.3 c.in_ok-impose_next.ensures.imposes)

pub returns : goal.returns
returns g c =
    let run = c.args.self.now.shared.now in
    record {
      imposes = elim c.match-next.branch [
        | in-None w ↦ subst (OnlyImposes run c.args.tokens.now) (sym w.tokens-is) c.loop.invariant.3
        | in-Some+in_ok-impose_next+else-branch+then-none_left+then-is_empty w ↦
            subst (OnlyImposes run c.args.tokens.now) (sym w.tokens-is) (imposes_both _ _ _ _ c.loop.invariant.3 w.in_ok-impose_next.ensures.imposes)
      ];
    }
