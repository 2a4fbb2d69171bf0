use Rattle.std.proofs.Common.{◌≡◌, ℕ, List, sym, ap, subst}
use Rattle.std.specs.Prelude.{Result, Ok, Err, IfOk}
use mathlib.Core.Option.{some}
use lib.ListN.{get_elem?}
use Rattle.std.below.core.specs.Mem.Slots.{slots_items}
use Rattle.rules.specs.Sheets.{Layout, layout as layout_of}
use Rattle.rules.proofs.SeatShares.{whole_front}
use Rattle.gather_table.specs.History.{Entry}
use Rattle.gather_table.specs.Rule.{IsLeft}
use Rattle.gather_table.proofs.LeftWords.{is_elem}
use Rattle.gather_table.proofs.Together.{word_tells}
use Rattle.gather_table.proofs.table.GatherTable.end.Goals as goal

-- what is shown of a list is shown of what was made of it
shown : {V E : Type 0} (made : Result V E) (items : V → List ℕ) (words : List ℕ) (P : List ℕ → Type 0) → IfOk made (λ v. items v ≡ words) → P words → IfOk made (λ v. P (items v))
shown (Ok v) items words P is has = subst P (sym is) has
shown (Err e) items words P is has = tt

pub returns-clause-left : goal.returns-clause-left
returns-clause-left c =
    let layout = layout_of c.self.inside.table.shared.key in
    let v = c.seat.inside.token.me.0 in
    let words = slots_items c.close_with-closed.result.words in
    let final = c.close_with-closed.ensures.values.2 in
    let s = final.0 in
    let kept = final.1.0 in
    let k = kept.1 in
    let f = k.seats.seats _ v final.1.1 in
    let left : IsLeft layout v.front v.share words = record {
      log = kept.0;
      legal = k.legal;
      begins = (f.rest, f.begins);
      alone = λ all. sym (whole_front layout kept.0 s.views _ v k.seats final.1.1 all);
      each_shown = λ word found at. word_tells layout kept.0 s.words word found k.legal k.words (subst (λ (ws : List ℕ). get_elem? ws word ≡ some found) (sym final.2) (is_elem words word found at));
    } in
    shown c.words_of-words.result (λ v. v.items) words (λ ws. IsLeft c.args.self.layout c.args.seat.front c.args.seat.share ws) c.words_of-words.ensures
    (subst (λ (p : Layout). IsLeft p c.args.seat.front c.args.seat.share words) (ap (λ t. t.layout) c.self.view_is)
    (subst (λ (x : List Entry × ℕ). IsLeft layout x.0 x.1 words) (ap (λ t. (t.front, t.share)) c.seat.view_is) left))
