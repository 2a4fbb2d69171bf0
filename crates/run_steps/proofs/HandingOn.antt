-- The puts of completed sheets, one by one.
use Rattle.std.proofs.Common.{◌≡◌, inl, inr, ℕ, suc, ◌+◌, ◌<◌, Bool, List, [], ◌∷◌, ◌++◌, length, take, get_or}
use Rattle.std.proofs.Common.{if◌then◌else◌, refl, sym, ap, ◌∙◌, subst, arith}
use Rattle.std.specs.Prelude.{filter, Option, Result, Ok, Err, OnOk, OnErr, IfErr}
use Rattle.std.proofs.Math.Seq.{take-suc}
use Rattle.rules.specs.Seats.{whole_share}
use Rattle.handover.specs.declared.ready.Full.{Full}
use Rattle.handover.specs.Queue.{Put, content}
use Rattle.gather_table.specs.declared.answers.Reply.{Reply}
use Rattle.gather_table.specs.declared.answers.Closing.{Closing}
use Rattle.handover.specs.Passes.{QueueView, PassView, MadeMove, puts_in, room_after}
use Rattle.handover.proofs.Rooms.{one_less}
use Rattle.run_steps.specs.Delivery.{is_filling, place_calls, answer_list, completes_sheet, completed, HandedOn}
use Rattle.run_steps.specs.Delivery.{NoneHandedBack}
use Rattle.run_steps.proofs.Marks.{on_calls, completed-append, completed_place}

-- sheets after sheets
pub handed-append : (queue : QueueView) (xs ys back more : List ℕ) (old mid new : PassView) → HandedOn queue xs back old mid → HandedOn queue ys more mid new → HandedOn queue (xs ++ ys) (back ++ more) old new
handed-append queue [] ys back more old mid new h k =
    subst (λ l. HandedOn queue ys (l ++ more) old new) (sym h.0) (subst (λ (z : PassView). HandedOn queue ys more z new) h.1 k)
handed-append queue (s ∷ xs) ys back more old mid new (inl h) k = inl (h.0, h.1, handed-append queue xs ys back more h.0 mid new h.2 k)
handed-append queue (s ∷ xs) ys back more old mid new (inr h) k =
    inr (h.0 ++ more, ap (λ l. l ++ more) h.1, h.2, handed-append queue xs ys h.0 more old mid new h.3 k)

-- one place more
pub handed_on : (queue : QueueView) (xs : List (ℕ × ℕ)) (i : ℕ) (d : ℕ × ℕ) (rs rs' : List Reply) (r : Reply)
    (cs cs' : List Closing) (c : Option Closing) (b : Bool) (back more all : List ℕ) (old mid new : PassView)
    → i < length xs → length rs ≡ i → length cs ≡ length (filter is_filling rs) → rs' ≡ rs ++ r ∷ []
    → cs' ≡ cs ++ answer_list c → b ≡ completes_sheet r c → all ≡ back ++ more
    → HandedOn queue (completed (place_calls (take i xs) rs cs)) back old mid
    → HandedOn queue (if b then (get_or xs i d).0 ∷ [] else []) more mid new
    → HandedOn queue (completed (place_calls (take (i + 1) xs) rs' cs')) all old new
handed_on queue xs i d rs rs' r cs cs' c b back more all old mid new lt len closed is_r is_c is_b is h k =
    let es = place_calls (take i xs) rs cs in
    let fs = place_calls (get_or xs i d ∷ []) (r ∷ []) (answer_list c) in
    let one : completed fs ≡ (if b then (get_or xs i d).0 ∷ [] else []) =
    completed_place (get_or xs i d) r c ∙ ap (λ (z : Bool). if z then (get_or xs i d).0 ∷ [] else []) (sym is_b) in
    let grown : completed (place_calls (take (i + 1) xs) rs' cs') ≡ completed es ++ completed fs =
    ap completed (on_calls xs i d rs rs' r cs cs' (answer_list c) lt len closed is_r is_c) ∙ completed-append es fs in
    subst (λ l. HandedOn queue l all old new) (sym (grown ∙ ap (λ l. completed es ++ l) one))
    (subst (λ l. HandedOn queue (completed es ++ (if b then (get_or xs i d).0 ∷ [] else [])) l old new) (sym is)
    (handed-append queue (completed es) _ back more old mid new h k))

-- a sheet was put, or the queue was full
pub put_or_full : (queue : QueueView) (s : ℕ) (old new : PassView) (answer : Result (Unit {0}) Full) → OnOk answer (MadeMove old (Put s) new)
    → IfErr answer (λ full. (full.0 ≡ s) × (new ≡ old)) → OnErr answer (old.share ≡ whole_share → length (content old.front) ≡ queue.capacity)
    → OnErr answer (puts_in old.room ≡ 0) → (back : List ℕ) × HandedOn queue (s ∷ []) back old new
put_or_full queue s old new (Ok x) made full when none = ([], inl (new, made, (refl, refl)))
put_or_full queue s old new (Err x) made full when none = (s ∷ [], inr ([], refl, (none, when), (refl, full.1)))

-- none is handed back of those for which there is room
pub none_handed_back : NoneHandedBack
none_handed_back queue [] back old new h le = (h.0, (let same = ap (λ (z : PassView). puts_in z.room) h.1 in omega (arith, same)))
none_handed_back queue (s ∷ sheets) back old new (inl h) le =
    let made : puts_in h.0.room ≡ puts_in (room_after (Put s) old.room) = ap puts_in h.1.1 in
    let less = one_less s old.room (omega (arith, le)) in
    let rest = none_handed_back queue sheets back h.0 new h.2 (omega (arith, le, made, less)) in
    (rest.0, (let left = rest.1 in omega (arith, left, made, less)))
none_handed_back queue (s ∷ sheets) back old new (inr h) le = absurd (let none = h.2.0 in omega (arith, none, le))

-- one sheet more of those that are put whatever happens
pub one_more : (queue : QueueView) (sheets : List ℕ) (k d : ℕ) (old mid new : PassView) → k < length sheets
    → ((back : List ℕ) × HandedOn queue (take k sheets) back old mid) → ((back : List ℕ) × HandedOn queue (get_or sheets k d ∷ []) back mid new)
    → (back : List ℕ) × HandedOn queue (take (k + 1) sheets) back old new
one_more queue sheets k d old mid new below before next =
    let up : suc k ≡ k + 1 = omega arith in (
      before.0 ++ next.0,
      subst (λ xs. HandedOn queue xs (before.0 ++ next.0) old new) (sym (take-suc sheets k d below) ∙ ap (λ n. take n sheets) up)
          (handed-append queue (take k sheets) (get_or sheets k d ∷ []) before.0 next.0 old mid new before.1 next.1),
    )
