-- Writes to an output that is created when its first byte is to be written.
use Rattle.std.proofs.Common.{◌≡◌, ℕ, Bool, List, [], Option, Some, None, Result, ap, subst, sym}
use Rattle.std.specs.Io.KnownBytes.{WriteAppends}
use Rattle.world.specs.Lates.{late_view}
use Rattle.world.specs.Outputs.{OutputView, fresh_output, named, reported_if}
use Rattle.world.specs.declared.late.Denied.{Denied}
use Rattle.world.proofs.Naming.{named_fresh, named_written}

-- it is there
pub there_written : {W O E : Type 0} (reports_outputs : W → Bool) (seen : O → OutputView) (name : Option (List ℕ)) (denied : Option (Denied W)) (waiting left : Option W) (output : Option O)
    (old new : O) (r : Result ℕ E) (bs : List ℕ) → denied ≡ None → waiting ≡ None → left ≡ None → output ≡ Some old → WriteAppends (seen old).bytes (seen new).bytes r bs
    → WriteAppends (late_view reports_outputs seen name denied waiting output).bytes (late_view reports_outputs seen name denied left (Some new)).bytes r bs
there_written {W} {O} reports_outputs seen name denied waiting left output old new r bs granted asked gone is h =
    subst (λ (d : Option (Denied W)). WriteAppends (late_view reports_outputs seen name d waiting output).bytes (late_view reports_outputs seen name d left (Some new)).bytes r bs) (sym granted)
    (subst (λ (w : Option W). WriteAppends (late_view reports_outputs seen name None w output).bytes (late_view reports_outputs seen name None left (Some new)).bytes r bs) (sym asked)
    (subst (λ (w : Option W). WriteAppends (late_view reports_outputs seen name None None output).bytes (late_view reports_outputs seen name None w (Some new)).bytes r bs) (sym gone)
    (subst (λ (o : Option O). WriteAppends (late_view reports_outputs seen name None None o).bytes (named (seen new).bytes) r bs) (sym is)
    (named_written (seen old).bytes (seen new).bytes r bs h))))

-- it was created for them
pub created_written : {W O E : Type 0} (reports_outputs : W → Bool) (seen : O → OutputView) (name asked_for : Option (List ℕ)) (denied : Option (Denied W)) (waiting left : Option W) (output : Option O)
    (world : W) (old new : O) (r : Result ℕ E) (bs : List ℕ) → denied ≡ None → waiting ≡ Some world → left ≡ None → asked_for ≡ name
    → seen old ≡ fresh_output (reported_if (reports_outputs world) asked_for []) → WriteAppends (seen old).bytes (seen new).bytes r bs
    → WriteAppends (late_view reports_outputs seen name denied waiting output).bytes (late_view reports_outputs seen name denied left (Some new)).bytes r bs
created_written {W} {O} reports_outputs seen name asked_for denied waiting left output world old new r bs granted asked gone is_name fresh h =
    let begun : WriteAppends (reported_if (reports_outputs world) asked_for []) (seen new).bytes r bs = subst (λ (v : OutputView). WriteAppends v.bytes (seen new).bytes r bs) fresh h in
    let called : WriteAppends (reported_if (reports_outputs world) name []) (seen new).bytes r bs = subst (λ n. WriteAppends (reported_if (reports_outputs world) n []) (seen new).bytes r bs) is_name begun in
    let told : WriteAppends (reported_if (reports_outputs world) name []) (named (seen new).bytes) r bs
    = subst (λ t. WriteAppends t (named (seen new).bytes) r bs) (named_fresh name (reports_outputs world)) (named_written _ (seen new).bytes r bs called) in
    subst (λ (d : Option (Denied W)). WriteAppends (late_view reports_outputs seen name d waiting output).bytes (late_view reports_outputs seen name d left (Some new)).bytes r bs) (sym granted)
    (subst (λ (w : Option W). WriteAppends (late_view reports_outputs seen name None w output).bytes (late_view reports_outputs seen name None left (Some new)).bytes r bs) (sym asked)
    (subst (λ (w : Option W). WriteAppends (reported_if (reports_outputs world) name []) (late_view reports_outputs seen name None w (Some new)).bytes r bs) (sym gone) told))
