-- What is seen of an output that is created when its first byte is to be written, and what becomes of it.
use Rattle.std.specs.Prelude.{◌≡◌, ℕ, Bool, false, true, List, [], Option, Some, None}
use Rattle.std.specs.IoError.{error_kind}
use Rattle.world.specs.Outputs.{OutputView, fresh_output, named, reported_if}
use Rattle.world.specs.Worlds.{HasRefused, WorldView, creating}
use Rattle.world.specs.declared.late.Denied.{Denied}
use Rattle.world.specs.declared.late.Fate.{Fate}
use Rattle.world.specs.declared.late.Fate.TheVariants.{Unasked, Refused, Created}

-- the same, if what it reports begins with a name
abbrev pub named_view : OutputView → OutputView
named_view view = record view { bytes = named view.bytes }

-- The world has refused it; or it wasn't asked for it, and will be when there is a byte to write; or the output is there.
abbrev pub late_view : {W O : Type 0} → (reports_outputs : W → Bool) → (seen : O → OutputView) → (name : Option (List ℕ))
    → (denied : Option (Denied W)) → (waiting : Option W) → (output : Option O) → OutputView
late_view reports_outputs seen name (Some d) waiting output =
    record { bytes = reported_if (reports_outputs d.refused.world) name []; has_taken = false; failures = d.times; cause = Some d.refused.cause }
late_view reports_outputs seen name None (Some world) output = fresh_output (reported_if (reports_outputs world) name [])
late_view reports_outputs seen name None None (Some output) = named_view (seen output)
late_view reports_outputs seen name None None None = fresh_output None

-- What became of an output of this name, with what was seen of the world before it was asked for it. The world is there, as it
-- was; or it was asked for this output, and refused it; or the output is there, and has taken a byte or failed.
abbrev pub IsFate : {W O : Type 0} → (reports_outputs : W → Bool) → (seen : W → WorldView) → (shows : O → OutputView)
    → (name : Option (List ℕ)) → (before : WorldView) → OutputView → Fate W O → Type 0
IsFate reports_outputs seen shows name before view (Unasked world) =
    (seen world ≡ before) × (view ≡ fresh_output (reported_if (reports_outputs world) name []))
IsFate reports_outputs seen shows name before view (Refused refused) =
    HasRefused (creating name) (error_kind refused.cause) before (seen refused.world)
    × (view.bytes ≡ reported_if (reports_outputs refused.world) name [])
IsFate reports_outputs seen shows name before view (Created output) =
    (view ≡ named_view (shows output)) × ((shows output).failures ≡ 0 → (shows output).has_taken ≡ true)
