-- What is placed by which options, worked out.
use Rattle.std.proofs.Common.{◌≡◌, refl}
use Rattle.std.specs.Prelude.{pos, None, Some}
use Rattle.rules.specs.Papers.{points}
use Rattle.imposer.specs.Runs.{frame_of}

-- paper and border are those of the options
frame_is : frame_of (record { paper = points 595 842; border = Some (pos 100_000); sides = None; workers = record { preparers = 1; imposers = 1 } })
    ≡ record { paper = points 595 842; border = Some (record { width = pos 100_000; inset = pos 0 }) }
frame_is = refl
