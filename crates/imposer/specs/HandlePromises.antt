-- What the handles of threads promise.
use Rattle.std.specs.Prelude.{◌≡◌, ℕ}
use Rattle.imposer.specs.declared.thread_work.Prepares.{Prepares}

-- the promise of the preparer of this number, one of `count`, on what is shared here
abbrev pub IsPreparer : {W : Type 0} → (shared : W) → (count number : ℕ) → Prepares W → Type 0
IsPreparer shared count number p = (p.number ≡ number) × (p.count ≡ count) × (p.shared.now ≡ shared)
