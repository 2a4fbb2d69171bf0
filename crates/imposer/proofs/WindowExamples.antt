-- How many sheets may be imposed ahead, and by how many workers, worked out.
use Rattle.std.proofs.Common.{◌≡◌, ◌*◌, [], ◌∷◌, refl, arith}
use Rattle.imposer.specs.Windows.{bytes_together, text_share, window_len}
use Rattle.imposer.specs.Workers.{AreWorkers}

-- two pages of one and three bytes
four_bytes : bytes_together ((37 ∷ []) ∷ (1 ∷ 2 ∷ 3 ∷ []) ∷ []) ≡ 4
four_bytes = refl

-- 200,000 sheets of 500 bytes: 1,478 of them have three quarters of a megabyte, with 32 bytes beside each
small_sheets : window_len 200_000 4 (200_000 * 500) ≡ 1_478
small_sheets = refl

-- sheets without a byte: 4,096, and no more
empty_sheets : window_len 200_000 4 0 ≡ 4_096
empty_sheets = refl

-- ten sheets of five megabytes: one for each imposer, and two at least
large_sheets : window_len 10 4 (10 * 5_000_000) ≡ 4
large_sheets = refl

one_imposer : window_len 10 1 (10 * 5_000_000) ≡ 2
one_imposer = refl

-- no sheet counts as one
no_sheets : text_share 0 700 ≡ 700
no_sheets = refl

-- sixteen of each are taken, and no more
sixteen : AreWorkers (record { preparers = 16; imposers = 16 })
sixteen = record { a_preparer = omega arith; few_preparers = omega arith; an_imposer = omega arith; few_imposers = omega arith }

seventeen_preparers : AreWorkers (record { preparers = 17; imposers = 1 }) → ⊥
seventeen_preparers are = omega (arith, are.few_preparers)

seventeen_imposers : AreWorkers (record { preparers = 1; imposers = 17 }) → ⊥
seventeen_imposers are = omega (arith, are.few_imposers)
