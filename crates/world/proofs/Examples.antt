-- How much is read at most, worked out.
use Rattle.std.proofs.Common.{◌≡◌, ◌+◌, refl}
use Rattle.rules.specs.Run.{most_input_bytes}
use Rattle.world.specs.Input.{most_bytes}

-- one byte more is read than an input may have, so that a longer one is seen to be too long
one_byte_more : most_bytes ≡ most_input_bytes + 1
one_byte_more = refl

most_bytes_in_digits : most_bytes ≡ 1_073_741_825
most_bytes_in_digits = refl
