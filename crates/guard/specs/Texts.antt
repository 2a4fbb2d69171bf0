-- A document's text with room before it, as others see it: as its bytes alone.
use Rattle.std.specs.Prelude.{ℕ, List}

pub record TextView : Type 0 where
  pub items : List ℕ
