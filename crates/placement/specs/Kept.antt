-- What an append leaves that was refused midway.
use Rattle.std.specs.Prelude.{◌≡◌, ◌≤◌, ℕ, List, ◌++◌, vec_capacity}
use Rattle.std.specs.declared.vec.Vec.{Vec}
use Rattle.std.specs.declared.alloc.Global.{Global}

-- the new bytes begin with the old ones, and the vector has at least as much room
pub record Keeps (old new : Vec ℕ Global) : Type 0 where
  pub added : List ℕ
  pub parts : new.items ≡ old.items ++ added
  pub room : vec_capacity old ≤ vec_capacity new
