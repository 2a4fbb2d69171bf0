-- What holds of a value that may be missing.
use Rattle.std.proofs.Common.{Option, Some, None, Result, Ok, Err, IfSome, IfOk}

-- a fact that follows from another for each value
pub mapped : {A : Type 0} (P Q : A → Type 0) (o : Option A) → IfSome o P → ((a : A) → P a → Q a) → IfSome o Q
mapped P Q None p f = tt
mapped P Q (Some a) p f = f a p

pub mapped_ok : {A E : Type 0} (P Q : A → Type 0) (r : Result A E) → IfOk r P → ((a : A) → P a → Q a) → IfOk r Q
mapped_ok P Q (Err e) p f = tt
mapped_ok P Q (Ok a) p f = f a p
