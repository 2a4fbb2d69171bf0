-- The machine of crates/pictures with further operators: what is done where that machine stops is a parameter.
use Rattle.std.specs.Prelude.{Bool, false, Option, Some, None}
use Rattle.pictures.specs.Machine.{State, step, RunsBy}
use Rattle.pictures.specs.Unaware.{unaware_step}

-- what is done in a state in which the machine of crates/pictures stops, if anything is
abbrev pub Further : Type 0
Further = State → Option State

-- The further operators go on where the free machine stops, and there alone. So a held machine still stops where a page
-- would print, or look at where it is
abbrev pub or_further : (free own further : Option State) → Option State
or_further None own further = further
or_further (Some t) own further = own

abbrev pub open_step : Further → (held : Bool) → State → Option State
open_step x held s = or_further (step false s) (step held s) (x s)

-- runs from one state to another
abbrev pub OpenRuns : Further → (held : Bool) → State → State → Type 0
OpenRuns x held s t = RunsBy (open_step x held) s t

-- one step of a held machine that asks for none of the names that the sheet's text puts
abbrev pub open_unaware_step : Further → State → Option State
open_unaware_step x s = or_further (step false s) (unaware_step s) (x s)

-- no further operators: the machine of crates/pictures
abbrev pub none_further : Further
none_further s = None
