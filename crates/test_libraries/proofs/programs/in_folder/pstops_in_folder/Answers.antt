use Rattle.std.proofs.Common.{map, subst, true}
use Rattle.std.specs.Prelude.{string_bytes}
use Rattle.world.specs.Rests.{shown}
use Rattle.pstops_cli.specs.Programs.{CarriesOutWords}
use Rattle.test_libraries.proofs.Told.{in_memory, told_by}
use Rattle.test_libraries.proofs.programs.in_folder.pstops_in_folder.Goals as goal

pub returns : goal.returns
returns g c zero =
    in_memory (map string_bytes c.args.words.now) c.args.files.now c.pstops.result.rest
    (subst (λ gives. CarriesOutWords (map string_bytes c.args.words.now) gives true (shown told_by c.pstops.result.rest)) c.new.ensures.gives (c.pstops.ensures.finished zero))
