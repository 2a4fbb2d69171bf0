-- What a run of pstops over files in memory leaves.
use Rattle.std.specs.Prelude.{◌≡◌, List, ℕ, option_map, string_bytes, take}
use Rattle.rules.specs.Output.{output}
use Rattle.imposer.specs.Runs.{Accepted, frame_of}
use Rattle.world.specs.Input.{most_bytes}
use Rattle.world.specs.declared.output.WriteOutput.{WriteOutput}
use Rattle.world.specs.declared.rest.Rest.{Rest}
use Rattle.world.specs.declared.rest.Rest.TheVariants.{Output}
use Rattle.pstops_cli.specs.Programs.{MakesRequest}
use Rattle.pstops_cli.specs.RequestRuns.{asked_by}
use Rattle.pstops_cli.specs.declared.command.Request.{Request}
use Rattle.test_tools.specs.Files.{read_by}
use Rattle.test_tools.specs.declared.files.GivenFile.{GivenFile}
use Rattle.test_tools.specs.declared.in_memory.Written.{Written}

-- One file was written. It has the name that the words give for the output, and exactly the output that is defined for what is read
-- by the name that they give for the input.
abbrev pub HasWritten : (words : List (List ℕ)) → List GivenFile → {W : Type 0} → Rest W (WriteOutput Written) → Type 0
HasWritten words files rest =
    (r : Request) × (file : WriteOutput Written) × MakesRequest words r × (rest ≡ Output file)
    × (option_map string_bytes file.writer.name ≡ option_map string_bytes r.outfile)
    × Accepted (asked_by r (take most_bytes (read_by files (option_map string_bytes r.infile))))
    (λ spec us. file.writer.bytes.items ≡ output (frame_of r.options) r.options.sides spec us)
