-- A name and bytes that an output in memory reports.
use Rattle.std.proofs.Common.{◌≡◌, ◌∙◌, ◌+◌, ◌-◌, ◌++◌, ◌==◌, ℕ, List, [], ◌∷◌, Bool, true, false, Option, Some, None, ap, append-nil, arith, map, option_map, refl, string_bytes, subst, sym}
use Rattle.std.specs.Prelude.{if◌then◌else◌}
use Rattle.std.proofs.lemmas.Bool.{ne_eqb}
use Rattle.rules.specs.Output.{output}
use Rattle.imposer.specs.Runs.{Accepted, frame_of}
use Rattle.world.specs.Outputs.{OutputView, reported_bytes, spelled, reported_if}
use Rattle.world.specs.Rests.{shown}
use Rattle.world.proofs.Naming.{spelled_bytes}
use Rattle.world.specs.declared.output.WriteOutput.{WriteOutput}
use Rattle.world.specs.declared.rest.Rest.{Rest}
use Rattle.world.specs.declared.rest.Rest.TheVariants as rest
use Rattle.pstops_cli.specs.Programs.{CarriesOutWords}
use Rattle.pstops_cli.specs.RequestRuns.{asked_by}
use Rattle.test_tools.specs.Files.{read_by}
use Rattle.test_tools.specs.declared.files.GivenFile.{GivenFile}
use Rattle.test_tools.specs.declared.in_memory.Written.{Written}
use Rattle.test_libraries.specs.InMemory.{HasWritten}

-- ---- the name is found again

letters_in : List ℕ → List ℕ
letters_in [] = []
letters_in (b ∷ bs) = if b == 0 then [] else (b - 1) ∷ letters_in bs

name_in : List ℕ → Option (List ℕ)
name_in [] = None
name_in (b ∷ bs) = if b == 0 then None else Some (letters_in bs)

if_false : (t : Bool) (x y : List ℕ) → t ≡ false → (if t then x else y) ≡ y
if_false false x y is = refl
if_false true x y is = cc

letters_found : (name bytes : List ℕ) → letters_in ((map (λ byte. byte + 1) name ++ 0 ∷ []) ++ bytes) ≡ name
unfolding letters_in
letters_found [] bytes = refl
letters_found (b ∷ bs) bytes =
    if_false ((b + 1) == 0) _ _ (ne_eqb (b + 1) 0 (λ e. omega (arith, e)))
    ∙ ap (λ n. n ∷ letters_in ((map (λ byte. byte + 1) bs ++ 0 ∷ []) ++ bytes)) (omega arith)
    ∙ ap (λ l. b ∷ l) (letters_found bs bytes)

name_found : (name : Option (List ℕ)) (bytes : List ℕ) → name_in (spelled name ++ bytes) ≡ name
unfolding name_in
name_found None bytes = refl
name_found (Some name) bytes = ap Some (letters_found name bytes)

some_same : {A : Type 0} (x y : A) → Some x ≡ Some y → x ≡ y
some_same x y e = cc

same_name : (name name' : Option (List ℕ)) (bytes bytes' : List ℕ) → spelled name ++ bytes ≡ spelled name' ++ bytes' → name ≡ name'
same_name name name' bytes bytes' e = sym (name_found name bytes) ∙ ap name_in e ∙ name_found name' bytes'

same_bytes : (name name' : Option (List ℕ)) (bytes bytes' : List ℕ) → spelled name ++ bytes ≡ spelled name' ++ bytes' → bytes ≡ bytes'
same_bytes name name' bytes bytes' e =
    some_same bytes bytes' (sym (spelled_bytes name bytes) ∙ ap reported_bytes e ∙ spelled_bytes name' bytes')

-- ---- the run

abbrev pub told_by : WriteOutput Written → OutputView
told_by file = record {
  bytes = reported_if true (option_map string_bytes file.writer.name) file.writer.bytes.items;
  has_taken = file.has_taken;
  failures = file.failures;
  cause = file.cause;
}

told_again : (name : Option (List ℕ)) (text told : List ℕ) → told ≡ (spelled name ++ []) ++ text → told ≡ spelled name ++ text
told_again name text told e = e ∙ ap (λ xs. xs ++ text) (append-nil (spelled name))

pub in_memory : {W : Type 0} (words : List (List ℕ)) (files : List GivenFile) (rest : Rest W (WriteOutput Written))
    → CarriesOutWords words (λ name. Some (read_by files name)) true (shown told_by rest) → HasWritten words files rest
in_memory words files (rest.World world) h = absurd h.3.3
in_memory words files (rest.Output file) h =
    let r = h.0 in
    let name = option_map string_bytes r.outfile in
    let a = h.3 in
    let text = output (frame_of r.options) r.options.sides a.0 a.1 in
    let told = told_again name text _ a.3 in (
      r,
      file,
      h.2.0,
      refl,
      same_name (option_map string_bytes file.writer.name) name file.writer.bytes.items text told,
      subst (λ i. Accepted (asked_by r i) (λ spec us. file.writer.bytes.items ≡ output (frame_of r.options) r.options.sides spec us)) h.2.1
          (a.0, a.1, a.2, same_bytes (option_map string_bytes file.writer.name) name file.writer.bytes.items text told),
    )
