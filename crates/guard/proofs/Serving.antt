-- The parts of a document serve for the document with the guard.
use Rattle.std.specs.Prelude.{flat_map, Option}
use Rattle.std.proofs.Common.{◌≤◌, ℕ, List, ◌++◌, length, take, drop, ap, arith, length-append}
use Rattle.std.proofs.lemmas.List.{take-append-drop}
use Rattle.rules.specs.Bytes.{line}
use Rattle.rules.specs.Papers.{Paper}
use Rattle.rules.specs.Filters.{ended}
use Rattle.dsc.specs.Header.{header_len}
use Rattle.dsc.specs.Serving.{ArePartsOf, Serve}
use Rattle.dsc.specs.Units.{units_of}
use Rattle.dsc.specs.declared.parts.Parts.{Parts}
use Rattle.guard.specs.PutIn.{put_in}
use Rattle.guard.specs.Guard.{guard_lines, guarded}
use Rattle.guard.proofs.Gluing.{ended_grows}
use Rattle.guard.proofs.TheGuard.{guard_stays}

put_in_longer : (lines : List (List ℕ)) (text : List ℕ) → length text ≤ length (put_in lines text)
put_in_longer lines text =
    let n : ℕ = header_len text in
    let whole = length-append (take n text) (drop n text) in
    let same = ap length (take-append-drop n text) in
    let front = ended_grows (take n text) in
    let one = length-append (ended (take n text)) (flat_map line lines ++ drop n text) in
    let two = length-append (flat_map line lines) (drop n text) in
    omega (arith, whole, same, front, one, two)

pub guard_serves : (sheet_paper : Option Paper) (text : List ℕ) (p : Parts) → ArePartsOf text p → Serve p (guarded sheet_paper text)
guard_serves sheet_paper text p a = record {
  of = text;
  are = a;
  longer = put_in_longer (guard_lines sheet_paper) text;
  accepted = λ few. (guard_stays sheet_paper text (units_of text) a.parts.accepted few).0;
  same = λ few. (guard_stays sheet_paper text (units_of text) a.parts.accepted few).1.same_rest;
}
