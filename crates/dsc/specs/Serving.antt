-- When the parts of one document serve for another text.
use Rattle.std.specs.Prelude.{◌≡◌, ℕ, ◌≤◌, List, length, Ok}
use Rattle.rules.specs.Parts.{begins_page, starting_at}
use Rattle.rules.specs.Run.{document_of, most_input_bytes}
use Rattle.dsc.specs.Units.{units_of}
use Rattle.dsc.specs.Documents.{HasItsParts}
use Rattle.dsc.specs.declared.parts.Parts.{Parts}

-- where the parts of the document with this text begin
pub record ArePartsOf (text : List ℕ) (p : Parts) : Type 0 where
  pub parts : HasItsParts text p.starts.items p.bodies.items p.stop
  pub len : p.len ≡ length text

-- They serve for a text that isn't shorter than their document, if, unless it is too long, it is a document, too, and
-- has the same units from the first page on.
pub record Serve (p : Parts) (text : List ℕ) : Type 0 where
  pub of : List ℕ
  pub are : ArePartsOf of p
  pub longer : length of ≤ length text
  pub accepted : length text ≤ most_input_bytes → document_of text ≡ Ok (units_of text)
  pub same : length text ≤ most_input_bytes
      → starting_at begins_page (units_of text) ≡ starting_at begins_page (units_of of)
