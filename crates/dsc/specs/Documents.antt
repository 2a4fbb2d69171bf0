-- What holds of a document's fields at all times.
use Rattle.std.specs.Prelude.{◌≡◌, ℕ, ◌<◌, ◌≤◌, List, length, Ok}
use Rattle.rules.specs.Units.{cut}
use Rattle.rules.specs.Run.{document_of, most_pages}
use Rattle.dsc.specs.Units.{or_none, units_of}
use Rattle.dsc.specs.Marks.{starts_of, pages_end}
use Rattle.dsc.specs.BodyStarts.{AreBodyStarts}

-- the text is a document, its pages and their bodies begin at these bytes, and its pages end at this one
pub record HasItsParts (text : List ℕ) (starts : List ℕ) (bodies : List ℕ) (stop : ℕ) : Type 0 where
  pub accepted : document_of text ≡ Ok (units_of text)
  pub is_cut : cut text ≡ Ok (or_none (cut text))
  pub starts_are : starts ≡ starts_of (units_of text)
  pub some : 0 < length starts
  pub few : length starts ≤ most_pages
  pub stop_is : stop ≡ pages_end (units_of text)
  pub bodies_are : AreBodyStarts (units_of text) bodies
