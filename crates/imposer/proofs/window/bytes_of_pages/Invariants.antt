use Rattle.std.proofs.Common.{◌≡◌, ◌-◌, ◌^◌, min, take}
use Rattle.std.specs.Prelude.{sum_by}
use Rattle.std.specs.List.{range_with_len}
use Rattle.rules.specs.Parts.{pages}
use Rattle.imposer.specs.Windows.{bytes_together, text_bytes}
use Rattle.imposer.proofs.window.bytes_of_pages.Given as goal

abbrev pub invariant-loop-page : goal.invariant-loop-page
invariant-loop-page l = record {
  together : l.of_pages ≡ min (bytes_together (take l.page (pages l.job.units))) (2 ^ 64 - 1);
  texts : l.of_slots ≡ min (sum_by (text_bytes l.job) (range_with_len 0 l.page)) (2 ^ 64 - 1);
}
