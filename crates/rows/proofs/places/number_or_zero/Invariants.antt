use Rattle.std.specs.List.{list_all}
use Rattle.std.specs.Char.{is_ascii_digit}
use Rattle.std.proofs.Common.{◌≡◌, ◌-◌, ◌^◌, take, min, true}
use Rattle.rules.specs.Numbers.{number_of}
use Rattle.rows.proofs.places.number_or_zero.Given as goal

abbrev pub invariant-loop-b : goal.invariant-loop-b
invariant-loop-b l = record {
  value : l.n ≡ min (number_of (take l.b-index l.text)) (2 ^ 64 - 1);
  all : list_all is_ascii_digit (take l.b-index l.text) ≡ true;
}
