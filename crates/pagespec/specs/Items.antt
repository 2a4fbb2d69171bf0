-- The meaning of the code's items.
use Rattle.std.specs.Prelude.{ℕ, List, map}
use Rattle.rules.specs.Bytes.{plus_sign, comma}
use Rattle.std.specs.declared.vec.Vec.{Vec}
use Rattle.rules.specs.Specification as rules
use Rattle.std.specs.declared.alloc.Global.{Global}
use Rattle.lengths.specs.Units.{length_unit}
use Rattle.pagespec.specs.declared.item.Measure.{Measure}
use Rattle.pagespec.specs.declared.item.Turn.{Turn}
use Rattle.pagespec.specs.declared.item.Turn.TheVariants as turn
use Rattle.pagespec.specs.declared.item.Item.{Item}

abbrev pub measure_of : Measure → rules.Measure
measure_of m = record { number = m.number; unit = length_unit m.unit }

abbrev pub turn_of : Turn → rules.Turn
turn_of turn.None = rules.Upright
turn_of turn.Left = rules.Left
turn_of turn.Half = rules.Half
turn_of turn.Right = rules.Right

abbrev pub item_of : Item → rules.Item
item_of i = record {
  page = i.page;
  from_end = i.from_end;
  turn = turn_of i.turn;
  scale = i.scale;
  x = measure_of i.offset.0;
  y = measure_of i.offset.1;
}

-- the groups, as lists of the meaning of their items
abbrev pub groups_of : List (Vec Item Global) → List (List rules.Item)
groups_of groups = map (λ g. map item_of g.items) groups

-- how a group is written, and the groups of a specification
abbrev pub group_text : List rules.Item → List ℕ
group_text items = rules.joined_by plus_sign (map rules.item_text items)

abbrev pub groups_text : List (List rules.Item) → List ℕ
groups_text groups = rules.joined_by comma (map group_text groups)
