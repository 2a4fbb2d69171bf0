-- What it means to place a picture: every transformation gets some outermost matrices, and every clip some
-- outermost paths. `concat` puts its matrix innermost (PostScript Language Reference, third edition, 4.3.2), and
-- `clip` narrows the clip (4.4.2): so what comes first is outermost.
use Rattle.std.specs.Prelude.{List, ◌++◌, map}
use Rattle.pictures.specs.Objects.{Token, Call}
use Rattle.pictures.specs.Machine.{Segment, Clip, Graphics, Painting, Snapshot, State}

-- where a picture is placed: the matrices and the clip of the place
pub record Place : Type 0 where
  pub chain : List Call
  pub clip : List Clip

abbrev pub segment_at : Place → Segment → Segment
segment_at p x = record x { chain = x.chain ++ p.chain }

abbrev pub clip_at : Place → Clip → Clip
clip_at p x = record x { path = map (segment_at p) x.path }

abbrev pub graphics_at : Place → Graphics → Graphics
graphics_at p g = record {
  chain = g.chain ++ p.chain;
  path = map (segment_at p) g.path;
  clip = map (clip_at p) g.clip ++ p.clip;
  settings = g.settings;
}

abbrev pub painting_at : Place → Painting → Painting
painting_at p x = record x { graphics = graphics_at p x.graphics }

-- a picture, placed
abbrev pub picture_at : Place → List Painting → List Painting
picture_at p ps = map (painting_at p) ps

abbrev pub snapshot_at : Place → Snapshot → Snapshot
snapshot_at p x = record x { graphics = graphics_at p x.graphics; stacked = map (graphics_at p) x.stacked }

-- a place within another: the combined place of what is placed in the inner one and then in the outer one
abbrev pub within : (outer inner : Place) → Place
within p q = record { chain = q.chain ++ p.chain; clip = map (clip_at p) q.clip ++ p.clip }

-- the surroundings of a placed machine: the place, what is left to run after it, the saves before it, what was
-- painted before it, and the sheets
pub record Around : Type 0 where
  pub place : Place
  pub left : List Token
  pub saves : List Snapshot
  pub painted : List Painting
  pub sheets : List (List Painting)

abbrev pub state_at : Around → State → State
state_at a s = record {
  left = s.left ++ a.left;
  work = s.work;
  kept = s.kept;
  level = s.level;
  graphics = graphics_at a.place s.graphics;
  stacked = map (graphics_at a.place) s.stacked;
  saves = map (snapshot_at a.place) s.saves ++ a.saves;
  painted = picture_at a.place s.painted ++ a.painted;
  sheets = a.sheets;
}
