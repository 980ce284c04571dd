-- Sizes and ranges alone: what reading and writing records safely rests on. A board in shape has them, its arrays being as long as
-- their types say, and every command keeps them, also an accepted request that puts a board out of shape.
use Rattle.std.specs.Prelude.{ℕ, ◌≤◌, ◌<◌, ◌≡◌, length}
use Rattle.rules.specs.declared.Wait.{Wait}
use Rattle.rules.specs.declared.Wait.TheVariants.{NotWaiting, Waiting}
use Rattle.rules.specs.declared.Kind.{Kind}
use Rattle.rules.specs.declared.Kind.TheVariants.{Free, Request, Grant, Release, ListToHome, ListToObject}
use Rattle.rules.specs.declared.Entries.{Entries}
use Rattle.rules.specs.declared.Object.{Object}
use Rattle.rules.specs.declared.Board.{Board}
use Rattle.rules.specs.Book.{who_at}
use Rattle.rules.specs.Lists.{entry_at, lead_at}
use Rattle.rules.specs.Board.{process_at, object_at, kind_at, list_at}

-- a line of at most 16 processes below 16
pub record LineRanged (o : Object) : Type 0 where
  pub size : length o.line ≡ 16
  pub count : o.line_count ≤ 16
  pub who : (k : ℕ) → who_at o k < 16

-- a list of at most 16 processes below 16, each led by a place below 16
pub record ListRanged (l : Entries) : Type 0 where
  pub size : length l.who ≡ 16
  pub leads_size : length l.leads ≡ 16
  pub count : l.count ≤ 16
  pub next : l.next < 16
  pub who : (k : ℕ) → entry_at l k < 16
  pub leads : (k : ℕ) → lead_at l k < 16

abbrev pub KindRanged : Kind → Type 0
KindRanged Free = Unit {0}
KindRanged (Request p o m) = (p < 16) × (o < 16)
KindRanged (Grant p o m) = (p < 16) × (o < 16)
KindRanged (Release p o) = (p < 16) × (o < 16)
KindRanged ListToHome = Unit {0}
KindRanged (ListToObject o) = o < 16

abbrev pub WaitRanged : Wait → Type 0
WaitRanged NotWaiting = Unit {0}
WaitRanged (Waiting o m) = o < 16

pub record Ranged (b : Board) : Type 0 where
  pub processes : length b.processes ≡ 16
  pub objects : length b.objects ≡ 16
  pub flights : length b.flights ≡ 64
  pub lists : length b.lists ≡ 64
  pub rings : length b.rings ≡ 16
  pub count_of_processes : b.process_count ≤ 16
  pub count_of_objects : b.object_count ≤ 16
  pub waits : (p : ℕ) → WaitRanged (process_at b p).wait
  pub lines : (o : ℕ) → LineRanged (object_at b o)
  pub kinds : (n : ℕ) → KindRanged (kind_at b n)
  pub entries : (n : ℕ) → ListRanged (list_at b n)
