-- A grant arrives: its home ends the wait and notes the hold. The rules and the model agree.
use mathlib.Core.Path.{◌≡◌, refl, ap, ◌∙◌}
use mathlib.Core.Bool.{Bool}
use mathlib.Core.Option.{Option}
use Prim.Native.Nat.{ℕ, ◌<◌}
use lib.ListN.{length}
use Rattle.rules.specs.declared.Mode.{Mode}
use Rattle.rules.specs.declared.Process.{Process}
use Rattle.rules.specs.declared.Board.{Board}
use Rattle.rules.specs.Book.{is_exclusive}
use Rattle.rules.specs.Home.{granted}
use Rattle.rules.specs.Board.{process_at, no_process, put_process, freed}
use Rattle.laws.proofs.Kept.{Good}
use Rattle.model.specs.Tables.{put, put_pair}
use Rattle.model.specs.Board.{without, grant_arrives}
use Rattle.promises.proofs.Seen.Tables.{seen_set, put_self}
use Rattle.promises.proofs.Seen.{wait_seen, holds_seen, seen, board_path}
use Rattle.promises.proofs.Seen.Objects.{noted}
use Rattle.promises.proofs.Shape.{process_there}
use Rattle.promises.proofs.Sends.{ready, freed_messages}

pub grant_view : (b : Board) → Good b → (i p o : ℕ) (m : Mode) → i < 64 → p < b.process_count
    → seen (put_process (freed b i) p (granted (process_at b p) o m)) ≡ grant_arrives (seen b) (without (seen b) i) p o (is_exclusive m)
unfolding grant_arrives put_pair
grant_view b g i p o m lt lp =
    let x = process_at b p in
    let below : p < length b.processes = process_there b g p lp in
    board_path _ _
    (seen_set (λ (y : Process). wait_seen y.wait) b.processes p (granted x o m) no_process below)
    (seen_set holds_seen b.processes p (granted x o m) no_process below ∙ ap (λ (y : ℕ → Option Bool). put (seen b).hold p y) (noted x.shared x.exclusive o m))
    (seen_set (λ (y : Process). y.released) b.processes p (granted x o m) no_process below ∙ put_self (seen b).released p _ refl)
    refl refl (freed_messages b (ready b g) i lt) refl
