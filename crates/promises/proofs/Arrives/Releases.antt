-- A release arrives: the holder is struck, and grants are sent. The rules and the model agree.
use mathlib.Core.Path.{◌≡◌, refl, ap, ap₂, ◌∙◌}
use Prim.Native.Nat.{ℕ, ◌+◌, ◌≤◌, ◌<◌}
use native.Mathlib.Omega.{arith}
use lib.ListN.{length}
use Rattle.rules.specs.declared.Board.{Board}
use Rattle.rules.specs.Book.{release_arrives}
use Rattle.rules.specs.Board.{object_at, no_object, put_object, freed, send_grants, load}
use Rattle.rules.proofs.Load.{load_freed}
use Rattle.laws.proofs.Records.{put_freed}
use Rattle.laws.proofs.Kept.{Good, sound, settled_load}
use Rattle.model.specs.Tables.{Numbered, put}
use Rattle.model.specs.Book.{Line, Holders}
use Rattle.model.specs.Board.{without, release_arrives as releaseArrivesM, send_grants as sendGrantsM, Message as MessageM, Board as BoardM}
use Rattle.promises.proofs.Seen.Tables.{seen_set}
use Rattle.promises.proofs.Seen.{holders_seen, line_seen, seen, board_path}
use Rattle.promises.proofs.Seen.Objects.{release_same}
use Rattle.promises.proofs.Shape.{object_there}
use Rattle.promises.proofs.Sends.{ready, freed_messages, freed_ready, grants_view}

module _ (b : Board) (g : Good b) (i p o : ℕ) (lt : i < 64) (lo : o < b.object_count) where
  abbrev M : BoardM
  M = seen b

  below : o < length b.objects
  below = object_there b g o lo

  room : load (put_object (freed b i) o (release_arrives (object_at b o) p).object) + length (release_arrives (object_at b o) p).grants ≤ 64
  unfolding release_arrives
  room = omega (arith, settled_load (freed b i) (put_freed b (sound b g) i lt) p o lo, load_freed b i lt, g.shaped.load)

  pub release_view : seen (send_grants (put_object (freed b i) o (release_arrives (object_at b o) p).object) o (release_arrives (object_at b o) p).grants) ≡ releaseArrivesM M (without M i) p o
  unfolding releaseArrivesM
  release_view =
      let s = release_same (object_at b o) p in
      let x = release_arrives (object_at b o) p in
      grants_view x.grants (put_object (freed b i) o x.object) o (freed_ready b (ready b g) i lt) room ∙ board_path _ _ refl refl refl
      (seen_set holders_seen b.objects o x.object no_object below ∙ ap (λ (y : Holders). put M.holder o y) s.holders)
      (seen_set line_seen b.objects o x.object no_object below ∙ ap (λ (y : Line). put M.line o y) s.line)
      (ap₂ (λ (a : Line) (c : Numbered MessageM). sendGrantsM o a c) s.grants (freed_messages b (ready b g) i lt)) refl
