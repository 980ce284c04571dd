-- Every delivery on a board in shape: whatever the message is, the rules and the model agree on what it does.
pub mod Requests
pub mod Grants
pub mod Releases
pub mod Lists
use mathlib.Core.Path.{◌≡◌, refl}
use mathlib.Core.Option.{none, some}
use Prim.Native.Nat.{ℕ, ◌<◌}
use Rattle.rules.specs.declared.Kind.{Kind}
use Rattle.rules.specs.declared.Kind.TheVariants.{Free, Request, Grant, Release, ListToHome, ListToObject}
use Rattle.rules.specs.declared.Entries.{Entries}
use Rattle.rules.specs.declared.Board.{Board}
use Rattle.rules.specs.Book.{is_exclusive}
use Rattle.rules.specs.Board.{kind_at, list_at, freed}
use Rattle.rules.specs.Commands.{arriving, delivered}
use Rattle.laws.specs.Shape.{KindShaped}
use Rattle.laws.proofs.Kept.{Good}
use Rattle.model.specs.Board.{request, grant, release, list, without, act, deliver, Message as MessageM}
use Rattle.model.proofs.Tables.{some_not_none}
use Rattle.promises.proofs.Seen.{entries_seen, message_seen, seen}
use Rattle.promises.proofs.Arrives.Requests.{request_view}
use Rattle.promises.proofs.Arrives.Grants.{grant_view}
use Rattle.promises.proofs.Arrives.Releases.{release_view}
use Rattle.promises.proofs.Arrives.Lists.{home_view, object_view}

module _ (b : Board) (g : Good b) (i : ℕ) (lt : i < 64) where
  abbrev l : Entries
  l = list_at b i

  by_kind : (c : Kind) → kind_at b i ≡ c → KindShaped c l b.process_count b.object_count → (x : MessageM) → message_seen c l ≡ some x
      → seen (arriving c l (freed b i)) ≡ act (seen b) (without (seen b) i) x
  unfolding act
  by_kind Free c s x e = some_not_none (message_seen Free l) x e refl
  by_kind (Request p o m) c s x e = let z : x ≡ request p o (is_exclusive m) = cc in rw z (request_view b g i p o m lt c s.0 s.1)
  by_kind (Grant p o m) c s x e = let z : x ≡ grant p o (is_exclusive m) = cc in rw z (grant_view b g i p o m lt s.0)
  by_kind (Release p o) c s x e = let z : x ≡ release p o = cc in rw z (release_view b g i p o lt s.1)
  by_kind ListToHome c s x e = let z : x ≡ list (entries_seen l) l.next none = cc in rw z (home_view b g i lt s)
  by_kind (ListToObject o) c s x e = let z : x ≡ list (entries_seen l) l.next (some o) = cc in rw z (object_view b g i lt s.1 o s.0)

  pub delivered_view : (x : MessageM) → (seen b).messages i ≡ some x → seen (delivered b i) ≡ deliver (seen b) i x
  unfolding delivered deliver
  delivered_view x e = by_kind (kind_at b i) refl (g.shaped.records.messages i) x e
