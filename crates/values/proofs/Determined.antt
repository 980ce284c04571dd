-- The contracts of the crate's public functions determine their results.
use Rattle.std.proofs.Common.{refl, ◌<◌, ◌≤◌}
use seplogic.Ra.Ura.{Ura}
use base.Logic.{SProp}
use prog.Memory.{Memory}
use prog.Routine.{Routine}
use types.Logic.{Logic}
use contract.Monad.{Fun}
use Rattle.rules.specs.Bits as Bits
use Rattle.rules.specs.Board as Boards
use Rattle.rules.specs.Book as Book
use Rattle.rules.specs.Commands.{count_fits, home_outside}
use Rattle.rules.specs.Lists as Lists
use Rattle.rules.specs.Determined.{Determined}
use Rattle.rules.proofs.Determined.{by_equation, by_equation_with}
use Rattle.values.specs.contracts.bits.wide as wide
use Rattle.values.specs.contracts.bits.has as has
use Rattle.values.specs.contracts.bits.with as with-one
use Rattle.values.specs.contracts.bits.without as without
use Rattle.values.specs.contracts.bits.marked as marked
use Rattle.values.specs.contracts.bits.lowest_free as lowest-free
use Rattle.values.specs.contracts.bits.lowest as lowest
use Rattle.values.specs.contracts.mode.is_exclusive as is-exclusive
use Rattle.values.specs.contracts.mode.mode_if as mode-if
use Rattle.values.specs.contracts.count.count_fits as count_fits
use Rattle.values.specs.contracts.homes.home_outside as home-outside
use Rattle.values.specs.contracts.message.kind_load as kind-load
use Rattle.values.specs.contracts.message.no_entries as no-entries

module _ {M : Type 1} {𝓤 : Ura M} (𝓛 : Logic 𝓤) (mem : Memory → SProp 𝓤) (run : Routine → Fun 𝓤) where
  pub wide_determined : Determined wide.ended (wide.clauses 𝓛 mem run) (λ κs r e. r)
  wide_determined = by_equation_with (λ κs a. a.0) (λ κs a r e. r < 256) (λ κs a g r e. refl)

  pub has_determined : Determined has.ended (has.clauses 𝓛 mem run) (λ κs r e. r)
  has_determined = by_equation (λ κs a. Bits.taken a.0 a.1.0) (λ κs a g r e. refl)

  pub with_determined : Determined with-one.ended (with-one.clauses 𝓛 mem run) (λ κs r e. r)
  with_determined = by_equation (λ κs a. Bits.with_bit a.0 a.1.0) (λ κs a g r e. refl)

  pub without_determined : Determined without.ended (without.clauses 𝓛 mem run) (λ κs r e. r)
  without_determined = by_equation (λ κs a. Bits.without_bit a.0 a.1.0) (λ κs a g r e. refl)

  pub marked_determined : Determined marked.ended (marked.clauses 𝓛 mem run) (λ κs r e. r)
  marked_determined = by_equation (λ κs a. Bits.marked a.0 a.1.0 a.1.1.0) (λ κs a g r e. refl)

  pub lowest_free_determined : Determined lowest-free.ended (lowest-free.clauses 𝓛 mem run) (λ κs r e. r)
  lowest_free_determined = by_equation_with (λ κs a. Bits.lowest_free a.0) (λ κs a r e. r ≤ 64) (λ κs a g r e. refl)

  pub lowest_determined : Determined lowest.ended (lowest.clauses 𝓛 mem run) (λ κs r e. r)
  lowest_determined = by_equation_with (λ κs a. Bits.lowest_taken a.0) (λ κs a r e. r ≤ 64) (λ κs a g r e. refl)

  pub is_exclusive_determined : Determined is-exclusive.ended (is-exclusive.clauses 𝓛 mem run) (λ κs r e. r)
  is_exclusive_determined = by_equation (λ κs a. Book.is_exclusive a.0) (λ κs a g r e. refl)

  pub mode_if_determined : Determined mode-if.ended (mode-if.clauses 𝓛 mem run) (λ κs r e. r)
  mode_if_determined = by_equation (λ κs a. Book.mode_if a.0) (λ κs a g r e. refl)

  pub count_fits_determined : Determined count_fits.ended (count_fits.clauses 𝓛 mem run) (λ κs r e. r)
  count_fits_determined = by_equation (λ κs a. count_fits a.0 a.1.0) (λ κs a g r e. refl)

  pub home_outside_determined : Determined home-outside.ended (home-outside.clauses 𝓛 mem run) (λ κs r e. r)
  home_outside_determined = by_equation (λ κs a. home_outside a.1.1.0 a.1.0 a.0) (λ κs a g r e. refl)

  pub kind_load_determined : Determined kind-load.ended (kind-load.clauses 𝓛 mem run) (λ κs r e. r)
  kind_load_determined = by_equation_with (λ κs a. Boards.kind_load a.0) (λ κs a r e. r ≤ 2) (λ κs a g r e. refl)

  pub no_entries_determined : Determined no-entries.ended (no-entries.clauses 𝓛 mem run) (λ κs r e. r)
  no_entries_determined = by_equation (λ κs a. Lists.no_entries) (λ κs a g r e. refl)
