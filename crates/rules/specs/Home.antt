-- The book of one process, kept by its home.
use Rattle.std.specs.Prelude.{ℕ, Bool, true, false, not}
use Rattle.std.proofs.Math.Option.{Option, none, some}
use Rattle.rules.specs.declared.Mode.{Mode}
use Rattle.rules.specs.declared.Wait.{Wait}
use Rattle.rules.specs.declared.Wait.TheVariants.{NotWaiting, Waiting}
use Rattle.rules.specs.declared.Process.{Process}
use Rattle.rules.specs.Bits.{without_bit, marked}
use Rattle.rules.specs.Book.{is_exclusive, hold_in}

-- "its home has the process waiting"
abbrev pub is_waiting : Wait → Bool
is_waiting NotWaiting = false
is_waiting (Waiting o m) = true

-- the hold of object o that the home notes, with its mode
abbrev pub hold_at : Process → ℕ → Option Mode
hold_at p o = hold_in p.shared p.exclusive o

abbrev pub is_hold : Option Mode → Bool
is_hold none = false
is_hold (some m) = true

-- "its home has it holding that object"
abbrev pub holding : Process → ℕ → Bool
holding p o = is_hold (hold_at p o)

-- "the home notes the wait"
abbrev pub asking : Process → ℕ → Mode → Process
asking p o m = record { shared = p.shared; exclusive = p.exclusive; wait = Waiting o m; released = p.released }

-- "the home drops the hold, notes that the process has released"
abbrev pub dropping : Process → ℕ → Process
dropping p o = record { shared = without_bit p.shared o; exclusive = without_bit p.exclusive o; wait = p.wait; released = true }

-- "The home ends any wait of the process and notes the hold in the granted mode."
abbrev pub granted : Process → ℕ → Mode → Process
granted p o m = record { shared = marked p.shared o (not (is_exclusive m)); exclusive = marked p.exclusive o (is_exclusive m); wait = NotWaiting; released = p.released }
