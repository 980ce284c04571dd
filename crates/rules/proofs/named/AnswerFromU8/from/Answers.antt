-- `From<u8> for Answer` meets its contract: by the cases of the number; past the table none is left but the last. Assumes nothing.
use mathlib.Core.Path.{sym}
use native.Mathlib.Omega.{arith}
use Rattle.rules.specs.Answers.{answer_of}
use Rattle.rules.proofs.Numbers.{above, answer_past}
use Rattle.rules.proofs.named.AnswerFromU8.from.Goals as goal

pub returns-in-0 : goal.returns-in-0
unfolding answer_of
returns-in-0 c = rw c.in-0.is

pub returns-in-1 : goal.returns-in-1
unfolding answer_of
returns-in-1 c = rw c.in-1.is

pub returns-in-2 : goal.returns-in-2
unfolding answer_of
returns-in-2 c = rw c.in-2.is

pub returns-in-3 : goal.returns-in-3
unfolding answer_of
returns-in-3 c = rw c.in-3.is

pub returns-in-4 : goal.returns-in-4
unfolding answer_of
returns-in-4 c = rw c.in-4.is

pub returns-in-5 : goal.returns-in-5
unfolding answer_of
returns-in-5 c = rw c.in-5.is

pub returns-in-6 : goal.returns-in-6
unfolding answer_of
returns-in-6 c = rw c.in-6.is

pub returns-in-7 : goal.returns-in-7
unfolding answer_of
returns-in-7 c = rw c.in-7.is

pub returns-in-8 : goal.returns-in-8
unfolding answer_of
returns-in-8 c = rw c.in-8.is

pub returns-in-9 : goal.returns-in-9
unfolding answer_of
returns-in-9 c = rw c.in-9.is

pub returns-in-10 : goal.returns-in-10
unfolding answer_of
returns-in-10 c = rw c.in-10.is

pub returns-in-11 : goal.returns-in-11
unfolding answer_of
returns-in-11 c = rw c.in-11.is

pub returns-in-12 : goal.returns-in-12
unfolding answer_of
returns-in-12 c = rw c.in-12.is

pub returns-in-13 : goal.returns-in-13
unfolding answer_of
returns-in-13 c = rw c.in-13.is

pub returns-in-14 : goal.returns-in-14
unfolding answer_of
returns-in-14 c = rw c.in-14.is

pub returns-in-15 : goal.returns-in-15
unfolding answer_of
returns-in-15 c = rw c.in-15.is

pub returns-in-16 : goal.returns-in-16
unfolding answer_of
returns-in-16 c = rw c.in-16.is

pub returns-in-17 : goal.returns-in-17
unfolding answer_of
returns-in-17 c = rw c.in-17.is

pub returns-in_default : goal.returns-in_default
returns-in_default c = let n = c.args.n in sym (answer_past n (above n 17 (above n 16 (above n 15 (above n 14 (above n 13 (above n 12 (above n 11 (above n 10 (above n 9 (above n 8 (above n 7 (above n 6 (above n 5 (above n 4 (above n 3 (above n 2 (above n 1 (above n 0 (omega arith) c.in_default.in_default-own.rest.0.0.0.0.0.0.0.0.0.0.0.0.0.0.0.0.0.1) c.in_default.in_default-own.rest.0.0.0.0.0.0.0.0.0.0.0.0.0.0.0.0.1) c.in_default.in_default-own.rest.0.0.0.0.0.0.0.0.0.0.0.0.0.0.0.1) c.in_default.in_default-own.rest.0.0.0.0.0.0.0.0.0.0.0.0.0.0.1) c.in_default.in_default-own.rest.0.0.0.0.0.0.0.0.0.0.0.0.0.1) c.in_default.in_default-own.rest.0.0.0.0.0.0.0.0.0.0.0.0.1) c.in_default.in_default-own.rest.0.0.0.0.0.0.0.0.0.0.0.1) c.in_default.in_default-own.rest.0.0.0.0.0.0.0.0.0.0.1) c.in_default.in_default-own.rest.0.0.0.0.0.0.0.0.0.1) c.in_default.in_default-own.rest.0.0.0.0.0.0.0.0.1) c.in_default.in_default-own.rest.0.0.0.0.0.0.0.1) c.in_default.in_default-own.rest.0.0.0.0.0.0.1) c.in_default.in_default-own.rest.0.0.0.0.0.1) c.in_default.in_default-own.rest.0.0.0.0.1) c.in_default.in_default-own.rest.0.0.0.1) c.in_default.in_default-own.rest.0.0.1) c.in_default.in_default-own.rest.0.1) c.in_default.in_default-own.rest.1))
