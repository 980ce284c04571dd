-- The streams come to their totals: the checker computes both sides of every row. Assumes nothing.
use Rattle.std.proofs.Common.{refl}
use Rattle.rules.specs.Tables.{rows, collect, place_of, among, all, sum}
use Rattle.rules.specs.Bits.{digit, taken, with_bit, without_bit, free_from, lowest_free, taken_from, lowest_taken}
use Rattle.rules.specs.Answers.{first_of}
use Rattle.rules.specs.Book.{hold_in, rival, rivals, clear, place_in, joined, ahead, waited_for, welcome, settled, release_arrives}
use Rattle.rules.specs.Lists.{listed, add_one, add_all, entry_done, started, along_leads, list_at_object, keeping, request_arrives}
use Rattle.rules.specs.Board.{put_first, send, send_grants, load, tally, rings_of_length}
use Rattle.rules.specs.Commands.{recording, requested, released, delivered, effect, answer_to, turn, homes_of, opening}
use Rattle.rules.specs.Sheet.{field, homes_from, command_at, command_spare, board_after, room_after, reader_answer, commands_part, sheet_answer, run_sheet}
use Rattle.text.specs.Text.{at_most}
use Rattle.totals.specs.Stream.{sized, sheets_within, sheets_in}
use Rattle.totals.specs.Totals.{came, total, totals_of}
use Rattle.term.specs.Cases.{StreamsHold, streams}

pub streams_hold : StreamsHold
unfolding rows collect place_of among all sum digit taken with_bit without_bit free_from lowest_free taken_from lowest_taken first_of hold_in rival rivals clear place_in joined ahead waited_for welcome settled release_arrives listed add_one add_all entry_done started along_leads list_at_object keeping request_arrives put_first send send_grants load tally rings_of_length recording requested released delivered effect answer_to turn homes_of opening field homes_from command_at command_spare board_after room_after reader_answer commands_part sheet_answer run_sheet at_most sized sheets_within sheets_in came total totals_of streams
streams_hold = (refl, (refl, (refl, (refl, (refl, (refl, (refl, (refl, (refl, (refl, (refl, (refl, (refl, tt)))))))))))))
