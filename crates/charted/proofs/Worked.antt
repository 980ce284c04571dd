-- The stream prints its lines: the checker computes both sides. Assumes nothing.
use mathlib.Core.Path.{refl}
use Rattle.rules.specs.Tables.{rows, collect, place_of, among, all, sum}
use Rattle.rules.specs.Bits.{digit, taken, with_bit, without_bit, free_from, lowest_free, taken_from, lowest_taken}
use Rattle.rules.specs.Answers.{first_of}
use Rattle.rules.specs.Book.{hold_in, rival, rivals, clear, place_in, joined, ahead, waited_for, welcome, settled, release_arrives}
use Rattle.rules.specs.Lists.{listed, add_one, add_all, entry_done, started, along_leads, list_at_object, keeping, request_arrives}
use Rattle.rules.specs.Board.{put_first, send, send_grants, load, tally, rings_of_length}
use Rattle.rules.specs.Commands.{recording, requested, released, delivered, effect, answer_to, turn, draining, homes_of, opening}
use Rattle.rules.specs.Sheet.{field, homes_from, command_at, command_spare, board_after, room_after, reader_answer, commands_part, sheet_answer, run_sheet}
use Rattle.text.specs.Text.{digits, decimal, after_spaces, spaced, line_of, flat, at_most}
use Rattle.totals.specs.Stream.{sized, sheets_within, sheets_in}
use Rattle.totals.specs.Totals.{came, total, totals_of}
use Rattle.charted.specs.Lines.{total_line, place_line, refused_lines, ring_lines, chart_lines}
use Rattle.charted.specs.Worked.{WorkedHolds, stream, lines}

pub worked_holds : WorkedHolds
unfolding rows collect place_of among all sum digit taken with_bit without_bit free_from lowest_free taken_from lowest_taken first_of hold_in rival rivals clear place_in joined ahead waited_for welcome settled release_arrives listed add_one add_all entry_done started along_leads list_at_object keeping request_arrives put_first send send_grants load tally recording requested released delivered effect answer_to turn draining homes_of opening field homes_from command_at command_spare board_after room_after reader_answer commands_part sheet_answer run_sheet digits decimal after_spaces spaced line_of flat at_most rings_of_length sized sheets_within sheets_in came total totals_of total_line place_line refused_lines ring_lines chart_lines stream lines
worked_holds = refl
