-- The paper's table holds: the checker computes both sides of every row.
use mathlib.Core.Path.{refl}
use Rattle.rules.specs.Tables.{rows, collect, place_of, among, all, sum}
use Rattle.rules.specs.Bits.{digit, taken, with_bit, without_bit, free_from, lowest_free, taken_from, lowest_taken}
use Rattle.rules.specs.Answers.{first_of}
use Rattle.rules.specs.Book.{hold_in, rival, rivals, clear, place_in, joined, ahead, waited_for, welcome, settled, release_arrives}
use Rattle.rules.specs.Lists.{listed, add_one, add_all, entry_done, started, along_leads, list_at_object, keeping, request_arrives}
use Rattle.rules.specs.Board.{put_first, send, send_grants, load, tally}
use Rattle.rules.specs.Commands.{recording, requested, released, delivered, effect, answer_to, turn, draining, homes_of, opening}
use Rattle.rules.specs.Shape.{holds_fit, row_fits, different, counts_fit, process_fits, object_fits, list_fits, no_list, message_fits, ring_fits, standing, in_shape, step, drain}
use Rattle.rules.specs.Sheet.{field, homes_from, command_at, command_spare, board_after, room_after, reader_answer, commands_part, sheet_answer, run_sheet}
use Rattle.rules.specs.Cases.{TableHolds, table, small_board, board_of, join_all, shown, outcome, sheet_outcome}

pub table_holds : TableHolds
unfolding rows collect place_of among all sum digit taken with_bit without_bit free_from lowest_free taken_from lowest_taken first_of hold_in rival rivals clear place_in joined ahead waited_for welcome settled release_arrives listed add_one add_all entry_done started along_leads list_at_object keeping request_arrives put_first send send_grants load tally recording requested released delivered effect answer_to turn draining homes_of opening holds_fit row_fits different counts_fit process_fits object_fits list_fits no_list message_fits ring_fits standing in_shape step drain field homes_from command_at command_spare board_after room_after reader_answer commands_part sheet_answer run_sheet table small_board board_of join_all shown outcome sheet_outcome
table_holds = (refl, (refl, (refl, (refl, (refl, (refl, (refl, (refl, (refl, (refl, (refl, (refl, (refl, (refl, tt))))))))))))))
