-- The paper's sheets print their texts: the checker computes both sides of every row. Assumes nothing.
use mathlib.Core.Path.{refl}
use Rattle.rules.specs.Tables.{rows, collect, place_of, among, all, sum}
use Rattle.rules.specs.Bits.{digit, taken, with_bit, without_bit, free_from, lowest_free, taken_from, lowest_taken}
use Rattle.rules.specs.Answers.{first_of}
use Rattle.rules.specs.Book.{hold_in, rival, rivals, clear, place_in, joined, ahead, waited_for, welcome, settled, release_arrives}
use Rattle.rules.specs.Lists.{listed, add_one, add_all, entry_done, started, along_leads, list_at_object, keeping, request_arrives}
use Rattle.rules.specs.Board.{put_first, send, send_grants, load, tally}
use Rattle.rules.specs.Commands.{recording, requested, released, delivered, effect, answer_to, turn, draining, homes_of, opening}
use Rattle.rules.specs.Sheet.{field, homes_from, command_at, command_spare, board_after, room_after, reader_answer, commands_part, sheet_answer, run_sheet}
use Rattle.text.specs.Text.{digits, decimal, after_spaces, spaced, line_of, flat, at_most}
use Rattle.rules.proofs.Cases.{table_holds}
use Rattle.printed.specs.Lines.{entry, holder_entries, line_entries, object_line, object_lines, ring_entries, ring_line, ring_lines, last_line, command_line, command_lines, refused_line, printed, printed_sheet}
use Rattle.printed.specs.Full.{TextsHold, PaperHolds, texts}

pub texts_hold : TextsHold
unfolding rows collect place_of among all sum digit taken with_bit without_bit free_from lowest_free taken_from lowest_taken first_of hold_in rival rivals clear place_in joined ahead waited_for welcome settled release_arrives listed add_one add_all entry_done started along_leads list_at_object keeping request_arrives put_first send send_grants load tally recording requested released delivered effect answer_to turn draining homes_of opening field homes_from command_at command_spare board_after room_after reader_answer commands_part sheet_answer run_sheet digits decimal after_spaces spaced line_of flat at_most entry holder_entries line_entries object_line object_lines ring_entries ring_line ring_lines last_line command_line command_lines refused_line printed printed_sheet texts
texts_hold = (refl, (refl, (refl, (refl, (refl, (refl, (refl, tt)))))))

pub paper_holds : PaperHolds
paper_holds = (table_holds, texts_hold)
