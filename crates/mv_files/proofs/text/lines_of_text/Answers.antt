-- What the lexer tells of a text that it is fed at once.
use Rattle.std.proofs.Common.{[]}
use Rattle.mv_files.proofs.Texts.{text_clean, text_lines, piece_told, finish_told}
use Rattle.mv_files.proofs.text.lines_of_text.Goals as goal

pub returns-in-Err-clause-fault : goal.returns-in-Err-clause-fault
returns-in-Err-clause-fault c =
    let start = c.new-lexer.ensures in
    piece_told _ _ _ _ start.limit (c.in-Err.ensures.fault [] start.start)

pub returns-in-Ok-finish-clause-clean : goal.returns-in-Ok-finish-clause-clean
returns-in-Ok-finish-clause-clean c =
    let start = c.new-lexer.ensures in
    let stands = c.in-Ok.ensures.ok [] start.start in
    text_clean _ _ _ _ (record { start = start.start; limited = start.limit; stands = stands; same = c.in-Ok.ensures.limit }) (c.in-Ok-finish.ensures.fault _ stands)

pub returns-in-Ok-finish-clause-lines : goal.returns-in-Ok-finish-clause-lines
returns-in-Ok-finish-clause-lines c =
    let start = c.new-lexer.ensures in
    let stands = c.in-Ok.ensures.ok [] start.start in
    text_lines _ _ _ _ _ _ _ (record { start = start.start; limited = start.limit; stands = stands; same = c.in-Ok.ensures.limit }) c.new-lines.ensures c.in-Ok.ensures.lines c.in-Ok-finish.ensures.lines

pub returns-in-Err-finish-clause-fault : goal.returns-in-Err-finish-clause-fault
returns-in-Err-finish-clause-fault c =
    let start = c.new-lexer.ensures in
    let stands = c.in-Ok.ensures.ok [] start.start in
    finish_told _ _ _ _ _ (record { start = start.start; limited = start.limit; stands = stands; same = c.in-Ok.ensures.limit }) (c.in-Err-finish.ensures.fault _ stands)
