use Rattle.std.proofs.Common.{◌≡◌, [], refl, rules, Err}
use Rattle.spur_object.specs.Fields.{board_fields, head_fields, page_fields, unit_fields, word_fields}
use Rattle.spur_object.specs.Limits.{IsUnit}
use Rattle.spur_object.specs.Reading.{AreCounts, list_fields}
use Rattle.spur_object.proofs.CursorFacts.{lift_stop, out, read_on}
use Rattle.spur_object.proofs.UnitFacts.{Boards, Pages, Words, before_pages, before_words, unit_begins, unit_boards_part, unit_head_part, unit_pages_part, unit_words_part}
use Rattle.spur_object.proofs.parts.unit.Goals as goal

pub returns-in_err-counts-clause-fault : goal.returns-in_err-counts-clause-fault
returns-in_err-counts-clause-fault c =
    let is : c.from_residual.result ≡ Err c.in_err-counts.field-0.0 = search rules in
    out IsUnit unit_fields c.args.cursor.now c.head.new.cursor c.from_residual.result c.in_err-counts.field-0.0 is
    (lift_stop AreCounts head_fields IsUnit unit_fields [] unit_head_part c.args.cursor.now c.args.cursor.now c.head.new.cursor refl
    c.in_err-counts.field-0.0 c.in_err-counts.ensures.fault)

pub returns-in_err-boards-clause-fault : goal.returns-in_err-boards-clause-fault
returns-in_err-boards-clause-fault c =
    let is : c.from_residual-in_err-boards.result ≡ Err c.in_err-boards.field-0.0 = search rules in
    let counts = c.in_ok-counts.counts in
    let head = c.in_ok-counts.ensures.found in
    out IsUnit unit_fields c.args.cursor.now c.boards.new.cursor c.from_residual-in_err-boards.result c.in_err-boards.field-0.0 is
    (lift_stop (Boards counts) (list_fields board_fields) IsUnit unit_fields (head_fields counts) (unit_boards_part counts head.limits)
    c.args.cursor.now c.head.new.cursor c.boards.new.cursor head.bytes_are
    c.in_err-boards.field-0.0 c.in_err-boards.ensures.fault)

pub returns-in_err-pages-clause-fault : goal.returns-in_err-pages-clause-fault
returns-in_err-pages-clause-fault c =
    let is : c.from_residual-in_err-pages.result ≡ Err c.in_err-pages.field-0.0 = search rules in
    let counts = c.in_ok-counts.counts in
    let head = c.in_ok-counts.ensures.found in
    let boards = c.in_ok-boards.boards.items in
    let boards_found = c.in_ok-boards.ensures.found in
    let boards_read = read_on (Boards counts) (list_fields board_fields) c.args.cursor.now c.head.new.cursor c.boards.new.cursor (head_fields counts) boards head.bytes_are boards_found in
    out IsUnit unit_fields c.args.cursor.now c.pages.new.cursor c.from_residual-in_err-pages.result c.in_err-pages.field-0.0 is
    (lift_stop (Pages counts) (list_fields page_fields) IsUnit unit_fields (before_pages counts boards) (unit_pages_part counts boards head.limits boards_found.limits)
    c.args.cursor.now c.boards.new.cursor c.pages.new.cursor boards_read
    c.in_err-pages.field-0.0 c.in_err-pages.ensures.fault)

pub returns-in_err-words-clause-fault : goal.returns-in_err-words-clause-fault
returns-in_err-words-clause-fault c =
    let is : c.from_residual-in_err-words.result ≡ Err c.in_err-words.field-0.0 = search rules in
    let counts = c.in_ok-counts.counts in
    let head = c.in_ok-counts.ensures.found in
    let boards = c.in_ok-boards.boards.items in
    let boards_found = c.in_ok-boards.ensures.found in
    let pages = c.in_ok-pages.pages.items in
    let pages_found = c.in_ok-pages.ensures.found in
    let boards_read = read_on (Boards counts) (list_fields board_fields) c.args.cursor.now c.head.new.cursor c.boards.new.cursor (head_fields counts) boards head.bytes_are boards_found in
    let pages_read = read_on (Pages counts) (list_fields page_fields) c.args.cursor.now c.boards.new.cursor c.pages.new.cursor (before_pages counts boards) pages boards_read pages_found in
    out IsUnit unit_fields c.args.cursor.now c.words.new.cursor c.from_residual-in_err-words.result c.in_err-words.field-0.0 is
    (lift_stop (Words counts) (list_fields word_fields) IsUnit unit_fields (before_words counts boards pages) (unit_words_part counts boards pages head.limits boards_found.limits pages_found.limits)
    c.args.cursor.now c.pages.new.cursor c.words.new.cursor pages_read
    c.in_err-words.field-0.0 c.in_err-words.ensures.fault)

pub returns-clause-found : goal.returns-clause-found
returns-clause-found c =
    let counts = c.in_ok-counts.counts in
    let head = c.in_ok-counts.ensures.found in
    let boards = c.in_ok-boards.boards.items in
    let boards_found = c.in_ok-boards.ensures.found in
    let pages = c.in_ok-pages.pages.items in
    let pages_found = c.in_ok-pages.ensures.found in
    let words = c.in_ok-words.words.items in
    let words_found = c.in_ok-words.ensures.found in
    let boards_read = read_on (Boards counts) (list_fields board_fields) c.args.cursor.now c.head.new.cursor c.boards.new.cursor (head_fields counts) boards head.bytes_are boards_found in
    let pages_read = read_on (Pages counts) (list_fields page_fields) c.args.cursor.now c.boards.new.cursor c.pages.new.cursor (before_pages counts boards) pages boards_read pages_found in
    let words_read = read_on (Words counts) (list_fields word_fields) c.args.cursor.now c.pages.new.cursor c.words.new.cursor (before_words counts boards pages) words pages_read words_found in
    rw (c.from_vec.ensures, c.from_vec-2.ensures, c.from_vec-3.ensures)
    (unit_begins c.args.cursor.now c.words.new.cursor counts boards pages words head.limits boards_found.limits pages_found.limits words_found.limits words_read)
