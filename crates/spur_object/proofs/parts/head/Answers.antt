use Rattle.std.proofs.Common.{◌≡◌, [], refl, rules, Err}
use Rattle.spur_object.specs.declared.fault.ObjKind.TheVariants.{Magic, Version, Field}
use Rattle.spur_object.specs.Fields.{head_fields, magic, version}
use Rattle.spur_object.specs.Reading.{AreCounts, IsWithin, one_field}
use Rattle.spur_object.proofs.CursorFacts.{lift_stop, out, read_on, read_same}
use Rattle.spur_object.proofs.UnitFacts.{after_boards, after_magic, after_pages, after_version, head_boards_part, head_magic_part, head_pages_part, head_version_part, head_words_part}
use Rattle.spur_object.proofs.parts.head.Goals as goal

pub returns-in_err-_magic-clause-fault : goal.returns-in_err-_magic-clause-fault
returns-in_err-_magic-clause-fault c =
    let is : c.from_residual.result ≡ Err c.in_err-_magic.field-0.0 = search rules in
    out AreCounts head_fields c.args.cursor.now c.number.new.self c.from_residual.result c.in_err-_magic.field-0.0 is
    (lift_stop (IsWithin magic magic) (one_field Magic) AreCounts head_fields [] head_magic_part c.args.cursor.now c.args.cursor.now c.number.new.self refl
    c.in_err-_magic.field-0.0 c.in_err-_magic.ensures.fault)

pub returns-in_err-_version-clause-fault : goal.returns-in_err-_version-clause-fault
returns-in_err-_version-clause-fault c =
    let is : c.from_residual-in_err-_version.result ≡ Err c.in_err-_version.field-0.0 = search rules in
    let magic_read = read_same magic Magic c.args.cursor.now c.args.cursor.now c.number.new.self [] c.in_ok-_magic._magic refl c.in_ok-_magic.ensures.found in
    out AreCounts head_fields c.args.cursor.now c.number-2.new.self c.from_residual-in_err-_version.result c.in_err-_version.field-0.0 is
    (lift_stop (IsWithin version version) (one_field Version) AreCounts head_fields after_magic head_version_part c.args.cursor.now c.number.new.self c.number-2.new.self magic_read
    c.in_err-_version.field-0.0 c.in_err-_version.ensures.fault)

pub returns-in_err-boards-clause-fault : goal.returns-in_err-boards-clause-fault
returns-in_err-boards-clause-fault c =
    let is : c.from_residual-in_err-boards.result ≡ Err c.in_err-boards.field-0.0 = search rules in
    let magic_read = read_same magic Magic c.args.cursor.now c.args.cursor.now c.number.new.self [] c.in_ok-_magic._magic refl c.in_ok-_magic.ensures.found in
    let version_read = read_same version Version c.args.cursor.now c.number.new.self c.number-2.new.self after_magic c.in_ok-_version._version magic_read c.in_ok-_version.ensures.found in
    out AreCounts head_fields c.args.cursor.now c.number-3.new.self c.from_residual-in_err-boards.result c.in_err-boards.field-0.0 is
    (lift_stop (IsWithin 1 12) (one_field Field) AreCounts head_fields after_version head_boards_part c.args.cursor.now c.number-2.new.self c.number-3.new.self version_read
    c.in_err-boards.field-0.0 c.in_err-boards.ensures.fault)

pub returns-in_err-pages-clause-fault : goal.returns-in_err-pages-clause-fault
returns-in_err-pages-clause-fault c =
    let is : c.from_residual-in_err-pages.result ≡ Err c.in_err-pages.field-0.0 = search rules in
    let magic_read = read_same magic Magic c.args.cursor.now c.args.cursor.now c.number.new.self [] c.in_ok-_magic._magic refl c.in_ok-_magic.ensures.found in
    let version_read = read_same version Version c.args.cursor.now c.number.new.self c.number-2.new.self after_magic c.in_ok-_version._version magic_read c.in_ok-_version.ensures.found in
    let boards = c.in_ok-boards.boards in
    let boards_found = c.in_ok-boards.ensures.found in
    let boards_read = read_on (IsWithin 1 12) (one_field Field) c.args.cursor.now c.number-2.new.self c.number-3.new.self after_version boards version_read boards_found in
    out AreCounts head_fields c.args.cursor.now c.number-4.new.self c.from_residual-in_err-pages.result c.in_err-pages.field-0.0 is
    (lift_stop (IsWithin 0 2048) (one_field Field) AreCounts head_fields (after_boards boards) (head_pages_part boards boards_found.limits.low boards_found.limits.high)
    c.args.cursor.now c.number-3.new.self c.number-4.new.self boards_read
    c.in_err-pages.field-0.0 c.in_err-pages.ensures.fault)

pub returns-in_err-words-clause-fault : goal.returns-in_err-words-clause-fault
returns-in_err-words-clause-fault c =
    let is : c.from_residual-in_err-words.result ≡ Err c.in_err-words.field-0.0 = search rules in
    let magic_read = read_same magic Magic c.args.cursor.now c.args.cursor.now c.number.new.self [] c.in_ok-_magic._magic refl c.in_ok-_magic.ensures.found in
    let version_read = read_same version Version c.args.cursor.now c.number.new.self c.number-2.new.self after_magic c.in_ok-_version._version magic_read c.in_ok-_version.ensures.found in
    let boards = c.in_ok-boards.boards in
    let boards_found = c.in_ok-boards.ensures.found in
    let pages = c.in_ok-pages.pages in
    let pages_found = c.in_ok-pages.ensures.found in
    let boards_read = read_on (IsWithin 1 12) (one_field Field) c.args.cursor.now c.number-2.new.self c.number-3.new.self after_version boards version_read boards_found in
    let pages_read = read_on (IsWithin 0 2048) (one_field Field) c.args.cursor.now c.number-3.new.self c.number-4.new.self (after_boards boards) pages boards_read pages_found in
    out AreCounts head_fields c.args.cursor.now c.number-5.new.self c.from_residual-in_err-words.result c.in_err-words.field-0.0 is
    (lift_stop (IsWithin 0 65536) (one_field Field) AreCounts head_fields (after_pages boards pages)
    (head_words_part boards pages boards_found.limits.low boards_found.limits.high pages_found.limits.high)
    c.args.cursor.now c.number-4.new.self c.number-5.new.self pages_read
    c.in_err-words.field-0.0 c.in_err-words.ensures.fault)

pub returns-clause-found : goal.returns-clause-found
returns-clause-found c =
    let magic_read = read_same magic Magic c.args.cursor.now c.args.cursor.now c.number.new.self [] c.in_ok-_magic._magic refl c.in_ok-_magic.ensures.found in
    let version_read = read_same version Version c.args.cursor.now c.number.new.self c.number-2.new.self after_magic c.in_ok-_version._version magic_read c.in_ok-_version.ensures.found in
    let boards = c.in_ok-boards.boards in
    let boards_found = c.in_ok-boards.ensures.found in
    let pages = c.in_ok-pages.pages in
    let pages_found = c.in_ok-pages.ensures.found in
    let words = c.in_ok-words.words in
    let words_found = c.in_ok-words.ensures.found in
    let boards_read = read_on (IsWithin 1 12) (one_field Field) c.args.cursor.now c.number-2.new.self c.number-3.new.self after_version boards version_read boards_found in
    let pages_read = read_on (IsWithin 0 2048) (one_field Field) c.args.cursor.now c.number-3.new.self c.number-4.new.self (after_boards boards) pages boards_read pages_found in
    record {
      limits = record { some_board = boards_found.limits.low; few_boards = boards_found.limits.high; few_pages = pages_found.limits.high; few_words = words_found.limits.high };
      bytes_are = read_on (IsWithin 0 65536) (one_field Field) c.args.cursor.now c.number-4.new.self c.number-5.new.self (after_pages boards pages) words pages_read words_found;
    }
