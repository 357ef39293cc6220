use Rattle.std.proofs.Common.{arith, ap, List, ℕ, length, ◌∷◌, [], ◌++◌}
use Rattle.std.specs.Fmt.{decimal}
use Rattle.std.specs.Prelude.{codes}
use Rattle.spur_trace.proofs.RangeFacts.{ranges}
use Rattle.spur_text.specs.Line.{line_of}
use Rattle.spur_trace.specs.Line.{header_line}
use Rattle.spur_text.proofs.TextFacts.{as_piece, four_digits, longer, one_digit, then_onto, two_digits}
use Rattle.spur_trace.proofs.RoomFacts.{begun_length, words_line}
use Rattle.std.proofs.lemmas.Grind.{common_steps}
use Rattle.spur_trace.proofs.write.put_header.Goals as goal

pub returns : goal.returns
unfolding header_line
returns c =
    let s0 = then_onto c.args.out.now c.put_begin.new.out c.put_number.new.self (codes "%trace" ++ 32 ∷ decimal 1 ++ 32 ∷ []) (decimal c.args.head.now.boards) c.put_begin.ensures c.put_number.ensures in
    let s1 = then_onto c.args.out.now c.put_number.new.self c.put.new.self ((codes "%trace" ++ 32 ∷ decimal 1 ++ 32 ∷ []) ++ (decimal c.args.head.now.boards)) (32 ∷ []) s0 c.put.ensures in
    let s2 = then_onto c.args.out.now c.put.new.self c.put_number-2.new.self (((codes "%trace" ++ 32 ∷ decimal 1 ++ 32 ∷ []) ++ (decimal c.args.head.now.boards)) ++ (32 ∷ [])) (decimal c.args.head.now.frames) s1 c.put_number-2.ensures in
    let s3 = then_onto c.args.out.now c.put_number-2.new.self c.put-2.new.self ((((codes "%trace" ++ 32 ∷ decimal 1 ++ 32 ∷ []) ++ (decimal c.args.head.now.boards)) ++ (32 ∷ [])) ++ (decimal c.args.head.now.frames)) (32 ∷ []) s2 c.put-2.ensures in
    let s4 = then_onto c.args.out.now c.put-2.new.self c.put_number-3.new.self (((((codes "%trace" ++ 32 ∷ decimal 1 ++ 32 ∷ []) ++ (decimal c.args.head.now.boards)) ++ (32 ∷ [])) ++ (decimal c.args.head.now.frames)) ++ (32 ∷ [])) (decimal c.args.head.now.lines) s3 c.put_number-3.ensures in
    let s5 = then_onto c.args.out.now c.put_number-3.new.self c.put-3.new.self ((((((codes "%trace" ++ 32 ∷ decimal 1 ++ 32 ∷ []) ++ (decimal c.args.head.now.boards)) ++ (32 ∷ [])) ++ (decimal c.args.head.now.frames)) ++ (32 ∷ [])) ++ (decimal c.args.head.now.lines)) (10 ∷ []) s4 c.put-3.ensures in
    as_piece c.args.out.now c.put-3.new.self (((((((codes "%trace" ++ 32 ∷ decimal 1 ++ 32 ∷ []) ++ (decimal c.args.head.now.boards)) ++ (32 ∷ [])) ++ (decimal c.args.head.now.frames)) ++ (32 ∷ [])) ++ (decimal c.args.head.now.lines)) ++ (10 ∷ [])) (line_of ((codes "%trace") ∷ (decimal 1) ∷ (decimal c.args.head.now.boards) ∷ (decimal c.args.head.now.frames) ∷ (decimal c.args.head.now.lines) ∷ [])) (words_line (codes "%trace") (decimal 1) (decimal c.args.head.now.boards) (decimal c.args.head.now.frames) (decimal c.args.head.now.lines)) s5

pub put_number-requires-3 : goal.put_number-requires-3
put_number-requires-3 c =
    let lines = four_digits c.args.head.now.lines (omega (arith, (ranges c.args.head.now c.requires.is_head).few_lines)) in
    grind (arith, common_steps, two_digits, four_digits)

pub put-requires-3 : goal.put-requires-3
put-requires-3 c =
    let head = c.args.head.now in
    let lines = four_digits head.lines (omega (arith, (ranges c.args.head.now c.requires.is_head).few_lines)) in
    let boards = two_digits head.boards (omega (arith, (ranges c.args.head.now c.requires.is_head).few_boards)) in
    let frames = four_digits head.frames (omega (arith, (ranges c.args.head.now c.requires.is_head).few_frames)) in
    let version = ap (λ (x : List ℕ). length x) (one_digit 1 (omega arith)) in
    let verb = begun_length (codes "%trace") (decimal 1) in
    let fits = c.requires.fits in
    let s0 = longer c.args.out.now c.put_begin.new.out (codes "%trace" ++ 32 ∷ decimal 1 ++ 32 ∷ []) c.put_begin.ensures in
    let s1 = longer c.put_begin.new.out c.put_number.new.self (decimal head.boards) c.put_number.ensures in
    let s2 = longer c.put_number.new.self c.put.new.self (32 ∷ []) c.put.ensures in
    let s3 = longer c.put.new.self c.put_number-2.new.self (decimal head.frames) c.put_number-2.ensures in
    let s4 = longer c.put_number-2.new.self c.put-2.new.self (32 ∷ []) c.put-2.ensures in
    let s5 = longer c.put-2.new.self c.put_number-3.new.self (decimal head.lines) c.put_number-3.ensures in
    omega (arith, lines, boards, frames, version, verb, fits, s0.items, s1.items, s2.items, s3.items, s4.items, s5.items, s0.room, s1.room, s2.room, s3.room, s4.room, s5.room)
