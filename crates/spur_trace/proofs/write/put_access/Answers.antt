use Rattle.std.proofs.Common.{◌∷◌, [], ◌++◌}
use Rattle.std.specs.Fmt.{decimal}
use Rattle.spur_text.specs.Digits.{address_digits, word_digits}
use Rattle.spur_text.specs.Line.{line_of}
use Rattle.spur_text.proofs.TextFacts.{as_piece, then_onto}
use Rattle.spur_trace.proofs.RoomFacts.{access_line}
use Rattle.spur_trace.specs.Reading.{verb_word}
use Rattle.spur_trace.proofs.write.put_access.Goals as goal

pub returns-clause-line : goal.returns-clause-line
returns-clause-line c =
    let s0 = then_onto c.args.out.now c.put_verb.new.out c.put_address.new.self (verb_word c.args.verb ++ 32 ∷ (decimal c.args.board) ++ 32 ∷ []) (address_digits c.args.at) c.put_verb.ensures c.put_address.ensures in
    let s1 = then_onto c.args.out.now c.put_address.new.self c.put.new.self ((verb_word c.args.verb ++ 32 ∷ (decimal c.args.board) ++ 32 ∷ []) ++ (address_digits c.args.at)) (32 ∷ []) s0 c.put.ensures in
    let s2 = then_onto c.args.out.now c.put.new.self c.put_word.new.self (((verb_word c.args.verb ++ 32 ∷ (decimal c.args.board) ++ 32 ∷ []) ++ (address_digits c.args.at)) ++ (32 ∷ [])) (word_digits c.args.value) s1 c.put_word.ensures in
    let s3 = then_onto c.args.out.now c.put_word.new.self c.put-2.new.self ((((verb_word c.args.verb ++ 32 ∷ (decimal c.args.board) ++ 32 ∷ []) ++ (address_digits c.args.at)) ++ (32 ∷ [])) ++ (word_digits c.args.value)) (10 ∷ []) s2 c.put-2.ensures in
    as_piece c.args.out.now c.put-2.new.self (((((verb_word c.args.verb ++ 32 ∷ (decimal c.args.board) ++ 32 ∷ []) ++ (address_digits c.args.at)) ++ (32 ∷ [])) ++ (word_digits c.args.value)) ++ (10 ∷ [])) (line_of ((verb_word c.args.verb) ∷ (decimal c.args.board) ∷ (address_digits c.args.at) ∷ (word_digits c.args.value) ∷ [])) (access_line (verb_word c.args.verb) (decimal c.args.board) (address_digits c.args.at) (word_digits c.args.value)) s3
