use Rattle.std.proofs.Common.{◌∷◌, [], ◌++◌}
use Rattle.std.specs.Fmt.{decimal}
use Rattle.spur_text.specs.Digits.{address_digits}
use Rattle.spur_text.specs.Line.{line_of}
use Rattle.spur_text.proofs.TextFacts.{as_piece, then_onto}
use Rattle.spur_trace.proofs.RoomFacts.{words_line}
use Rattle.spur_trace.specs.Reading.{verb_word}
use Rattle.spur_trace.proofs.write.put_words.Goals as goal

pub returns : goal.returns
returns c =
    let s0 = then_onto c.args.out.now c.put_verb.new.out c.put.new.self (verb_word c.args.verb ++ 32 ∷ (decimal c.args.board) ++ 32 ∷ []) (c.args.first.now) c.put_verb.ensures c.put.ensures in
    let s1 = then_onto c.args.out.now c.put.new.self c.put-2.new.self ((verb_word c.args.verb ++ 32 ∷ (decimal c.args.board) ++ 32 ∷ []) ++ (c.args.first.now)) (32 ∷ []) s0 c.put-2.ensures in
    let s2 = then_onto c.args.out.now c.put-2.new.self c.put-3.new.self (((verb_word c.args.verb ++ 32 ∷ (decimal c.args.board) ++ 32 ∷ []) ++ (c.args.first.now)) ++ (32 ∷ [])) (c.args.second.now) s1 c.put-3.ensures in
    let s3 = then_onto c.args.out.now c.put-3.new.self c.put-4.new.self ((((verb_word c.args.verb ++ 32 ∷ (decimal c.args.board) ++ 32 ∷ []) ++ (c.args.first.now)) ++ (32 ∷ [])) ++ (c.args.second.now)) (32 ∷ []) s2 c.put-4.ensures in
    let s4 = then_onto c.args.out.now c.put-4.new.self c.put_address.new.self (((((verb_word c.args.verb ++ 32 ∷ (decimal c.args.board) ++ 32 ∷ []) ++ (c.args.first.now)) ++ (32 ∷ [])) ++ (c.args.second.now)) ++ (32 ∷ [])) (address_digits c.args.at) s3 c.put_address.ensures in
    let s5 = then_onto c.args.out.now c.put_address.new.self c.put-5.new.self ((((((verb_word c.args.verb ++ 32 ∷ (decimal c.args.board) ++ 32 ∷ []) ++ (c.args.first.now)) ++ (32 ∷ [])) ++ (c.args.second.now)) ++ (32 ∷ [])) ++ (address_digits c.args.at)) (10 ∷ []) s4 c.put-5.ensures in
    as_piece c.args.out.now c.put-5.new.self (((((((verb_word c.args.verb ++ 32 ∷ (decimal c.args.board) ++ 32 ∷ []) ++ (c.args.first.now)) ++ (32 ∷ [])) ++ (c.args.second.now)) ++ (32 ∷ [])) ++ (address_digits c.args.at)) ++ (10 ∷ [])) (line_of ((verb_word c.args.verb) ∷ (decimal c.args.board) ∷ (c.args.first.now) ∷ (c.args.second.now) ∷ (address_digits c.args.at) ∷ [])) (words_line (verb_word c.args.verb) (decimal c.args.board) (c.args.first.now) (c.args.second.now) (address_digits c.args.at)) s5
