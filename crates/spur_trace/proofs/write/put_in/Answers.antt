use Rattle.std.proofs.Common.{◌∷◌, [], ◌++◌}
use Rattle.std.specs.Fmt.{decimal}
use Rattle.std.specs.Prelude.{codes}
use Rattle.spur_text.specs.Digits.{address_digits}
use Rattle.spur_text.specs.Line.{line_of}
use Rattle.spur_text.proofs.TextFacts.{as_piece, then_onto}
use Rattle.spur_trace.proofs.RoomFacts.{access_line}
use Rattle.spur_trace.proofs.write.put_in.Goals as goal

pub returns : goal.returns
returns c =
    let s0 = then_onto c.args.out.now c.put_verb.new.out c.put_address.new.self (codes "in" ++ 32 ∷ (decimal c.args.board) ++ 32 ∷ []) (address_digits c.args.at) c.put_verb.ensures c.put_address.ensures in
    let s1 = then_onto c.args.out.now c.put_address.new.self c.put.new.self ((codes "in" ++ 32 ∷ (decimal c.args.board) ++ 32 ∷ []) ++ (address_digits c.args.at)) (32 ∷ []) s0 c.put.ensures in
    let s2 = then_onto c.args.out.now c.put.new.self c.put_number.new.self (((codes "in" ++ 32 ∷ (decimal c.args.board) ++ 32 ∷ []) ++ (address_digits c.args.at)) ++ (32 ∷ [])) (decimal c.args.frame) s1 c.put_number.ensures in
    let s3 = then_onto c.args.out.now c.put_number.new.self c.put-2.new.self ((((codes "in" ++ 32 ∷ (decimal c.args.board) ++ 32 ∷ []) ++ (address_digits c.args.at)) ++ (32 ∷ [])) ++ (decimal c.args.frame)) (10 ∷ []) s2 c.put-2.ensures in
    as_piece c.args.out.now c.put-2.new.self (((((codes "in" ++ 32 ∷ (decimal c.args.board) ++ 32 ∷ []) ++ (address_digits c.args.at)) ++ (32 ∷ [])) ++ (decimal c.args.frame)) ++ (10 ∷ [])) (line_of ((codes "in") ∷ (decimal c.args.board) ∷ (address_digits c.args.at) ∷ (decimal c.args.frame) ∷ [])) (access_line (codes "in") (decimal c.args.board) (address_digits c.args.at) (decimal c.args.frame)) s3
