use Rattle.std.proofs.Common.{◌≡◌, ◌∙◌, ◌++◌, ap, arith, length, List, ℕ}
use Rattle.std.specs.Prelude.{vec_capacity}
use Rattle.spur_text.specs.Written.{Written}
use Rattle.spur_trace.specs.Line.{trace_text}
use Rattle.spur_trace.specs.Room.{trace_room}
use Rattle.spur_trace.proofs.LengthFacts.{text_half}
use Rattle.spur_trace.proofs.write.write_trace.Goals as goal

pub returns-clause-room : goal.returns-clause-room
returns-clause-room c =
    let text : List ℕ = trace_text c.args.head.now c.args.entries.now in
    let half = text_half c.args.head.now c.args.entries.now c.requires.head c.requires.entries in
    let put = c.put_trace.ensures.text in
    let blank = c.in_ok-out.ensures in
    let items : c.into_bytes.result.items ≡ text =
    c.into_bytes.ensures.items ∙ (ap (λ (x : Written). x.items) put ∙ ap (λ (x : Written). x.items ++ text) blank) in
    let room : vec_capacity c.into_bytes.result ≡ trace_room c.args.entries.now =
    c.into_bytes.ensures.room ∙ (ap (λ (x : Written). x.room) put ∙ ap (λ (x : Written). x.room) blank) in
    let long = ap (λ (x : List ℕ). length x) items in
    omega (arith, half, long, room)
