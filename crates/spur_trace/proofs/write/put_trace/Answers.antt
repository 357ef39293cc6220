use Rattle.std.proofs.Common.{◌≡◌, ◌∙◌, sym, ap, arith, ℕ, ◌+◌, length-append, List, [], ◌++◌, append_assoc, take, subst}
use Rattle.std.specs.List.{flat_map}
use Rattle.std.proofs.lemmas.List.{append-nil, take_all}
use Rattle.std.proofs.lemmas.List.Elements.{All-more, All-nil}
use Rattle.spur_flat.specs.declared.entry.Entry.{Entry}
use Rattle.spur_flat.specs.WellFormed.{HasWord}
use Rattle.spur_text.specs.Written.{onto}
use Rattle.spur_text.proofs.TextFacts.{as_piece, then_onto, longer}
use Rattle.spur_trace.specs.Line.{entry_line, header_line}
use Rattle.spur_trace.specs.Room.{line_room}
use Rattle.spur_trace.proofs.RangeFacts.{ranges}
use Rattle.spur_trace.proofs.PartFacts.{all_12}
use Rattle.spur_trace.proofs.LengthFacts.{header_fits, lines_more, room_left}
use Rattle.spur_trace.proofs.write.put_trace.Goals as goal

pub loop-entry-init : goal.loop-entry-init
loop-entry-init c = record {
  text = as_piece c.args.out.now c.put_header.new.out (header_line c.args.head.now) (header_line c.args.head.now ++ [])
      (sym (append-nil (header_line c.args.head.now))) c.put_header.ensures;
  words = All-nil HasWord;
}

pub put_entry-requires-clause-fits : goal.put_entry-requires-clause-fits
put_entry-requires-clause-fits c =
    let head = c.args.head.now in
    let es = c.args.entries.now in
    let i = c.loop-entry.entry-index in
    let inv = c.loop-entry.invariant in
    let left = room_left es i c.entry-item.result (all_12 head.boards es (ranges c.args.head.now c.requires.head).few_boards c.requires.entries) c.loop-entry-test.true in
    let first = header_fits head c.requires.head in
    let more = longer c.args.out.now c.loop-entry.out (header_line head ++ flat_map entry_line (take i es)) inv.text in
    let whole = length-append (header_line head) (flat_map entry_line (take i es)) in
    let fits = c.requires.fits in
    let same = ap line_room c.entry-item.is in
    omega (arith, left, first.high, more.items, more.room, whole, fits, same)

pub loop-entry-preserved : goal.loop-entry-preserved
loop-entry-preserved c =
    let h : List ℕ = header_line c.args.head.now in
    let es : List Entry = c.args.entries.now in
    let i : ℕ = c.loop-entry.entry-index in
    let e : Entry = c.entry-item.result in
    let lt = c.loop-entry-test.true in
    let inv = c.loop-entry.invariant in
    let same : (h ++ flat_map entry_line (take i es)) ++ entry_line e ≡ h ++ flat_map entry_line (take (i + 1) es) =
    append_assoc h (flat_map entry_line (take i es)) (entry_line e)
    ∙ (ap (λ (x : Entry). h ++ (flat_map entry_line (take i es) ++ entry_line x)) c.entry-item.is
    ∙ ap (λ (x : List ℕ). h ++ x) (sym (lines_more es i e lt))) in
    let put = then_onto c.args.out.now c.loop-entry.out c.put_entry.new.out (h ++ flat_map entry_line (take i es)) (entry_line e) inv.text c.put_entry.ensures.line in
    record {
      text = as_piece c.args.out.now c.put_entry.new.out ((h ++ flat_map entry_line (take i es)) ++ entry_line e) (h ++ flat_map entry_line (take (i + 1) es)) same put;
      words = All-more HasWord es i e lt inv.words (subst HasWord c.entry-item.is c.put_entry.ensures.word);
    }

pub returns-clause-text : goal.returns-clause-text
returns-clause-text c =
    let all = take_all c.loop-entry.entry-index c.args.entries.now (omega (arith, c.loop-entry-test.false)) in
    c.loop-entry.invariant.text ∙ ap (λ (x : List Entry). onto c.args.out.now (header_line c.args.head.now ++ flat_map entry_line x)) all
