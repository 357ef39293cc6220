use Rattle.std.proofs.Common.{◌∙◌, ap, refl, arith, sym, List, length}
use Rattle.spur_flat.specs.declared.entry.Entry.{Entry}
use Rattle.spur_trace.specs.Reading.{header_at}
use Rattle.spur_trace.specs.declared.fault.TraceKind.TheVariants as kind
use Rattle.spur_flat.specs.WellFormed.{HasWord, IsWellFormed}
use Rattle.spur_trace.proofs.PartFacts.{all_traced}
use Rattle.spur_trace.proofs.RangeFacts.{ranges}
use Rattle.spur_trace.proofs.TraceFacts.{all_more, more_lines, no_entry, no_header, all_none, none_yet, not_empty, one_more, rest_shorter, shorter, tells}
use Rattle.spur_trace.proofs.HeaderFacts.{header_is}
use Rattle.spur_trace.proofs.EntryFacts.{entry_is}
use Rattle.spur_trace.proofs.read.entries.Goals as goal

pub returns-in_default-clause-fault : goal.returns-in_default-clause-fault
returns-in_default-clause-fault c =
    tells c.args.bytes.now c.bad.result kind.BadHeader 1 c.bad.ensures (refl, no_header c.args.bytes.now (ap header_at (sym c.new-rest.ensures) ∙ c.in_default.ensures))

pub loop-rest-init : goal.loop-rest-init
loop-rest-init c =
    let h = header_is c.args.bytes.now c.in-Some.head c.header.new.rest (ap header_at (sym c.new-rest.ensures) ∙ c.in-Some.ensures) in
    let items = c.in_ok-entries.ensures.items in
    let len = c.in_ok-entries.ensures.len in
    let none = ap (λ (x : List Entry). length x) items in
    let short = rest_shorter c.args.bytes.now c.in-Some.head c.header.new.rest h.text_is in
    record {
      is_head = h.is_head;
      formed = all_none (IsWellFormed c.in-Some.head.boards) c.in_ok-entries.entries.items items;
      words = all_none HasWord c.in_ok-entries.entries.items items;
      text_is = none_yet c.args.bytes.now c.in-Some.head c.in_ok-entries.entries.items c.header.new.rest items h.text_is;
      line_is = omega (arith, none);
      shorter = omega (arith, len, short);
      room = c.in_ok-entries.ensures.exact;
    }

pub returns-in_default-entry-clause-fault : goal.returns-in_default-entry-clause-fault
returns-in_default-entry-clause-fault c =
    let inv = c.loop-rest.invariant in
    tells c.args.bytes.now c.bad-in_default-entry.result kind.BadLine c.loop-rest.line c.bad-in_default-entry.ensures (record {
      head = c.in-Some.head;
      is_head = inv.is_head;
      before = c.loop-rest.entries.items;
      traced = all_traced c.in-Some.head.boards c.loop-rest.entries.items inv.formed inv.words;
      left = c.loop-rest.rest;
      text_is = inv.text_is;
      some = not_empty c.loop-rest.rest (sym c.is_empty.ensures ∙ c.loop-rest-test.true);
      bad = no_entry c.in-Some.head.boards c.loop-rest.rest (ranges c.in-Some.head inv.is_head).few_boards c.in_default-entry.ensures;
      line_is = inv.line_is;
    })

pub push_reserved-requires : goal.push_reserved-requires
push_reserved-requires c =
    let inv = c.loop-rest.invariant in
    let short = shorter c.in-Some.head.boards c.loop-rest.rest c.in-Some-entry.entry c.entry.new.rest (ranges c.in-Some.head inv.is_head).few_boards c.in-Some-entry.ensures in
    omega (arith, short, inv.shorter, inv.room)

pub loop-rest-smaller : goal.loop-rest-smaller
loop-rest-smaller c =
    let inv = c.loop-rest.invariant in
    let short = shorter c.in-Some.head.boards c.loop-rest.rest c.in-Some-entry.entry c.entry.new.rest (ranges c.in-Some.head inv.is_head).few_boards c.in-Some-entry.ensures in
    omega (arith, short)

pub loop-rest-preserved : goal.loop-rest-preserved
loop-rest-preserved c =
    let inv = c.loop-rest.invariant in
    let is = entry_is c.in-Some.head.boards c.loop-rest.rest c.in-Some-entry.entry c.entry.new.rest c.in-Some-entry.ensures in
    let short = shorter c.in-Some.head.boards c.loop-rest.rest c.in-Some-entry.entry c.entry.new.rest (ranges c.in-Some.head inv.is_head).few_boards c.in-Some-entry.ensures in
    let items = c.push_reserved.ensures.items in
    let len = c.push_reserved.ensures.len in
    record {
      is_head = inv.is_head;
      formed = rw items (all_more (IsWellFormed c.in-Some.head.boards) c.loop-rest.entries.items c.in-Some-entry.entry inv.formed is.traced.formed);
      words = rw items (all_more HasWord c.loop-rest.entries.items c.in-Some-entry.entry inv.words is.traced.word);
      text_is = rw items (one_more c.args.bytes.now c.in-Some.head c.loop-rest.entries.items c.in-Some-entry.entry c.loop-rest.rest c.entry.new.rest inv.text_is is.text_is);
      line_is = c.saturating_add-line.ensures ∙ rw items (more_lines c.loop-rest.line c.loop-rest.entries.items c.in-Some-entry.entry inv.line_is);
      shorter = omega (arith, len, short, inv.shorter);
      room = c.push_reserved.ensures.capacity ∙ inv.room;
    }
