-- Whole traces.
use Rattle.std.proofs.Common.{◌≡◌, ◌∙◌, sym, ℕ, ◌+◌, ◌-◌, ◌^◌, ◌≤◌, min, false, eqb, List, [], ◌∷◌, ◌++◌, length, Some, None, ap, arith, subst, append_assoc, length-append}
use Rattle.std.specs.List.{All, flat_map}
use Rattle.std.proofs.lemmas.Grind.{flat_map-append}
use Rattle.std.proofs.lemmas.List.{append-nil}
use Rattle.std.proofs.lemmas.List.Elements.{All-append, All-cons, All-nil}
use Rattle.spur_flat.specs.declared.entry.Entry.{Entry}
use Rattle.spur_trace.specs.declared.head.TraceHead.{TraceHead}
use Rattle.spur_trace.specs.declared.fault.TraceFault.{TraceFault}
use Rattle.spur_trace.specs.declared.fault.TraceFault.TheVariants as faults
use Rattle.spur_trace.specs.declared.fault.TraceKind.{TraceKind}
use Rattle.spur_trace.specs.Faults.{HasFault, HasHeader, HasNoEntry, TellsFault}
use Rattle.spur_trace.proofs.FirstLine.{has_header, header_begins, none_by_line}
use Rattle.spur_trace.proofs.PartFacts.{traced_more}
use Rattle.spur_trace.specs.Line.{entry_line, header_line, trace_text}
use Rattle.spur_trace.specs.Reading.{entry_at, header_at}
use Rattle.spur_trace.proofs.EntryFacts.{entry_again, entry_is}
use Rattle.spur_trace.proofs.HeaderFacts.{header_again, header_is}
use Rattle.spur_trace.proofs.LengthFacts.{line_fits, one_line}
use Rattle.spur_trace.proofs.FrontFacts.{none_some}

pub no_header : (text : List ℕ) → header_at text ≡ None → (head : TraceHead) → HasHeader text head → ⊥
no_header text none head h =
    let b = header_begins text head h in
    none_some (header_at text) (head, b.rest) none (ap header_at b.text_is ∙ header_again head b.rest h.is_head)

pub found_header : (text : List ℕ) (head : TraceHead) (rest : List ℕ) → header_at text ≡ Some (head, rest) → HasHeader text head
found_header text head rest e = let h = header_is text head rest e in has_header text head rest h.is_head h.text_is

pub no_entry : (boards : ℕ) (text : List ℕ) → boards ≤ 12 → entry_at boards text ≡ None → HasNoEntry boards text
no_entry boards text few e = none_by_line boards text (λ entry rest t is.
    none_some (entry_at boards text) (entry, rest) e (ap (entry_at boards) is ∙ entry_again boards entry rest (omega arith) t))

-- a fault that is made of its kind and line tells what the text has
pub tells : (text : List ℕ) (fault : TraceFault) (kind : TraceKind) (line : ℕ) → fault ≡ faults.Bad kind line → HasFault text kind line → TellsFault text fault
tells text fault kind line is has = subst (TellsFault text) (sym is) has

pub one_more : (text : List ℕ) (head : TraceHead) (es : List Entry) (e : Entry) (left rest : List ℕ) → text ≡ trace_text head es ++ left → left ≡ entry_line e ++ rest
    → text ≡ trace_text head (es ++ e ∷ []) ++ rest
one_more text head es e left rest so_far front =
    let lines : flat_map entry_line (es ++ e ∷ []) ≡ flat_map entry_line es ++ entry_line e =
    flat_map-append entry_line es (e ∷ []) ∙ ap (λ (x : List ℕ). flat_map entry_line es ++ x) (one_line e) in
    let whole : trace_text head (es ++ e ∷ []) ≡ trace_text head es ++ entry_line e =
    ap (λ (x : List ℕ). header_line head ++ x) lines ∙ sym (append_assoc (header_line head) (flat_map entry_line es) (entry_line e)) in
    so_far ∙ (ap (λ (x : List ℕ). trace_text head es ++ x) front
    ∙ (sym (append_assoc (trace_text head es) (entry_line e) rest) ∙ ap (λ (x : List ℕ). x ++ rest) (sym whole)))

pub all_more : (P : Entry → Type 0) (es : List Entry) (e : Entry) → All P es → P e → All P (es ++ e ∷ [])
all_more P es e all one = All-append P es (e ∷ []) all (All-cons P e [] one (All-nil P))

-- a line takes 17 bytes and more
pub shorter : (boards : ℕ) (text : List ℕ) (e : Entry) (rest : List ℕ) → boards ≤ 12 → entry_at boards text ≡ Some (e, rest) → length rest + 17 ≤ length text
shorter boards text e rest few read =
    let is = entry_is boards text e rest read in
    let fit = line_fits e (traced_more boards 12 e few is.traced).formed in
    let sum = ap (λ (x : List ℕ). length x) is.text_is ∙ length-append (entry_line e) rest in
    omega (arith, fit.0, sum)

pub not_empty : (text : List ℕ) → eqb (length text) 0 ≡ false → text ≡ [] → ⊥
not_empty [] e is = absurd cc
not_empty (b ∷ bytes) e is = cc

pub more_lines : (n : ℕ) (es : List Entry) (e : Entry) → n ≡ min (length es + 2) (2 ^ 32 - 1) → min (n + 1) (2 ^ 32 - 1) ≡ min (length (es ++ e ∷ []) + 2) (2 ^ 32 - 1)
more_lines n es e is = let sum = length-append es (e ∷ []) in omega (arith, sum)

pub none_yet : (text : List ℕ) (head : TraceHead) (es : List Entry) (rest : List ℕ) → es ≡ [] → text ≡ header_line head ++ rest → text ≡ trace_text head es ++ rest
none_yet text head es rest none is =
    is ∙ (ap (λ (x : List ℕ). x ++ rest) (sym (append-nil (header_line head))) ∙ ap (λ (x : List Entry). trace_text head x ++ rest) (sym none))

pub all_none : (P : Entry → Type 0) (es : List Entry) → es ≡ [] → All P es
all_none P es none = subst (λ (x : List Entry). All P x) (sym none) (All-nil P)

pub rest_shorter : (text : List ℕ) (head : TraceHead) (rest : List ℕ) → text ≡ header_line head ++ rest → length rest ≤ length text
rest_shorter text head rest is = let sum = ap (λ (x : List ℕ). length x) is ∙ length-append (header_line head) rest in omega (arith, sum)
