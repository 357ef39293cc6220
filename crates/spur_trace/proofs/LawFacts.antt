-- Texts of traces are read in one way.
use Rattle.std.proofs.Common.{◌≡◌, ◌∙◌, sym, ℕ, ◌-◌, ◌+◌, ◌^◌, ◌≤◌, min, List, [], ◌∷◌, ◌++◌, length, Some, None, refl, ap, arith, subst, append_assoc}
use Rattle.std.specs.List.{All, flat_map}
use Rattle.std.proofs.lemmas.List.{append-nil}
use Rattle.std.proofs.lemmas.List.Concat.{flat_map-cons}
use Rattle.std.proofs.lemmas.Option.{some_pair_parts}
use Rattle.spur_flat.specs.declared.entry.Entry.{Entry}
use Rattle.spur_trace.proofs.RangeFacts.{ranges}
use Rattle.spur_trace.specs.declared.head.TraceHead.{TraceHead}
use Rattle.spur_trace.specs.declared.fault.TraceKind.{TraceKind}
use Rattle.spur_trace.specs.declared.fault.TraceKind.TheVariants.{BadHeader, BadLine, Boards}
use Rattle.spur_trace.specs.declared.fault.TraceFault.{TraceFault}
use Rattle.spur_trace.specs.declared.fault.TraceFault.TheVariants as faults
use Rattle.std.specs.Prelude.{Result, Ok, Err, IfErr, IfOk}
use Rattle.spur_trace.specs.Faults.{Gives, HasBadLine, HasFault, HasHeader, IsTrace, TellsFault}
use Rattle.spur_trace.proofs.FirstLine.{BeginsWithNone, has_header, header_begins, none_in_front}
use Rattle.spur_trace.specs.Formed.{IsHead, IsTraced}
use Rattle.spur_trace.specs.Laws.{OneHeader, TraceHasHeader, NoLineOfTwo, NoTextOfTwo, OneFault, TracesHaveNoFault}
use Rattle.spur_trace.specs.Line.{entry_line, header_line, trace_text}
use Rattle.spur_trace.specs.Reading.{entry_at, header_at}
use Rattle.spur_trace.proofs.EntryFacts.{entry_again}
use Rattle.spur_trace.proofs.HeaderFacts.{header_again}
use Rattle.spur_trace.proofs.PartFacts.{all_traced, first_of, others_of}
use Rattle.spur_trace.proofs.FrontFacts.{none_some}

pub lines_once : NoLineOfTwo
lines_once = λ boards e f x y few traced other same.
    let read : Some (e, x) ≡ Some (f, y) = sym (entry_again boards e x few traced) ∙ (ap (entry_at boards) same ∙ entry_again boards f y few other) in
    some_pair_parts e f x y read

nothing_at : (boards : ℕ) → entry_at boards [] ≡ None
unfolding entry_at
nothing_at boards = refl

pub end_has_none : (boards : ℕ) → boards ≤ 10000 → BeginsWithNone boards []
end_has_none boards few = λ e rest traced is.
    none_some (entry_at boards []) (e, rest) (nothing_at boards) (ap (entry_at boards) is ∙ entry_again boards e rest few traced)

-- lines of well-traced entries, and behind them what begins with none: each of them once
pub parts_once : (boards : ℕ) (es fs : List Entry) (x y : List ℕ) → boards ≤ 10000 → All (IsTraced boards) es → All (IsTraced boards) fs
    → BeginsWithNone boards x → BeginsWithNone boards y → flat_map entry_line es ++ x ≡ flat_map entry_line fs ++ y → (es ≡ fs) × (x ≡ y)
parts_once boards [] [] x y few traced others none end same = (refl, same)
parts_once boards [] (f ∷ fs) x y few traced others none end same =
    let line = ap (λ (z : List ℕ). z ++ y) (flat_map-cons entry_line f fs) ∙ append_assoc (entry_line f) (flat_map entry_line fs) y in
    absurd (none f (flat_map entry_line fs ++ y) (first_of (IsTraced boards) f fs others) (same ∙ line))
parts_once boards (e ∷ es) [] x y few traced others none end same =
    let line = ap (λ (z : List ℕ). z ++ x) (flat_map-cons entry_line e es) ∙ append_assoc (entry_line e) (flat_map entry_line es) x in
    absurd (end e (flat_map entry_line es ++ x) (first_of (IsTraced boards) e es traced) (sym same ∙ line))
parts_once boards (e ∷ es) (f ∷ fs) x y few traced others none end same =
    let line = ap (λ (z : List ℕ). z ++ x) (flat_map-cons entry_line e es) ∙ append_assoc (entry_line e) (flat_map entry_line es) x in
    let other = ap (λ (z : List ℕ). z ++ y) (flat_map-cons entry_line f fs) ∙ append_assoc (entry_line f) (flat_map entry_line fs) y in
    let first = lines_once boards e f (flat_map entry_line es ++ x) (flat_map entry_line fs ++ y) few (first_of (IsTraced boards) e es traced)
    (first_of (IsTraced boards) f fs others) (sym line ∙ (same ∙ other)) in
    let rest = parts_once boards es fs x y few (others_of (IsTraced boards) e es traced) (others_of (IsTraced boards) f fs others) none end first.1 in
    (rw (first.0, rest.0) refl, rest.1)

-- ---- whole texts

-- a head and what stands behind its line
heads_once : (g h : TraceHead) (x y : List ℕ) → IsHead g → IsHead h → header_line g ++ x ≡ header_line h ++ y → (g ≡ h) × (x ≡ y)
heads_once g h x y is other same =
    let read : Some (g, x) ≡ Some (h, y) = sym (header_again g x is) ∙ (ap header_at same ∙ header_again h y other) in
    some_pair_parts g h x y read

-- the trace of a head and these entries, and then what begins with none
pub record IsPart (text : List ℕ) (head : TraceHead) (es : List Entry) (left : List ℕ) : Type 0 where
  pub is_head : IsHead head
  pub traced : All (IsTraced head.boards) es
  pub none : BeginsWithNone head.boards left
  pub text_is : text ≡ trace_text head es ++ left

record AreSame (g h : TraceHead) (es fs : List Entry) (x y : List ℕ) : Type 0 where
  heads : g ≡ h
  entries : es ≡ fs
  left : x ≡ y

same_parts : (text : List ℕ) (g h : TraceHead) (es fs : List Entry) (x y : List ℕ) → IsPart text g es x → IsPart text h fs y → AreSame g h es fs x y
same_parts text g h es fs x y p q =
    let one = p.text_is ∙ append_assoc (header_line g) (flat_map entry_line es) x in
    let two = q.text_is ∙ append_assoc (header_line h) (flat_map entry_line fs) y in
    let heads = heads_once g h (flat_map entry_line es ++ x) (flat_map entry_line fs ++ y) p.is_head q.is_head (sym one ∙ two) in
    let others = subst (λ (z : TraceHead). All (IsTraced z.boards) fs) (sym heads.0) q.traced in
    let end = subst (λ (z : TraceHead). BeginsWithNone z.boards y) (sym heads.0) q.none in
    let rest = parts_once g.boards es fs x y (omega (arith, (ranges g p.is_head).few_boards)) p.traced others p.none end heads.1 in
    record { heads = heads.0; entries = rest.0; left = rest.1 }

part_of : (text : List ℕ) (head : TraceHead) (es : List Entry) → IsTrace text head es → IsPart text head es []
part_of text head es t = record {
  is_head = t.is_head;
  traced = all_traced head.boards es t.formed t.words;
  none = end_has_none head.boards (omega (arith, (ranges head t.is_head).few_boards));
  text_is = t.text_is ∙ sym (append-nil (trace_text head es));
}

bad_part : (text : List ℕ) (line : ℕ) (b : HasBadLine text line) → IsPart text b.head b.before b.left
bad_part text line b = record { is_head = b.is_head; traced = b.traced; none = none_in_front b.head.boards b.left (omega (arith, (ranges b.head b.is_head).few_boards)) b.bad; text_is = b.text_is }

pub texts_once : NoTextOfTwo
texts_once = λ text g h es fs t u. let s = same_parts text g h es fs [] [] (part_of text g es t) (part_of text h fs u) in (s.heads, s.entries)

part_header : (text : List ℕ) (head : TraceHead) (es : List Entry) (left : List ℕ) → IsPart text head es left → HasHeader text head
part_header text head es left p =
    has_header text head (flat_map entry_line es ++ left) p.is_head (p.text_is ∙ append_assoc (header_line head) (flat_map entry_line es) left)

no_fault : (text : List ℕ) (head : TraceHead) (es : List Entry) (kind : TraceKind) (line : ℕ) → IsTrace text head es → HasFault text kind line → ⊥
no_fault text head es BadHeader line t f = f.1 head (part_header text head es [] (part_of text head es t))
no_fault text head es BadLine line t f =
    let s = same_parts text head f.head es f.before [] f.left (part_of text head es t) (bad_part text line f) in
    f.some (sym s.left)
no_fault text head es Boards line t f = f

pub traces_are_good : TracesHaveNoFault
traces_are_good = no_fault

two_faults : (text : List ℕ) (j k : TraceKind) (m n : ℕ) → HasFault text j m → HasFault text k n → (j ≡ k) × (m ≡ n)
two_faults text BadHeader BadHeader m n f g = (refl, f.0 ∙ sym g.0)
two_faults text BadHeader BadLine m n f g = absurd (f.1 g.head (part_header text g.head g.before g.left (bad_part text n g)))
two_faults text BadLine BadHeader m n f g = absurd (g.1 f.head (part_header text f.head f.before f.left (bad_part text m f)))
two_faults text BadLine BadLine m n f g =
    let s = same_parts text f.head g.head f.before g.before f.left g.left (bad_part text m f) (bad_part text n g) in
    (refl, f.line_is ∙ (ap (λ (es : List Entry). min (length es + 2) (2 ^ 32 - 1)) s.entries ∙ sym g.line_is))
two_faults text Boards k m n f g = absurd f
two_faults text BadHeader Boards m n f g = absurd g
two_faults text BadLine Boards m n f g = absurd g

pub faults_once : OneFault
faults_once = two_faults

-- what is given is what the text says, unless memory is wanting
pub given : {V : Type 0} (view : V → List Entry) (r : Result V TraceFault) (text : List ℕ) → IfOk r (λ v. (head : TraceHead) × IsTrace text head (view v))
    → IfErr r (TellsFault text) → (head : TraceHead) (es : List Entry) → IsTrace text head es → Gives view r es
given view (Ok v) text found fault head es t = (texts_once text found.0 head (view v) es found.1 t).1
given view (Err (faults.Bad kind line)) text found fault head es t = absurd (no_fault text head es kind line t fault)
given view (Err faults.NoMemory) text found fault head es t = refl

pub headers_once : OneHeader
headers_once = λ text g h p q.
    let b = header_begins text g p in
    let c = header_begins text h q in
    (heads_once g h b.rest c.rest p.is_head q.is_head (sym b.text_is ∙ c.text_is)).0

pub trace_header : TraceHasHeader
trace_header = λ text head es t. part_header text head es [] (part_of text head es t)

-- what was found is the trace of whichever header the text has
pub under_header : {V : Type 0} (view : V → List Entry) (r : Result V TraceFault) (text : List ℕ) → IfOk r (λ v. (head : TraceHead) × IsTrace text head (view v))
    → IfOk r (λ v. (head : TraceHead) → HasHeader text head → IsTrace text head (view v))
under_header view (Ok v) text found = λ head p.
    subst (λ (x : TraceHead). IsTrace text x (view v)) (sym (headers_once text head found.0 p (trace_header text found.0 (view v) found.1))) found.1
under_header view (Err f) text found = tt
