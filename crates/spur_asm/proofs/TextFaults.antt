-- What reading tells of a text is the first of its faults.
use Rattle.std.proofs.Common.{◌≡◌, ◌∙◌, ◌⊎◌, inl, inr, refl, sym, ap, subst, ℕ, zero, suc, ◌+◌, ◌-◌, ◌<◌, ◌≤◌, Bool, true, false, ◌==◌, cond, List, [], ◌∷◌, ◌++◌, map, length, Option, Some, None, Result, Ok, Err, arith, length-append}
use Rattle.std.specs.List.{AllZip, before_first}
use Rattle.std.proofs.lemmas.Bool.{eqb-true, both_ways}
use Rattle.std.proofs.lemmas.List.{append_assoc, append-nil}
use Rattle.spur_asm.specs.Bytes.{is_semicolon}
use Rattle.spur_asm.specs.Context.{Placed, first_context, labels_from, next_context}
use Rattle.spur_asm.specs.Counts.{counted, is_board, lines_with}
use Rattle.spur_asm.specs.Faults.{CutText, HasFault, InLine, IsFirstFault, IsNoLater, LineFault, NoBoardAtAll}
use Rattle.spur_asm.specs.Line.{statement_of_line}
use Rattle.spur_asm.specs.Pieces.{Cut, IsCut}
use Rattle.spur_asm.specs.Text.{lines_of}
use Rattle.spur_asm.specs.Told.{Told, column_of, first_told, told_from, told_of}
use Rattle.spur_asm.specs.declared.fault.AsmKind.{AsmKind}
use Rattle.spur_asm.specs.declared.fault.AsmKind.TheVariants.{NoBoard}
use Rattle.spur_asm.specs.declared.fault.Misfit.{Misfit}
use Rattle.spur_asm.specs.declared.statement.Context.{Context}
use Rattle.spur_asm.specs.declared.statement.Statement.{Statement}
use Rattle.spur_asm.proofs.CountLaw.{next_counted}
use Rattle.spur_asm.proofs.CutOnce.{cut_once}
use Rattle.spur_asm.proofs.FaultOnce.{one_fault}
use Rattle.spur_asm.proofs.FaultWithin.{fault_within}
use Rattle.spur_asm.proofs.LabelsAround.{agrees, labels_are_placed, placed_cuts}
use Rattle.spur_asm.proofs.LineJudged.{Agrees, line_judged}
use Rattle.spur_asm.proofs.PieceCuts.{cut_of, line_is_cut}
use Rattle.spur_asm.proofs.TextLines.{are_lines_of, has_lines}

-- ---- one line

pub minus_back : (before end : ℕ) → before ≤ end → end - before + before ≡ end
minus_back before end low = omega (arith, low)

-- a line has one fault at most
pub one_in_line : (line : List ℕ) (front : List Cut) (cut : Cut) (behind : List Cut) → IsCut line cut → (before other_before : ℕ) (kind other : AsmKind) → LineFault front cut behind before kind → LineFault front cut behind other_before other
    → (kind ≡ other) × (before ≡ other_before)
one_in_line line front cut behind is before other_before kind other f g =
    one_fault line front cut behind (placed_cuts [] (front ++ (cut ∷ behind))) (counted front) is (agrees front cut behind) kind other (cut.end - before) (cut.end - other_before)
    (record { before = before; place = minus_back before cut.end (fault_within line front cut behind before kind is f); fault = f })
    (record { before = other_before; place = minus_back other_before cut.end (fault_within line front cut behind other_before other is g); fault = g })

end_is : (line : List ℕ) (cut : Cut) → IsCut line cut → length (before_first is_semicolon line) ≡ cut.end
end_is line cut is = ap (λ (c : Cut). c.end) (cut_once line cut is)

column_is : (line : List ℕ) (cut : Cut) (left before : ℕ) → IsCut line cut → left + before ≡ cut.end → column_of line left ≡ before + 1
column_is line cut left before is place = (let end = end_is line cut is in omega (arith, end, place))

-- ---- the lines before

-- none of the first n of these lines, which stand behind those, has a fault
abbrev NoneBefore : List Cut → ℕ → List Cut → Type 0
NoneBefore before n cuts = (front : List Cut) (cut : Cut) (behind : List Cut) → cuts ≡ front ++ (cut ∷ behind) → length front < n → (place : ℕ) (kind : AsmKind) → LineFault (before ++ front) cut behind place kind → ⊥

no_split : (front : List Cut) (cut : Cut) (behind : List Cut) → [] ≡ front ++ (cut ∷ behind) → ⊥
no_split [] cut behind e = cc
no_split (x ∷ front) cut behind e = cc

parts_same : (a b : Cut) (xs ys : List Cut) → a ∷ xs ≡ b ∷ ys → (a ≡ b) × (xs ≡ ys)
parts_same a b xs ys e = (cc, cc)

none_next : (before : List Cut) (cut : Cut) (cuts : List Cut) (n : ℕ) → ((place : ℕ) (kind : AsmKind) → LineFault before cut cuts place kind → ⊥) → NoneBefore (before ++ (cut ∷ [])) n cuts
    → NoneBefore before (suc n) (cut ∷ cuts)
none_next before cut cuts n here rest [] other behind e low place kind fault =
    let same = parts_same cut other cuts behind e in
    here place kind
    (subst (λ (c : Cut). LineFault before c cuts place kind) (sym same.0)
    (subst (λ (b : List Cut). LineFault before other b place kind) (sym same.1)
    (subst (λ (f : List Cut). LineFault f other behind place kind) (append-nil before) fault)))
none_next before cut cuts n here rest (x ∷ front) other behind e low place kind fault =
    let same = parts_same cut x cuts (front ++ (other ∷ behind)) e in
    rest front other behind same.1 (omega (arith, low)) place kind
    (subst (λ (f : List Cut). LineFault f other behind place kind) (sym (append_assoc before (cut ∷ []) front))
    (subst (λ (y : Cut). LineFault (before ++ (y ∷ front)) other behind place kind) (sym same.0) fault))

none_first : (before cuts : List Cut) → NoneBefore before 0 cuts
none_first before cuts front cut behind e low = absurd (omega (arith, low))

-- ---- what is told

-- the first line with a fault has the one that is told
record FirstLine (before cuts : List Cut) (t : Told) : Type 0 where
  front : List Cut
  cut : Cut
  behind : List Cut
  are : cuts ≡ front ++ (cut ∷ behind)
  place : ℕ
  fault : LineFault (before ++ front) cut behind place t.kind
  line_is : t.line ≡ length before + length front + 1
  column_of_it : t.column ≡ place + 1
  first : NoneBefore before (length front) cuts

-- no line has a fault
abbrev NoneAtAll : List Cut → List Cut → Type 0
NoneAtAll before cuts = (n : ℕ) → NoneBefore before n cuts

-- no line has a fault, and no board begins
record OnlyNoBoard (before cuts : List Cut) (t : Told) : Type 0 where
  none : NoneAtAll before cuts
  boards : lines_with is_board (before ++ cuts) ≡ 0
  line_is : t.line ≡ 1
  column_is : t.column ≡ 1
  kind_is : t.kind ≡ NoBoard

abbrev Outcome : List Cut → List Cut → Option Told → Type 0
Outcome before cuts (Some t) = FirstLine before cuts t ⊎ OnlyNoBoard before cuts t
Outcome before cuts None = NoneAtAll before cuts × (lines_with is_board (before ++ cuts) ≡ 0 → ⊥)

none_of_none : (before : List Cut) → NoneAtAll before []
none_of_none before n front cut behind e low = absurd (no_split front cut behind e)

outcome_at_end : (before : List Cut) (t : Bool) → (lines_with is_board before == 0) ≡ t → Outcome before [] (cond t (Some (record { line = 1; column = 1; kind = NoBoard })) None)
outcome_at_end before true e = inr (record {
  none = none_of_none before;
  boards = ap (λ (cs : List Cut). lines_with is_board cs) (append-nil before) ∙ eqb-true (lines_with is_board before) 0 e;
  line_is = refl;
  column_is = refl;
  kind_is = refl;
})
outcome_at_end before false e =
    (none_of_none before, λ none. (let zero : lines_with is_board before ≡ 0 = ap (λ (cs : List Cut). lines_with is_board cs) (sym (append-nil before)) ∙ none in both_ways (lines_with is_board before == 0) e (rw zero refl)))

boards_next : (before : List Cut) (cut : Cut) (cuts : List Cut) → lines_with is_board ((before ++ (cut ∷ [])) ++ cuts) ≡ lines_with is_board (before ++ (cut ∷ cuts))
boards_next before cut cuts = ap (λ (cs : List Cut). lines_with is_board cs) (append_assoc before (cut ∷ []) cuts)

none_next_all : (before : List Cut) (cut : Cut) (cuts : List Cut) → ((place : ℕ) (kind : AsmKind) → LineFault before cut cuts place kind → ⊥) → NoneAtAll (before ++ (cut ∷ [])) cuts → NoneAtAll before (cut ∷ cuts)
none_next_all before cut cuts here rest zero = none_first before (cut ∷ cuts)
none_next_all before cut cuts here rest (suc n) = none_next before cut cuts n here (rest n)

outcome_next : (before : List Cut) (cut : Cut) (cuts : List Cut) → ((place : ℕ) (kind : AsmKind) → LineFault before cut cuts place kind → ⊥) → (o : Option Told) → Outcome (before ++ (cut ∷ [])) cuts o → Outcome before (cut ∷ cuts) o
outcome_next before cut cuts here None h = (none_next_all before cut cuts here h.0, λ none. h.1 (boards_next before cut cuts ∙ none))
outcome_next before cut cuts here (Some t) (inr h) =
    inr (record { none = none_next_all before cut cuts here h.none; boards = sym (boards_next before cut cuts) ∙ h.boards; line_is = h.line_is; column_is = h.column_is; kind_is = h.kind_is })
outcome_next before cut cuts here (Some t) (inl f) =
    let line = f.line_is in
    let long : length (before ++ (cut ∷ [])) ≡ length before + 1 = length-append before (cut ∷ []) in
    inl (record {
      front = cut ∷ f.front;
      cut = f.cut;
      behind = f.behind;
      are = ap (λ (cs : List Cut). cut ∷ cs) f.are;
      place = f.place;
      fault = subst (λ (fs : List Cut). LineFault fs f.cut f.behind f.place t.kind) (append_assoc before (cut ∷ []) f.front) f.fault;
      line_is = omega (arith, line, long);
      column_of_it = f.column_of_it;
      first = none_next before cut cuts (length f.front) here f.first;
    })

told : (all : List Placed) (before : List Cut) (lines : List (List ℕ)) (cuts : List Cut) (number : ℕ) → AllZip IsCut lines cuts → all ≡ placed_cuts [] (before ++ cuts) → number ≡ length before + 1
    → Outcome before cuts (told_from all (counted before) number lines)
told all before [] [] number z labels is = outcome_at_end before (lines_with is_board before == 0) refl
told all before [] (cut ∷ cuts) number z labels is = absurd z
told all before (line ∷ lines) [] number z labels is = absurd z
told all before (line ∷ lines) (cut ∷ cuts) number z labels is =
    let long : length (before ++ (cut ∷ [])) ≡ length before + 1 = length-append before (cut ∷ []) in
    let behind = told all (before ++ (cut ∷ [])) lines cuts (number + 1) z.1 (labels ∙ ap (λ (cs : List Cut). placed_cuts [] cs) (sym (append_assoc before (cut ∷ []) cuts))) (omega (arith, is, long)) in
    by (statement_of_line all (counted before) line) refl (subst (λ (c : Context). Outcome (before ++ (cut ∷ [])) cuts (told_from all c (number + 1) lines)) (sym (next_counted line cut before z.0)) behind)
  where
    agree : Agrees before cut cuts all (counted before)
    agree = subst (λ (ls : List Placed). Agrees before cut cuts ls (counted before)) (sym labels) (agrees before cut cuts)

    rest : Option Told
    rest = told_from all (next_context (counted before) line) (number + 1) lines

    by : (r : Result (Option Statement) Misfit) → statement_of_line all (counted before) line ≡ r → Outcome (before ++ (cut ∷ [])) cuts rest → Outcome before (cut ∷ cuts) (first_told number line r rest)
    by (Err m) e behind =
        let h = (line_judged line before cut cuts all (counted before) z.0 agree m.kind m.left).0 e in
        inl (record {
          front = [];
          cut = cut;
          behind = cuts;
          are = refl;
          place = h.before;
          fault = subst (λ (fs : List Cut). LineFault fs cut cuts h.before m.kind) (sym (append-nil before)) h.fault;
          line_is = omega (arith, is);
          column_of_it = column_is line cut m.left h.before z.0 h.place;
          first = none_first before (cut ∷ cuts);
        })
    by (Ok s) e behind = outcome_next before cut cuts (λ place kind fault. (
        let low = fault_within line before cut cuts place kind z.0 fault in
        let err = (line_judged line before cut cuts all (counted before) z.0 agree kind (cut.end - place)).1 (record { before = place; place = minus_back place cut.end low; fault = fault }) in
        cc)) rest behind

-- ---- a text

-- what is told of a text, by how its lines are cut
told_of_cut : (text : List ℕ) (c : CutText text) → Outcome [] c.cuts (told_of text)
told_of_cut text c =
    let lines : lines_of text ≡ c.lines = are_lines_of text c.lines c.has_lines in
    let z : AllZip IsCut (lines_of text) c.cuts = subst (λ (ls : List (List ℕ)). AllZip IsCut ls c.cuts) (sym lines) c.are_cut in
    told (labels_from first_context (lines_of text)) [] (lines_of text) c.cuts 1 z (labels_are_placed [] (lines_of text) c.cuts z) refl

cut_all : (lines : List (List ℕ)) → AllZip IsCut lines (map cut_of lines)
cut_all [] = tt
cut_all (line ∷ lines) = (line_is_cut line, cut_all lines)

-- each text is cut
pub text_is_cut : (text : List ℕ) → CutText text
text_is_cut text = record { lines = lines_of text; has_lines = has_lines text; cuts = map cut_of (lines_of text); are_cut = cut_all (lines_of text) }

-- a line of these is one of a text's
line_at : (lines : List (List ℕ)) (cuts front : List Cut) (cut : Cut) (behind : List Cut) → AllZip IsCut lines cuts → cuts ≡ front ++ (cut ∷ behind) → (line : List ℕ) × IsCut line cut
line_at [] [] front cut behind z e = absurd (no_split front cut behind e)
line_at [] (x ∷ cuts) front cut behind z e = absurd z
line_at (line ∷ lines) [] front cut behind z e = absurd z
line_at (line ∷ lines) (x ∷ cuts) [] cut behind z e = (line, subst (IsCut line) (parts_same x cut cuts behind e).0 z.0)
line_at (line ∷ lines) (x ∷ cuts) (y ∷ front) cut behind z e = line_at lines cuts front cut behind z.1 (parts_same x y cuts (front ++ (cut ∷ behind)) e).1

-- two parts of one list, as long as each other, are one
record SameParts (front other_front : List Cut) (cut other : Cut) (behind other_behind : List Cut) : Type 0 where
  fronts : front ≡ other_front
  cuts : cut ≡ other
  behinds : behind ≡ other_behind

same_parts : (front other_front : List Cut) (cut other : Cut) (behind other_behind : List Cut) → front ++ (cut ∷ behind) ≡ other_front ++ (other ∷ other_behind) → length front ≡ length other_front
    → SameParts front other_front cut other behind other_behind
same_parts [] [] cut other behind other_behind e long = (let same = parts_same cut other behind other_behind e in record { fronts = refl; cuts = same.0; behinds = same.1 })
same_parts [] (y ∷ ys) cut other behind other_behind e long = absurd (omega (arith, long))
same_parts (x ∷ xs) [] cut other behind other_behind e long = absurd (omega (arith, long))
same_parts (x ∷ xs) (y ∷ ys) cut other behind other_behind e long =
    let first = parts_same x y (xs ++ (cut ∷ behind)) (ys ++ (other ∷ other_behind)) e in
    let rest = same_parts xs ys cut other behind other_behind first.1 (omega (arith, long)) in
    record { fronts = ap (λ (z : Cut). z ∷ xs) first.0 ∙ ap (λ (zs : List Cut). y ∷ zs) rest.fronts; cuts = rest.cuts; behinds = rest.behinds }

-- a fault of the line that is told is the one that is told
same_told : (lines : List (List ℕ)) (cuts : List Cut) (t : Told) → AllZip IsCut lines cuts → (f : FirstLine [] cuts t) (l c : ℕ) (k : AsmKind) (g : InLine cuts l c k) → l ≡ t.line → (k ≡ t.kind) × (c ≡ t.column)
same_told lines cuts t z f l c k g line =
    let told_line = f.line_is in
    let own_line = g.line_is in
    let same = same_parts g.front f.front g.cut f.cut g.behind f.behind (sym g.are ∙ f.are) (omega (arith, line, told_line, own_line)) in
    let at = line_at lines cuts f.front f.cut f.behind z f.are in
    let fault : LineFault f.front f.cut f.behind g.before k =
    subst (λ (b : List Cut). LineFault f.front f.cut b g.before k) same.behinds
    (subst (λ (x : Cut). LineFault f.front x g.behind g.before k) same.cuts
    (subst (λ (fs : List Cut). LineFault fs g.cut g.behind g.before k) same.fronts g.fault)) in
    let one = one_in_line at.0 f.front f.cut f.behind at.1 g.before f.place k t.kind fault f.fault in
    let place : g.before ≡ f.place = one.1 in
    let column = g.column_is in
    let told_column = f.column_of_it in
    (one.0, omega (arith, place, column, told_column))

-- none stands before the one that is told
none_earlier : (cuts : List Cut) (t : Told) (f : FirstLine [] cuts t) (l c : ℕ) (k : AsmKind) (g : InLine cuts l c k) → l < t.line → ⊥
none_earlier cuts t f l c k g low =
    let told_line = f.line_is in
    let own_line = g.line_is in
    f.first g.front g.cut g.behind g.are (omega (arith, low, told_line, own_line)) g.before k g.fault

later : (m n : ℕ) → (n < m → ⊥) → (m < n) ⊎ (m ≡ n)
later zero zero h = inr refl
later zero (suc n) h = inl (omega arith)
later (suc m) zero h = absurd (h (omega arith))
later (suc m) (suc n) h = elim (later m n (λ low. h (omega (arith, low)))) [
  | inl low ↦ inl (omega (arith, low))
  | inr same ↦ inr (omega (arith, same))
]

no_later : (lines : List (List ℕ)) (cuts : List Cut) (t : Told) → AllZip IsCut lines cuts → FirstLine [] cuts t → (l c : ℕ) (k : AsmKind) → InLine cuts l c k → IsNoLater t.line t.column l c
no_later lines cuts t z f l c k g = elim (later t.line l (none_earlier cuts t f l c k g)) [
  | inl low ↦ inl low
  | inr same ↦ (let column = (same_told lines cuts t z f l c k g (sym same)).1 in inr (same, omega (arith, column)))
]

first_is_in : (cuts : List Cut) (t : Told) → FirstLine [] cuts t → InLine cuts t.line t.column t.kind
first_is_in cuts t f =
    let line = f.line_is in
    record { front = f.front; cut = f.cut; behind = f.behind; are = f.are; line_is = omega (arith, line); before = f.place; column_is = f.column_of_it; fault = f.fault }

none_in : (cuts : List Cut) → NoneAtAll [] cuts → (l c : ℕ) (k : AsmKind) → InLine cuts l c k → ⊥
none_in cuts none l c k g = none (length g.front + 1) g.front g.cut g.behind g.are (omega arith) g.before k g.fault

-- every fault of the text, by how its lines are cut, stands no earlier than the one that is told, and is that one where it stands there
record IsTold (t : Told) (l c : ℕ) (k : AsmKind) : Type 0 where
  no_earlier : IsNoLater t.line t.column l c
  same : l ≡ t.line → c ≡ t.column → k ≡ t.kind

compare : (text : List ℕ) (t : Told) → told_of text ≡ Some t → (l c : ℕ) (k : AsmKind) → HasFault text l c k → IsTold t l c k
compare text t e l c k h = at (subst (Outcome [] h.cut_text.cuts) e (told_of_cut text h.cut_text)) h.fault
  where
    ct : CutText text
    ct = h.cut_text

    at : Outcome [] ct.cuts (Some t) → InLine ct.cuts l c k ⊎ NoBoardAtAll ct.cuts l c k → IsTold t l c k
    at (inl f) (inl g) = record { no_earlier = no_later ct.lines ct.cuts t ct.are_cut f l c k g; same = λ line column. (same_told ct.lines ct.cuts t ct.are_cut f l c k g line).0 }
    at (inl f) (inr g) = absurd (g.no_other t.line t.column t.kind (first_is_in ct.cuts t f))
    at (inr o) (inl g) = absurd (none_in ct.cuts o.none l c k g)
    at (inr o) (inr g) =
        let line = o.line_is in
        let column = o.column_is in
        let own_line = g.line_is in
        let own_column = g.column_is in
        record { no_earlier = inr (omega (arith, line, own_line), omega (arith, column, own_column)); same = λ _ _. g.kind_is ∙ sym o.kind_is }

told_is_there : (text : List ℕ) (t : Told) → told_of text ≡ Some t → HasFault text t.line t.column t.kind
told_is_there text t e = record { cut_text = text_is_cut text; fault = at (subst (Outcome [] (text_is_cut text).cuts) e (told_of_cut text (text_is_cut text))) }
  where
    cuts : List Cut
    cuts = (text_is_cut text).cuts

    at : Outcome [] cuts (Some t) → InLine cuts t.line t.column t.kind ⊎ NoBoardAtAll cuts t.line t.column t.kind
    at (inl f) = inl (first_is_in cuts t f)
    at (inr o) = inr (record { no_other = none_in cuts o.none; none = o.boards; line_is = o.line_is; column_is = o.column_is; kind_is = o.kind_is })

pub told_is_first : (text : List ℕ) (t : Told) → told_of text ≡ Some t → IsFirstFault text t.line t.column t.kind
told_is_first text t e = record { has = told_is_there text t e; first = λ l c k h. (compare text t e l c k h).no_earlier }

-- nothing is told where there is no fault
pub none_if_silent : (text : List ℕ) → told_of text ≡ None → (l c : ℕ) (k : AsmKind) → HasFault text l c k → ⊥
none_if_silent text e l c k h = at (subst (Outcome [] h.cut_text.cuts) e (told_of_cut text h.cut_text)) h.fault
  where
    at : Outcome [] h.cut_text.cuts None → InLine h.cut_text.cuts l c k ⊎ NoBoardAtAll h.cut_text.cuts l c k → ⊥
    at o (inl g) = none_in h.cut_text.cuts o.0 l c k g
    at o (inr g) = o.1 g.none

antisymmetric : (a b c d : ℕ) → IsNoLater a b c d → IsNoLater c d a b → (a ≡ c) × (b ≡ d)
antisymmetric a b c d (inl low) (inl high) = absurd (omega (arith, low, high))
antisymmetric a b c d (inl low) (inr high) = absurd (let same = high.0 in omega (arith, low, same))
antisymmetric a b c d (inr low) (inl high) = absurd (let same = low.0 in omega (arith, high, same))
antisymmetric a b c d (inr low) (inr high) = (let one = low.1 in let other = high.1 in (low.0, omega (arith, one, other)))

-- the first fault is told
pub first_is_told : (text : List ℕ) (t : Told) → IsFirstFault text t.line t.column t.kind → told_of text ≡ Some t
first_is_told text t f = by (told_of text) refl
  where
    by : (o : Option Told) → told_of text ≡ o → o ≡ Some t
    by None e = absurd (none_if_silent text e t.line t.column t.kind f.has)
    by (Some s) e =
        let is = compare text s e t.line t.column t.kind f.has in
        let back = f.first s.line s.column s.kind (told_is_there text s e) in
        let place = antisymmetric t.line t.column s.line s.column back is.no_earlier in
        let kind = is.same place.0 place.1 in
        let line = place.0 in
        let column = place.1 in
        λ i. Some (record { line = sym line i; column = sym column i; kind = sym kind i })

-- where there is no fault nothing is told
pub silent_if_none : (text : List ℕ) → ((l c : ℕ) (k : AsmKind) → HasFault text l c k → ⊥) → told_of text ≡ None
silent_if_none text none = by (told_of text) refl
  where
    by : (o : Option Told) → told_of text ≡ o → o ≡ None
    by None e = refl
    by (Some t) e = absurd (none t.line t.column t.kind (told_is_there text t e))
