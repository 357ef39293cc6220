-- Each fault of a line stands at the one right place.
use Rattle.std.proofs.Common.{◌≡◌, ◌∙◌, ◌⊎◌, ◌↔◌, inl, inr, refl, sym, ap, subst, ℕ, zero, suc, ◌+◌, ◌-◌, ◌<◌, ◌≤◌, Bool, true, false, ◌==◌, cond, List, [], ◌∷◌, ◌++◌, drop, length, Option, Some, None, Result, Ok, Err, arith}
use Rattle.std.specs.Prelude.{slice_get}
use Rattle.std.specs.List.{AllByRecursion, Contains}
use Rattle.std.specs.Option.{is_some}
use Rattle.std.proofs.lemmas.Bool.{cases_lt, eq-eqb}
use Rattle.std.proofs.lemmas.Option.{slice_get_within}
use Rattle.spur_asm.specs.Context.{Placed, misplacement}
use Rattle.spur_asm.specs.Counts.{begins_board, begins_board_in, counted, first_sort, is_board, label_of_cut, label_text, labels_around, labels_before, lines_with, sort_of_cut}
use Rattle.spur_asm.specs.FaultLaws.{PlacesOfFaults}
use Rattle.spur_asm.specs.Faults.{AtField, AtName, IsFaultOf, LabelFault, LineFault, StatementFault}
use Rattle.spur_asm.specs.Line.{statement_of_line}
use Rattle.spur_asm.specs.Pieces.{Cut, IsCut, IsPiece, Piece, texts_of}
use Rattle.spur_asm.specs.Places.{AreAround, AtEnd, AtPiece, GoesOn, HasSome, Keeps, MayGoOn}
use Rattle.spur_asm.specs.Shapes.{Field, shape_of}
use Rattle.spur_asm.specs.Spelling.{IsText}
use Rattle.spur_asm.specs.Token.{Name}
use Rattle.spur_asm.specs.declared.fault.AsmKind.{AsmKind}
use Rattle.spur_asm.specs.declared.fault.AsmKind.TheVariants.{BadToken}
use Rattle.spur_asm.specs.declared.fault.Misfit.{Misfit}
use Rattle.spur_asm.specs.declared.statement.Context.{Context}
use Rattle.spur_asm.specs.declared.statement.Sort.{Sort}
use Rattle.spur_asm.specs.declared.statement.Sort.TheVariants.{Page, Word, Board, Seg, Code}
use Rattle.spur_asm.specs.declared.statement.Statement.{Statement}
use Rattle.spur_asm.proofs.Continued.{no_label_added, texts}
use Rattle.spur_asm.proofs.FieldTexts.{AllCan, WantsLabel, shape_can}
use Rattle.spur_asm.proofs.GoingOn.{field_again, fits_long, go_on_empty, go_on_fields, go_on_heads, gone_on, label_again, name_again}
use Rattle.spur_asm.proofs.KeptPieces.{count, count_is, get_count, kept_less, length_count, sort_is_of, statement_of_other}
use Rattle.spur_asm.proofs.LabelsAround.{agrees, placed_cuts}
use Rattle.spur_asm.proofs.LineJudged.{line_judged, name_named}
use Rattle.spur_asm.proofs.PieceCuts.{line_found}
use Rattle.spur_asm.proofs.PieceFacts.{AreFound}
use Rattle.spur_asm.proofs.PieceOrder.{before_end, same_number}
use Rattle.spur_asm.proofs.RealLabels.{IsReal, around_are_real, contained_is_real, cut_is_real, cuts_are_real, labelled}
use Rattle.spur_asm.proofs.FaultWithin.{fault_within}
use Rattle.spur_asm.proofs.TextFaults.{minus_back}

-- a piece of the line, or its end, stands behind so many bytes
abbrev Stands : Cut → ℕ → ℕ → Type 0
Stands cut number before = ((piece : Piece) × (slice_get cut.pieces number ≡ Some piece) × (before ≡ piece.before)) ⊎ ((number ≡ length cut.pieces) × (before ≡ cut.end))

-- the number of the piece at which a fault stands is the right one
record IsRight (front : List Cut) (cut : Cut) (behind : List Cut) (before : ℕ) : Type 0 where
  number : ℕ
  stands : Stands cut number before
  goes_on : GoesOn front cut behind number
  no_further : number < length cut.pieces → (other : Cut) → Keeps (suc number) cut other → HasSome front other behind

-- ---- the label that a statement may want

no_board_code : (n : ℕ) (t : Bool) (operation : _) (c : Context) → (c.boards == 0) ≡ true → misplacement c (Code operation) ≡ Some BadToken
no_board_code n t operation c e = rw e refl

abbrev IsWanted : List (List ℕ) → Sort → List ℕ → Type 0
IsWanted labels sort name = WantsLabel sort → IsText (Name name) name × Contains labels name

none_wanted : (labels : List (List ℕ)) (sort : Sort) (name : List ℕ) → (WantsLabel sort → ⊥) → IsWanted labels sort name
none_wanted labels sort name none = λ wants. absurd (none wants)

label_wanted : (front : List Cut) (cut : Cut) (behind : List Cut) (sort : Sort) → AllByRecursion IsReal (labels_around front (cut ∷ behind)) → misplacement (counted front) sort ≡ None → sort_of_cut cut ≡ Some sort
    → MayGoOn front cut behind → (name : List ℕ) × IsWanted (labels_around front (cut ∷ behind)) sort name
label_wanted front cut behind Page real stands is may = ([], λ wants. absurd wants)
label_wanted front cut behind Word real stands is may = ([], λ wants. absurd wants)
label_wanted front cut behind Board real stands is may = ([], λ wants. absurd wants)
label_wanted front cut behind Seg real stands is may = ([], λ wants. absurd wants)
label_wanted front cut behind (Code operation) real stands is (inl none) =
    absurd (let bad : misplacement (counted front) (Code operation) ≡ Some BadToken = rw (eq-eqb (lines_with is_board front) 0 none) refl in cc)
label_wanted front cut behind (Code operation) real stands is (inr (inl begins)) =
    absurd (let no : begins_board cut ≡ false = ap begins_board_in is in cc)
label_wanted front cut behind (Code operation) real stands is (inr (inr label)) =
    (label.0, λ wants. (contained_is_real (labels_around front (cut ∷ behind)) label.0 real label.1, label.1))

found_piece : (end : ℕ) (last : Option Piece) (heads : List Piece) (name : Piece) (more pieces : List Piece) (lexemes : _) → pieces ≡ heads ++ (name ∷ more) → AreFound end last lexemes pieces → IsPiece name.text []
found_piece end last [] name more [] lexemes e found = absurd cc
found_piece end last (h ∷ heads) name more [] lexemes e found = absurd cc
found_piece end last heads name more (p ∷ pieces) [] e found = absurd found
found_piece end last [] name more (p ∷ pieces) (one ∷ lexemes) e found = (let same : p ≡ name = cc in subst (λ (x : Piece). IsPiece x.text []) same found.0.is_piece)
found_piece end last (h ∷ heads) name more (p ∷ pieces) (one ∷ lexemes) e found = (let same : pieces ≡ heads ++ (name ∷ more) = cc in found_piece end (Some p) heads name more pieces lexemes same found.1)

module _ (line : List ℕ) (front : List Cut) (cut : Cut) (behind : List Cut) (is : IsCut line cut) (around : AreAround front behind) (may : MayGoOn front cut behind) where
  labels : List (List ℕ)
  labels = labels_around front (cut ∷ behind)

  real : AllByRecursion IsReal (labels_around front (cut ∷ behind))
  real = around_are_real front (cut ∷ behind) (cuts_are_real around.front_lines front around.front_cut) (cut_is_real line cut is, cuts_are_real around.behind_lines behind around.behind_cut)

  -- the label of a line that is gone on with in its fields
  abbrev IsStable : List Piece → List Piece → Type 0
  IsStable heads rest = (name : Piece) (more : List Piece) → rest ≡ name ∷ more → (m : ℕ) (label : List ℕ) (fields : List Field) → AllCan (labels_around front (cut ∷ behind)) label fields → m ≤ length more
      → label_text (texts (heads ++ (name ∷ gone_on label fields name more m))) ≡ label_of_cut cut

  right_name : (heads rest : List Piece) → cut.pieces ≡ heads ++ rest → labels_before (texts_of cut) ≡ length heads → ((other : AsmKind) → LabelFault front (label_of_cut cut) other → ⊥) → GoesOn front cut behind (count heads 0)
      → (before : ℕ) (kind : AsmKind) → AtName (counted front) rest before kind → IsRight front cut behind before
  right_name heads rest are count_heads no_label alone before kind n =
      let whole : cut.pieces ≡ heads ++ (n.name ∷ n.more) = are ∙ ap (λ (ps : List Piece). heads ++ ps) n.first in
      record {
        number = count heads 0;
        stands = inl (n.name, ap (λ (ps : List Piece). slice_get ps (count heads 0)) whole ∙ get_count heads (n.name ∷ n.more) 0, n.place);
        goes_on = alone;
        no_further = λ low other keeps. name_again line front cut behind is heads n.name n.more kind whole count_heads no_label n.fault other keeps;
      }

  stands_in : (heads : List Piece) (name : Piece) (more : List Piece) (m before : ℕ) (kind : AsmKind) → cut.pieces ≡ heads ++ (name ∷ more) → m ≤ length more → (field : Option Field) (piece last : Option Piece) → slice_get more m ≡ piece
      → IsFaultOf (labels_around front (cut ∷ behind)) field piece last cut.end before kind → Stands cut (count heads (suc m)) before
  stands_in heads name more m before kind are low (Some field) (Some piece) (Some last) is here = inl (piece, ap (λ (ps : List Piece). slice_get ps (count heads (suc m))) are ∙ get_count heads (name ∷ more) (suc m) ∙ is, here.0)
  stands_in heads name more m before kind are low (Some field) (Some piece) None is here = absurd here
  stands_in heads name more m before kind are low None (Some piece) last is here = inl (piece, ap (λ (ps : List Piece). slice_get ps (count heads (suc m))) are ∙ get_count heads (name ∷ more) (suc m) ∙ is, here.0)
  stands_in heads name more m before kind are low (Some field) None last is here =
      let all : length cut.pieces ≡ count heads (suc (length more)) = ap (λ (ps : List Piece). length ps) are ∙ length_count heads (name ∷ more) in
      let last_one : m ≡ length more = no_more more m low is in
      inr (ap (λ (n : ℕ). count heads (suc n)) last_one ∙ sym all, here.0)
    where
      no_more : (xs : List Piece) (n : ℕ) → n ≤ length xs → slice_get xs n ≡ None → n ≡ length xs
      no_more [] zero low e = refl
      no_more [] (suc n) low e = absurd (omega (arith, low))
      no_more (x ∷ xs) zero low e = absurd cc
      no_more (x ∷ xs) (suc n) low e = ap (λ (k : ℕ). suc k) (no_more xs n (omega (arith, low)) e)
  stands_in heads name more m before kind are low None None last is here = absurd here

  right_field : (heads rest : List Piece) → cut.pieces ≡ heads ++ rest → labels_before (texts_of cut) ≡ length heads → ((other : AsmKind) → LabelFault front (label_of_cut cut) other → ⊥) → IsStable heads rest
      → (before : ℕ) (kind : AsmKind) → AtField (labels_around front (cut ∷ behind)) (counted front) rest cut.end before kind → IsRight front cut behind before
  right_field heads rest are count_heads no_label stable before kind f =
      let m : ℕ = f.fault.number in
      let whole : cut.pieces ≡ heads ++ (f.name ∷ f.more) = are ∙ ap (λ (ps : List Piece). heads ++ ps) f.first in
      let low = fits_long (labels_around front (cut ∷ behind)) (shape_of f.sort) f.name f.more m f.fault.so_far in
      let statement : drop (labels_before (texts_of cut)) cut.pieces ≡ f.name ∷ f.more = statement_of_other cut cut heads (f.name ∷ f.more) count_heads refl whole in
      let named : first_sort (texts (f.name ∷ f.more)) ≡ Some f.sort = rw (name_named f.name.text f.is.is.1) f.is.named in
      let wanted = label_wanted front cut behind f.sort real f.stands (sort_is_of cut (f.name ∷ f.more) statement ∙ named) may in
      let can = shape_can (labels_around front (cut ∷ behind)) wanted.0 f.sort wanted.1 in
      let piece = found_piece cut.end None heads f.name f.more cut.pieces _ whole (line_found line cut is) in
      record {
        number = count heads (suc m);
        stands = stands_in heads f.name f.more m before kind whole low (slice_get (shape_of f.sort) m) (slice_get f.more m) (slice_get (f.name ∷ f.more) m) refl f.fault.here;
        goes_on = go_on_fields line front cut behind is heads f.name f.more f.sort m wanted.0 whole count_heads (stable f.name f.more f.first m wanted.0 (shape_of f.sort) can low) no_label piece f.is f.stands can f.fault.so_far;
        no_further = λ inside other keeps. (
            let all : length cut.pieces ≡ count heads (suc (length f.more)) = ap (λ (ps : List Piece). length ps) whole ∙ length_count heads (f.name ∷ f.more) in
            let mine = count_is heads (suc m) in
            let whole_count = count_is heads (suc (length f.more)) in
            let there = get_inside f.more m (omega (arith, inside, all, mine, whole_count)) in
            field_again line front cut behind is heads f.name f.more f.sort before kind whole count_heads no_label f.is f.stands f.fault there.0 there.1 other keeps);
      }
    where
      get_inside : (xs : List Piece) (n : ℕ) → n < length xs → (piece : Piece) × (slice_get xs n ≡ Some piece)
      get_inside [] n low = absurd (omega (arith, low))
      get_inside (x ∷ xs) zero low = (x, refl)
      get_inside (x ∷ xs) (suc n) low = get_inside xs n (omega (arith, low))

  right_statement : (heads rest : List Piece) → cut.pieces ≡ heads ++ rest → labels_before (texts_of cut) ≡ length heads → ((other : AsmKind) → LabelFault front (label_of_cut cut) other → ⊥) → GoesOn front cut behind (count heads 0)
      → IsStable heads rest → (before : ℕ) (kind : AsmKind) → StatementFault (labels_around front (cut ∷ behind)) (counted front) (drop (labels_before (texts_of cut)) cut.pieces) cut.end before kind → IsRight front cut behind before
  right_statement heads rest are count_heads no_label alone stable before kind fault =
      let own : drop (labels_before (texts_of cut)) cut.pieces ≡ rest = statement_of_other cut cut heads rest count_heads refl are in
      at (subst (λ (ps : List Piece). StatementFault (labels_around front (cut ∷ behind)) (counted front) ps cut.end before kind) own fault)
    where
      at : StatementFault (labels_around front (cut ∷ behind)) (counted front) rest cut.end before kind → IsRight front cut behind before
      at (inl n) = right_name heads rest are count_heads no_label alone before kind n
      at (inr f) = right_field heads rest are count_heads no_label stable before kind f

  bare_stable : label_of_cut cut ≡ None → IsStable [] cut.pieces
  bare_stable none name more first zero label fields can low = no_label_added (labels_around front (cut ∷ behind)) label name fields (name.before + length name.text) can ∙ sym none
  bare_stable none name [] first (suc m) label fields can low = absurd (omega (arith, low))
  bare_stable none name (next ∷ more) first (suc m) label fields can low = ap (λ (ps : List Piece). label_text (texts ps)) (sym first)

  labelled_right : (pieces : List Piece) (name mark : List ℕ) (more : List (List ℕ)) → cut.pieces ≡ pieces → texts pieces ≡ name ∷ mark ∷ more → label_of_cut cut ≡ Some name → ((other : AsmKind) → LabelFault front (label_of_cut cut) other → ⊥)
      → (before : ℕ) (kind : AsmKind) → StatementFault (labels_around front (cut ∷ behind)) (counted front) (drop (labels_before (texts_of cut)) cut.pieces) cut.end before kind → IsRight front cut behind before
  labelled_right [] name mark more are e label no_label before kind fault = absurd cc
  labelled_right (p ∷ []) name mark more are e label no_label before kind fault = absurd cc
  labelled_right (p ∷ q ∷ rest) name mark more are e label no_label before kind fault =
      let heads : List Piece = p ∷ q ∷ [] in
      let count_heads : labels_before (texts_of cut) ≡ 2 = ap (λ (o : Option (List ℕ)). cond (is_some o) 2 0) label in
      let alone : label_text (texts heads) ≡ label_of_cut cut = ap (λ (ps : List Piece). label_text (texts ps)) (sym are) in
      right_statement heads rest are count_heads no_label (go_on_heads line front cut behind is heads rest are count_heads alone no_label)
      (λ n others first m l fields can low. ap (λ (ps : List Piece). label_text (texts ps)) (sym are)) before kind fault

  right : (before : ℕ) (kind : AsmKind) → LineFault front cut behind before kind → IsRight front cut behind before
  right before kind (inl l) = record {
    number = 0;
    stands = inl (l.piece, ap (λ (ps : List Piece). slice_get ps 0) l.first, l.place);
    goes_on = go_on_empty line front cut behind is;
    no_further = λ low other keeps. label_again line front cut behind is l.piece l.more kind l.first l.fault other keeps;
  }
  right before kind (inr s) = by (label_of_cut cut) refl
    where
      by : (o : Option (List ℕ)) → label_of_cut cut ≡ o → IsRight front cut behind before
      by None e =
          let count_heads : labels_before (texts_of cut) ≡ 0 = ap (λ (o : Option (List ℕ)). cond (is_some o) 2 0) e in
          right_statement [] cut.pieces refl count_heads s.no_label_fault (go_on_empty line front cut behind is) (bare_stable e) before kind s.fault
      by (Some name) e = (let l = labelled (texts_of cut) name e in labelled_right cut.pieces name l.mark l.more refl l.are e s.no_label_fault before kind s.fault)

  -- ---- both ways

  less_kept : (j k : ℕ) (other : Cut) → j ≤ k → Keeps k cut other → Keeps j cut other
  less_kept j k other low keeps = record { pieces = kept_less j k cut.pieces other.pieces low keeps.pieces; label = λ some. keeps.label (omega (arith, some, low)) }

  less_gone : (j k : ℕ) → j ≤ k → GoesOn front cut behind k → GoesOn front cut behind j
  less_gone j k low g = record { line = g.line; other = g.other; is_cut = g.is_cut; faultless = g.faultless; keeps = less_kept j k g.other low g.keeps }

  not_further : (before : ℕ) (r : IsRight front cut behind before) (k : ℕ) → r.number < k → r.number < length cut.pieces → GoesOn front cut behind k → ⊥
  not_further before r k low inside g = g.faultless (r.no_further inside g.other (less_kept (suc r.number) k g.other (omega (arith, low)) g.keeps))

  decide : HasSome front cut behind ⊎ (HasSome front cut behind → ⊥)
  decide = by (statement_of_line all (counted front) line) refl
    where
      all : List Placed
      all = placed_cuts [] (front ++ (cut ∷ behind))

      by : (r : Result (Option Statement) Misfit) → statement_of_line all (counted front) line ≡ r → HasSome front cut behind ⊎ (HasSome front cut behind → ⊥)
      by (Err m) e = (let h = (line_judged line front cut behind all (counted front) is (agrees front cut behind) m.kind m.left).0 e in inl (h.before, m.kind, h.fault))
      by (Ok s) e = inr (λ some. (
          let low = fault_within line front cut behind some.0 some.1 is some.2 in
          let err = (line_judged line front cut behind all (counted front) is (agrees front cut behind) some.1 (cut.end - some.0)).1 (record { before = some.0; place = minus_back some.0 cut.end low; fault = some.2 }) in
          cc))

  self_kept : (k : ℕ) → Keeps k cut cut
  self_kept k = record { pieces = refl; label = λ _. refl }

  at_number : (k : ℕ) → AtPiece front cut behind k → (before : ℕ) × (r : IsRight front cut behind before) × (r.number ≡ k)
  at_number k a = (a.piece.before, right a.piece.before a.kind a.fault, is_at (right a.piece.before a.kind a.fault))
    where
      is_at : (r : IsRight front cut behind a.piece.before) → r.number ≡ k
      is_at r = elim r.stands [
        | inl s ↦ same_number line cut is r.number k s.0 a.piece s.1 a.piece_is (sym s.2)
        | inr e ↦ absurd (let low = before_end line cut is k a.piece a.piece_is in let end = e.1 in omega (arith, low, end))
      ]

  piece_right : (k : ℕ) → k < length cut.pieces → AtPiece front cut behind k ↔ (GoesOn front cut behind k × (GoesOn front cut behind (k + 1) → ⊥))
  piece_right k inside = (there, λ g. elim decide [ inl some ↦ back g some | inr none ↦ absurd (g.1 (record { line = line; other = cut; is_cut = is; faultless = none; keeps = self_kept (k + 1) })) ])
    where
      there : AtPiece front cut behind k → GoesOn front cut behind k × (GoesOn front cut behind (k + 1) → ⊥)
      there a =
          let at = at_number k a in
          let same : at.1.number ≡ k = at.2 in (
            subst (λ (n : ℕ). GoesOn front cut behind n) same at.1.goes_on,
            λ g. not_further at.0 at.1 (k + 1) (omega (arith, same)) (omega (arith, same, inside)) g,
          )

      get_it : (before : ℕ) (kind : AsmKind) → LineFault front cut behind before kind → (number : ℕ) → Stands cut number before → number ≡ k → AtPiece front cut behind k
      get_it before kind fault number (inl s) same =
          record { piece = s.0; piece_is = ap (λ (n : ℕ). slice_get cut.pieces n) (sym same) ∙ s.1; kind = kind; fault = subst (λ (n : ℕ). LineFault front cut behind n kind) s.2 fault }
      get_it before kind fault number (inr e) same = absurd (let all = e.0 in omega (arith, all, same, inside))

      back : GoesOn front cut behind k × (GoesOn front cut behind (k + 1) → ⊥) → HasSome front cut behind → AtPiece front cut behind k
      back g some = which (right some.0 some.1 some.2)
        where
          which : IsRight front cut behind some.0 → AtPiece front cut behind k
          which r = elim (cases_lt r.number k) [
            | inl low ↦ absurd (not_further some.0 r k low (omega (arith, low, inside)) g.0)
            | inr high ↦ elim (cases_lt k r.number) [
              | inl above ↦ absurd (g.1 (less_gone (k + 1) r.number (omega (arith, above)) r.goes_on))
              | inr low ↦ get_it some.0 some.1 some.2 r.number r.stands (omega (arith, high, low))
            ]
          ]

  end_right : AtEnd front cut behind ↔ (HasSome front cut behind × GoesOn front cut behind (length cut.pieces))
  end_right = (there, λ g. back g.0 g.1)
    where
      at_end : (r : IsRight front cut behind cut.end) → r.number ≡ length cut.pieces
      at_end r = elim r.stands [
        | inl s ↦ absurd (let low = before_end line cut is r.number s.0 s.1 in let end = s.2 in omega (arith, low, end))
        | inr e ↦ e.0
      ]

      there : AtEnd front cut behind → HasSome front cut behind × GoesOn front cut behind (length cut.pieces)
      there a = (
        (cut.end, a.0, a.1),
        subst (λ (n : ℕ). GoesOn front cut behind n) (at_end (right cut.end a.0 a.1)) (right cut.end a.0 a.1).goes_on,
      )

      back : HasSome front cut behind → GoesOn front cut behind (length cut.pieces) → AtEnd front cut behind
      back some g = which (right some.0 some.1 some.2)
        where
          which : IsRight front cut behind some.0 → AtEnd front cut behind
          which r = elim r.stands [
            | inl s ↦ absurd (let inside = slice_get_within cut.pieces r.number s.0 s.1 in not_further some.0 r (length cut.pieces) inside inside g)
            | inr e ↦ (some.1, subst (λ (n : ℕ). LineFault front cut behind n some.1) e.1 some.2)
          ]

pub places_of_faults : PlacesOfFaults
places_of_faults line front cut behind is around may = record { pieces = piece_right line front cut behind is around may; end = end_right line front cut behind is around may }
