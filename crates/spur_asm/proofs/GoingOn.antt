-- A line with a fault can be gone on with up to there, and not one piece further.
use Rattle.std.proofs.Common.{◌≡◌, ◌∙◌, inl, inr, refl, sym, ap, subst, ℕ, zero, suc, ◌+◌, ◌<◌, ◌≤◌, List, [], ◌∷◌, ◌++◌, map, take, drop, length, Option, Some, None, Result, Ok, Err, arith}
use Rattle.std.specs.Prelude.{slice_get}
use Rattle.std.specs.Option.{is_some}
use Rattle.std.proofs.lemmas.List.{append_assoc, append-nil, take_at}
use Rattle.std.proofs.lemmas.Option.{slice_get_within}
use Rattle.spur_asm.specs.Context.{misplacement}
use Rattle.spur_asm.specs.Counts.{counted, label_of_cut, label_text, labels_around, labels_before}
use Rattle.spur_asm.specs.Faults.{FieldsFault, FitsAt, IsStatement, LabelFault, LineFault, NameFault, StatementFault}
use Rattle.spur_asm.specs.Names.{sort_named}
use Rattle.spur_asm.specs.Pieces.{Cut, IsCut, IsPiece, Piece, texts_of}
use Rattle.spur_asm.specs.Places.{GoesOn, HasSome, Keeps}
use Rattle.spur_asm.specs.Shapes.{Field, shape_of}
use Rattle.spur_asm.specs.Token.{Token, Name}
use Rattle.spur_asm.specs.declared.fault.AsmKind.{AsmKind}
use Rattle.spur_asm.specs.declared.statement.Context.{Context}
use Rattle.spur_asm.specs.declared.statement.Sort.{Sort}
use Rattle.spur_asm.proofs.Continued.{AllFit, all_whole, can_dropped, fit_no_fault, made_fit, texts}
use Rattle.spur_asm.proofs.FaultKept.{fault_kept}
use Rattle.spur_asm.proofs.FieldTexts.{AllCan, text_for}
use Rattle.spur_asm.proofs.KeptPieces.{around_same, count, count_next, ends_count, kept_behind, kept_name, label_kept, sort_is_of, statement_of_other, take_count}
use Rattle.spur_asm.proofs.LinesMade.{IsLineMade, ends_of, make_line, pieces_at}
use Rattle.spur_asm.proofs.PieceFacts.{token_of_text}
use Rattle.spur_asm.proofs.PieceTokens.{own_read, piece_reads}

-- ---- a statement whose fields all fit

same_sort : (a b : Sort) → Some a ≡ Some b → a ≡ b
same_sort a b e = cc

same_token : (a b : Token) → ◌≡◌ {A = Result Token AsmKind} (Ok a) (Ok b) → a ≡ b
same_token a b e = cc

no_name_fault : (counts : Context) (text : List ℕ) (sort : Sort) (kind : AsmKind) → IsPiece text [] → IsStatement text sort → misplacement counts sort ≡ None → NameFault counts text kind → ⊥
no_name_fault counts text sort kind p s stands (inl own) =
    let one : token_of_text text ≡ Err kind = own_read text kind own in
    let other : token_of_text text ≡ Ok (Name text) = piece_reads text (Name text) p s.is in
    cc
no_name_fault counts text sort kind p s stands (inr (inl o)) =
    let one : token_of_text text ≡ Ok o.token = piece_reads text o.token p o.is in
    let other : token_of_text text ≡ Ok (Name text) = piece_reads text (Name text) p s.is in
    o.no_name text (same_token o.token (Name text) (sym one ∙ other))
no_name_fault counts text sort kind p s stands (inr (inr (inl u))) =
    let none = u.none in
    let some = s.named in
    cc
no_name_fault counts text sort kind p s stands (inr (inr (inr m))) =
    let same : m.sort ≡ sort = same_sort m.sort sort (sym m.is.named ∙ s.named) in
    let misplaced : misplacement counts sort ≡ Some kind = ap (misplacement counts) (sym same) ∙ m.misplaced in
    cc

same_pieces : (a b : Piece) (xs ys : List Piece) → a ∷ xs ≡ b ∷ ys → (a ≡ b) × (xs ≡ ys)
same_pieces a b xs ys e = (cc, cc)

no_statement_fault : (labels : List (List ℕ)) (counts : Context) (name : Piece) (more : List Piece) (sort : Sort) (end before : ℕ) (kind : AsmKind) → IsPiece name.text [] → IsStatement name.text sort → misplacement counts sort ≡ None
    → AllFit labels (shape_of sort) name more → StatementFault labels counts (name ∷ more) end before kind → ⊥
no_statement_fault labels counts name more sort end before kind p s stands fit (inl n) =
    let same = same_pieces name n.name more n.more n.first in
    no_name_fault counts name.text sort kind p s stands (subst (λ (x : Piece). NameFault counts x.text kind) (sym same.0) n.fault)
no_statement_fault labels counts name more sort end before kind p s stands fit (inr f) =
    let same = same_pieces name f.name more f.more f.first in
    let named : sort_named name.text ≡ Some f.sort = ap (λ (x : Piece). sort_named x.text) same.0 ∙ f.is.named in
    let sorts : f.sort ≡ sort = same_sort f.sort sort (sym named ∙ s.named) in
    let fault : FieldsFault labels (shape_of sort) name more end before kind =
    subst (λ (x : Piece). FieldsFault labels (shape_of sort) x more end before kind) (sym same.0)
    (subst (λ (ps : List Piece). FieldsFault labels (shape_of sort) f.name ps end before kind) (sym same.1)
    (subst (λ (t : Sort). FieldsFault labels (shape_of t) f.name f.more end before kind) sorts f.fault)) in
    fit_no_fault labels (shape_of sort) name more end before fault.number kind fit fault.so_far fault.here

pub fits_long : (labels : List (List ℕ)) (fields : List Field) (last : Piece) (pieces : List Piece) (m : ℕ) → ((k : ℕ) → k < m → FitsAt labels fields last pieces k) → m ≤ length pieces
fits_long labels fields last pieces zero so_far = omega arith
fits_long labels fields last pieces (suc m) so_far = (let at = so_far m (omega arith) in let low = slice_get_within pieces m at.piece at.piece_is in omega (arith, low))

length_taken : (m : ℕ) (pieces : List Piece) → m ≤ length pieces → length (take m pieces) ≡ m
length_taken zero pieces low = refl
length_taken (suc m) [] low = absurd (omega (arith, low))
length_taken (suc m) (p ∷ pieces) low = (let more = length_taken m pieces (omega (arith, low)) in omega (arith, more))

no_pieces : (name : Piece) (more : List Piece) → [] ≡ name ∷ more → ⊥
no_pieces name more e = cc

-- the pieces that stand behind a name, up to a fault, and texts for the fields from there on
abbrev pub gone_on : List ℕ → List Field → Piece → List Piece → ℕ → List Piece
gone_on label fields name more m = take m more ++ pieces_at (ends_of m (name.before + length name.text) more) (map (text_for label) (drop m fields))

module _ (line : List ℕ) (front : List Cut) (cut : Cut) (behind : List Cut) (is : IsCut line cut) where
  -- ---- lines without a fault

  abbrev NoLabelFault : Type 0
  NoLabelFault = (other : AsmKind) → LabelFault front (label_of_cut cut) other → ⊥

  pub go_on_empty : GoesOn front cut behind 0
  go_on_empty = record {
    line = [];
    other = record { pieces = []; end = 0 };
    is_cut = record { body = []; comment = []; is = refl; plain = refl; is_comment = inl refl; has_pieces = refl; ends = refl };
    faultless = λ some. none some.0 some.1 some.2;
    keeps = record { pieces = refl; label = λ low. absurd (omega (arith, low)) };
  }
    where
      empty : Cut
      empty = record { pieces = []; end = 0 }

      none : (before : ℕ) (kind : AsmKind) → LineFault front empty behind before kind → ⊥
      none before kind (inl l) = no_pieces l.piece l.more l.first
      none before kind (inr s) = elim s.fault [
        | inl n ↦ no_pieces n.name n.more n.first
        | inr f ↦ no_pieces f.name f.more f.first
      ]

  label_as : (other : Cut) (kind : AsmKind) → label_of_cut other ≡ label_of_cut cut → NoLabelFault → LabelFault front (label_of_cut other) kind → ⊥
  label_as other kind same none f = none kind (subst (λ (o : Option (List ℕ)). LabelFault front o kind) same f)

  -- a line of these first pieces alone
  pub go_on_heads : (heads rest : List Piece) → cut.pieces ≡ heads ++ rest → labels_before (texts_of cut) ≡ length heads → label_text (texts heads) ≡ label_of_cut cut → NoLabelFault → GoesOn front cut behind (count heads 0)
  go_on_heads heads rest are count_heads alone no_label = record {
    line = made.line;
    other = made.other;
    is_cut = made.is_cut;
    faultless = λ some. none some.0 some.1 some.2;
    keeps = record {
      pieces = ap (λ (ps : List Piece). take (count heads 0) ps) pieces_are ∙ taken_heads ∙ sym taken_all;
      label = λ _. ap (λ (o : Option (List ℕ)). is_some o) label;
    };
  }
    where
      made : IsLineMade (count heads 0) cut []
      made = make_line (count heads 0) line cut [] is tt

      taken_all : take (count heads 0) cut.pieces ≡ heads
      taken_all = ap (λ (ps : List Piece). take (count heads 0) ps) are ∙ take_count heads rest 0 ∙ append-nil heads

      pieces_are : made.other.pieces ≡ heads
      pieces_are = made.pieces_are ∙ append-nil (take (count heads 0) cut.pieces) ∙ taken_all

      taken_heads : take (count heads 0) heads ≡ heads
      taken_heads = ap (λ (ps : List Piece). take (count heads 0) ps) (sym (append-nil heads)) ∙ take_count heads [] 0 ∙ append-nil heads

      label : label_of_cut made.other ≡ label_of_cut cut
      label = ap (λ (ps : List Piece). label_text (texts ps)) pieces_are ∙ alone

      nothing : drop (labels_before (texts_of made.other)) made.other.pieces ≡ []
      nothing = statement_of_other cut made.other heads [] count_heads label (pieces_are ∙ sym (append-nil heads))

      none : (before : ℕ) (kind : AsmKind) → LineFault front made.other behind before kind → ⊥
      none before kind (inl l) = label_as made.other kind label no_label l.fault
      none before kind (inr s) = elim s.fault [
        | inl n ↦ no_pieces n.name n.more (sym nothing ∙ n.first)
        | inr f ↦ no_pieces f.name f.more (sym nothing ∙ f.first)
      ]

  -- a line that keeps the statement's name and the fields before a fault, and goes on with others
  pub go_on_fields : (heads : List Piece) (name : Piece) (more : List Piece) (sort : Sort) (m : ℕ) (label : List ℕ) → cut.pieces ≡ heads ++ (name ∷ more) → labels_before (texts_of cut) ≡ length heads
      → label_text (texts (heads ++ (name ∷ gone_on label (shape_of sort) name more m))) ≡ label_of_cut cut → NoLabelFault → IsPiece name.text [] → IsStatement name.text sort → misplacement (counted front) sort ≡ None
      → AllCan (labels_around front (cut ∷ behind)) label (shape_of sort) → ((k : ℕ) → k < m → FitsAt (labels_around front (cut ∷ behind)) (shape_of sort) name more k)
      → GoesOn front cut behind (count heads (suc m))
  go_on_fields heads name more sort m label are count_heads stable no_label p s stands can so_far = record {
    line = made.line;
    other = made.other;
    is_cut = made.is_cut;
    faultless = λ some. none some.0 some.1 some.2;
    keeps = record {
      pieces = ap (λ (ps : List Piece). take (count heads (suc m)) ps) pieces_are ∙ take_count heads (name ∷ new) (suc m) ∙ ap (λ (ps : List Piece). heads ++ (name ∷ ps)) again ∙ sym taken_all;
      label = λ _. ap (λ (o : Option (List ℕ)). is_some o) same_label;
    };
  }
    where
      labels : List (List ℕ)
      labels = labels_around front (cut ∷ behind)

      fields : List Field
      fields = shape_of sort

      new : List Piece
      new = gone_on label fields name more m

      made : IsLineMade (count heads (suc m)) cut (map (text_for label) (drop m fields))
      made = make_line (count heads (suc m)) line cut (map (text_for label) (drop m fields)) is (all_whole labels label (drop m fields) (can_dropped labels label m fields can))

      taken_all : take (count heads (suc m)) cut.pieces ≡ heads ++ (name ∷ take m more)
      taken_all = ap (λ (ps : List Piece). take (count heads (suc m)) ps) are ∙ take_count heads (name ∷ more) (suc m)

      ends : ends_of (count heads (suc m)) 0 cut.pieces ≡ ends_of m (name.before + length name.text) more
      ends = ap (λ (ps : List Piece). ends_of (count heads (suc m)) 0 ps) are ∙ ends_count heads name more m 0

      pieces_are : made.other.pieces ≡ heads ++ (name ∷ new)
      pieces_are =
          made.pieces_are
          ∙ ap (λ (ps : List Piece). ps ++ pieces_at (ends_of (count heads (suc m)) 0 cut.pieces) (map (text_for label) (drop m fields))) taken_all
          ∙ ap (λ (n : ℕ). (heads ++ (name ∷ take m more)) ++ pieces_at n (map (text_for label) (drop m fields))) ends
          ∙ append_assoc heads (name ∷ take m more) (pieces_at (ends_of m (name.before + length name.text) more) (map (text_for label) (drop m fields)))

      again : take m new ≡ take m more
      again = take_at (take m more) (pieces_at (ends_of m (name.before + length name.text) more) (map (text_for label) (drop m fields))) m (length_taken m more (fits_long labels fields name more m so_far))

      same_label : label_of_cut made.other ≡ label_of_cut cut
      same_label = ap (λ (ps : List Piece). label_text (texts ps)) pieces_are ∙ stable

      statement : drop (labels_before (texts_of made.other)) made.other.pieces ≡ name ∷ new
      statement = statement_of_other cut made.other heads (name ∷ new) count_heads same_label pieces_are

      own_statement : drop (labels_before (texts_of cut)) cut.pieces ≡ name ∷ more
      own_statement = statement_of_other cut cut heads (name ∷ more) count_heads refl are

      same_labels : labels_around front (made.other ∷ behind) ≡ labels
      same_labels = around_same front cut made.other behind same_label (sort_is_of made.other (name ∷ new) statement ∙ sym (sort_is_of cut (name ∷ more) own_statement))

      fit : AllFit labels fields name new
      fit = made_fit labels label m fields name more (name.before + length name.text) can refl so_far

      none : (before : ℕ) (kind : AsmKind) → LineFault front made.other behind before kind → ⊥
      none before kind (inl l) = label_as made.other kind same_label no_label l.fault
      none before kind (inr f) =
          no_statement_fault labels (counted front) name new sort made.other.end before kind p s stands fit
          (subst (λ (ps : List Piece). StatementFault labels (counted front) ps made.other.end before kind) statement
          (subst (λ (ls : List (List ℕ)). StatementFault ls (counted front) (drop (labels_before (texts_of made.other)) made.other.pieces) made.other.end before kind) same_labels f.fault))

  -- ---- lines that keep the fault

  -- a label's fault
  pub label_again : (piece : Piece) (more : List Piece) (kind : AsmKind) → cut.pieces ≡ piece ∷ more → LabelFault front (label_of_cut cut) kind → (other : Cut) → Keeps 1 cut other → HasSome front other behind
  label_again piece more kind are fault other keeps =
      let first = kept_name piece more other.pieces 0 (keeps.pieces ∙ ap (λ (ps : List Piece). take 1 ps) are) in
      let label : label_of_cut other ≡ label_of_cut cut = label_kept 0 cut.pieces other.pieces keeps.pieces (keeps.label (omega arith)) in
      (piece.before, kind, inl (record { piece = piece; more = first.behind; first = first.are; place = refl; fault = subst (λ (o : Option (List ℕ)). LabelFault front o kind) (sym label) fault }))

  -- the fault of the piece with which a statement begins
  pub name_again : (heads : List Piece) (name : Piece) (more : List Piece) (kind : AsmKind) → cut.pieces ≡ heads ++ (name ∷ more) → labels_before (texts_of cut) ≡ length heads → NoLabelFault
      → NameFault (counted front) name.text kind → (other : Cut) → Keeps (suc (count heads 0)) cut other → HasSome front other behind
  name_again heads name more kind are count_heads no_label fault other keeps =
      let kept = kept_behind heads (name ∷ more) other.pieces 1 (ap (λ (n : ℕ). take n other.pieces) (sym (count_next heads 0)) ∙ keeps.pieces ∙ ap (λ (ps : List Piece). take (suc (count heads 0)) ps) are ∙ ap (λ (n : ℕ). take n (heads ++ (name ∷ more))) (count_next heads 0)) in
      let first = kept_name name more kept.behind 0 kept.same in
      let label : label_of_cut other ≡ label_of_cut cut = label_kept (count heads 0) cut.pieces other.pieces keeps.pieces (keeps.label (omega arith)) in
      let statement : drop (labels_before (texts_of other)) other.pieces ≡ name ∷ first.behind = statement_of_other cut other heads (name ∷ first.behind) count_heads label (kept.are ∙ ap (λ (ps : List Piece). heads ++ ps) first.are) in (
        name.before,
        kind,
        inr (record {
          no_label_fault = λ k f. label_as other k label no_label f;
          fault = inl (record { name = name; more = first.behind; first = statement; place = refl; fault = fault });
        }),
      )

  -- the fault of a field at a piece
  pub field_again : (heads : List Piece) (name : Piece) (more : List Piece) (sort : Sort) (before : ℕ) (kind : AsmKind) → cut.pieces ≡ heads ++ (name ∷ more) → labels_before (texts_of cut) ≡ length heads → NoLabelFault
      → IsStatement name.text sort → misplacement (counted front) sort ≡ None → (f : FieldsFault (labels_around front (cut ∷ behind)) (shape_of sort) name more cut.end before kind) → (piece : Piece) → slice_get more f.number ≡ Some piece
      → (other : Cut) → Keeps (suc (count heads (suc f.number))) cut other → HasSome front other behind
  field_again heads name more sort before kind are count_heads no_label s stands f piece piece_is other keeps =
      let m : ℕ = f.number in
      let kept = kept_behind heads (name ∷ more) other.pieces (suc (suc m))
      (ap (λ (n : ℕ). take n other.pieces) (sym (count_next heads (suc m))) ∙ keeps.pieces ∙ ap (λ (ps : List Piece). take (suc (count heads (suc m))) ps) are ∙ ap (λ (n : ℕ). take n (heads ++ (name ∷ more))) (count_next heads (suc m))) in
      let first = kept_name name more kept.behind (suc m) kept.same in
      let label : label_of_cut other ≡ label_of_cut cut = label_kept (count heads (suc m)) cut.pieces other.pieces keeps.pieces (keeps.label (omega arith)) in
      let statement : drop (labels_before (texts_of other)) other.pieces ≡ name ∷ first.behind = statement_of_other cut other heads (name ∷ first.behind) count_heads label (kept.are ∙ ap (λ (ps : List Piece). heads ++ ps) first.are) in
      let own_statement : drop (labels_before (texts_of cut)) cut.pieces ≡ name ∷ more = statement_of_other cut cut heads (name ∷ more) count_heads refl are in
      let labels : labels_around front (other ∷ behind) ≡ labels_around front (cut ∷ behind) = around_same front cut other behind label (sort_is_of other (name ∷ first.behind) statement ∙ sym (sort_is_of cut (name ∷ more) own_statement)) in
      let long : m + 1 ≡ suc m = omega arith in
      let again = fault_kept (labels_around front (cut ∷ behind)) (shape_of sort) name more first.behind cut.end other.end before kind f piece piece_is
      (ap (λ (n : ℕ). take n first.behind) long ∙ first.same ∙ ap (λ (n : ℕ). take n more) (sym long)) in (
        before,
        kind,
        inr (record {
          no_label_fault = λ k g. label_as other k label no_label g;
          fault = inr (record {
            name = name;
            more = first.behind;
            first = statement;
            sort = sort;
            is = s;
            stands = stands;
            fault = subst (λ (ls : List (List ℕ)). FieldsFault ls (shape_of sort) name first.behind other.end before kind) (sym labels) again;
          });
        }),
      )
