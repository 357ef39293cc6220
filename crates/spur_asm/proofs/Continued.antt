-- A line with a fault can be gone on with up to the fault.
use Rattle.std.proofs.Common.{◌≡◌, inl, inr, refl, ℕ, zero, suc, ◌+◌, ◌<◌, Bool, true, false, not, ◌&&◌, ◌==◌, cond, List, [], ◌∷◌, ◌++◌, map, take, drop, length, Some, None, arith}
use Rattle.std.specs.Prelude.{codes, slice_get}
use Rattle.std.specs.List.{AllByRecursion}
use Rattle.std.specs.Str.{bytes_eq}
use Rattle.std.proofs.lemmas.Bool.{ne_eqb}
use Rattle.spur_asm.specs.Counts.{is_name_text, label_text}
use Rattle.spur_asm.specs.Faults.{FieldsFault, FitsAt, IsFaultOf}
use Rattle.spur_asm.specs.Pieces.{Piece, is_word_text, touches}
use Rattle.spur_asm.specs.Shapes.{Field}
use Rattle.spur_asm.specs.Token.{is_dotted}
use Rattle.spur_asm.specs.declared.fault.AsmKind.{AsmKind}
use Rattle.spur_asm.proofs.FieldTexts.{AllCan, text_fits, text_for, text_is_no_colon, text_is_whole}
use Rattle.spur_asm.proofs.Judging.{FitsFirst, fault_behind, first_below, first_fits, no_field_fits, none_fits}
use Rattle.spur_asm.proofs.LinesMade.{IsWhole, ends_of, pieces_at}

-- ---- pieces that all fit

-- the pieces fit the fields, one after the other, and none lacks its blank; the piece before is this one
abbrev pub AllFit : List (List ℕ) → List Field → Piece → List Piece → Type 0
AllFit labels [] last [] = Unit {0}
AllFit labels (field ∷ fields) last (piece ∷ pieces) = FitsFirst labels field last piece × AllFit labels fields piece pieces
AllFit labels fields last pieces = ⊥

both_not : (a b : Bool) → a ≡ true → b ≡ false → a ≡ b → ⊥
both_not a b e f same = cc

-- then they have no fault
pub fit_no_fault : (labels : List (List ℕ)) (fields : List Field) (last : Piece) (pieces : List Piece) (end before n : ℕ) (kind : AsmKind) → AllFit labels fields last pieces
    → ((k : ℕ) → k < n → FitsAt labels fields last pieces k) → IsFaultOf labels (slice_get fields n) (slice_get pieces n) (slice_get (last ∷ pieces) n) end before kind → ⊥
fit_no_fault labels [] last [] end before zero kind all so_far here = here
fit_no_fault labels [] last [] end before (suc n) kind all so_far here = no_field_fits labels last [] 0 (so_far 0 (first_below n))
fit_no_fault labels [] last (piece ∷ pieces) end before n kind all so_far here = all
fit_no_fault labels (field ∷ fields) last [] end before n kind all so_far here = all
fit_no_fault labels (field ∷ fields) last (piece ∷ pieces) end before zero kind all so_far here = elim here.1 [
  | inl d ↦ d.no_fit all.0.fits
  | inr l ↦ both_not (touches last piece) (touches last piece) l.touches_it all.0.apart refl
]
fit_no_fault labels (field ∷ fields) last (piece ∷ pieces) end before (suc n) kind all so_far here =
    let rest : FieldsFault labels fields piece pieces end before kind = fault_behind labels field fields last piece pieces end before n kind so_far here in
    fit_no_fault labels fields piece pieces end before rest.number kind all.1 rest.so_far rest.here

-- ---- pieces that are added

not_there : (at : ℕ) → (at == at + 1) ≡ false
not_there at = ne_eqb at (at + 1) (λ e. omega (arith, e))

and_false : (a : Bool) → (a && false) ≡ false
and_false true = refl
and_false false = refl

-- a piece behind a blank lacks none
parted : (last piece : Piece) (at : ℕ) → last.before + length last.text ≡ at → piece.before ≡ at + 1 → touches last piece ≡ false
parted last piece at ends stands = rw (ends, stands, not_there at) (and_false (is_word_text last.text && is_word_text piece.text))

added_fit : (labels : List (List ℕ)) (name : List ℕ) (fields : List Field) (last : Piece) (at : ℕ) → AllCan labels name fields → last.before + length last.text ≡ at → AllFit labels fields last (pieces_at at (map (text_for name) fields))
added_fit labels name [] last at can ends = tt
added_fit labels name (field ∷ fields) last at can ends =
    let piece : Piece = record { before = at + 1; text = text_for name field } in (
      record { fits = text_fits labels name field can.0; apart = parted last piece at ends refl },
      added_fit labels name fields piece (at + 1 + length (text_for name field)) can.1 refl,
    )

-- the pieces before a fault, and then others that fit the fields left
pub made_fit : (labels : List (List ℕ)) (name : List ℕ) (m : ℕ) (fields : List Field) (last : Piece) (pieces : List Piece) (at : ℕ) → AllCan labels name fields → last.before + length last.text ≡ at
    → ((k : ℕ) → k < m → FitsAt labels fields last pieces k) → AllFit labels fields last (take m pieces ++ pieces_at (ends_of m at pieces) (map (text_for name) (drop m fields)))
made_fit labels name zero fields last pieces at can ends so_far = added_fit labels name fields last at can ends
made_fit labels name (suc m) [] last pieces at can ends so_far = no_field_fits labels last pieces 0 (so_far 0 (first_below m))
made_fit labels name (suc m) (field ∷ fields) last [] at can ends so_far = none_fits labels (field ∷ fields) last 0 (so_far 0 (first_below m))
made_fit labels name (suc m) (field ∷ fields) last (piece ∷ pieces) at can ends so_far = (
  first_fits labels field fields last piece pieces (so_far 0 (first_below m)),
  made_fit labels name m fields piece pieces (piece.before + length piece.text) can.1 refl (λ k low. (
      let at = so_far (suc k) (omega (arith, low)) in
      record { field = at.field; field_is = at.field_is; piece = at.piece; piece_is = at.piece_is; behind = at.behind; behind_is = at.behind_is; fits = at.fits; apart = at.apart })),
)

pub all_whole : (labels : List (List ℕ)) (name : List ℕ) (fields : List Field) → AllCan labels name fields → AllByRecursion IsWhole (map (text_for name) fields)
all_whole labels name [] can = tt
all_whole labels name (field ∷ fields) can = (text_is_whole labels name field can.0, all_whole labels name fields can.1)

pub can_dropped : (labels : List (List ℕ)) (name : List ℕ) (m : ℕ) (fields : List Field) → AllCan labels name fields → AllCan labels name (drop m fields)
can_dropped labels name zero fields can = can
can_dropped labels name (suc m) [] can = tt
can_dropped labels name (suc m) (field ∷ fields) can = can_dropped labels name m fields can.1

-- ---- the label of a line that is gone on with

abbrev pub texts : List Piece → List (List ℕ)
texts pieces = map (λ piece. piece.text) pieces

no_label_by : (a d : Bool) (b : Bool) (name : List ℕ) → b ≡ false → cond (a && d && b) (Some name) None ≡ None
no_label_by true true b name e = rw e refl
no_label_by true false b name e = refl
no_label_by false d b name e = refl

-- a name with a text behind it that is no `:` is no label
pub no_label_added : (labels : List (List ℕ)) (name : List ℕ) (piece : Piece) (fields : List Field) (at : ℕ) → AllCan labels name fields → label_text (texts (piece ∷ pieces_at at (map (text_for name) fields))) ≡ None
no_label_added labels name piece [] at can = refl
no_label_added labels name piece (field ∷ fields) at can = no_label_by (is_name_text piece.text) (not (is_dotted piece.text)) (bytes_eq (text_for name field) (codes ":")) piece.text (text_is_no_colon labels name field can.0)
