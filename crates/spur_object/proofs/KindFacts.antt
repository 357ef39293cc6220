-- Which kind the field behind a front has: it is told by the numbers of boards and of instructions that stand before it.
use Rattle.std.specs.List.{All}
use Rattle.byteorder.specs.Endian.{big_number}
use Rattle.std.proofs.Common.{◌≡◌, ℕ, zero, suc, ◌^◌, ◌<◌, ◌≤◌, ◌⊎◌, Bool, true, false, nat_lt, if◌then◌else◌, List, [], ◌∷◌, ◌++◌, length, drop, map, refl, sym, ap, ◌∙◌, subst, inl, inr, arith, append_assoc, length-append}
use Rattle.std.proofs.lemmas.Bool.Decides.{nat_tests}
use Rattle.std.proofs.lemmas.List.{append-nil, length-map, map-append, drop_at}
use Rattle.std.proofs.lemmas.List.Elements.{All-head, All-tail}
use Rattle.spur_isa.specs.declared.instr.Instr.{Instr}
use Rattle.spur_object.specs.declared.fault.ObjKind.{ObjKind}
use Rattle.spur_object.specs.declared.fault.ObjKind.TheVariants.{Magic, Version, BadWord, Field}
use Rattle.spur_object.specs.declared.unit.BoardText.{BoardText}
use Rattle.spur_object.specs.declared.unit.PageText.{PageText}
use Rattle.spur_object.specs.declared.unit.WordText.{WordText}
use Rattle.spur_object.specs.declared.unit.Unit as units
use Rattle.spur_object.specs.Fields.{ObjField, board_fields, bytes_of, instr_fields, magic, number_bytes, number_field, page_fields, unit_fields, version, word_fields}
use Rattle.spur_object.specs.Limits.{IsBoard, IsUnit}
use Rattle.spur_object.specs.Reading.{list_fields}
use Rattle.spur_object.proofs.ByteFacts.{number_reads, same_fronts}
use Rattle.spur_object.proofs.ShapeFacts.{Fours}

-- ---- a list that is cut in two ways

-- a place in two lists, one behind the other, is in the first or in the second
pub data Place (xs ys before : List ObjField) (next : ObjField) (after : List ObjField) : Type 0 where
  inside : (mid : List ObjField) → xs ≡ before ++ next ∷ mid → Place xs ys before next after
  behind : (mid : List ObjField) → before ≡ xs ++ mid → ys ≡ mid ++ next ∷ after → Place xs ys before next after

more_before : (x : ObjField) (xs ys before : List ObjField) (next : ObjField) (after : List ObjField)
    → Place xs ys before next after → Place (x ∷ xs) ys (x ∷ before) next after
more_before x xs ys before next after (inside mid e) = inside mid (ap (λ l. x ∷ l) e)
more_before x xs ys before next after (behind mid e f) = behind mid (ap (λ l. x ∷ l) e) f

cons_is : (x y : ObjField) (xs ys : List ObjField) → x ∷ xs ≡ y ∷ ys → (x ≡ y) × (xs ≡ ys)
cons_is x y xs ys e = (cc, cc)

place : (xs ys before : List ObjField) (next : ObjField) (after : List ObjField) → xs ++ ys ≡ before ++ next ∷ after → Place xs ys before next after
place [] ys before next after e = behind before refl e
place (x ∷ xs) ys [] next after e =
    let same = cons_is x next (xs ++ ys) after e in
    inside xs (ap (λ f. f ∷ xs) same.0)
place (x ∷ xs) ys (b ∷ before) next after e =
    let same = cons_is x b (xs ++ ys) (before ++ next ∷ after) e in
    subst (λ f. Place (x ∷ xs) ys (f ∷ before) next after) same.0 (more_before x xs ys before next after (place xs ys before next after same.1))

-- ---- fields of one kind

abbrev pub OfKind : ObjKind → List ObjField → Type 0
OfKind kind [] = Unit {0}
OfKind kind (f ∷ fs) = (f.kind ≡ kind) × OfKind kind fs

kind_there : (kind : ObjKind) (before : List ObjField) (next : ObjField) (after : List ObjField) → OfKind kind (before ++ next ∷ after) → next.kind ≡ kind
kind_there kind [] next after all = all.0
kind_there kind (f ∷ before) next after all = kind_there kind before next after all.1

kinds_append : (kind : ObjKind) (fs gs : List ObjField) → OfKind kind fs → OfKind kind gs → OfKind kind (fs ++ gs)
kinds_append kind [] gs fs_are gs_are = gs_are
kinds_append kind (f ∷ fs) gs fs_are gs_are = (fs_are.0, kinds_append kind fs gs fs_are.1 gs_are)

code_kinds : (code : List Instr) → OfKind BadWord (list_fields instr_fields code)
code_kinds [] = tt
code_kinds (instr ∷ code) = (refl, code_kinds code)

page_kinds : (pages : List PageText) → OfKind Field (list_fields page_fields pages)
page_kinds [] = tt
page_kinds (page ∷ pages) = (refl, (refl, page_kinds pages))

word_kinds : (words : List WordText) → OfKind Field (list_fields word_fields words)
word_kinds [] = tt
word_kinds (word ∷ words) = (refl, (refl, (refl, word_kinds words)))

-- ---- the kind behind a front, of the four bytes of each field before it

abbrev fours_of : List ObjField → List (List ℕ)
fours_of fields = map (λ field. field.bytes) fields

-- behind the head, where so many boards begin
kind_behind : ℕ → List (List ℕ) → ObjKind
kind_behind zero before = Field
kind_behind (suc boards) [] = Field
kind_behind (suc boards) (segs ∷ []) = Field
kind_behind (suc boards) (segs ∷ count ∷ before) =
    if nat_lt (length before) (big_number 4 count) then BadWord else kind_behind boards (drop (big_number 4 count) before)

kind_at : List (List ℕ) → ObjKind
kind_at [] = Magic
kind_at (a ∷ []) = Version
kind_at (a ∷ b ∷ []) = Field
kind_at (a ∷ b ∷ c ∷ []) = Field
kind_at (a ∷ b ∷ c ∷ d ∷ []) = Field
kind_at (a ∷ b ∷ c ∷ d ∷ e ∷ before) = kind_behind (big_number 4 c) before

if_true : (b : Bool) (x y : ObjKind) → b ≡ true → (if b then x else y) ≡ x
if_true true x y e = refl
if_true false x y e = absurd cc

if_false : (b : Bool) (x y : ObjKind) → b ≡ false → (if b then x else y) ≡ y
if_false true x y e = absurd cc
if_false false x y e = refl

pub length_code : (code : List Instr) → length (list_fields instr_fields code) ≡ length code
length_code [] = refl
length_code (instr ∷ code) = let rest = length_code code in omega arith

reads_number : (n : ℕ) → n < 2 ^ 32 → big_number 4 (number_bytes n) ≡ n
reads_number n below = ap (λ l. big_number 4 l) (sym (append-nil (number_bytes n))) ∙ number_reads n [] below

code_kind : (boards count : ℕ) (segs : List ℕ) (before : List (List ℕ)) → count < 2 ^ 32 → length before < count
    → kind_behind (suc boards) (segs ∷ number_bytes count ∷ before) ≡ BadWord
unfolding kind_behind
code_kind boards count segs before below few =
    let read = reads_number count below in
    let test : nat_lt (length before) (big_number 4 (number_bytes count)) ≡ true = rw read (grind (arith, nat_tests)) in
    if_true (nat_lt (length before) (big_number 4 (number_bytes count))) BadWord (kind_behind boards (drop (big_number 4 (number_bytes count)) before)) test

board_passed : (boards count : ℕ) (segs : List ℕ) (code before : List (List ℕ)) → count < 2 ^ 32 → length code ≡ count
    → kind_behind (suc boards) (segs ∷ number_bytes count ∷ (code ++ before)) ≡ kind_behind boards before
unfolding kind_behind
board_passed boards count segs code before below long =
    let read = reads_number count below in
    let sum = length-append code before in
    let test : nat_lt (length (code ++ before)) (big_number 4 (number_bytes count)) ≡ false = rw read (grind (arith, nat_tests)) in
    if_false (nat_lt (length (code ++ before)) (big_number 4 (number_bytes count))) BadWord (kind_behind boards (drop (big_number 4 (number_bytes count)) (code ++ before))) test
    ∙ ap (λ (n : ℕ). kind_behind boards (drop n (code ++ before))) read
    ∙ ap (kind_behind boards) (drop_at code before count long)

-- a field after the head has the kind that the boards tell

in_code : (boards : ℕ) (segs : List ℕ) (code : List Instr) (before : List ObjField) (next : ObjField) (mid : List ObjField) → length code ≤ 4096
    → list_fields instr_fields code ≡ before ++ next ∷ mid
    → next.kind ≡ kind_behind (suc boards) (segs ∷ number_bytes (length code) ∷ fours_of before)
in_code boards segs code before next mid few e =
    let fields = length_code code in
    let all = ap (λ (l : List ObjField). length l) e ∙ length-append before (next ∷ mid) in
    let fours = length-map before (λ (field : ObjField). field.bytes) in
    kind_there BadWord before next mid (subst (OfKind BadWord) e (code_kinds code))
    ∙ sym (code_kind boards (length code) segs (fours_of before) (omega arith) (omega arith))

behind_code : (boards : ℕ) (segs : List ℕ) (code : List Instr) (before mid : List ObjField) → length code ≤ 4096
    → before ≡ list_fields instr_fields code ++ mid
    → kind_behind boards (fours_of mid) ≡ kind_behind (suc boards) (segs ∷ number_bytes (length code) ∷ fours_of before)
behind_code boards segs code before mid few e =
    let fours = length-map (list_fields instr_fields code) (λ (field : ObjField). field.bytes) in
    let both : fours_of before ≡ fours_of (list_fields instr_fields code) ++ fours_of mid =
    ap fours_of e ∙ map-append (λ (field : ObjField). field.bytes) (list_fields instr_fields code) mid in
    sym (ap (λ (l : List (List ℕ)). kind_behind (suc boards) (segs ∷ number_bytes (length code) ∷ l)) both
    ∙ board_passed boards (length code) segs (fours_of (list_fields instr_fields code)) (fours_of mid) (omega arith) (fours ∙ length_code code))

after_board : (boards : ℕ) (board : BoardText) (rest before : List ObjField) (next : ObjField) (after : List ObjField) → length board.code ≤ 4096
    → ((mid : List ObjField) → rest ≡ mid ++ next ∷ after → next.kind ≡ kind_behind boards (fours_of mid))
    → Place (list_fields instr_fields board.code) rest before next after
    → next.kind ≡ kind_behind (suc boards) (board.segs ∷ number_bytes (length board.code) ∷ fours_of before)
after_board boards board rest before next after few others (inside mid e) = in_code boards board.segs board.code before next mid few e
after_board boards board rest before next after few others (behind mid e f) = others mid f ∙ behind_code boards board.segs board.code before mid few e

same_fields : (boards : ℕ) (f g x y : ObjField) (before : List (List ℕ)) → x ≡ f → y ≡ g
    → kind_behind (suc boards) (x.bytes ∷ y.bytes ∷ before) ≡ kind_behind (suc boards) (f.bytes ∷ g.bytes ∷ before)
same_fields boards f g x y before e h =
    ap (λ (z : ObjField). kind_behind (suc boards) (z.bytes ∷ y.bytes ∷ before)) e
    ∙ ap (λ (z : ObjField). kind_behind (suc boards) (f.bytes ∷ z.bytes ∷ before)) h

boards_next : (boards : List BoardText) (tail before : List ObjField) (next : ObjField) (after : List ObjField) → All IsBoard boards → OfKind Field tail
    → list_fields board_fields boards ++ tail ≡ before ++ next ∷ after → next.kind ≡ kind_behind (length boards) (fours_of before)
unfolding kind_behind
boards_next [] tail before next after each tail_is e = kind_there Field before next after (subst (OfKind Field) e tail_is)
boards_next (board ∷ boards) tail [] next after each tail_is e =
    let code = list_fields instr_fields board.code in
    let first = cons_is (record { kind = Field; bytes = board.segs }) next (number_field Field (length board.code) ∷ ((code ++ list_fields board_fields boards) ++ tail)) after e in
    ap (λ (f : ObjField). f.kind) (sym first.0)
boards_next (board ∷ boards) tail (f ∷ []) next after each tail_is e =
    let code = list_fields instr_fields board.code in
    let first = cons_is (record { kind = Field; bytes = board.segs }) f (number_field Field (length board.code) ∷ ((code ++ list_fields board_fields boards) ++ tail)) (next ∷ after) e in
    let second = cons_is (number_field Field (length board.code)) next ((code ++ list_fields board_fields boards) ++ tail) after first.1 in
    ap (λ (f : ObjField). f.kind) (sym second.0)
boards_next (board ∷ boards) tail (f ∷ g ∷ before) next after each tail_is e =
    let code = list_fields instr_fields board.code in
    let rest = list_fields board_fields boards ++ tail in
    let is = All-head IsBoard board boards each in
    let first = cons_is (record { kind = Field; bytes = board.segs }) f (number_field Field (length board.code) ∷ ((code ++ list_fields board_fields boards) ++ tail)) (g ∷ (before ++ next ∷ after)) e in
    let second = cons_is (number_field Field (length board.code)) g ((code ++ list_fields board_fields boards) ++ tail) (before ++ next ∷ after) first.1 in
    let where_next = place code rest before next after (sym (append_assoc code (list_fields board_fields boards) tail) ∙ second.1) in
    let others : (mid : List ObjField) → rest ≡ mid ++ next ∷ after → next.kind ≡ kind_behind (length boards) (fours_of mid) =
    λ mid h. boards_next boards tail mid next after (All-tail IsBoard board boards each) tail_is h in
    after_board (length boards) board rest before next after is.few others where_next
    ∙ same_fields (length boards) f g (record { kind = Field; bytes = board.segs }) (number_field Field (length board.code)) (fours_of before) first.0 second.0

-- ---- units

-- what stands behind the head
abbrev body : units.Unit → List ObjField
body unit = list_fields board_fields unit.boards ++ (list_fields page_fields unit.pages ++ list_fields word_fields unit.words)

abbrev fifth : units.Unit → List ObjField
fifth unit = number_field Field (length unit.words) ∷ body unit

abbrev fourth : units.Unit → List ObjField
fourth unit = number_field Field (length unit.pages) ∷ fifth unit

abbrev third : units.Unit → List ObjField
third unit = number_field Field (length unit.boards) ∷ fourth unit

abbrev second : units.Unit → List ObjField
second unit = number_field Version version ∷ third unit

kind_of : (x y : ObjField) → x ≡ y → y.kind ≡ x.kind
kind_of x y e = ap (λ (f : ObjField). f.kind) (sym e)

unit_next : (unit : units.Unit) (before : List ObjField) (next : ObjField) (after : List ObjField) → IsUnit unit
    → unit_fields unit ≡ before ++ next ∷ after → next.kind ≡ kind_at (fours_of before)
unfolding kind_at
unit_next unit [] next after is e = kind_of (number_field Magic magic) next (cons_is (number_field Magic magic) next (second unit) after e).0
unit_next unit (a ∷ []) next after is e =
    let one = cons_is (number_field Magic magic) a (second unit) (next ∷ after) e in
    kind_of (number_field Version version) next (cons_is (number_field Version version) next (third unit) after one.1).0
unit_next unit (a ∷ b ∷ []) next after is e =
    let one = cons_is (number_field Magic magic) a (second unit) (b ∷ next ∷ after) e in
    let two = cons_is (number_field Version version) b (third unit) (next ∷ after) one.1 in
    kind_of (number_field Field (length unit.boards)) next (cons_is (number_field Field (length unit.boards)) next (fourth unit) after two.1).0
unit_next unit (a ∷ b ∷ c ∷ []) next after is e =
    let one = cons_is (number_field Magic magic) a (second unit) (b ∷ c ∷ next ∷ after) e in
    let two = cons_is (number_field Version version) b (third unit) (c ∷ next ∷ after) one.1 in
    let three = cons_is (number_field Field (length unit.boards)) c (fourth unit) (next ∷ after) two.1 in
    kind_of (number_field Field (length unit.pages)) next (cons_is (number_field Field (length unit.pages)) next (fifth unit) after three.1).0
unit_next unit (a ∷ b ∷ c ∷ d ∷ []) next after is e =
    let one = cons_is (number_field Magic magic) a (second unit) (b ∷ c ∷ d ∷ next ∷ after) e in
    let two = cons_is (number_field Version version) b (third unit) (c ∷ d ∷ next ∷ after) one.1 in
    let three = cons_is (number_field Field (length unit.boards)) c (fourth unit) (d ∷ next ∷ after) two.1 in
    let four = cons_is (number_field Field (length unit.pages)) d (fifth unit) (next ∷ after) three.1 in
    kind_of (number_field Field (length unit.words)) next (cons_is (number_field Field (length unit.words)) next (body unit) after four.1).0
unit_next unit (a ∷ b ∷ c ∷ d ∷ f ∷ before) next after is e =
    let one = cons_is (number_field Magic magic) a (second unit) (b ∷ c ∷ d ∷ f ∷ (before ++ next ∷ after)) e in
    let two = cons_is (number_field Version version) b (third unit) (c ∷ d ∷ f ∷ (before ++ next ∷ after)) one.1 in
    let three = cons_is (number_field Field (length unit.boards)) c (fourth unit) (d ∷ f ∷ (before ++ next ∷ after)) two.1 in
    let four = cons_is (number_field Field (length unit.pages)) d (fifth unit) (f ∷ (before ++ next ∷ after)) three.1 in
    let five = cons_is (number_field Field (length unit.words)) f (body unit) (before ++ next ∷ after) four.1 in
    let few = is.few_boards in
    let read : big_number 4 c.bytes ≡ length unit.boards =
    ap (λ (x : ObjField). big_number 4 x.bytes) (sym three.0) ∙ reads_number (length unit.boards) (omega arith) in
    let kinds = kinds_append Field (list_fields page_fields unit.pages) (list_fields word_fields unit.words) (page_kinds unit.pages) (word_kinds unit.words) in
    boards_next unit.boards (list_fields page_fields unit.pages ++ list_fields word_fields unit.words) before next after is.boards kinds five.1
    ∙ ap (λ (n : ℕ). kind_behind n (fours_of before)) (sym read)

-- ---- the bytes tell the fields

fours_same : (xs ys : List ObjField) → Fours xs → Fours ys → bytes_of xs ≡ bytes_of ys → fours_of xs ≡ fours_of ys
fours_same [] [] xs_are ys_are e = refl
fours_same [] (y ∷ ys) xs_are ys_are e =
    let none = ap (λ (l : List ℕ). length l) e in
    let sum = length-append y.bytes (bytes_of ys) in
    let four = ys_are.0 in
    absurd (omega arith)
fours_same (x ∷ xs) [] xs_are ys_are e =
    let none = ap (λ (l : List ℕ). length l) e in
    let sum = length-append x.bytes (bytes_of xs) in
    let four = xs_are.0 in
    absurd (omega arith)
fours_same (x ∷ xs) (y ∷ ys) xs_are ys_are e =
    let both = same_fronts x.bytes y.bytes (bytes_of xs) (bytes_of ys) (xs_are.0 ∙ sym ys_are.0) e in
    let first = both.fronts in
    let rest = fours_same xs ys xs_are.1 ys_are.1 both.rests in
    λ i. first i ∷ rest i

-- behind the same bytes a field of the same kind comes next, in whichever units
pub next_is : (u v : units.Unit) (before : List ObjField) (next : ObjField) (after before2 : List ObjField) (next2 : ObjField) (after2 : List ObjField)
    → IsUnit u → IsUnit v → Fours before → Fours before2
    → unit_fields u ≡ before ++ next ∷ after → unit_fields v ≡ before2 ++ next2 ∷ after2 → bytes_of before ≡ bytes_of before2 → next.kind ≡ next2.kind
next_is u v before next after before2 next2 after2 u_is v_is fours fours2 e h same =
    unit_next u before next after u_is e ∙ ap kind_at (fours_same before before2 fours fours2 same) ∙ sym (unit_next v before2 next2 after2 v_is h)

-- `Magic` is the kind of the first field alone, and `Version` that of the second

either_kind : (b : Bool) (k : ObjKind) → (k ≡ BadWord) ⊎ (k ≡ Field) → ((if b then BadWord else k) ≡ BadWord) ⊎ ((if b then BadWord else k) ≡ Field)
either_kind true k e = inl refl
either_kind false k e = e

kind_behind_is : (boards : ℕ) (before : List (List ℕ)) → (kind_behind boards before ≡ BadWord) ⊎ (kind_behind boards before ≡ Field)
unfolding kind_behind
kind_behind_is zero before = inr refl
kind_behind_is (suc boards) [] = inr refl
kind_behind_is (suc boards) (segs ∷ []) = inr refl
kind_behind_is (suc boards) (segs ∷ count ∷ before) =
    either_kind (nat_lt (length before) (big_number 4 count)) (kind_behind boards (drop (big_number 4 count) before)) (kind_behind_is boards (drop (big_number 4 count) before))

not_magic : (k : ObjKind) → (k ≡ BadWord) ⊎ (k ≡ Field) → k ≡ Magic → ⊥
not_magic k (inl x) e = absurd cc
not_magic k (inr x) e = absurd cc

not_version : (k : ObjKind) → (k ≡ BadWord) ⊎ (k ≡ Field) → k ≡ Version → ⊥
not_version k (inl x) e = absurd cc
not_version k (inr x) e = absurd cc

only_magic : (before : List (List ℕ)) → kind_at before ≡ Magic → length before ≡ 0
unfolding kind_at
only_magic [] e = refl
only_magic (a ∷ []) e = absurd cc
only_magic (a ∷ b ∷ []) e = absurd cc
only_magic (a ∷ b ∷ c ∷ []) e = absurd cc
only_magic (a ∷ b ∷ c ∷ d ∷ []) e = absurd cc
only_magic (a ∷ b ∷ c ∷ d ∷ f ∷ before) e = absurd (not_magic (kind_behind (big_number 4 c) before) (kind_behind_is (big_number 4 c) before) e)

only_version : (before : List (List ℕ)) → kind_at before ≡ Version → length before ≡ 1
unfolding kind_at
only_version [] e = absurd cc
only_version (a ∷ []) e = refl
only_version (a ∷ b ∷ []) e = absurd cc
only_version (a ∷ b ∷ c ∷ []) e = absurd cc
only_version (a ∷ b ∷ c ∷ d ∷ []) e = absurd cc
only_version (a ∷ b ∷ c ∷ d ∷ f ∷ before) e = absurd (not_version (kind_behind (big_number 4 c) before) (kind_behind_is (big_number 4 c) before) e)

pub magic_first : (unit : units.Unit) (before : List ObjField) (next : ObjField) (after : List ObjField) → IsUnit unit
    → unit_fields unit ≡ before ++ next ∷ after → next.kind ≡ Magic → length before ≡ 0
magic_first unit before next after is e kind =
    sym (length-map before (λ (field : ObjField). field.bytes)) ∙ only_magic (fours_of before) (sym (unit_next unit before next after is e) ∙ kind)

pub version_second : (unit : units.Unit) (before : List ObjField) (next : ObjField) (after : List ObjField) → IsUnit unit
    → unit_fields unit ≡ before ++ next ∷ after → next.kind ≡ Version → length before ≡ 1
version_second unit before next after is e kind =
    sym (length-map before (λ (field : ObjField). field.bytes)) ∙ only_version (fours_of before) (sym (unit_next unit before next after is e) ∙ kind)
