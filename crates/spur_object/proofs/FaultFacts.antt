-- Fronts of objects: which field comes next, and that no bytes have two faults.
use Rattle.std.specs.List.{All}
use Rattle.std.proofs.Common.{◌≡◌, ℕ, ◌+◌, ◌-◌, ◌*◌, ◌<◌, ◌≤◌, ◌↔◌, List, [], ◌∷◌, ◌++◌, length, take, drop, refl, sym, ap, ◌∙◌, subst, arith, append_assoc, length-append, Result, Err, IfErr}
use Rattle.std.proofs.lemmas.List.{append-nil, append_cancel_left, length-drop, nil_from_length, take-append-drop, take-append-le, take_at}
use Rattle.std.proofs.Math.Seq.{take-append-add}
use Rattle.std.proofs.lemmas.List.Elements.{All-head, All-tail}
use Rattle.spur_object.specs.declared.fault.ObjKind.{ObjKind}
use Rattle.spur_object.specs.declared.fault.ObjKind.TheVariants.{Magic, Version, Short, Trailing, BadWord, Field}
use Rattle.spur_object.specs.declared.unit.BoardText.{BoardText}
use Rattle.spur_object.specs.declared.unit.PageText.{PageText}
use Rattle.spur_object.specs.declared.unit.WordText.{WordText}
use Rattle.spur_object.specs.declared.unit.Unit as units
use Rattle.spur_object.specs.declared.stop.Stop.{Stop}
use Rattle.spur_object.specs.declared.stop.Stop.TheVariants.{Fault, NoMemory}
use Rattle.spur_object.specs.Faults.{HasFault, HasNext, IsFaulty, IsFront, IsObject, IsShort, IsWrong}
use Rattle.spur_object.specs.Fields.{ObjField, board_fields, bytes_of, magic, object_bytes, page_fields, unit_fields, version, word_fields}
use Rattle.spur_object.specs.Limits.{IsBoard, IsUnit}
use Rattle.spur_object.specs.Reading.{Begins, IsAtFault, IsEnd, IsStop, NoneGoesOn, Stops, list_fields}
use Rattle.spur_object.specs.Laws.{IsPlace}
use Rattle.spur_object.proofs.ByteFacts.{bytes_append, length_number, same_fronts}
use Rattle.spur_object.proofs.KindFacts.{length_code, magic_first, next_is, version_second}
use Rattle.spur_object.proofs.ListFacts.{board_fours, fours_append, page_fours, word_fours}
use Rattle.spur_object.proofs.ShapeFacts.{Fours, length_fours}
use Rattle.spur_object.proofs.UnitFacts.{unit_once}

-- ---- four bytes a field

pub boards_fours : (boards : List BoardText) → All IsBoard boards → Fours (list_fields board_fields boards)
boards_fours [] each = tt
boards_fours (board ∷ boards) each =
    fours_append (board_fields board) (list_fields board_fields boards) (board_fours board (All-head IsBoard board boards each)) (boards_fours boards (All-tail IsBoard board boards each))

pub pages_fours : (pages : List PageText) → Fours (list_fields page_fields pages)
pages_fours [] = tt
pages_fours (page ∷ pages) = fours_append (page_fields page) (list_fields page_fields pages) (page_fours page) (pages_fours pages)

pub words_fours : (words : List WordText) → Fours (list_fields word_fields words)
words_fours [] = tt
words_fours (word ∷ words) = fours_append (word_fields word) (list_fields word_fields words) (word_fours word) (words_fours words)

pub unit_fours : (unit : units.Unit) → IsUnit unit → Fours (unit_fields unit)
unit_fours unit is =
    let boards = list_fields board_fields unit.boards in
    let pages = list_fields page_fields unit.pages in
    let words = list_fields word_fields unit.words in
    let behind = fours_append boards (pages ++ words) (boards_fours unit.boards is.boards) (fours_append pages words (pages_fours unit.pages) (words_fours unit.words)) in
    (length_number magic, (length_number version, (length_number (length unit.boards), (length_number (length unit.pages), (length_number (length unit.words), behind)))))

fours_front : (fs gs : List ObjField) → Fours (fs ++ gs) → Fours fs
fours_front [] gs fours = tt
fours_front (f ∷ fs) gs fours = (fours.0, fours_front fs gs fours.1)

fours_rest : (fs gs : List ObjField) → Fours (fs ++ gs) → Fours gs
fours_rest [] gs fours = fours
fours_rest (f ∷ fs) gs fours = fours_rest fs gs fours.1

-- ---- fronts

-- what is known of a front, whether a field comes next or it is whole
pub record Aligned (front : List ℕ) : Type 0 where
  pub is_front : IsFront front
  pub fields : ℕ
  pub aligned : length front ≡ 4 * fields

object_aligned : (unit : units.Unit) → IsUnit unit → length (object_bytes unit) ≡ 4 * length (unit_fields unit)
object_aligned unit is = length_fours (unit_fields unit) (unit_fours unit is)

pub whole_aligned : (front : List ℕ) → IsObject front → Aligned front
whole_aligned front is = record {
  is_front = record { unit = is.unit; is_unit = is.is_unit; rest = []; begins = sym is.bytes_are ∙ sym (append-nil front) };
  fields = length (unit_fields is.unit);
  aligned = ap (λ (l : List ℕ). length l) is.bytes_are ∙ object_aligned is.unit is.is_unit;
}

-- the front, the field that comes next, and what follows it
pub next_behind : (front : List ℕ) (kind : ObjKind) (is : HasNext front kind) → object_bytes is.unit ≡ front ++ (is.next.bytes ++ bytes_of is.after)
next_behind front kind is =
    ap bytes_of is.fields_are ∙ bytes_append is.before (is.next ∷ is.after) ∙ ap (λ l. l ++ (is.next.bytes ++ bytes_of is.after)) (sym is.front_is)

next_fours : (front : List ℕ) (kind : ObjKind) (is : HasNext front kind) → Fours (is.before ++ is.next ∷ is.after)
next_fours front kind is = subst Fours is.fields_are (unit_fours is.unit is.is_unit)

next_four : (front : List ℕ) (kind : ObjKind) (is : HasNext front kind) → length is.next.bytes ≡ 4
next_four front kind is = (fours_rest is.before (is.next ∷ is.after) (next_fours front kind is)).0

pub next_aligned : (front : List ℕ) (kind : ObjKind) → HasNext front kind → Aligned front
next_aligned front kind is = record {
  is_front = record { unit = is.unit; is_unit = is.is_unit; rest = is.next.bytes ++ bytes_of is.after; begins = next_behind front kind is };
  fields = length is.before;
  aligned = ap (λ (l : List ℕ). length l) is.front_is ∙ length_fours is.before (fours_front is.before (is.next ∷ is.after) (next_fours front kind is));
}

-- behind a whole object no field comes
pub whole_has_no_next : (front : List ℕ) (kind : ObjKind) → IsObject front → HasNext front kind → ⊥
whole_has_no_next front kind whole is =
    let four = next_four front kind is in
    let more = length-append is.next.bytes (bytes_of is.after) in
    let same : object_bytes whole.unit ++ (is.next.bytes ++ bytes_of is.after) ≡ object_bytes is.unit ++ [] =
    ap (λ l. l ++ (is.next.bytes ++ bytes_of is.after)) (sym whole.bytes_are) ∙ sym (next_behind front kind is) ∙ sym (append-nil (object_bytes is.unit)) in
    let once = unit_once whole.unit is.unit (is.next.bytes ++ bytes_of is.after) [] whole.is_unit is.is_unit same in
    let none = ap (λ (l : List ℕ). length l) once.1 in
    absurd (omega arith)

-- and no object begins with it but itself
whole_is_all : (front more : List ℕ) → IsObject front → IsFront (front ++ more) → length more ≡ 0
whole_is_all front more whole longer =
    let same : object_bytes whole.unit ++ (more ++ longer.rest) ≡ object_bytes longer.unit ++ [] =
    ap (λ l. l ++ (more ++ longer.rest)) (sym whole.bytes_are) ∙ sym (append_assoc front more longer.rest) ∙ sym longer.begins ∙ sym (append-nil (object_bytes longer.unit)) in
    let once = unit_once whole.unit longer.unit (more ++ longer.rest) [] whole.is_unit longer.is_unit same in
    let none = ap (λ (l : List ℕ). length l) once.1 in
    let sum = length-append more longer.rest in
    omega arith

front_of_front : (front more : List ℕ) → IsFront (front ++ more) → IsFront front
front_of_front front more is = record {
  unit = is.unit;
  is_unit = is.is_unit;
  rest = more ++ is.rest;
  begins = is.begins ∙ append_assoc front more is.rest;
}

-- ---- faults

-- the front before a fault is one of some object, as long as so many fields
pub faulty_aligned : (kind : ObjKind) (front left : List ℕ) → IsFaulty kind front left → Aligned front
faulty_aligned Magic front left is = next_aligned front Magic is.next
faulty_aligned Version front left is = next_aligned front Version is.next
faulty_aligned Short front left is = next_aligned front is.kind is.next
faulty_aligned Trailing front left is = whole_aligned front is.0
faulty_aligned BadWord front left is = next_aligned front BadWord is.next
faulty_aligned Field front left is = next_aligned front Field is.next

-- no object begins with the front of a fault and four bytes or more of what is left
wrong_ends : (kind : ObjKind) (front left more rest : List ℕ) → IsWrong kind front left → left ≡ more ++ rest → 4 ≤ length more → IsFront (front ++ more) → ⊥
wrong_ends kind front left more rest is left_is long longer =
    let four : take 4 left ≡ take 4 more = ap (λ (l : List ℕ). take 4 l) left_is ∙ take-append-le 4 more rest long in
    let split : front ++ more ≡ (front ++ take 4 left) ++ drop 4 more =
    ap (λ l. front ++ l) (sym (take-append-drop 4 more)) ∙ sym (append_assoc front (take 4 more) (drop 4 more)) ∙ ap (λ l. (front ++ l) ++ drop 4 more) (sym four) in
    is.wrong (front_of_front (front ++ take 4 left) (drop 4 more) (subst IsFront split longer))

-- no front of an object goes on behind a fault
pub faulty_ends : (kind : ObjKind) (front left more rest : List ℕ) → IsFaulty kind front left → left ≡ more ++ rest → 4 ≤ length more → IsFront (front ++ more) → ⊥
faulty_ends Magic front left more rest is left_is long longer = wrong_ends Magic front left more rest is left_is long longer
faulty_ends Version front left more rest is left_is long longer = wrong_ends Version front left more rest is left_is long longer
faulty_ends Short front left more rest is left_is long longer =
    let sum = ap (λ (l : List ℕ). length l) left_is ∙ length-append more rest in
    let short = is.short in
    absurd (omega arith)
faulty_ends Trailing front left more rest is left_is long longer = let none = whole_is_all front more is.0 longer in absurd (omega arith)
faulty_ends BadWord front left more rest is left_is long longer = wrong_ends BadWord front left more rest is left_is long longer
faulty_ends Field front left more rest is left_is long longer = wrong_ends Field front left more rest is left_is long longer

-- an object has no fault
object_short : (bytes front left : List ℕ) → IsObject bytes → bytes ≡ front ++ left → IsShort front left → ⊥
object_short bytes front left whole bytes_are is =
    let all = (whole_aligned bytes whole).aligned in
    let fields = (whole_aligned bytes whole).fields in
    let own = (next_aligned front is.kind is.next).aligned in
    let own_fields = (next_aligned front is.kind is.next).fields in
    let sum = ap (λ (l : List ℕ). length l) bytes_are ∙ length-append front left in
    let short = is.short in
    let none : length left ≡ 0 = omega arith in
    let same : bytes ≡ front = bytes_are ∙ ap (λ l. front ++ l) (nil_from_length left none) ∙ append-nil front in
    whole_has_no_next front is.kind (subst IsObject same whole) is.next

object_wrong : (kind : ObjKind) (bytes front left : List ℕ) → IsObject bytes → bytes ≡ front ++ left → IsWrong kind front left → ⊥
object_wrong kind bytes front left whole bytes_are is =
    wrong_ends kind front left left [] is (sym (append-nil left)) is.whole (subst IsFront bytes_are (whole_aligned bytes whole).is_front)

object_not_faulty : (kind : ObjKind) (bytes front left : List ℕ) → IsObject bytes → bytes ≡ front ++ left → IsFaulty kind front left → ⊥
object_not_faulty Magic bytes front left whole bytes_are is = object_wrong Magic bytes front left whole bytes_are is
object_not_faulty Version bytes front left whole bytes_are is = object_wrong Version bytes front left whole bytes_are is
object_not_faulty Short bytes front left whole bytes_are is = object_short bytes front left whole bytes_are is
object_not_faulty Trailing bytes front left whole bytes_are is =
    let none = whole_is_all front left is.0 (subst IsFront bytes_are (whole_aligned bytes whole).is_front) in
    let some = is.1 in
    absurd (omega arith)
object_not_faulty BadWord bytes front left whole bytes_are is = object_wrong BadWord bytes front left whole bytes_are is
object_not_faulty Field bytes front left whole bytes_are is = object_wrong Field bytes front left whole bytes_are is

pub object_has_no_fault : (bytes : List ℕ) (kind : ObjKind) (byte : ℕ) → IsObject bytes → HasFault bytes kind byte → ⊥
object_has_no_fault bytes kind byte whole fault = object_not_faulty kind bytes fault.front fault.left whole fault.bytes_are fault.faulty

-- ---- one fault

-- the field that comes next has one kind
pub next_once : (front : List ℕ) (j k : ObjKind) → HasNext front j → HasNext front k → j ≡ k
next_once front j k x y =
    let same : bytes_of x.before ≡ bytes_of y.before = sym x.front_is ∙ y.front_is in
    sym x.kind_is
    ∙ next_is x.unit y.unit x.before x.next x.after y.before y.next y.after x.is_unit y.is_unit
    (fours_front x.before (x.next ∷ x.after) (next_fours front j x)) (fours_front y.before (y.next ∷ y.after) (next_fours front k y))
    x.fields_are y.fields_are same
    ∙ y.kind_is

-- the three ways in which a front may be at fault
data Way (kind : ObjKind) (front left : List ℕ) : Type 0 where
  wrong : (kind ≡ Short → ⊥) → (kind ≡ Trailing → ⊥) → IsWrong kind front left → Way kind front left
  short : kind ≡ Short → IsShort front left → Way kind front left
  trailing : kind ≡ Trailing → IsObject front → 0 < length left → Way kind front left

way : (kind : ObjKind) (front left : List ℕ) → IsFaulty kind front left → Way kind front left
way Magic front left is = wrong (λ e. cc) (λ e. cc) is
way Version front left is = wrong (λ e. cc) (λ e. cc) is
way Short front left is = short refl is
way Trailing front left is = trailing refl is.0 is.1
way BadWord front left is = wrong (λ e. cc) (λ e. cc) is
way Field front left is = wrong (λ e. cc) (λ e. cc) is

ways : (j k : ObjKind) (front left : List ℕ) → Way j front left → Way k front left → j ≡ k
ways j k front left (wrong a b x) (wrong c d y) = next_once front j k x.next y.next
ways j k front left (wrong a b x) (short e y) = let long = x.whole in let few = y.short in absurd (omega arith)
ways j k front left (wrong a b x) (trailing e y some) = absurd (whole_has_no_next front j y x.next)
ways j k front left (short e x) (wrong c d y) = let long = y.whole in let few = x.short in absurd (omega arith)
ways j k front left (short e x) (short f y) = e ∙ sym f
ways j k front left (short e x) (trailing f y some) = absurd (whole_has_no_next front x.kind y x.next)
ways j k front left (trailing e x some) (wrong c d y) = absurd (whole_has_no_next front k x y.next)
ways j k front left (trailing e x some) (short f y) = absurd (whole_has_no_next front y.kind x y.next)
ways j k front left (trailing e x some) (trailing f y more) = e ∙ sym f

-- a longer front goes on from a shorter one
record Longer (front left longer rest : List ℕ) : Type 0 where
  left_is : left ≡ drop (length front) longer ++ rest
  front_is : longer ≡ front ++ drop (length front) longer

goes_longer : (front left longer rest : List ℕ) → length front ≤ length longer → front ++ left ≡ longer ++ rest → Longer front left longer rest
goes_longer front left longer rest fits e =
    let n = length front in
    let same : front ≡ take n longer = sym (take_at front left n refl) ∙ ap (λ (l : List ℕ). take n l) e ∙ take-append-le n longer rest fits in
    let whole : longer ≡ front ++ drop n longer = sym (take-append-drop n longer) ∙ ap (λ l. l ++ drop n longer) (sym same) in
    let both : front ++ left ≡ front ++ (drop n longer ++ rest) = e ∙ ap (λ l. l ++ rest) whole ∙ append_assoc front (drop n longer) rest in
    record { left_is = append_cancel_left front left (drop n longer ++ rest) both; front_is = whole }

-- no fault stands behind another
later : (bytes : List ℕ) (j k : ObjKind) (m n : ℕ) → HasFault bytes j m → HasFault bytes k n → m < n → ⊥
later bytes j k m n x y before =
    let x_byte = x.byte_is in
    let y_byte = y.byte_is in
    let x_front = faulty_aligned j x.front x.left x.faulty in
    let y_front = faulty_aligned k y.front y.left y.faulty in
    let x_fields = x_front.fields in
    let y_fields = y_front.fields in
    let x_aligned = x_front.aligned in
    let y_aligned = y_front.aligned in
    let fits : length x.front ≤ length y.front = omega arith in
    let longer = goes_longer x.front x.left y.front y.left fits (sym x.bytes_are ∙ y.bytes_are) in
    let cut = length-drop (length x.front) y.front in
    let long : 4 ≤ length (drop (length x.front) y.front) = omega arith in
    faulty_ends j x.front x.left (drop (length x.front) y.front) y.left x.faulty longer.left_is long (subst IsFront longer.front_is y_front.is_front)

fault_same : (bytes : List ℕ) (j k : ObjKind) (m n : ℕ) → HasFault bytes j m → HasFault bytes k n → m ≡ n → j ≡ k
fault_same bytes j k m n x y same =
    let long : length y.front ≡ length x.front = sym y.byte_is ∙ sym same ∙ x.byte_is in
    let both = same_fronts y.front x.front y.left x.left long (sym y.bytes_are ∙ x.bytes_are) in
    let here : IsFaulty k x.front x.left =
    subst (λ (l : List ℕ). IsFaulty k x.front l) both.rests (subst (λ (l : List ℕ). IsFaulty k l y.left) both.fronts y.faulty) in
    ways j k x.front x.left (way j x.front x.left x.faulty) (way k x.front x.left here)

pub fault_once : (bytes : List ℕ) (j k : ObjKind) (m n : ℕ) → HasFault bytes j m → HasFault bytes k n → (j ≡ k) × (m ≡ n)
fault_once bytes j k m n x y =
    let earlier : m < n → ⊥ = λ before. later bytes j k m n x y before in
    let behind : n < m → ⊥ = λ before. later bytes k j n m y x before in
    let same : m ≡ n = omega arith in
    (fault_same bytes j k m n x y same, same)

-- ---- where a fault may be

place_whole : (kind : ObjKind) (front left : List ℕ) → Way kind front left → IsObject front ↔ (kind ≡ Trailing)
place_whole kind front left (wrong a b x) = (λ whole. absurd (whole_has_no_next front kind whole x.next), λ e. absurd (b e))
place_whole kind front left (short e x) = (λ whole. absurd (whole_has_no_next front x.kind whole x.next), λ f. absurd cc)
place_whole kind front left (trailing e x some) = (λ whole. e, λ f. x)

place_trailing : (kind : ObjKind) (front left : List ℕ) → Way kind front left → kind ≡ Trailing → 0 < length left
place_trailing kind front left (wrong a b x) e = absurd (b e)
place_trailing kind front left (short f x) e = absurd cc
place_trailing kind front left (trailing f x some) e = some

place_short : (kind : ObjKind) (front left : List ℕ) → Way kind front left → kind ≡ Short → length left < 4
place_short kind front left (wrong a b x) e = absurd (a e)
place_short kind front left (short f x) e = x.short
place_short kind front left (trailing f x some) e = absurd cc

place_wrong : (kind : ObjKind) (front left : List ℕ) → Way kind front left → (kind ≡ Short → ⊥) → (kind ≡ Trailing → ⊥) → IsWrong kind front left
place_wrong kind front left (wrong a b x) c d = x
place_wrong kind front left (short e x) c d = absurd (c e)
place_wrong kind front left (trailing e x some) c d = absurd (d e)

first_fields : (kind : ObjKind) (front left : List ℕ) (n : ℕ) → IsWrong kind front left → ((is : HasNext front kind) → length is.before ≡ n) → length front ≡ 4 * n
first_fields kind front left n is counted =
    let next = is.next in
    let long = counted next in
    ap (λ (l : List ℕ). length l) next.front_is ∙ length_fours next.before (fours_front next.before (next.next ∷ next.after) (next_fours front kind next)) ∙ ap (λ (m : ℕ). 4 * m) long

pub fault_place : (bytes : List ℕ) (kind : ObjKind) (byte : ℕ) → HasFault bytes kind byte → IsPlace bytes kind byte
fault_place bytes kind byte is =
    let front = is.front in
    let left = is.left in
    let known = faulty_aligned kind front left is.faulty in
    let ways = way kind front left is.faulty in
    let fields = known.fields in
    let byte_is = is.byte_is in
    let long = known.aligned in
    let sum = ap (λ (l : List ℕ). length l) is.bytes_are ∙ length-append front left in
    let cut : take byte bytes ≡ front = ap (λ (l : List ℕ). take byte l) is.bytes_are ∙ take_at front left byte (sym byte_is) in
    let cut_on : take (byte + 4) bytes ≡ front ++ take 4 left =
    ap (λ (n : ℕ). take (n + 4) bytes) byte_is ∙ ap (λ (l : List ℕ). take (length front + 4) l) is.bytes_are ∙ take-append-add front left 4 in
    record {
      aligned = omega arith;
      within = omega arith;
      front = subst IsFront (sym cut) known.is_front;
      whole = subst (λ (l : List ℕ). IsObject l ↔ (kind ≡ Trailing)) (sym cut) (place_whole kind front left ways);
      trailing = λ e. let some = place_trailing kind front left ways e in omega arith;
      short = λ e. let few = place_short kind front left ways e in omega arith;
      there = λ a b. let all = (place_wrong kind front left ways a b).whole in omega arith;
      next = λ a b. subst (λ (l : List ℕ). HasNext l kind) (sym cut) (place_wrong kind front left ways a b).next;
      wrong = λ a b is_front. (place_wrong kind front left ways a b).wrong (subst IsFront cut_on is_front);
      magic = λ e.
          let wrong : IsWrong kind front left = place_wrong kind front left ways (λ f. absurd cc) (λ f. absurd cc) in
          let none = first_fields kind front left 0 wrong (λ next. magic_first next.unit next.before next.next next.after next.is_unit next.fields_are (next.kind_is ∙ e)) in
          omega arith;
      version = λ e.
          let wrong : IsWrong kind front left = place_wrong kind front left ways (λ f. absurd cc) (λ f. absurd cc) in
          let one = first_fields kind front left 1 wrong (λ next. version_second next.unit next.before next.next next.after next.is_unit next.fields_are (next.kind_is ∙ e)) in
          omega arith;
    }

-- ---- how long an object is

boards_length : (boards : List BoardText) → All IsBoard boards → length (list_fields board_fields boards) ≤ 4098 * length boards
boards_length [] each = omega arith
boards_length (board ∷ boards) each =
    let few = (All-head IsBoard board boards each).few in
    let code = length_code board.code in
    let rest = boards_length boards (All-tail IsBoard board boards each) in
    let sum = length-append (board_fields board) (list_fields board_fields boards) in
    omega arith

pages_length : (pages : List PageText) → length (list_fields page_fields pages) ≡ 2 * length pages
pages_length [] = refl
pages_length (page ∷ pages) = let rest = pages_length pages in omega arith

words_length : (words : List WordText) → length (list_fields word_fields words) ≡ 3 * length words
words_length [] = refl
words_length (word ∷ words) = let rest = words_length words in omega arith

pub object_small : (unit : units.Unit) → IsUnit unit → length (object_bytes unit) ≤ 999540
object_small unit is =
    let bytes = object_aligned unit is in
    let boards = list_fields board_fields unit.boards in
    let pages = list_fields page_fields unit.pages in
    let words = list_fields word_fields unit.words in
    let first = length-append boards (pages ++ words) in
    let second = length-append pages words in
    let boards_are = boards_length unit.boards is.boards in
    let pages_are = pages_length unit.pages in
    let words_are = words_length unit.words in
    let few_boards = is.few_boards in
    let few_pages = is.few_pages in
    let few_words = is.few_words in
    omega arith

front_small : (front : List ℕ) → IsFront front → length front ≤ 999540
front_small front is =
    let all = object_small is.unit is.is_unit in
    let sum = ap (λ (l : List ℕ). length l) is.begins ∙ length-append front is.rest in
    omega arith

pub fault_small : (bytes : List ℕ) (kind : ObjKind) (byte : ℕ) → HasFault bytes kind byte → byte ≤ 999540
fault_small bytes kind byte is =
    let small = front_small is.front (faulty_aligned kind is.front is.left is.faulty).is_front in
    let byte_is = is.byte_is in
    omega arith

-- ---- what the reader of a unit answers

-- where a unit stops, its bytes are at fault
front_next : (bytes left : List ℕ) (kind : ObjKind) (is : Stops IsUnit unit_fields bytes kind left) (next : ObjKind) → is.next.kind ≡ next → HasNext (bytes_of is.before) next
front_next bytes left kind is next same = record {
  unit = is.like;
  is_unit = is.limits;
  before = is.before;
  next = is.next;
  after = is.after;
  fields_are = is.fields_are;
  front_is = refl;
  kind_is = same;
}

none_begins : (before : List ObjField) (four : List ℕ) → NoneGoesOn IsUnit unit_fields before four → IsFront (bytes_of before ++ four) → ⊥
none_begins before four none is =
    none is.unit [] is.rest is.is_unit (append-nil (object_bytes is.unit) ∙ is.begins ∙ append_assoc (bytes_of before) four is.rest)

stop_wrong : (bytes left : List ℕ) (kind : ObjKind) (is : Stops IsUnit unit_fields bytes kind left)
    → (kind ≡ is.next.kind) × (4 ≤ length left) × NoneGoesOn IsUnit unit_fields is.before (take 4 left) → IsWrong kind (bytes_of is.before) left
stop_wrong bytes left kind is why = record {
  next = front_next bytes left kind is kind (sym why.0);
  whole = why.1;
  wrong = none_begins is.before (take 4 left) why.2;
}

stop_faulty : (bytes left : List ℕ) (kind : ObjKind) (is : Stops IsUnit unit_fields bytes kind left) → IsFaulty kind (bytes_of is.before) left
stop_faulty bytes left Magic is = stop_wrong bytes left Magic is is.why
stop_faulty bytes left Version is = stop_wrong bytes left Version is is.why
stop_faulty bytes left Short is = record { kind = is.next.kind; next = front_next bytes left Short is is.next.kind refl; short = is.why }
stop_faulty bytes left Trailing is = absurd is.why
stop_faulty bytes left BadWord is = stop_wrong bytes left BadWord is is.why
stop_faulty bytes left Field is = stop_wrong bytes left Field is is.why

pub stop_at_fault : (bytes left : List ℕ) (kind : ObjKind) → Stops IsUnit unit_fields bytes kind left → IsAtFault bytes kind left
stop_at_fault bytes left kind is = record { front = bytes_of is.before; bytes_are = is.bytes_are; faulty = stop_faulty bytes left kind is }

pub stop_end : (bytes left : List ℕ) (s : Stop) → IsStop IsUnit unit_fields bytes left s → IsEnd bytes left s
stop_end bytes left (Fault kind) is = stop_at_fault bytes left kind is
stop_end bytes left NoMemory is = tt

-- bytes are left behind a unit
pub trailing_end : (bytes left : List ℕ) (unit : units.Unit) → Begins IsUnit unit_fields bytes unit left → 0 < length left → IsAtFault bytes Trailing left
trailing_end bytes left unit begins some = record {
  front = object_bytes unit;
  bytes_are = begins.bytes_are;
  faulty = (record { unit = unit; is_unit = begins.limits; bytes_are = refl }, some);
}

-- nothing is left behind a unit
pub nothing_left : (bytes left : List ℕ) (unit : units.Unit) → Begins IsUnit unit_fields bytes unit left → length left ≤ 0 → bytes ≡ object_bytes unit
nothing_left bytes left unit begins none =
    let empty : length left ≡ 0 = omega arith in
    begins.bytes_are ∙ ap (λ l. object_bytes unit ++ l) (nil_from_length left empty) ∙ append-nil (object_bytes unit)

-- the fault at the place where so many bytes are left
pub at_fault : (bytes left : List ℕ) (kind : ObjKind) → IsAtFault bytes kind left → HasFault bytes kind (length bytes - length left)
at_fault bytes left kind is = record {
  front = is.front;
  left = left;
  bytes_are = is.bytes_are;
  byte_is = let sum = ap (λ (l : List ℕ). length l) is.bytes_are ∙ length-append is.front left in omega arith;
  faulty = is.faulty;
}

-- what is returned where a call stopped
pub out_end : {T : Type 0} (all left : List ℕ) (r : Result T Stop) (s : Stop) → r ≡ Err s → IsEnd all left s → IfErr r (λ stop. IsEnd all left stop)
out_end {T = T} all left r s e is = subst (λ (x : Result T Stop). IfErr x (λ stop. IsEnd all left stop)) (sym e) is
