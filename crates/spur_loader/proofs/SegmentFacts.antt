-- Segment 255: what names it, in plain words.
use Rattle.std.specs.List.{All, Any, list_any}
use Rattle.std.proofs.Common.{◌≡◌, ◌≢◌, ℕ, ◌/◌, ◌^◌, ◌<◌, ◌≤◌, ◌==◌, ◌||◌, Bool, true, false, Some, None, inl, inr, refl, ap, ◌∙◌, arith, if◌then◌else◌}
use Rattle.std.proofs.lemmas.Bool.{eqb-true, eqb-false, eq-eqb, ne_eqb}
use Rattle.std.proofs.lemmas.List.Folds.{Any-from_list_any, list_any-from_Any, list_any_none}
use Rattle.spur_addr.specs.Address.{table_start, user_pages}
use Rattle.spur_object.specs.Limits.{IsBoard, IsPage, IsUnit, IsWord}
use Rattle.spur_object.specs.declared.unit.Unit.{Unit as Program}
use Rattle.spur_object.specs.declared.unit.BoardText.{BoardText}
use Rattle.spur_object.specs.declared.unit.PageText.{PageText}
use Rattle.spur_object.specs.declared.unit.WordText.{WordText}
use Rattle.spur_loader.specs.declared.fault.LoadFault.TheVariants.{Segment255}
use Rattle.spur_loader.specs.Faults.{board_names_255, names_255, page_names_255, segment_fault, word_names_255}
use Rattle.spur_loader.specs.FaultLaws.{IsBelowTableSegment, NamesTableSegment, NoneNamesTableSegment, TableSegmentIsNamed}
use Rattle.spur_loader.proofs.ListFacts.{all_at, all_get, any_at, any_get, fails_at}

-- ---- one page, one word, one board

page_high : (page : PageText) → IsPage page → page_names_255 page ≡ true → user_pages ≤ page.page
page_high page small named = let s : page.page / 2 ^ 18 ≡ 255 = eqb-true (page.page / 2 ^ 18) 255 named in omega arith

high_page : (page : PageText) → IsPage page → user_pages ≤ page.page → page_names_255 page ≡ true
high_page page small high = let s : page.page / 2 ^ 18 ≡ 255 = omega arith in eq-eqb (page.page / 2 ^ 18) 255 s

page_low : (page : PageText) → IsPage page → page_names_255 page ≡ false → page.page < user_pages
page_low page small other = let s : page.page / 2 ^ 18 ≢ 255 = eqb-false (page.page / 2 ^ 18) 255 other in omega arith

low_page : (page : PageText) → page.page < user_pages → page_names_255 page ≡ false
low_page page low = ne_eqb (page.page / 2 ^ 18) 255 (λ same. omega arith)

word_high : (word : WordText) → IsWord word → word_names_255 word ≡ true → table_start ≤ word.at
word_high word h named = let b = h.below in let s : word.at / 2 ^ 30 ≡ 255 = eqb-true (word.at / 2 ^ 30) 255 named in omega arith

high_word : (word : WordText) → IsWord word → table_start ≤ word.at → word_names_255 word ≡ true
high_word word h high = let b = h.below in let s : word.at / 2 ^ 30 ≡ 255 = omega arith in eq-eqb (word.at / 2 ^ 30) 255 s

word_low : (word : WordText) → IsWord word → word_names_255 word ≡ false → word.at < table_start
word_low word h other = let b = h.below in let s : word.at / 2 ^ 30 ≢ 255 = eqb-false (word.at / 2 ^ 30) 255 other in omega arith

low_word : (word : WordText) → word.at < table_start → word_names_255 word ≡ false
low_word word low = ne_eqb (word.at / 2 ^ 30) 255 (λ same. omega arith)

board_named : (board : BoardText) → board_names_255 board ≡ true → Any (λ seg. seg ≡ 255) board.segs
board_named board named =
    let m = any_get (λ (seg : ℕ). (seg == 255) ≡ true) board.segs (Any-from_list_any (λ (seg : ℕ). seg == 255) board.segs named) in
    any_at (λ (seg : ℕ). seg ≡ 255) board.segs m.position m.member m.at (eqb-true m.member 255 m.holds)

named_board : (board : BoardText) → Any (λ seg. seg ≡ 255) board.segs → board_names_255 board ≡ true
named_board board some =
    let m = any_get (λ (seg : ℕ). seg ≡ 255) board.segs some in
    list_any-from_Any (λ (seg : ℕ). seg == 255) board.segs
    (any_at (λ (seg : ℕ). (seg == 255) ≡ true) board.segs m.position m.member m.at (eq-eqb m.member 255 m.holds))

board_below : (board : BoardText) → IsBoard board → board_names_255 board ≡ false → All (λ seg. seg < 255) board.segs
board_below board h other = all_at (λ (seg : ℕ). seg < 255) board.segs (λ i seg at.
    let small : seg < 256 = all_get (λ (s : ℕ). s < 256) board.segs i seg h.segs at in
    let differs : seg ≢ 255 = eqb-false seg 255 (fails_at (λ (s : ℕ). s == 255) board.segs i seg other at) in
    omega arith)

below_board : (board : BoardText) → All (λ seg. seg < 255) board.segs → board_names_255 board ≡ false
below_board board low = list_any_none (λ (seg : ℕ). seg == 255) board.segs (all_at (λ (seg : ℕ). (seg == 255) ≡ false) board.segs (λ i seg at.
    let small : seg < 255 = all_get (λ (s : ℕ). s < 255) board.segs i seg low at in
    ne_eqb seg 255 (λ same. omega arith)))

-- ---- the three lists

data IsOneOf (a b c : Bool) : Type 0 where
  First : a ≡ true → IsOneOf a b c
  Second : b ≡ true → IsOneOf a b c
  Third : c ≡ true → IsOneOf a b c

one_of : (a b c : Bool) → (a || (b || c)) ≡ true → IsOneOf a b c
one_of true b c e = First refl
one_of false true c e = Second refl
one_of false false true e = Third refl
one_of false false false e = cc

record AreAllFalse (a b c : Bool) : Type 0 where
  first : a ≡ false
  second : b ≡ false
  third : c ≡ false

all_false : (a b c : Bool) → (a || (b || c)) ≡ false → AreAllFalse a b c
all_false true b c e = cc
all_false false true c e = cc
all_false false false true e = cc
all_false false false false e = record { first = refl; second = refl; third = refl }

named_by : (unit : Program) → IsUnit unit
    → IsOneOf (list_any board_names_255 unit.boards) (list_any page_names_255 unit.pages) (list_any word_names_255 unit.words) → NamesTableSegment unit
named_by unit u (First e) =
    let m = any_get (λ (board : BoardText). board_names_255 board ≡ true) unit.boards (Any-from_list_any board_names_255 unit.boards e) in
    inl (any_at (λ (board : BoardText). Any (λ seg. seg ≡ 255) board.segs) unit.boards m.position m.member m.at (board_named m.member m.holds))
named_by unit u (Second e) =
    let m = any_get (λ (page : PageText). page_names_255 page ≡ true) unit.pages (Any-from_list_any page_names_255 unit.pages e) in
    inr (inl (any_at (λ (page : PageText). user_pages ≤ page.page) unit.pages m.position m.member m.at
    (page_high m.member (all_get IsPage unit.pages m.position m.member u.pages m.at) m.holds)))
named_by unit u (Third e) =
    let m = any_get (λ (word : WordText). word_names_255 word ≡ true) unit.words (Any-from_list_any word_names_255 unit.words e) in
    inr (inr (any_at (λ (word : WordText). table_start ≤ word.at) unit.words m.position m.member m.at
    (word_high m.member (all_get IsWord unit.words m.position m.member u.words m.at) m.holds)))

or_first : (a b c : Bool) → a ≡ true → (a || (b || c)) ≡ true
or_first a b c e = ap (λ (x : Bool). x || (b || c)) e

or_second : (a b c : Bool) → b ≡ true → (a || (b || c)) ≡ true
or_second true b c e = refl
or_second false b c e = ap (λ (x : Bool). x || c) e

or_third : (a b c : Bool) → c ≡ true → (a || (b || c)) ≡ true
or_third true b c e = refl
or_third false true c e = refl
or_third false false c e = e

by_names : (unit : Program) → IsUnit unit → NamesTableSegment unit → names_255 unit ≡ true
by_names unit u (inl some) =
    let m = any_get (λ (board : BoardText). Any (λ seg. seg ≡ 255) board.segs) unit.boards some in
    or_first (list_any board_names_255 unit.boards) (list_any page_names_255 unit.pages) (list_any word_names_255 unit.words)
    (list_any-from_Any board_names_255 unit.boards
    (any_at (λ (board : BoardText). board_names_255 board ≡ true) unit.boards m.position m.member m.at (named_board m.member m.holds)))
by_names unit u (inr (inl some)) =
    let m = any_get (λ (page : PageText). user_pages ≤ page.page) unit.pages some in
    or_second (list_any board_names_255 unit.boards) (list_any page_names_255 unit.pages) (list_any word_names_255 unit.words)
    (list_any-from_Any page_names_255 unit.pages (any_at (λ (page : PageText). page_names_255 page ≡ true) unit.pages m.position m.member m.at
    (high_page m.member (all_get IsPage unit.pages m.position m.member u.pages m.at) m.holds)))
by_names unit u (inr (inr some)) =
    let m = any_get (λ (word : WordText). table_start ≤ word.at) unit.words some in
    or_third (list_any board_names_255 unit.boards) (list_any page_names_255 unit.pages) (list_any word_names_255 unit.words)
    (list_any-from_Any word_names_255 unit.words (any_at (λ (word : WordText). word_names_255 word ≡ true) unit.words m.position m.member m.at
    (high_word m.member (all_get IsWord unit.words m.position m.member u.words m.at) m.holds)))

-- ---- the fault

fault_names : (b : Bool) → (if b then Some Segment255 else None) ≡ Some Segment255 → b ≡ true
fault_names true e = refl
fault_names false e = cc

no_fault_names : (b : Bool) → (if b then Some Segment255 else None) ≡ None → b ≡ false
no_fault_names true e = cc
no_fault_names false e = refl

-- the fault applies exactly where segment 255 is named
pub table_segment_is_named : TableSegmentIsNamed
table_segment_is_named unit u = (
  (λ fault. named_by unit u
      (one_of (list_any board_names_255 unit.boards) (list_any page_names_255 unit.pages) (list_any word_names_255 unit.words) (fault_names (names_255 unit) fault))),
  (λ named. ap (λ (b : Bool). if b then Some Segment255 else None) (by_names unit u named)),
)

-- where it does not apply all are below
pub below_segment : (unit : Program) → IsUnit unit → segment_fault unit ≡ None → IsBelowTableSegment unit
below_segment unit u none =
    let f = all_false (list_any board_names_255 unit.boards) (list_any page_names_255 unit.pages) (list_any word_names_255 unit.words)
    (no_fault_names (names_255 unit) none) in
    record {
      registers = all_at (λ (board : BoardText). All (λ seg. seg < 255) board.segs) unit.boards (λ i board at.
          board_below board (all_get IsBoard unit.boards i board u.boards at) (fails_at board_names_255 unit.boards i board f.first at));
      pages = all_at (λ (page : PageText). page.page < user_pages) unit.pages (λ i page at.
          page_low page (all_get IsPage unit.pages i page u.pages at) (fails_at page_names_255 unit.pages i page f.second at));
      words = all_at (λ (word : WordText). word.at < table_start) unit.words (λ i word at.
          word_low word (all_get IsWord unit.words i word u.words at) (fails_at word_names_255 unit.words i word f.third at));
    }

segment_below : (unit : Program) → IsBelowTableSegment unit → segment_fault unit ≡ None
segment_below unit h =
    let boards : list_any board_names_255 unit.boards ≡ false = list_any_none board_names_255 unit.boards
    (all_at (λ (board : BoardText). board_names_255 board ≡ false) unit.boards (λ i board at.
    below_board board (all_get (λ (b : BoardText). All (λ seg. seg < 255) b.segs) unit.boards i board h.registers at))) in
    let pages : list_any page_names_255 unit.pages ≡ false = list_any_none page_names_255 unit.pages
    (all_at (λ (page : PageText). page_names_255 page ≡ false) unit.pages (λ i page at.
    low_page page (all_get (λ (p : PageText). p.page < user_pages) unit.pages i page h.pages at))) in
    let words : list_any word_names_255 unit.words ≡ false = list_any_none word_names_255 unit.words
    (all_at (λ (word : WordText). word_names_255 word ≡ false) unit.words (λ i word at.
    low_word word (all_get (λ (w : WordText). w.at < table_start) unit.words i word h.words at))) in
    ap (λ (b : Bool). if b || (list_any page_names_255 unit.pages || list_any word_names_255 unit.words) then Some Segment255 else None) boards
    ∙ ap (λ (b : Bool). if b || list_any word_names_255 unit.words then Some Segment255 else None) pages
    ∙ ap (λ (b : Bool). if b then Some Segment255 else None) words

pub none_names_table_segment : NoneNamesTableSegment
none_names_table_segment unit u = (below_segment unit u, segment_below unit)
