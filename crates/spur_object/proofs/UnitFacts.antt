-- Units: their head, their lists, and that no bytes begin with the objects of two.
use Rattle.std.specs.List.{All}
use Rattle.std.proofs.Common.{◌≡◌, ℕ, ◌<◌, ◌≤◌, List, [], ◌∷◌, ◌++◌, replicate, refl, sym, ap, ◌∙◌, arith, append_assoc}
use Rattle.std.proofs.lemmas.List.{append-nil, length-replicate}
use Rattle.std.proofs.lemmas.List.Elements.{All-nil, All-replicate}
use Rattle.spur_addr.specs.declared.page_entry.Protection.TheVariants.{Nothing}
use Rattle.spur_isa.specs.Ranges.{IsInstr}
use Rattle.spur_object.specs.declared.counts.Counts.{Counts}
use Rattle.spur_object.specs.declared.fault.ObjKind.TheVariants.{Magic, Version, Field}
use Rattle.spur_object.specs.declared.unit.BoardText.{BoardText}
use Rattle.spur_object.specs.declared.unit.PageText.{PageText}
use Rattle.spur_object.specs.declared.unit.WordText.{WordText}
use Rattle.spur_object.specs.declared.unit.Unit as units
use Rattle.spur_object.specs.Fields.{ObjField, board_fields, bytes_of, counts_of, head_fields, magic, number_field, object_bytes, page_fields, unit_fields, version, word_fields}
use Rattle.spur_object.specs.Limits.{IsBoard, IsPage, IsUnit, IsWord}
use Rattle.spur_object.specs.Reading.{AreCounts, IsCounted, IsWithin, list_fields, one_field, Begins}
use Rattle.spur_object.proofs.ByteFacts.{bytes_behind, length_number, off_number, same_number}
use Rattle.spur_object.proofs.ShapeFacts.{board_once, goes_on, page_once, word_once}
use Rattle.spur_object.proofs.StopFacts.{IsPart, Once, counted_once}

-- ---- the head

abbrev pub counts_with : ℕ → ℕ → ℕ → Counts
counts_with boards pages words = record { boards = boards; pages = pages; words = words }

-- the first fields of a head
abbrev pub after_magic : List ObjField
after_magic = one_field Magic magic

abbrev pub after_version : List ObjField
after_version = after_magic ++ one_field Version version

abbrev pub after_boards : ℕ → List ObjField
after_boards boards = after_version ++ one_field Field boards

abbrev pub after_pages : ℕ → ℕ → List ObjField
after_pages boards pages = after_boards boards ++ one_field Field pages

counts_same : (x y : Counts) → x.boards ≡ y.boards → x.pages ≡ y.pages → x.words ≡ y.words → x ≡ y
counts_same x y boards pages words i = record { boards = boards i; pages = pages i; words = words i }

pub head_once : Once AreCounts head_fields
head_once x y r s x_is y_is e =
    let f = number_field Field in
    let first = off_number Magic Magic magic magic
    (one_field Version version ++ (one_field Field x.boards ++ (one_field Field x.pages ++ one_field Field x.words)))
    (one_field Version version ++ (one_field Field y.boards ++ (one_field Field y.pages ++ one_field Field y.words))) r s e in
    let second = off_number Version Version version version
    (one_field Field x.boards ++ (one_field Field x.pages ++ one_field Field x.words))
    (one_field Field y.boards ++ (one_field Field y.pages ++ one_field Field y.words)) r s first.rests in
    let boards = off_number Field Field x.boards y.boards (one_field Field x.pages ++ one_field Field x.words) (one_field Field y.pages ++ one_field Field y.words) r s second.rests in
    let pages = off_number Field Field x.pages y.pages (one_field Field x.words) (one_field Field y.words) r s boards.rests in
    let words = off_number Field Field x.words y.words [] [] r s pages.rests in
    let x_boards = x_is.few_boards in
    let y_boards = y_is.few_boards in
    let x_pages = x_is.few_pages in
    let y_pages = y_is.few_pages in
    let x_words = x_is.few_words in
    let y_words = y_is.few_words in (
      counts_same x y
          (same_number x.boards y.boards (omega arith) (omega arith) boards.fronts)
          (same_number x.pages y.pages (omega arith) (omega arith) pages.fronts)
          (same_number x.words y.words (omega arith) (omega arith) words.fronts),
      words.rests,
    )

pub head_magic_part : IsPart (IsWithin magic magic) (one_field Magic) AreCounts head_fields []
head_magic_part = record {
  make = λ n. counts_with 1 0 0;
  behind = λ n. one_field Version version ++ (one_field Field 1 ++ (one_field Field 0 ++ one_field Field 0));
  limits = λ n is. record { some_board = omega arith; few_boards = omega arith; few_pages = omega arith; few_words = omega arith };
  fields_are = λ n is.
      let same : magic ≡ n = let low = is.low in let high = is.high in omega arith in
      ap (λ m. one_field Magic m ++ (one_field Version version ++ (one_field Field 1 ++ (one_field Field 0 ++ one_field Field 0)))) same;
  only = λ y r s is e. record {
    thing = magic;
    rest = bytes_of (one_field Version version ++ (one_field Field y.boards ++ (one_field Field y.pages ++ one_field Field y.words))) ++ s;
    begins = record {
      limits = record { low = omega arith; high = omega arith };
      bytes_are = sym e ∙ bytes_behind after_magic (one_field Version version ++ (one_field Field y.boards ++ (one_field Field y.pages ++ one_field Field y.words))) s;
    };
  };
}

pub head_version_part : IsPart (IsWithin version version) (one_field Version) AreCounts head_fields after_magic
head_version_part = record {
  make = λ n. counts_with 1 0 0;
  behind = λ n. one_field Field 1 ++ (one_field Field 0 ++ one_field Field 0);
  limits = λ n is. record { some_board = omega arith; few_boards = omega arith; few_pages = omega arith; few_words = omega arith };
  fields_are = λ n is.
      let same : version ≡ n = let low = is.low in let high = is.high in omega arith in
      ap (λ m. after_magic ++ (one_field Version m ++ (one_field Field 1 ++ (one_field Field 0 ++ one_field Field 0)))) same;
  only = λ y r s is e. record {
    thing = version;
    rest = bytes_of (one_field Field y.boards ++ (one_field Field y.pages ++ one_field Field y.words)) ++ s;
    begins = record {
      limits = record { low = omega arith; high = omega arith };
      bytes_are = sym (goes_on after_magic after_magic (one_field Version version) (one_field Field y.boards ++ (one_field Field y.pages ++ one_field Field y.words)) r s
          (length_number magic, tt) (length_number magic, tt) refl e).rests;
    };
  };
}

pub head_boards_part : IsPart (IsWithin 1 12) (one_field Field) AreCounts head_fields after_version
head_boards_part = record {
  make = λ n. counts_with n 0 0;
  behind = λ n. one_field Field 0 ++ one_field Field 0;
  limits = λ n is. record { some_board = is.low; few_boards = is.high; few_pages = omega arith; few_words = omega arith };
  fields_are = λ n is. refl;
  only = λ y r s is e. record {
    thing = y.boards;
    rest = bytes_of (one_field Field y.pages ++ one_field Field y.words) ++ s;
    begins = record {
      limits = record { low = is.some_board; high = is.few_boards };
      bytes_are = sym (goes_on after_version after_version (one_field Field y.boards) (one_field Field y.pages ++ one_field Field y.words) r s
          (length_number magic, (length_number version, tt)) (length_number magic, (length_number version, tt)) refl e).rests;
    };
  };
}

pub head_pages_part : (boards : ℕ) → 1 ≤ boards → boards ≤ 12 → IsPart (IsWithin 0 2048) (one_field Field) AreCounts head_fields (after_boards boards)
head_pages_part boards some few = record {
  make = λ n. counts_with boards n 0;
  behind = λ n. one_field Field 0;
  limits = λ n is. record { some_board = some; few_boards = few; few_pages = is.high; few_words = omega arith };
  fields_are = λ n is. refl;
  only = λ y r s is e. record {
    thing = y.pages;
    rest = bytes_of (one_field Field y.words) ++ s;
    begins = record {
      limits = record { low = omega arith; high = is.few_pages };
      bytes_are = sym (goes_on (after_boards y.boards) (after_boards boards) (one_field Field y.pages) (one_field Field y.words) r s
          (length_number magic, (length_number version, (length_number y.boards, tt))) (length_number magic, (length_number version, (length_number boards, tt))) refl e).rests;
    };
  };
}

pub head_words_part : (boards pages : ℕ) → 1 ≤ boards → boards ≤ 12 → pages ≤ 2048
    → IsPart (IsWithin 0 65536) (one_field Field) AreCounts head_fields (after_pages boards pages)
head_words_part boards pages some few few_pages = record {
  make = λ n. counts_with boards pages n;
  behind = λ n. [];
  limits = λ n is. record { some_board = some; few_boards = few; few_pages = few_pages; few_words = is.high };
  fields_are = λ n is. refl;
  only = λ y r s is e. record {
    thing = y.words;
    rest = s;
    begins = record {
      limits = record { low = omega arith; high = is.few_words };
      bytes_are = sym (goes_on (after_pages y.boards y.pages) (after_pages boards pages) (one_field Field y.words) [] r s
          (length_number magic, (length_number version, (length_number y.boards, (length_number y.pages, tt))))
          (length_number magic, (length_number version, (length_number boards, (length_number pages, tt)))) refl e).rests;
    };
  };
}

-- ---- units

pub counts_are : (unit : units.Unit) → IsUnit unit → AreCounts (counts_of unit)
counts_are unit is = record { some_board = is.some_board; few_boards = is.few_boards; few_pages = is.few_pages; few_words = is.few_words }

abbrev pub unit_with : List BoardText → List PageText → List WordText → units.Unit
unit_with boards pages words = record { boards = boards; pages = pages; words = words }

abbrev pub Boards : Counts → List BoardText → Type 0
Boards counts boards = IsCounted IsBoard counts.boards boards

abbrev pub Pages : Counts → List PageText → Type 0
Pages counts pages = IsCounted IsPage counts.pages pages

abbrev pub Words : Counts → List WordText → Type 0
Words counts words = IsCounted IsWord counts.words words

-- what stands before the pages, and before the words
abbrev pub before_pages : Counts → List BoardText → List ObjField
before_pages counts boards = head_fields counts ++ list_fields board_fields boards

abbrev pub before_words : Counts → List BoardText → List PageText → List ObjField
before_words counts boards pages = before_pages counts boards ++ list_fields page_fields pages

-- lists of so many make a unit, and these are its fields
pub record UnitIs (counts : Counts) (boards : List BoardText) (pages : List PageText) (words : List WordText) : Type 0 where
  pub counted : counts_of (unit_with boards pages words) ≡ counts
  pub limits : IsUnit (unit_with boards pages words)
  pub fields : unit_fields (unit_with boards pages words)
      ≡ head_fields counts ++ (list_fields board_fields boards ++ (list_fields page_fields pages ++ list_fields word_fields words))

pub unit_is : (counts : Counts) (boards : List BoardText) (pages : List PageText) (words : List WordText)
    → AreCounts counts → Boards counts boards → Pages counts pages → Words counts words → UnitIs counts boards pages words
unit_is counts boards pages words are boards_are pages_are words_are =
    let boards_long = boards_are.as_many in
    let pages_long = pages_are.as_many in
    let words_long = words_are.as_many in
    let some = are.some_board in
    let few = are.few_boards in
    let few_pages = are.few_pages in
    let few_words = are.few_words in
    let counted = counts_same (counts_of (unit_with boards pages words)) counts boards_long pages_long words_long in
    record {
      counted = counted;
      limits = record {
        some_board = omega arith;
        few_boards = omega arith;
        few_pages = omega arith;
        few_words = omega arith;
        boards = boards_are.each;
        pages = pages_are.each;
        words = words_are.each;
      };
      fields = ap (λ (c : Counts). head_fields c ++ (list_fields board_fields boards ++ (list_fields page_fields pages ++ list_fields word_fields words))) counted;
    }

pub blank_board : BoardText
blank_board = record { segs = 0 ∷ 0 ∷ 0 ∷ 0 ∷ []; code = [] }

blank_segments : All (λ seg. seg < 256) (0 ∷ 0 ∷ 0 ∷ 0 ∷ [])
blank_segments = All-replicate (λ (seg : ℕ). seg < 256) 4 0 (omega arith)

pub blank_is_board : IsBoard blank_board
unfolding blank_board
blank_is_board = record { four = refl; segs = blank_segments; few = omega arith; code = All-nil IsInstr }

pub blank_page : PageText
blank_page = record { page = 0; prot = Nothing }

pub blank_is_page : IsPage blank_page
unfolding blank_page
blank_is_page = omega arith

pub blank_word : WordText
blank_word = record { at = 0; value = 0 }

pub blank_is_word : IsWord blank_word
unfolding blank_word
blank_is_word = record { aligned = refl; below = omega arith; value = omega arith }

blanks_are : {X : Type 0} (IsX : X → Type 0) (blank : X) (count : ℕ) → IsX blank → IsCounted IsX count (replicate count blank)
blanks_are IsX blank count is = record { as_many = length-replicate count blank; each = All-replicate IsX count blank is }

blank_boards : (counts : Counts) → Boards counts (replicate counts.boards blank_board)
blank_boards counts = blanks_are IsBoard blank_board counts.boards blank_is_board

blank_pages : (counts : Counts) → Pages counts (replicate counts.pages blank_page)
blank_pages counts = blanks_are IsPage blank_page counts.pages blank_is_page

blank_words : (counts : Counts) → Words counts (replicate counts.words blank_word)
blank_words counts = blanks_are IsWord blank_word counts.words blank_is_word

-- the bytes of a unit, part by part
pub unit_behind : (unit : units.Unit) (s : List ℕ) → object_bytes unit ++ s
    ≡ bytes_of (head_fields (counts_of unit)) ++ (bytes_of (list_fields board_fields unit.boards)
    ++ (bytes_of (list_fields page_fields unit.pages) ++ (bytes_of (list_fields word_fields unit.words) ++ s)))
unit_behind unit s =
    let head = head_fields (counts_of unit) in
    let boards = list_fields board_fields unit.boards in
    let pages = list_fields page_fields unit.pages in
    let words = list_fields word_fields unit.words in
    bytes_behind head (boards ++ (pages ++ words)) s
    ∙ ap (λ l. bytes_of head ++ l) (bytes_behind boards (pages ++ words) s)
    ∙ ap (λ l. bytes_of head ++ (bytes_of boards ++ l)) (bytes_behind pages words s)

-- behind a head each unit goes on with so many boards, then pages, then words
pub record Boarded (unit : units.Unit) (counts : Counts) (r s : List ℕ) : Type 0 where
  pub boards : Boards counts unit.boards
  pub pages : Pages counts unit.pages
  pub words : Words counts unit.words
  pub rest : bytes_of (list_fields board_fields unit.boards) ++ (bytes_of (list_fields page_fields unit.pages) ++ (bytes_of (list_fields word_fields unit.words) ++ s)) ≡ r

pub boarded : (unit : units.Unit) (counts : Counts) (r s : List ℕ) → IsUnit unit → AreCounts counts
    → object_bytes unit ++ s ≡ bytes_of (head_fields counts) ++ r → Boarded unit counts r s
boarded unit counts r s is are e =
    let once = head_once (counts_of unit) counts
    (bytes_of (list_fields board_fields unit.boards) ++ (bytes_of (list_fields page_fields unit.pages) ++ (bytes_of (list_fields word_fields unit.words) ++ s)))
    r (counts_are unit is) are (sym (unit_behind unit s) ∙ e) in
    record {
      boards = record { as_many = ap (λ (c : Counts). c.boards) once.0; each = is.boards };
      pages = record { as_many = ap (λ (c : Counts). c.pages) once.0; each = is.pages };
      words = record { as_many = ap (λ (c : Counts). c.words) once.0; each = is.words };
      rest = once.1;
    }

-- and behind these boards with so many pages
pub paged : (unit : units.Unit) (counts : Counts) (boards : List BoardText) (r s : List ℕ) → IsUnit unit → AreCounts counts → Boards counts boards
    → object_bytes unit ++ s ≡ bytes_of (before_pages counts boards) ++ r
    → bytes_of (list_fields page_fields unit.pages) ++ (bytes_of (list_fields word_fields unit.words) ++ s) ≡ r
paged unit counts boards r s is are boards_are e =
    let head = boarded unit counts (bytes_of (list_fields board_fields boards) ++ r) s is are (e ∙ bytes_behind (head_fields counts) (list_fields board_fields boards) r) in
    (counted_once IsBoard board_fields counts.boards board_once unit.boards boards
    (bytes_of (list_fields page_fields unit.pages) ++ (bytes_of (list_fields word_fields unit.words) ++ s)) r head.boards boards_are head.rest).1

-- and behind these pages with so many words
pub worded : (unit : units.Unit) (counts : Counts) (boards : List BoardText) (pages : List PageText) (r s : List ℕ)
    → IsUnit unit → AreCounts counts → Boards counts boards → Pages counts pages → Pages counts unit.pages
    → object_bytes unit ++ s ≡ bytes_of (before_words counts boards pages) ++ r
    → bytes_of (list_fields word_fields unit.words) ++ s ≡ r
worded unit counts boards pages r s is are boards_are pages_are own_pages e =
    let behind = paged unit counts boards (bytes_of (list_fields page_fields pages) ++ r) s is are boards_are
    (e ∙ bytes_behind (before_pages counts boards) (list_fields page_fields pages) r) in
    (counted_once IsPage page_fields counts.pages page_once unit.pages pages (bytes_of (list_fields word_fields unit.words) ++ s) r own_pages pages_are behind).1

pub unit_head_part : IsPart AreCounts head_fields IsUnit unit_fields []
unit_head_part = record {
  make = λ counts. unit_with (replicate counts.boards blank_board) (replicate counts.pages blank_page) (replicate counts.words blank_word);
  behind = λ counts. list_fields board_fields (replicate counts.boards blank_board)
      ++ (list_fields page_fields (replicate counts.pages blank_page) ++ list_fields word_fields (replicate counts.words blank_word));
  limits = λ counts are. (unit_is counts (replicate counts.boards blank_board) (replicate counts.pages blank_page) (replicate counts.words blank_word)
      are (blank_boards counts) (blank_pages counts) (blank_words counts)).limits;
  fields_are = λ counts are. (unit_is counts (replicate counts.boards blank_board) (replicate counts.pages blank_page) (replicate counts.words blank_word)
      are (blank_boards counts) (blank_pages counts) (blank_words counts)).fields;
  only = λ unit r s is e. record {
    thing = counts_of unit;
    rest = bytes_of (list_fields board_fields unit.boards ++ (list_fields page_fields unit.pages ++ list_fields word_fields unit.words)) ++ s;
    begins = record {
      limits = counts_are unit is;
      bytes_are = sym e ∙ bytes_behind (head_fields (counts_of unit)) (list_fields board_fields unit.boards ++ (list_fields page_fields unit.pages ++ list_fields word_fields unit.words)) s;
    };
  };
}

pub unit_boards_part : (counts : Counts) → AreCounts counts → IsPart (Boards counts) (list_fields board_fields) IsUnit unit_fields (head_fields counts)
unit_boards_part counts are = record {
  make = λ boards. unit_with boards (replicate counts.pages blank_page) (replicate counts.words blank_word);
  behind = λ boards. list_fields page_fields (replicate counts.pages blank_page) ++ list_fields word_fields (replicate counts.words blank_word);
  limits = λ boards boards_are. (unit_is counts boards (replicate counts.pages blank_page) (replicate counts.words blank_word) are boards_are (blank_pages counts) (blank_words counts)).limits;
  fields_are = λ boards boards_are. (unit_is counts boards (replicate counts.pages blank_page) (replicate counts.words blank_word) are boards_are (blank_pages counts) (blank_words counts)).fields;
  only = λ unit r s is e.
      let behind = boarded unit counts r s is are e in
      record {
        thing = unit.boards;
        rest = bytes_of (list_fields page_fields unit.pages) ++ (bytes_of (list_fields word_fields unit.words) ++ s);
        begins = record { limits = behind.boards; bytes_are = sym behind.rest };
      };
}

pub unit_pages_part : (counts : Counts) (boards : List BoardText) → AreCounts counts → Boards counts boards
    → IsPart (Pages counts) (list_fields page_fields) IsUnit unit_fields (before_pages counts boards)
unit_pages_part counts boards are boards_are = record {
  make = λ pages. unit_with boards pages (replicate counts.words blank_word);
  behind = λ pages. list_fields word_fields (replicate counts.words blank_word);
  limits = λ pages pages_are. (unit_is counts boards pages (replicate counts.words blank_word) are boards_are pages_are (blank_words counts)).limits;
  fields_are = λ pages pages_are. (unit_is counts boards pages (replicate counts.words blank_word) are boards_are pages_are (blank_words counts)).fields
      ∙ sym (append_assoc (head_fields counts) (list_fields board_fields boards) (list_fields page_fields pages ++ list_fields word_fields (replicate counts.words blank_word)));
  only = λ unit r s is e.
      let head = boarded unit counts (bytes_of (list_fields board_fields boards) ++ r) s is are (e ∙ bytes_behind (head_fields counts) (list_fields board_fields boards) r) in
      record {
        thing = unit.pages;
        rest = bytes_of (list_fields word_fields unit.words) ++ s;
        begins = record { limits = head.pages; bytes_are = sym (paged unit counts boards r s is are boards_are e) };
      };
}

pub unit_words_part : (counts : Counts) (boards : List BoardText) (pages : List PageText) → AreCounts counts → Boards counts boards → Pages counts pages
    → IsPart (Words counts) (list_fields word_fields) IsUnit unit_fields (before_words counts boards pages)
unit_words_part counts boards pages are boards_are pages_are = record {
  make = λ words. unit_with boards pages words;
  behind = λ words. [];
  limits = λ words words_are. (unit_is counts boards pages words are boards_are pages_are words_are).limits;
  fields_are = λ words words_are. (unit_is counts boards pages words are boards_are pages_are words_are).fields
      ∙ sym (append_assoc (head_fields counts) (list_fields board_fields boards) (list_fields page_fields pages ++ list_fields word_fields words))
      ∙ sym (append_assoc (before_pages counts boards) (list_fields page_fields pages) (list_fields word_fields words))
      ∙ ap (λ l. before_words counts boards pages ++ l) (sym (append-nil (list_fields word_fields words)));
  only = λ unit r s is e.
      let front = e ∙ bytes_behind (before_pages counts boards) (list_fields page_fields pages) r ∙ bytes_behind (head_fields counts) (list_fields board_fields boards) (bytes_of (list_fields page_fields pages) ++ r) in
      let head = boarded unit counts (bytes_of (list_fields board_fields boards) ++ (bytes_of (list_fields page_fields pages) ++ r)) s is are front in
      record {
        thing = unit.words;
        rest = s;
        begins = record { limits = head.words; bytes_are = sym (worded unit counts boards pages r s is are boards_are pages_are head.pages e) };
      };
}

pub unit_once : Once IsUnit unit_fields
unit_once x y r s x_is y_is e =
    let counts = counts_of y in
    let head = boarded x counts (bytes_of (list_fields board_fields y.boards) ++ (bytes_of (list_fields page_fields y.pages) ++ (bytes_of (list_fields word_fields y.words) ++ s))) r
    x_is (counts_are y y_is) (e ∙ unit_behind y s) in
    let boards = counted_once IsBoard board_fields counts.boards board_once x.boards y.boards
    (bytes_of (list_fields page_fields x.pages) ++ (bytes_of (list_fields word_fields x.words) ++ r))
    (bytes_of (list_fields page_fields y.pages) ++ (bytes_of (list_fields word_fields y.words) ++ s))
    head.boards (record { as_many = refl; each = y_is.boards }) head.rest in
    let pages = counted_once IsPage page_fields counts.pages page_once x.pages y.pages
    (bytes_of (list_fields word_fields x.words) ++ r) (bytes_of (list_fields word_fields y.words) ++ s)
    head.pages (record { as_many = refl; each = y_is.pages }) boards.1 in
    let words = counted_once IsWord word_fields counts.words word_once x.words y.words r s
    head.words (record { as_many = refl; each = y_is.words }) pages.1 in
    (λ i. record { boards = boards.0 i; pages = pages.0 i; words = words.0 i }, words.1)

-- a unit is read
pub unit_begins : (all rest : List ℕ) (counts : Counts) (boards : List BoardText) (pages : List PageText) (words : List WordText)
    → AreCounts counts → Boards counts boards → Pages counts pages → Words counts words
    → all ≡ bytes_of (before_words counts boards pages ++ list_fields word_fields words) ++ rest
    → Begins IsUnit unit_fields all (unit_with boards pages words) rest
unit_begins all rest counts boards pages words are boards_are pages_are words_are read =
    let unit = unit_is counts boards pages words are boards_are pages_are words_are in
    let fields : before_words counts boards pages ++ list_fields word_fields words ≡ unit_fields (unit_with boards pages words) =
    append_assoc (before_pages counts boards) (list_fields page_fields pages) (list_fields word_fields words)
    ∙ append_assoc (head_fields counts) (list_fields board_fields boards) (list_fields page_fields pages ++ list_fields word_fields words)
    ∙ sym unit.fields in
    record { limits = unit.limits; bytes_are = read ∙ ap (λ l. bytes_of l ++ rest) fields }
