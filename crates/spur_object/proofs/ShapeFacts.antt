-- Each part of an object has one writing, and is a part of what it stands in.
use Rattle.std.specs.List.{All}
use Rattle.std.proofs.Common.{◌≡◌, ℕ, zero, suc, ◌+◌, ◌-◌, ◌*◌, ◌/◌, ◌%◌, ◌^◌, ◌<◌, ◌≤◌, List, [], ◌∷◌, ◌++◌, length, replicate, refl, sym, ap, ◌∙◌, arith, length-append, Some}
use Rattle.std.proofs.lemmas.List.{append-nil, length-replicate}
use Rattle.std.proofs.lemmas.List.Elements.{All-nil, All-replicate}
use Rattle.spur_addr.specs.declared.page_entry.Protection.{Protection}
use Rattle.spur_addr.specs.declared.page_entry.Protection.TheVariants.{Nothing, ReadOnly, ReadWrite}
use Rattle.spur_addr.specs.PageEntry.{protection_number}
use Rattle.spur_isa.specs.declared.instr.Instr.{Instr}
use Rattle.spur_isa.specs.declared.instr.Instr.TheVariants.{Halt}
use Rattle.spur_isa.specs.Ranges.{IsInstr}
use Rattle.spur_isa.specs.Word.{instr_word, instr_at, parts_at}
use Rattle.spur_isa.proofs.WordFacts.{instr_again}
use Rattle.spur_object.specs.declared.fault.ObjKind.{ObjKind}
use Rattle.spur_object.specs.declared.fault.ObjKind.TheVariants.{BadWord, Field}
use Rattle.spur_object.specs.declared.unit.BoardText.{BoardText}
use Rattle.spur_object.specs.Fields.{ObjField, board_fields, bytes_of, instr_fields, number_bytes, number_field, page_fields, word_fields}
use Rattle.spur_object.specs.Limits.{IsBoard, IsPage, IsWord}
use Rattle.spur_object.specs.Reading.{AreSegments, IsCounted, IsOffset, IsProtection, IsWithin, list_fields, one_field, protection_fields, segment_fields, Begins}
use Rattle.spur_object.proofs.ByteFacts.{Same, bytes_behind, length_number, off, off_number, same_fronts, same_number}
use Rattle.spur_object.proofs.InstrFacts.{instr_below}
use Rattle.spur_object.proofs.StopFacts.{IsPart, Once, counted_once}

-- ---- four bytes a field

abbrev pub Fours : List ObjField → Type 0
Fours [] = Unit {0}
Fours (f ∷ fs) = (length f.bytes ≡ 4) × Fours fs

pub length_fours : (fs : List ObjField) → Fours fs → length (bytes_of fs) ≡ 4 * length fs
length_fours [] fours = refl
length_fours (f ∷ fs) fours =
    let rest = length_fours fs fours.1 in
    let here = fours.0 in
    let sum = length-append f.bytes (bytes_of fs) in
    omega arith

-- behind as many fields as are read, a whole goes on with its next part
pub goes_on : (own front part behind : List ObjField) (r s : List ℕ) → Fours own → Fours front → length own ≡ length front
    → bytes_of (own ++ (part ++ behind)) ++ s ≡ bytes_of front ++ r
    → Same (bytes_of own) (bytes_of front) (bytes_of part ++ (bytes_of behind ++ s)) r
goes_on own front part behind r s own_fours front_fours long e =
    let own_long = length_fours own own_fours in
    let front_long = length_fours front front_fours in
    let same : length (bytes_of own) ≡ length (bytes_of front) = omega arith in
    same_fronts (bytes_of own) (bytes_of front) (bytes_of part ++ (bytes_of behind ++ s)) r same
    (ap (λ l. bytes_of own ++ l) (sym (bytes_behind part behind s)) ∙ sym (bytes_behind own (part ++ behind) s) ∙ e)

-- ---- one number

pub within_once : (kind : ObjKind) (least most : ℕ) → most < 2 ^ 32 → Once (IsWithin least most) (one_field kind)
within_once kind least most below x y r s x_is y_is e =
    let both = off_number kind kind x y [] [] r s e in
    let x_below : x < 2 ^ 32 = let high = x_is.high in omega arith in
    let y_below : y < 2 ^ 32 = let high = y_is.high in omega arith in
    (same_number x y x_below y_below both.fronts, both.rests)

-- ---- instructions

some_is : {A : Type 0} (x y : A) → Some x ≡ Some y → x ≡ y
some_is x y e = cc

pub instr_once : Once IsInstr instr_fields
instr_once i j r s i_is j_is e =
    let both = off_number BadWord BadWord (instr_word i) (instr_word j) [] [] r s e in
    let word = same_number (instr_word i) (instr_word j) (instr_below i i_is) (instr_below j j_is) both.fronts in
    (some_is i j (sym (instr_again i i_is) ∙ ap (λ w. instr_at (parts_at w)) word ∙ instr_again j j_is), both.rests)

-- ---- protections

protection_below : (p : Protection) → protection_number p < 3
protection_below Nothing = omega arith
protection_below ReadOnly = omega arith
protection_below ReadWrite = omega arith

protection_same : (p q : Protection) → protection_number p ≡ protection_number q → p ≡ q
protection_same Nothing Nothing e = refl
protection_same Nothing ReadOnly e = absurd (omega arith)
protection_same Nothing ReadWrite e = absurd (omega arith)
protection_same ReadOnly Nothing e = absurd (omega arith)
protection_same ReadOnly ReadOnly e = refl
protection_same ReadOnly ReadWrite e = absurd (omega arith)
protection_same ReadWrite Nothing e = absurd (omega arith)
protection_same ReadWrite ReadOnly e = absurd (omega arith)
protection_same ReadWrite ReadWrite e = refl

protection_at : ℕ → Protection
protection_at zero = Nothing
protection_at (suc zero) = ReadOnly
protection_at (suc (suc n)) = ReadWrite

protection_again : (n : ℕ) → n ≤ 2 → protection_number (protection_at n) ≡ n
unfolding protection_at
protection_again zero h = refl
protection_again (suc zero) h = refl
protection_again (suc (suc zero)) h = refl
protection_again (suc (suc (suc n))) h = absurd (omega arith)

pub protection_once : Once IsProtection protection_fields
protection_once p q r s p_is q_is e =
    let both = off_number Field Field (protection_number p) (protection_number q) [] [] r s e in
    let p_below = protection_below p in
    let q_below = protection_below q in
    (protection_same p q (same_number (protection_number p) (protection_number q) (omega arith) (omega arith) both.fronts), both.rests)

pub protection_part : IsPart (IsWithin 0 2) (one_field Field) IsProtection protection_fields []
protection_part = record {
  make = protection_at;
  behind = λ n. [];
  limits = λ n is. tt;
  fields_are = λ n is. ap (λ m. one_field Field m) (protection_again n is.high);
  only = λ p r s is e. record {
    thing = protection_number p;
    rest = s;
    begins = record { limits = record { low = omega arith; high = let below = protection_below p in omega arith }; bytes_are = sym e };
  };
}

-- ---- pages

pub page_once : Once IsPage page_fields
page_once x y r s x_is y_is e =
    let number = off_number Field Field x.page y.page (protection_fields x.prot) (protection_fields y.prot) r s e in
    let x_below : x.page < 2 ^ 32 = omega arith in
    let y_below : y.page < 2 ^ 32 = omega arith in
    let same = same_number x.page y.page x_below y_below number.fronts in
    let prot = protection_once x.prot y.prot r s tt tt number.rests in
    (λ i. record { page = same i; prot = prot.0 i }, prot.1)

pub page_number_part : IsPart (IsWithin 0 (2 ^ 26 - 1)) (one_field Field) IsPage page_fields []
page_number_part = record {
  make = λ n. record { page = n; prot = Nothing };
  behind = λ n. protection_fields Nothing;
  limits = λ n is. let high = is.high in omega arith;
  fields_are = λ n is. refl;
  only = λ y r s is e. record {
    thing = y.page;
    rest = bytes_of (protection_fields y.prot) ++ s;
    begins = record {
      limits = record { low = omega arith; high = omega arith };
      bytes_are = sym e ∙ bytes_behind (one_field Field y.page) (protection_fields y.prot) s;
    };
  };
}

pub page_protection_part : (page : ℕ) → page < 2 ^ 26 → IsPart IsProtection protection_fields IsPage page_fields (one_field Field page)
page_protection_part page below = record {
  make = λ p. record { page = page; prot = p };
  behind = λ p. [];
  limits = λ p is. below;
  fields_are = λ p is. refl;
  only = λ y r s is e. record {
    thing = y.prot;
    rest = s;
    begins = record {
      limits = tt;
      bytes_are = sym (goes_on (one_field Field y.page) (one_field Field page) (protection_fields y.prot) [] r s (length_number y.page, tt) (length_number page, tt) refl e).rests;
    };
  };
}

-- ---- words

at_is : (at : ℕ) → at / 2 ^ 30 * 2 ^ 30 + at % 2 ^ 30 ≡ at
at_is at = omega arith

pub word_once : Once IsWord word_fields
word_once x y r s x_is y_is e =
    let x_at = x_is.below in
    let y_at = y_is.below in
    let x_value = x_is.value in
    let y_value = y_is.value in
    let x_rest = one_field Field (x.at % 2 ^ 30) ++ one_field Field x.value in
    let y_rest = one_field Field (y.at % 2 ^ 30) ++ one_field Field y.value in
    let first = off_number Field Field (x.at / 2 ^ 30) (y.at / 2 ^ 30) x_rest y_rest r s e in
    let second = off_number Field Field (x.at % 2 ^ 30) (y.at % 2 ^ 30) (one_field Field x.value) (one_field Field y.value) r s first.rests in
    let third = off_number Field Field x.value y.value [] [] r s second.rests in
    let segment : x.at / 2 ^ 30 ≡ y.at / 2 ^ 30 = same_number (x.at / 2 ^ 30) (y.at / 2 ^ 30) (omega arith) (omega arith) first.fronts in
    let offset : x.at % 2 ^ 30 ≡ y.at % 2 ^ 30 = same_number (x.at % 2 ^ 30) (y.at % 2 ^ 30) (omega arith) (omega arith) second.fronts in
    let value : x.value ≡ y.value = same_number x.value y.value (omega arith) (omega arith) third.fronts in
    let at : x.at ≡ y.at = sym (at_is x.at) ∙ ap (λ n. n * 2 ^ 30 + x.at % 2 ^ 30) segment ∙ ap (λ n. y.at / 2 ^ 30 * 2 ^ 30 + n) offset ∙ at_is y.at in
    (λ i. record { at = at i; value = value i }, third.rests)

segment_again : (seg offset : ℕ) → offset < 2 ^ 30 → (seg * 2 ^ 30 + offset) / 2 ^ 30 ≡ seg
segment_again seg offset below = omega arith

offset_again : (seg offset : ℕ) → offset < 2 ^ 30 → (seg * 2 ^ 30 + offset) % 2 ^ 30 ≡ offset
offset_again seg offset below = omega arith

pub record WordIs (seg offset value : ℕ) : Type 0 where
  pub fields : word_fields (record { at = seg * 2 ^ 30 + offset; value = value }) ≡ number_field Field seg ∷ number_field Field offset ∷ number_field Field value ∷ []
  pub limits : IsWord (record { at = seg * 2 ^ 30 + offset; value = value })

pub word_is : (seg offset value : ℕ) → seg ≤ 255 → IsOffset offset → value < 2 ^ 32 → WordIs seg offset value
word_is seg offset value seg_is offset_is value_is =
    let below = offset_is.below in
    let aligned = offset_is.aligned in
    record {
      fields = ap (λ n. number_field Field n ∷ number_field Field ((seg * 2 ^ 30 + offset) % 2 ^ 30) ∷ number_field Field value ∷ []) (segment_again seg offset below)
          ∙ ap (λ n. number_field Field seg ∷ number_field Field n ∷ number_field Field value ∷ []) (offset_again seg offset below);
      limits = record { aligned = omega arith; below = omega arith; value = value_is };
    }

zero_offset : IsOffset 0
zero_offset = record { aligned = refl; below = omega arith }

pub word_segment_part : IsPart (IsWithin 0 255) (one_field Field) IsWord word_fields []
word_segment_part = record {
  make = λ n. record { at = n * 2 ^ 30 + 0; value = 0 };
  behind = λ n. one_field Field 0 ++ one_field Field 0;
  limits = λ n is. (word_is n 0 0 is.high zero_offset (omega arith)).limits;
  fields_are = λ n is. (word_is n 0 0 is.high zero_offset (omega arith)).fields;
  only = λ y r s is e. record {
    thing = y.at / 2 ^ 30;
    rest = bytes_of (one_field Field (y.at % 2 ^ 30) ++ one_field Field y.value) ++ s;
    begins = record {
      limits = record { low = omega arith; high = let below = is.below in omega arith };
      bytes_are = sym e ∙ bytes_behind (one_field Field (y.at / 2 ^ 30)) (one_field Field (y.at % 2 ^ 30) ++ one_field Field y.value) s;
    };
  };
}

pub word_offset_part : (seg : ℕ) → seg ≤ 255 → IsPart IsOffset (one_field Field) IsWord word_fields (one_field Field seg)
word_offset_part seg seg_is = record {
  make = λ n. record { at = seg * 2 ^ 30 + n; value = 0 };
  behind = λ n. one_field Field 0;
  limits = λ n is. (word_is seg n 0 seg_is is (omega arith)).limits;
  fields_are = λ n is. (word_is seg n 0 seg_is is (omega arith)).fields;
  only = λ y r s is e. record {
    thing = y.at % 2 ^ 30;
    rest = bytes_of (one_field Field y.value) ++ s;
    begins = record {
      limits = record { aligned = let aligned = is.aligned in omega arith; below = omega arith };
      bytes_are = sym (goes_on (one_field Field (y.at / 2 ^ 30)) (one_field Field seg) (one_field Field (y.at % 2 ^ 30)) (one_field Field y.value) r s (length_number (y.at / 2 ^ 30), tt) (length_number seg, tt) refl e).rests;
    };
  };
}

pub word_value_part : (seg offset : ℕ) → seg ≤ 255 → IsOffset offset
    → IsPart (IsWithin 0 (2 ^ 32 - 1)) (one_field Field) IsWord word_fields (one_field Field seg ++ one_field Field offset)
word_value_part seg offset seg_is offset_is = record {
  make = λ n. record { at = seg * 2 ^ 30 + offset; value = n };
  behind = λ n. [];
  limits = λ n is. (word_is seg offset n seg_is offset_is (let high = is.high in omega arith)).limits;
  fields_are = λ n is. (word_is seg offset n seg_is offset_is (let high = is.high in omega arith)).fields;
  only = λ y r s is e. record {
    thing = y.value;
    rest = s;
    begins = record {
      limits = record { low = omega arith; high = let below = is.value in omega arith };
      bytes_are = sym (goes_on (one_field Field (y.at / 2 ^ 30) ++ one_field Field (y.at % 2 ^ 30)) (one_field Field seg ++ one_field Field offset) (one_field Field y.value) [] r s
          (length_number (y.at / 2 ^ 30), (length_number (y.at % 2 ^ 30), tt)) (length_number seg, (length_number offset, tt)) refl e).rests;
    };
  };
}

-- ---- boards

pub segments_once : Once AreSegments segment_fields
segments_once x y r s x_is y_is e =
    let both = off (record { kind = Field; bytes = x }) (record { kind = Field; bytes = y }) [] [] r s (x_is.four ∙ sym y_is.four) e in
    (both.fronts, both.rests)

pub segments_of : (board : BoardText) → IsBoard board → AreSegments board.segs
segments_of board is = record { four = is.four; each = is.segs }

-- what stands before a board's code
abbrev pub before_code : List ℕ → ℕ → List ObjField
before_code segs count = record { kind = Field; bytes = segs } ∷ number_field Field count ∷ []

code_length_same : (m n : ℕ) → m ≤ 4096 → n ≤ 4096 → number_bytes m ≡ number_bytes n → m ≡ n
code_length_same m n m_is n_is e = same_number m n (omega arith) (omega arith) e

pub board_once : Once IsBoard board_fields
board_once x y r s x_is y_is e =
    let x_code = list_fields instr_fields x.code in
    let y_code = list_fields instr_fields y.code in
    let first = off (record { kind = Field; bytes = x.segs }) (record { kind = Field; bytes = y.segs })
    (number_field Field (length x.code) ∷ x_code) (number_field Field (length y.code) ∷ y_code) r s (x_is.four ∙ sym y_is.four) e in
    let second = off_number Field Field (length x.code) (length y.code) x_code y_code r s first.rests in
    let long = code_length_same (length x.code) (length y.code) x_is.few y_is.few second.fronts in
    let third = counted_once IsInstr instr_fields (length y.code) instr_once x.code y.code r s
    (record { as_many = long; each = x_is.code }) (record { as_many = refl; each = y_is.code }) second.rests in
    let segs = first.fronts in
    let code = third.0 in
    (λ i. record { segs = segs i; code = code i }, third.1)

no_code : All IsInstr []
no_code = All-nil IsInstr

pub board_segments_part : IsPart AreSegments segment_fields IsBoard board_fields []
board_segments_part = record {
  make = λ segs. record { segs = segs; code = [] };
  behind = λ segs. one_field Field 0;
  limits = λ segs is. record { four = is.four; segs = is.each; few = omega arith; code = no_code };
  fields_are = λ segs is. refl;
  only = λ y r s is e. record {
    thing = y.segs;
    rest = bytes_of (one_field Field (length y.code) ++ list_fields instr_fields y.code) ++ s;
    begins = record {
      limits = segments_of y is;
      bytes_are = sym e ∙ bytes_behind (segment_fields y.segs) (one_field Field (length y.code) ++ list_fields instr_fields y.code) s;
    };
  };
}

halts : ℕ → List Instr
halts n = replicate n Halt

pub board_length_part : (segs : List ℕ) → AreSegments segs → IsPart (IsWithin 0 4096) (one_field Field) IsBoard board_fields (segment_fields segs)
unfolding halts
board_length_part segs segs_are = record {
  make = λ n. record { segs = segs; code = halts n };
  behind = λ n. list_fields instr_fields (halts n);
  limits = λ n is. record {
    four = segs_are.four;
    segs = segs_are.each;
    few = let long = length-replicate n Halt in let high = is.high in omega arith;
    code = All-replicate IsInstr n Halt tt;
  };
  fields_are = λ n is. ap (λ m. before_code segs m ++ list_fields instr_fields (halts n)) (length-replicate n Halt);
  only = λ y r s is e. record {
    thing = length y.code;
    rest = bytes_of (list_fields instr_fields y.code) ++ s;
    begins = record {
      limits = record { low = omega arith; high = is.few };
      bytes_are = sym (goes_on (segment_fields y.segs) (segment_fields segs) (one_field Field (length y.code)) (list_fields instr_fields y.code) r s (is.four, tt) (segs_are.four, tt) refl e).rests;
    };
  };
}

pub board_code_part : (segs : List ℕ) (count : ℕ) → AreSegments segs → count ≤ 4096
    → IsPart (IsCounted IsInstr count) (list_fields instr_fields) IsBoard board_fields (before_code segs count)
board_code_part segs count segs_are few = record {
  make = λ code. record { segs = segs; code = code };
  behind = λ code. [];
  limits = λ code is. record { four = segs_are.four; segs = segs_are.each; few = let long = is.as_many in omega arith; code = is.each };
  fields_are = λ code is. ap (λ n. before_code segs n ++ list_fields instr_fields code) is.as_many ∙ ap (λ l. before_code segs count ++ l) (sym (append-nil (list_fields instr_fields code)));
  only = λ y r s is e.
      let y_code = list_fields instr_fields y.code in
      let first = off (record { kind = Field; bytes = y.segs }) (record { kind = Field; bytes = segs })
      (number_field Field (length y.code) ∷ y_code) (one_field Field count) s r (is.four ∙ sym segs_are.four) e in
      let second = off_number Field Field (length y.code) count y_code [] s r first.rests in
      record {
        thing = y.code;
        rest = s;
        begins = record {
          limits = record { as_many = code_length_same (length y.code) count is.few few second.fronts; each = is.code };
          bytes_are = sym second.rests;
        };
      };
}

-- a board is read
pub board_begins : (all rest segs : List ℕ) (count : ℕ) (code : List Instr) → AreSegments segs → count ≤ 4096 → IsCounted IsInstr count code
    → all ≡ bytes_of (before_code segs count ++ list_fields instr_fields code) ++ rest
    → Begins IsBoard board_fields all (record { segs = segs; code = code }) rest
board_begins all rest segs count code segs_are few code_are read = record {
  limits = record { four = segs_are.four; segs = segs_are.each; few = let long = code_are.as_many in omega arith; code = code_are.each };
  bytes_are = read ∙ ap (λ n. bytes_of (before_code segs n ++ list_fields instr_fields code) ++ rest) (sym code_are.as_many);
}
