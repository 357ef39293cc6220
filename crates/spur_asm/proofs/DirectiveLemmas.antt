-- What stands behind the name of each directive, both ways: fields that are spelled are read, and what is read is spelled.
use Rattle.std.proofs.Common.{◌≡◌, ℕ, ◌+◌, ◌*◌, ◌^◌, List, [], ◌∷◌, Ok, ℤ, pos, negsuc}
use Rattle.spur_addr.specs.declared.page_entry.Protection.{Protection}
use Rattle.spur_object.specs.declared.unit.PageText.{PageText}
use Rattle.spur_object.specs.declared.unit.WordText.{WordText}
use Rattle.spur_asm.specs.Token.{Name, Number}
use Rattle.spur_asm.specs.Item.{protection_text, natural, IsPageItem, IsWordItem, IsSegItem}
use Rattle.spur_asm.specs.Section.{low_word}
use Rattle.spur_asm.specs.Lexeme.{Lexeme}
use Rattle.spur_asm.specs.Statements.{page_text_at, word_text_at, seg_at}
use Rattle.spur_asm.proofs.Levels.{AreTokens}
use Rattle.spur_asm.proofs.FieldLemmas.{end_read, end_is, protection_field, protection_then, number_field, number_then, natural_field, natural_then, offset_field, offset_then}

-- ---- `S P W`

abbrev pub page_text : ℕ → ℕ → Protection → PageText
page_text segment place prot = record { page = segment * 2 ^ 18 + place; prot = prot }

pub record SpellPage (l0 : List Lexeme) (page : PageText) : Type 0 where
  pub segment : ℕ
  pub place : ℕ
  pub prot : Protection
  pub in_range : IsPageItem segment place
  pub tokens : AreTokens l0 (natural segment ∷ natural place ∷ Name (protection_text prot) ∷ [])
  pub is : page_text segment place prot ≡ page

pub page_read : (l0 : List Lexeme) (segment place : ℕ) (prot : Protection) → IsPageItem segment place
    → AreTokens l0 (natural segment ∷ natural place ∷ Name (protection_text prot) ∷ []) → page_text_at l0 ≡ Ok (page_text segment place prot)
unfolding page_text_at
page_read l0 segment place prot range t0 =
    natural_field 255 segment _ l0 _ _ range.segment_fits t0 (λ l1 t1.
    natural_field 262143 place _ l1 _ _ range.place_fits t1 (λ l2 t2.
    protection_field prot _ l2 _ _ t2 (λ l3 t3.
    end_read (page_text segment place prot) l3 t3)))

pub page_is : (l0 : List Lexeme) (page : PageText) → page_text_at l0 ≡ Ok page → SpellPage l0 page
unfolding page_text_at
page_is l0 page e =
    let P : Type 0 = SpellPage l0 page in
    natural_then 255 l0 _ _ e P (λ segment l1 segment_fits t0 e1.
    natural_then 262143 l1 _ _ e1 P (λ place l2 place_fits t1 e2.
    protection_then l2 _ _ e2 P (λ prot l3 t2 e3.
    let end = end_is (page_text segment place prot) page l3 e3 in
    record {
      segment = segment;
      place = place;
      prot = prot;
      in_range = record { segment_fits = segment_fits; place_fits = place_fits };
      tokens = t0 _ (t1 _ (t2 _ end.0));
      is = end.1;
    })))

-- ---- `S O V`

abbrev pub word_text : ℕ → ℕ → ℤ → WordText
word_text segment offset value = record { at = segment * 2 ^ 30 + offset; value = low_word value }

pub record SpellWord (l0 : List Lexeme) (word : WordText) : Type 0 where
  pub segment : ℕ
  pub offset : ℕ
  pub value : ℤ
  pub in_range : IsWordItem segment offset value
  pub tokens : AreTokens l0 (natural segment ∷ natural offset ∷ Number value ∷ [])
  pub is : word_text segment offset value ≡ word

pub word_read : (l0 : List Lexeme) (segment offset : ℕ) (value : ℤ) → IsWordItem segment offset value
    → AreTokens l0 (natural segment ∷ natural offset ∷ Number value ∷ []) → word_text_at l0 ≡ Ok (word_text segment offset value)
unfolding word_text_at
word_read l0 segment offset value range t0 =
    natural_field 255 segment _ l0 _ _ range.segment_fits t0 (λ l1 t1.
    offset_field offset _ l1 _ _ range.offset_fits range.aligned t1 (λ l2 t2.
    number_field (negsuc 2147483647) (pos 4294967295) value _ l2 _ _ range.least range.most t2 (λ l3 t3.
    end_read (word_text segment offset value) l3 t3)))

pub word_is : (l0 : List Lexeme) (word : WordText) → word_text_at l0 ≡ Ok word → SpellWord l0 word
unfolding word_text_at
word_is l0 word e =
    let P : Type 0 = SpellWord l0 word in
    natural_then 255 l0 _ _ e P (λ segment l1 segment_fits t0 e1.
    offset_then l1 _ _ e1 P (λ offset l2 offset_fits aligned t1 e2.
    number_then (negsuc 2147483647) (pos 4294967295) l2 _ _ e2 P (λ value l3 least most t2 e3.
    let end = end_is (word_text segment offset value) word l3 e3 in
    record {
      segment = segment;
      offset = offset;
      value = value;
      in_range = record { segment_fits = segment_fits; offset_fits = offset_fits; aligned = aligned; least = least; most = most };
      tokens = t0 _ (t1 _ (t2 _ end.0));
      is = end.1;
    })))

-- ---- `A B C D`

pub record SpellSeg (l0 : List Lexeme) (segs : List ℕ) : Type 0 where
  pub first : ℕ
  pub second : ℕ
  pub third : ℕ
  pub fourth : ℕ
  pub in_range : IsSegItem first second third fourth
  pub tokens : AreTokens l0 (natural first ∷ natural second ∷ natural third ∷ natural fourth ∷ [])
  pub is : first ∷ second ∷ third ∷ fourth ∷ [] ≡ segs

pub seg_read : (l0 : List Lexeme) (a b c d : ℕ) → IsSegItem a b c d → AreTokens l0 (natural a ∷ natural b ∷ natural c ∷ natural d ∷ []) → seg_at l0 ≡ Ok (a ∷ b ∷ c ∷ d ∷ [])
unfolding seg_at
seg_read l0 a b c d range t0 =
    natural_field 255 a _ l0 _ _ range.first_fits t0 (λ l1 t1.
    natural_field 255 b _ l1 _ _ range.second_fits t1 (λ l2 t2.
    natural_field 255 c _ l2 _ _ range.third_fits t2 (λ l3 t3.
    natural_field 255 d _ l3 _ _ range.fourth_fits t3 (λ l4 t4.
    end_read (a ∷ b ∷ c ∷ d ∷ []) l4 t4))))

pub seg_is : (l0 : List Lexeme) (segs : List ℕ) → seg_at l0 ≡ Ok segs → SpellSeg l0 segs
unfolding seg_at
seg_is l0 segs e =
    let P : Type 0 = SpellSeg l0 segs in
    natural_then 255 l0 _ _ e P (λ a l1 first_fits t0 e1.
    natural_then 255 l1 _ _ e1 P (λ b l2 second_fits t1 e2.
    natural_then 255 l2 _ _ e2 P (λ c l3 third_fits t2 e3.
    natural_then 255 l3 _ _ e3 P (λ d l4 fourth_fits t3 e4.
    let end = end_is (a ∷ b ∷ c ∷ d ∷ []) segs l4 e4 in
    record {
      first = a;
      second = b;
      third = c;
      fourth = d;
      in_range = record { first_fits = first_fits; second_fits = second_fits; third_fits = third_fits; fourth_fits = fourth_fits };
      tokens = t0 _ (t1 _ (t2 _ (t3 _ end.0)));
      is = end.1;
    }))))
