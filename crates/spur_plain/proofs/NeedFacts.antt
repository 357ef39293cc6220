-- A page that is not clean goes out.
use Rattle.std.proofs.Common.{◌≡◌, ◌∙◌, ℕ, ◌+◌, ◌*◌, ◌/◌, ◌%◌, ◌^◌, ◌<◌, true, false, Option, Some, None, if◌then◌else◌, refl, sym, ap, arith, List, [], ◌∷◌, length, slice_index, slice_set}
use Rattle.std.specs.Prelude.{replicate}
use Rattle.std.proofs.lemmas.List.{get_or-replicate, length-replicate, get_or-set_same, length-set}
use Rattle.spur_addr.specs.PageEntry.{is_valid, number_of}
use Rattle.spur_flat.specs.declared.flat.Flat.{Flat}
use Rattle.spur_flat.specs.declared.access.AccessKind.TheVariants as access
use Rattle.spur_flat.specs.declared.entry.Entry.TheVariants.{PageOut}
use Rattle.spur_flat.specs.Access.{may}
use Rattle.spur_flat.specs.Table.{place_in, walk_of}
use Rattle.spur_flat.specs.Validity.{IsValidFlat}
use Rattle.spur_flat.specs.Pager.{gone_out, may_go_out, with_entry, or_zero, word_of}
use Rattle.spur_flat.specs.History.{on, IsAllowed}
use Rattle.spur_flat.proofs.OnePage.{AreOnePage, MayStand, one-page-is-valid, one-page-words}
use Rattle.spur_flat.proofs.PageWordFacts.{page_word}
use Rattle.spur_plain.specs.PlainMemory.{PlainMemory, plain_word}
use Rattle.spur_plain.specs.Virtual.{virtual, words_under}
use Rattle.spur_plain.specs.Needs.{CleanPagesAreNeeded}
use Rattle.spur_plain.proofs.AnswerFacts.{word-is-plain}
use Rattle.spur_plain.proofs.PageFacts.{placed}

-- page 0 stands in frame 65, valid, leaving, read-only and not dirty, with 41 in word 16; its slot has zeros
abbrev entry : ℕ
entry = 266313

zeros : List ℕ
zeros = replicate 67584 0

words : List ℕ
words = slice_set (slice_set (slice_set zeros 0 262167) 65536 entry) 66576 41

slot : List ℕ
slot = replicate 1024 0

abbrev F : Flat
F = record { words = words; swap = slot; pages = 0 ∷ []; tables = 1; frames = 1 }

stands : MayStand entry
stands = record {
  readable = refl;
  stands = record { one = refl; slot = λ h. let no : false ≡ true = h in cc; leaving = λ h. refl };
  frame = λ h. refl;
}

zeros_long : length zeros ≡ 67584
unfolding zeros
zeros_long = length-replicate {A = ℕ} 67584 0

zeros_are : (k : ℕ) → k < 67584 → slice_index zeros k ≡ 0
unfolding zeros
zeros_are k below = get_or-replicate 67584 k 0 0 below

is_one : AreOnePage words entry
unfolding words
is_one = one-page-words zeros entry zeros_long zeros_are

slot_long : length slot ≡ 1024
unfolding slot
slot_long = length-replicate {A = ℕ} 1024 0

slot_zero : slice_index slot 16 ≡ 0
unfolding slot
slot_zero = get_or-replicate 1024 16 0 0 (omega arith)

data_is : slice_index words 66576 ≡ 41
unfolding words
data_is =
    let one : length (slice_set zeros 0 262167) ≡ 67584 = length-set zeros 0 262167 ∙ zeros_long in
    let two : length (slice_set (slice_set zeros 0 262167) 65536 entry) ≡ 67584 = length-set (slice_set zeros 0 262167) 65536 entry ∙ one in
    get_or-set_same (slice_set (slice_set zeros 0 262167) 65536 entry) 66576 41 0 (omega arith)

valid : IsValidFlat F
valid = one-page-is-valid words slot entry is_one slot_long stands

walked : (g : ℕ) → g / 2 ^ 22 ≡ 0 → g / 2 ^ 12 % 1024 ≡ 0 → walk_of F g ≡ Some entry
walked g first low =
    ap (λ (r : ℕ). if is_valid (slice_index words r) then Some (slice_index words (number_of (slice_index words r) * 1024 + g / 2 ^ 12 % 1024)) else None) first
    ∙ ap (λ (root : ℕ). if is_valid root then Some (slice_index words (number_of root * 1024 + g / 2 ^ 12 % 1024)) else None) is_one.root
    ∙ ap (λ (k : ℕ). Some (slice_index words (65536 + k))) low
    ∙ ap (λ (e : ℕ). Some e) is_one.entry_is

word_is : word_of F 0 ≡ entry
word_is = ap or_zero (walked 0 refl refl)

allowed : IsAllowed F (PageOut 0 0)
allowed = record { declared = refl; entry = ap may_go_out word_is }

-- the word of address 64 is 41 before, and 0 after
before_is : plain_word (virtual F) 64 ≡ 41
before_is =
    sym (word-is-plain F access.Load 64 valid (omega arith) (ap (λ (o : Option ℕ). may o access.Load 64 None) (walked 64 refl refl)))
    ∙ ap (λ (o : Option ℕ). slice_index words (place_in o 64)) (walked 64 refl refl) ∙ data_is

abbrev G : Flat
G = with_entry F 0 40

gone : on F (PageOut 0 0) ≡ G
gone = ap (gone_out F 0) word_is

after_is : plain_word (virtual G) 64 ≡ 0
after_is =
    ap (λ (e : ℕ). slice_index (words_under G 0 e) 16) ((placed F 0 40 valid (omega arith) refl).here 0 refl)
    ∙ page_word slot 0 16 (omega arith) ∙ slot_zero

differ_by : (n k : ℕ) → n ≡ 0 → k ≡ 41 → n ≡ k → ⊥
differ_by n k zero more same = omega arith

pub clean-pages-are-needed : CleanPagesAreNeeded
clean-pages-are-needed = record {
  flat = F;
  valid = valid;
  board = 0;
  at = 0;
  allowed = allowed;
  lost = λ (same : virtual (on F (PageOut 0 0)) ≡ virtual F).
      differ_by (plain_word (virtual G) 64) (plain_word (virtual F) 64) after_is before_is
      (ap (λ (H : Flat). plain_word (virtual H) 64) (sym gone) ∙ ap (λ (M : PlainMemory). plain_word M 64) same);
}
