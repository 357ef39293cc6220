-- The words of lines have no control bytes, so a line is one line.
use Rattle.std.proofs.Common.{◌≡◌, ◌∙◌, sym, ℕ, zero, suc, ◌+◌, ◌/◌, ◌%◌, ◌^◌, ◌<◌, ◌≤◌, ◌⊎◌, inl, inr, true, leb, List, [], ◌∷◌, ◌++◌, refl, ap, arith, append_assoc, codes}
use Rattle.std.specs.Char.{digit_char}
use Rattle.std.specs.Fmt.{decimal}
use Rattle.std.specs.List.{list_all}
use Rattle.std.proofs.lemmas.Bool.{and_from, cases_lt, le-leb, le-ltb, lt-ltb}
use Rattle.std.proofs.lemmas.Fmt.{decimal_by_steps}
use Rattle.std.proofs.lemmas.List.Folds.{list_all-append}
use Rattle.spur_flat.specs.declared.entry.Entry.{Entry}
use Rattle.spur_flat.specs.declared.entry.Entry.TheVariants.{Load, Store, Tas, Fault, Fill, Claim, WriteBack, Refresh, BlockFlush, Leave, PageOut, PageIn, SetRef, SetDirty, ClearRef}
use Rattle.spur_flat.specs.declared.access.AccessKind.{AccessKind}
use Rattle.spur_flat.specs.declared.access.FaultKind.{FaultKind}
use Rattle.spur_flat.specs.declared.entry.Layer.{Layer}
use Rattle.spur_snoop.specs.declared.Need.{Need}
use Rattle.spur_flat.specs.declared.access.AccessKind.TheVariants as access
use Rattle.spur_flat.specs.declared.access.FaultKind.TheVariants as fault
use Rattle.spur_flat.specs.declared.entry.Layer.TheVariants as layer
use Rattle.spur_snoop.specs.declared.Need.TheVariants as need
use Rattle.spur_trace.proofs.RangeFacts.{ranges}
use Rattle.spur_trace.specs.declared.head.TraceHead.{TraceHead}
use Rattle.spur_text.specs.Digits.{address_digits, hex_digits, word_digits}
use Rattle.spur_trace.specs.Formed.{IsHead}
use Rattle.spur_trace.proofs.PartFacts.{HasParts, parts_of, traced_more}
use Rattle.spur_trace.specs.Laws.{EachIsOneLine, IsOneLine}
use Rattle.spur_text.specs.Words.{access_word, fault_word}
use Rattle.spur_text.specs.Line.{line_of}
use Rattle.spur_trace.specs.Line.{entry_line, header_line, layer_word, need_word}

abbrev IsPrinted : List ℕ → Type 0
IsPrinted text = list_all (λ b. leb 32 b) text ≡ true

printed_two : (a b : List ℕ) → IsPrinted a → IsPrinted b → IsPrinted (a ++ b)
printed_two a b p q = list_all-append (λ c. leb 32 c) a b ∙ and_from (list_all (λ c. leb 32 c) a) (list_all (λ c. leb 32 c) b) p q

printed_more : (b : ℕ) (text : List ℕ) → 32 ≤ b → IsPrinted text → IsPrinted (b ∷ text)
printed_more b text high p = and_from (leb 32 b) (list_all (λ c. leb 32 c) text) (le-leb 32 b high) p

one_digit : (n : ℕ) → n < 10 → IsPrinted ((48 + n) ∷ [])
one_digit n small = printed_more (48 + n) [] (omega arith) refl

digit_more : (n : ℕ) (ds : List ℕ) → 10 ≤ n → IsPrinted ds → IsPrinted (ds ++ (48 + n % 10) ∷ [])
digit_more n ds large p = printed_two ds ((48 + n % 10) ∷ []) p (printed_more (48 + n % 10) [] (omega arith) refl)

printed_decimal : (n : ℕ) → n < 2 ^ 32 → IsPrinted (decimal n)
printed_decimal n small = decimal_by_steps (λ n ds. IsPrinted ds) one_digit digit_more n (omega arith)

char_high : (d : ℕ) → (d < 10) ⊎ (10 ≤ d) → 32 ≤ digit_char d
char_high d (inl low) = rw (lt-ltb d 10 low) (omega arith)
char_high d (inr high) = rw (le-ltb d 10 high) (omega arith)

printed_hex : (k n : ℕ) → IsPrinted (hex_digits k n)
printed_hex zero n = refl
printed_hex (suc k) n = printed_more (digit_char (n / 16 ^ k % 16)) (hex_digits k n) (char_high (n / 16 ^ k % 16) (cases_lt (n / 16 ^ k % 16) 10)) (printed_hex k n)

printed_address : (g : ℕ) → IsPrinted (address_digits g)
unfolding address_digits
printed_address g = printed_hex 10 g

printed_word : (v : ℕ) → IsPrinted (word_digits v)
unfolding word_digits
printed_word v = printed_hex 8 v

printed_fault : (kind : FaultKind) → IsPrinted (fault_word kind)
printed_fault fault.Align = refl
printed_fault fault.Unmapped = refl
printed_fault fault.Missing = refl
printed_fault fault.Leaving = refl
printed_fault fault.Protection = refl
printed_fault fault.Reference = refl
printed_fault fault.Dirty = refl

printed_access : (kind : AccessKind) → IsPrinted (access_word kind)
printed_access access.Load = refl
printed_access access.Store = refl
printed_access access.Tas = refl

printed_layer : (l : Layer) → IsPrinted (layer_word l)
printed_layer layer.RootBlock = refl
printed_layer layer.PteBlock = refl
printed_layer layer.UserBlock = refl

printed_need : (n : Need) → IsPrinted (need_word n)
printed_need need.Read = refl
printed_need need.Write = refl

-- ---- lines

last_line : (word : List ℕ) → IsPrinted word → IsOneLine (line_of (word ∷ []))
last_line word p = (word, refl, p)

more_line : (word next : List ℕ) (words : List (List ℕ)) → IsPrinted word → IsOneLine (line_of (next ∷ words)) → IsOneLine (line_of (word ∷ next ∷ words))
more_line word next words p tail =
    let front : List ℕ = tail.0 in
    let text : word ++ 32 ∷ line_of (next ∷ words) ≡ (word ++ 32 ∷ tail.0) ++ 10 ∷ [] =
    ap (λ (x : List ℕ). word ++ 32 ∷ x) tail.1 ∙ sym (append_assoc word (32 ∷ tail.0) (10 ∷ [])) in
    (word ++ 32 ∷ tail.0, text, printed_two word (32 ∷ tail.0) p (printed_more 32 tail.0 (omega arith) tail.2))

small : (b : ℕ) → b < 10000 → b < 2 ^ 32
small b few = omega arith

access_line : (verb : List ℕ) (b g v : ℕ) → IsPrinted verb → b < 10000 → IsOneLine (line_of (verb ∷ decimal b ∷ address_digits g ∷ word_digits v ∷ []))
access_line verb b g v p few =
    more_line verb (decimal b) (address_digits g ∷ word_digits v ∷ []) p (
    more_line (decimal b) (address_digits g) (word_digits v ∷ []) (printed_decimal b (small b few)) (
    more_line (address_digits g) (word_digits v) [] (printed_address g) (last_line (word_digits v) (printed_word v))))

place_line : (verb : List ℕ) (b g : ℕ) → IsPrinted verb → b < 10000 → IsOneLine (line_of (verb ∷ decimal b ∷ address_digits g ∷ []))
place_line verb b g p few =
    more_line verb (decimal b) (address_digits g ∷ []) p (
    more_line (decimal b) (address_digits g) [] (printed_decimal b (small b few)) (last_line (address_digits g) (printed_address g)))

words_line : (verb x y : List ℕ) (b g : ℕ) → IsPrinted verb → IsPrinted x → IsPrinted y → b < 10000
    → IsOneLine (line_of (verb ∷ decimal b ∷ x ∷ y ∷ address_digits g ∷ []))
words_line verb x y b g p q r few =
    more_line verb (decimal b) (x ∷ y ∷ address_digits g ∷ []) p (
    more_line (decimal b) x (y ∷ address_digits g ∷ []) (printed_decimal b (small b few)) (
    more_line x y (address_digits g ∷ []) q (more_line y (address_digits g) [] r (last_line (address_digits g) (printed_address g)))))

entry_one : (e : Entry) → HasParts 10000 e → IsOneLine (entry_line e)
unfolding entry_line
entry_one (Load b g v) f = access_line (codes "load") b g v refl f.0
entry_one (Store b g v) f = access_line (codes "store") b g v refl f.0
entry_one (Tas b g v) f = access_line (codes "tas") b g v refl f.0
entry_one (Fault b kind done g) f = words_line (codes "fault") (fault_word kind) (access_word done) b g refl (printed_fault kind) (printed_access done) f.0
entry_one (Fill b l n g) f = words_line (codes "fill") (layer_word l) (need_word n) b g refl (printed_layer l) (printed_need n) f.0
entry_one (Claim b g) f = place_line (codes "claim") b g refl f.0
entry_one (WriteBack b g) f = place_line (codes "writeback") b g refl f.0
entry_one (Refresh b g) f = place_line (codes "refresh") b g refl f.0
entry_one (BlockFlush b h g) f =
    more_line (codes "flush") (decimal b) (decimal h ∷ address_digits g ∷ []) refl (
    more_line (decimal b) (decimal h) (address_digits g ∷ []) (printed_decimal b (small b f.0)) (
    more_line (decimal h) (address_digits g) [] (printed_decimal h (small h f.1)) (last_line (address_digits g) (printed_address g))))
entry_one (Leave b g) f = place_line (codes "leave") b g refl f.0
entry_one (PageOut b g) f = place_line (codes "out") b g refl f.0
entry_one (PageIn b g frame) f =
    more_line (codes "in") (decimal b) (address_digits g ∷ decimal frame ∷ []) refl (
    more_line (decimal b) (address_digits g) (decimal frame ∷ []) (printed_decimal b (small b f.0)) (
    more_line (address_digits g) (decimal frame) [] (printed_address g) (last_line (decimal frame) (printed_decimal frame (omega (arith, f.2))))))
entry_one (SetRef b g) f = place_line (codes "setref") b g refl f.0
entry_one (SetDirty b g) f = place_line (codes "setdirty") b g refl f.0
entry_one (ClearRef b g) f = place_line (codes "clearref") b g refl f.0

head_one : (head : TraceHead) → IsHead head → IsOneLine (header_line head)
unfolding header_line
head_one head is =
    let boards = (ranges head is).few_boards in
    let frames = (ranges head is).few_frames in
    let lines = (ranges head is).few_lines in
    more_line (codes "%trace") (decimal 1) (decimal head.boards ∷ decimal head.frames ∷ decimal head.lines ∷ []) refl (
    more_line (decimal 1) (decimal head.boards) (decimal head.frames ∷ decimal head.lines ∷ []) (printed_decimal 1 (omega arith)) (
    more_line (decimal head.boards) (decimal head.frames) (decimal head.lines ∷ []) (printed_decimal head.boards (omega arith)) (
    more_line (decimal head.frames) (decimal head.lines) [] (printed_decimal head.frames (omega arith)) (
    last_line (decimal head.lines) (printed_decimal head.lines (omega (arith, lines)))))))

pub each_line : EachIsOneLine
each_line = (λ boards e few t. entry_one e (parts_of 10000 e (traced_more boards 10000 e few t)), head_one)
