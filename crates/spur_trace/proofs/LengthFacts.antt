-- The lengths of lines, and the room that is taken for them.
use Rattle.std.proofs.Common.{◌≡◌, ◌∙◌, ℕ, zero, suc, ◌+◌, ◌*◌, ◌<◌, ◌≤◌, List, [], ◌∷◌, ◌++◌, length, take, get_or, ap, arith, codes, length-append}
use Rattle.std.specs.Fmt.{decimal}
use Rattle.std.specs.List.{All, flat_map, sum_by}
use Rattle.std.proofs.lemmas.Fmt.{decimal_nonempty}
use Rattle.std.proofs.lemmas.Grind.{flat_map-append}
use Rattle.std.proofs.lemmas.List.{append-nil, take_more}
use Rattle.std.proofs.lemmas.List.Concat.{flat_map-cons}
use Rattle.std.proofs.lemmas.List.Sums.{sum_by-cons}
use Rattle.spur_flat.specs.declared.entry.Entry.{Entry}
use Rattle.spur_flat.specs.declared.entry.Entry.TheVariants.{Load, Store, Tas, Fault, Fill, Claim, WriteBack, Refresh, BlockFlush, Leave, PageOut, PageIn, SetRef, SetDirty, ClearRef}
use Rattle.spur_flat.specs.declared.access.AccessKind.{AccessKind}
use Rattle.spur_flat.specs.declared.access.FaultKind.{FaultKind}
use Rattle.spur_flat.specs.declared.entry.Layer.{Layer}
use Rattle.spur_snoop.specs.declared.Need.{Need}
use Rattle.spur_flat.specs.declared.access.AccessKind.TheVariants as access
use Rattle.spur_flat.specs.declared.access.FaultKind.TheVariants as fault
use Rattle.spur_flat.specs.declared.entry.Layer.TheVariants as layer
use Rattle.spur_snoop.specs.declared.Need.TheVariants as need
use Rattle.spur_trace.proofs.RangeFacts.{ranges}
use Rattle.spur_trace.specs.declared.head.TraceHead.{TraceHead}
use Rattle.spur_text.specs.Digits.{address_digits, word_digits}
use Rattle.spur_flat.specs.WellFormed.{IsWellFormed}
use Rattle.spur_trace.specs.Formed.{IsHead}
use Rattle.spur_trace.proofs.PartFacts.{all_12, first_of, others_of}
use Rattle.spur_text.specs.Words.{access_word, fault_word}
use Rattle.spur_text.specs.Line.{line_of}
use Rattle.spur_text.proofs.LineFacts.{five_words, four_words, three_words}
use Rattle.spur_trace.specs.Line.{entry_line, header_line, layer_word, need_word, trace_text}
use Rattle.spur_trace.specs.Room.{line_room, trace_room}
use Rattle.spur_trace.specs.Laws.{RoomIsEnough}
use Rattle.spur_text.proofs.TextFacts.{one_digit, address_length, four_digits, two_digits, word_length}

pub record IsBetween (least most n : ℕ) : Type 0 where
  pub low : least ≤ n
  pub high : n ≤ most

board_length : (b : ℕ) → b < 12 → IsBetween 1 2 (length (decimal b))
board_length b few = record { low = decimal_nonempty b (omega arith); high = two_digits b (omega arith) }

number_length : (n : ℕ) → n < 10000 → IsBetween 1 4 (length (decimal n))
number_length n few = record { low = decimal_nonempty n (omega arith); high = four_digits n few }

fault_length : (kind : FaultKind) → IsBetween 5 10 (length (fault_word kind))
fault_length fault.Align = record { low = omega arith; high = omega arith }
fault_length fault.Unmapped = record { low = omega arith; high = omega arith }
fault_length fault.Missing = record { low = omega arith; high = omega arith }
fault_length fault.Leaving = record { low = omega arith; high = omega arith }
fault_length fault.Protection = record { low = omega arith; high = omega arith }
fault_length fault.Reference = record { low = omega arith; high = omega arith }
fault_length fault.Dirty = record { low = omega arith; high = omega arith }

access_length : (kind : AccessKind) → IsBetween 3 5 (length (access_word kind))
access_length access.Load = record { low = omega arith; high = omega arith }
access_length access.Store = record { low = omega arith; high = omega arith }
access_length access.Tas = record { low = omega arith; high = omega arith }

layer_length : (l : Layer) → IsBetween 3 4 (length (layer_word l))
layer_length layer.RootBlock = record { low = omega arith; high = omega arith }
layer_length layer.PteBlock = record { low = omega arith; high = omega arith }
layer_length layer.UserBlock = record { low = omega arith; high = omega arith }

need_length : (n : Need) → IsBetween 4 5 (length (need_word n))
need_length need.Read = record { low = omega arith; high = omega arith }
need_length need.Write = record { low = omega arith; high = omega arith }

access_fits : (verb : List ℕ) (b g v : ℕ) → 3 ≤ length verb → length verb ≤ 5 → b < 12
    → IsBetween 26 30 (length (line_of (verb ∷ decimal b ∷ address_digits g ∷ word_digits v ∷ [])))
access_fits verb b g v low high few =
    let board = board_length b few in
    let whole = four_words verb (decimal b) (address_digits g) (word_digits v) in
    record {
      low = omega (arith, whole, board.low, address_length g, word_length v);
      high = omega (arith, whole, board.high, address_length g, word_length v);
    }

place_fits : (verb : List ℕ) (b g : ℕ) → 3 ≤ length verb → length verb ≤ 9 → b < 12
    → IsBetween 17 24 (length (line_of (verb ∷ decimal b ∷ address_digits g ∷ [])))
place_fits verb b g low high few =
    let board = board_length b few in
    let whole = three_words verb (decimal b) (address_digits g) in
    record {
      low = omega (arith, whole, board.low, address_length g);
      high = omega (arith, whole, board.high, address_length g);
    }

from_access : (n : ℕ) → IsBetween 26 30 n → (17 ≤ n) × (n ≤ 30) × (30 ≤ 2 * n)
from_access n h = (omega (arith, h.low), h.high, omega (arith, h.low))

from_place : (n : ℕ) → IsBetween 17 24 n → (17 ≤ n) × (n ≤ 24) × (24 ≤ 2 * n)
from_place n h = (h.low, h.high, omega (arith, h.low))

-- a line fits its room, which is at most twice its length
abbrev pub IsFit : Entry → Type 0
IsFit e = (17 ≤ length (entry_line e)) × (length (entry_line e) ≤ line_room e) × (line_room e ≤ 2 * length (entry_line e))

pub line_fits : (e : Entry) → IsWellFormed 12 e → IsFit e
unfolding entry_line
line_fits (Load b g v) f = from_access _ (access_fits (codes "load") b g v (omega arith) (omega arith) f.formed.there)
line_fits (Store b g v) f = from_access _ (access_fits (codes "store") b g v (omega arith) (omega arith) f.formed.there)
line_fits (Tas b g v) f = from_access _ (access_fits (codes "tas") b g v (omega arith) (omega arith) f.formed.there)
line_fits (Fault b kind done g) f =
    let whole = five_words (codes "fault") (decimal b) (fault_word kind) (access_word done) (address_digits g) in
    let board = board_length b f.formed.there in
    let first = fault_length kind in
    let second = access_length done in (
      omega (arith, whole, board.low, first.low, second.low, address_length g),
      omega (arith, whole, board.high, first.high, second.high, address_length g),
      omega (arith, whole, board.low, first.low, second.low, address_length g),
    )
line_fits (Fill b l n g) f =
    let whole = five_words (codes "fill") (decimal b) (layer_word l) (need_word n) (address_digits g) in
    let board = board_length b f.formed.there in
    let first = layer_length l in
    let second = need_length n in (
      omega (arith, whole, board.low, first.low, second.low, address_length g),
      omega (arith, whole, board.high, first.high, second.high, address_length g),
      omega (arith, whole, board.low, first.low, second.low, address_length g),
    )
line_fits (Claim b g) f = from_place _ (place_fits (codes "claim") b g (omega arith) (omega arith) f.formed.there)
line_fits (WriteBack b g) f = from_place _ (place_fits (codes "writeback") b g (omega arith) (omega arith) f.formed.there)
line_fits (Refresh b g) f = from_place _ (place_fits (codes "refresh") b g (omega arith) (omega arith) f.formed.there)
line_fits (BlockFlush b h g) f =
    let whole = four_words (codes "flush") (decimal b) (decimal h) (address_digits g) in
    let board = board_length b f.formed.there.0 in
    let holder = board_length h f.formed.there.1 in (
      omega (arith, whole, board.low, holder.low, address_length g),
      omega (arith, whole, board.high, holder.high, address_length g),
      omega (arith, whole, board.low, holder.low, address_length g),
    )
line_fits (Leave b g) f = from_place _ (place_fits (codes "leave") b g (omega arith) (omega arith) f.formed.there)
line_fits (PageOut b g) f = from_place _ (place_fits (codes "out") b g (omega arith) (omega arith) f.formed.there)
line_fits (PageIn b g frame) f =
    let whole = four_words (codes "in") (decimal b) (address_digits g) (decimal frame) in
    let board = board_length b f.formed.there in
    let number = number_length frame (let small = f.frame in omega arith) in (
      omega (arith, whole, board.low, number.low, address_length g),
      omega (arith, whole, board.high, number.high, address_length g),
      omega (arith, whole, board.low, number.low, address_length g),
    )
line_fits (SetRef b g) f = from_place _ (place_fits (codes "setref") b g (omega arith) (omega arith) f.formed.there)
line_fits (SetDirty b g) f = from_place _ (place_fits (codes "setdirty") b g (omega arith) (omega arith) f.formed.there)
line_fits (ClearRef b g) f = from_place _ (place_fits (codes "clearref") b g (omega arith) (omega arith) f.formed.there)

pub header_fits : (head : TraceHead) → IsHead head → IsBetween 15 22 (length (header_line head))
unfolding header_line
header_fits head is =
    let whole = five_words (codes "%trace") (decimal 1) (decimal head.boards) (decimal head.frames) (decimal head.lines) in
    let boards = number_length head.boards (omega (arith, (ranges head is).few_boards)) in
    let few = two_digits head.boards (omega (arith, (ranges head is).few_boards)) in
    let frames = number_length head.frames (omega (arith, (ranges head is).few_frames)) in
    let lines = number_length head.lines (omega (arith, (ranges head is).few_lines)) in
    let version : length (decimal 1) ≡ 1 = ap (λ (x : List ℕ). length x) (one_digit 1 (omega arith)) in
    record {
      low = omega (arith, whole, version, boards.low, frames.low, lines.low);
      high = omega (arith, whole, version, few, frames.high, lines.high);
    }

-- ---- all entries

pub one_line : (e : Entry) → flat_map entry_line (e ∷ []) ≡ entry_line e
one_line e = flat_map-cons entry_line e [] ∙ append-nil (entry_line e)

-- the lines of the entries up to one are those before it, and its own
pub lines_more : (es : List Entry) (i : ℕ) (d : Entry) → i < length es
    → flat_map entry_line (take (i + 1) es) ≡ flat_map entry_line (take i es) ++ entry_line (get_or es i d)
lines_more es i d lt =
    ap (flat_map entry_line) (take_more es i d lt) ∙ (flat_map-append entry_line (take i es) (get_or es i d ∷ [])
    ∙ ap (λ (x : List ℕ). flat_map entry_line (take i es) ++ x) (one_line (get_or es i d)))

-- room is left for each further line
pub room_left : (es : List Entry) (i : ℕ) (d : Entry) → All (IsWellFormed 12) es → i < length es
    → length (flat_map entry_line (take i es)) + line_room (get_or es i d) ≤ sum_by line_room es
room_left [] i d all lt = absurd (omega arith)
room_left (e ∷ es) zero d all lt = let sum = sum_by-cons line_room e es in omega (arith, sum)
room_left (e ∷ es) (suc i) d all lt =
    let sum = sum_by-cons line_room e es in
    let fit = line_fits e (first_of (IsWellFormed 12) e es all) in
    let tail = room_left es i d (others_of (IsWellFormed 12) e es all) (omega arith) in
    let whole = ap (λ (x : List ℕ). length x) (flat_map-cons entry_line e (take i es)) ∙ length-append (entry_line e) (flat_map entry_line (take i es)) in
    omega (arith, sum, fit.1, tail, whole)

-- the room of all is at most twice their length
pub half_used : (es : List Entry) → All (IsWellFormed 12) es → sum_by line_room es ≤ 2 * length (flat_map entry_line es)
half_used [] all = omega arith
half_used (e ∷ es) all =
    let sum = sum_by-cons line_room e es in
    let fit = line_fits e (first_of (IsWellFormed 12) e es all) in
    let tail = half_used es (others_of (IsWellFormed 12) e es all) in
    let whole = ap (λ (x : List ℕ). length x) (flat_map-cons entry_line e es) ∙ length-append (entry_line e) (flat_map entry_line es) in
    omega (arith, sum, fit.2, tail, whole)

pub text_half : (head : TraceHead) (es : List Entry) → IsHead head → All (IsWellFormed head.boards) es → trace_room es ≤ 2 * length (trace_text head es)
text_half head es is all =
    let lines = half_used es (all_12 head.boards es (ranges head is).few_boards all) in
    let first = header_fits head is in
    let whole = length-append (header_line head) (flat_map entry_line es) in
    omega (arith, lines, first.low, whole)

-- all lines fit
lines_fit : (es : List Entry) → All (IsWellFormed 12) es → length (flat_map entry_line es) ≤ sum_by line_room es
lines_fit [] all = omega arith
lines_fit (e ∷ es) all =
    let sum = sum_by-cons line_room e es in
    let fit = line_fits e (first_of (IsWellFormed 12) e es all) in
    let tail = lines_fit es (others_of (IsWellFormed 12) e es all) in
    let whole = ap (λ (x : List ℕ). length x) (flat_map-cons entry_line e es) ∙ length-append (entry_line e) (flat_map entry_line es) in
    omega (arith, sum, fit.1, tail, whole)

text_fits : (head : TraceHead) (es : List Entry) → IsHead head → All (IsWellFormed head.boards) es → length (trace_text head es) ≤ trace_room es
text_fits head es is all =
    let lines = lines_fit es (all_12 head.boards es (ranges head is).few_boards all) in
    let first = header_fits head is in
    let whole = length-append (header_line head) (flat_map entry_line es) in
    omega (arith, lines, first.high, whole)

pub room_is_enough : RoomIsEnough
room_is_enough = λ head es is all. (text_fits head es is all, text_half head es is all)
