-- The digits of the entries that the code makes, and that they are readable.
use Rattle.std.proofs.Common.{◌≡◌, ◌≢◌, ℕ, ◌+◌, ◌-◌, ◌*◌, ◌%◌, ◌^◌, ◌<◌, ◌≤◌, ◌⊎◌, ◌==◌, ◌&&◌, not, IsTrue, Bool, true, false, Ok, Err, refl, sym, ap, ◌∙◌, arith, if◌then◌else◌, subst}
use Rattle.std.specs.Int.{bit_at}
use Rattle.std.specs.Int.RustNames.{bit_and, bit_or}
use Rattle.std.proofs.lemmas.Bool.Decides.{nat_tests}
use Rattle.std.proofs.lemmas.Grind.{or_after_shift}
use Rattle.spur_addr.specs.PageEntry.{with_bit, field, is_dirty, is_leaving, is_on_swap, is_readable, is_referenced, is_valid, number_of, protection_number, protection_of, read_of, resident_of, swapped_of}
use Rattle.spur_addr.specs.declared.page_entry.Protection.{Protection}
use Rattle.spur_addr.specs.declared.page_entry.Protection.TheVariants.{Nothing, ReadOnly, ReadWrite}
use Rattle.spur_addr.specs.declared.page_entry.PteFault.TheVariants.{Reserved}
use Rattle.spur_addr.proofs.BitFacts.{readable-with, set_bit}

-- a readable word is read as itself
pub read_of-readable : (word : ℕ) → IsTrue (is_readable word) → read_of word ≡ Ok word
read_of-readable word readable = ap (λ (b : Bool). if b then Ok word else Err (Reserved word)) readable

-- what a set of flags makes of a word, one of whose bits is set or cleared
pub changed_word : (n k m v : ℕ) (to : Bool) → n < 2 ^ 32 → k < 32 → m ≡ (if to then bit_or n (2 ^ k) else bit_and n (2 ^ 32 - 1 - 2 ^ k)) → n ≡ v → m ≡ with_bit v k to
changed_word n k m v to small within changed same = changed ∙ set_bit n k to small within ∙ ap (λ (w : ℕ). with_bit w k to) same

-- such a word stays readable, where the bit is a flag that may be set
pub changed_readable : (n k m : ℕ) (to : Bool) → n < 2 ^ 32 → (k < 3) ⊎ ((5 ≤ k) × (k < 7)) → k < 32 → m ≡ (if to then bit_or n (2 ^ k) else bit_and n (2 ^ 32 - 1 - 2 ^ k)) → IsTrue (is_readable n) → IsTrue (is_readable m)
changed_readable n k m to small free within changed readable =
    let P : Bool → Type 0 = λ b. IsTrue b in
    subst P (sym (ap is_readable (changed_word n k m n to small within changed refl) ∙ readable-with n k to free)) readable

-- a protection's number has two bits and is not 3
pub protection_number-lt : (p : Protection) → protection_number p < 3
protection_number-lt Nothing = omega arith
protection_number-lt ReadOnly = omega arith
protection_number-lt ReadWrite = omega arith

-- a word whose digit is a protection's number has that protection
protection_of-digit : (word : ℕ) (p : Protection) → field word 3 2 ≡ protection_number p → protection_of word ≡ p
protection_of-digit word Nothing digit = ap (λ (m : ℕ). if m == 0 then Nothing else if m == 1 then ReadOnly else ReadWrite) digit
protection_of-digit word ReadOnly digit = ap (λ (m : ℕ). if m == 0 then Nothing else if m == 1 then ReadOnly else ReadWrite) digit
protection_of-digit word ReadWrite digit = ap (λ (m : ℕ). if m == 0 then Nothing else if m == 1 then ReadOnly else ReadWrite) digit

-- a digit, tested
is_one : (b c : ℕ) → b ≡ c → (b == 1) ≡ (c == 1)
is_one b c same = ap (λ (m : ℕ). m == 1) same

-- a word whose reserved bits are 0 and whose protection is not 3
has_no_reserved : (a b : ℕ) → a ≡ 0 → b ≢ 3 → IsTrue ((a == 0) && not (b == 3))
has_no_reserved a b zero_a other_b = grind (arith, nat_tests)

-- ---- the entry of a page that has just come into a frame

pub is_valid-resident : (frame : ℕ) (p : Protection) → is_valid (resident_of frame p) ≡ true
is_valid-resident frame p =
    let s : protection_number p < 3 = protection_number-lt p in
    is_one (bit_at (resident_of frame p) 0) 1 (omega arith)

pub is_referenced-resident : (frame : ℕ) (p : Protection) → is_referenced (resident_of frame p) ≡ true
is_referenced-resident frame p =
    let s : protection_number p < 3 = protection_number-lt p in
    is_one (bit_at (resident_of frame p) 1) 1 (omega arith)

pub is_dirty-resident : (frame : ℕ) (p : Protection) → is_dirty (resident_of frame p) ≡ false
is_dirty-resident frame p =
    let s : protection_number p < 3 = protection_number-lt p in
    is_one (bit_at (resident_of frame p) 2) 0 (omega arith)

pub is_on_swap-resident : (frame : ℕ) (p : Protection) → is_on_swap (resident_of frame p) ≡ false
is_on_swap-resident frame p =
    let s : protection_number p < 3 = protection_number-lt p in
    is_one (bit_at (resident_of frame p) 5) 0 (omega arith)

pub is_leaving-resident : (frame : ℕ) (p : Protection) → is_leaving (resident_of frame p) ≡ false
is_leaving-resident frame p =
    let s : protection_number p < 3 = protection_number-lt p in
    is_one (bit_at (resident_of frame p) 6) 0 (omega arith)

pub protection_of-resident : (frame : ℕ) (p : Protection) → protection_of (resident_of frame p) ≡ p
protection_of-resident frame p =
    let s : protection_number p < 3 = protection_number-lt p in
    protection_of-digit (resident_of frame p) p (omega arith)

pub number_of-resident : (frame : ℕ) (p : Protection) → number_of (resident_of frame p) ≡ frame
number_of-resident frame p = let s : protection_number p < 3 = protection_number-lt p in omega arith

pub resident_readable : (frame : ℕ) (p : Protection) → IsTrue (is_readable (resident_of frame p))
resident_readable frame p =
    let s : protection_number p < 3 = protection_number-lt p in
    has_no_reserved (field (resident_of frame p) 7 5) (field (resident_of frame p) 3 2) (omega arith) (λ e. omega arith)

pub resident_of-lt : (frame : ℕ) (p : Protection) → frame < 2 ^ 20 → resident_of frame p < 2 ^ 32
resident_of-lt frame p small = let s : protection_number p < 3 = protection_number-lt p in omega arith

-- ---- the entry of a page in a swap slot

pub is_valid-swapped : (slot : ℕ) (p : Protection) → is_valid (swapped_of slot p) ≡ false
is_valid-swapped slot p =
    let s : protection_number p < 3 = protection_number-lt p in
    is_one (bit_at (swapped_of slot p) 0) 0 (omega arith)

pub is_referenced-swapped : (slot : ℕ) (p : Protection) → is_referenced (swapped_of slot p) ≡ false
is_referenced-swapped slot p =
    let s : protection_number p < 3 = protection_number-lt p in
    is_one (bit_at (swapped_of slot p) 1) 0 (omega arith)

pub is_dirty-swapped : (slot : ℕ) (p : Protection) → is_dirty (swapped_of slot p) ≡ false
is_dirty-swapped slot p =
    let s : protection_number p < 3 = protection_number-lt p in
    is_one (bit_at (swapped_of slot p) 2) 0 (omega arith)

pub is_on_swap-swapped : (slot : ℕ) (p : Protection) → is_on_swap (swapped_of slot p) ≡ true
is_on_swap-swapped slot p =
    let s : protection_number p < 3 = protection_number-lt p in
    is_one (bit_at (swapped_of slot p) 5) 1 (omega arith)

pub is_leaving-swapped : (slot : ℕ) (p : Protection) → is_leaving (swapped_of slot p) ≡ false
is_leaving-swapped slot p =
    let s : protection_number p < 3 = protection_number-lt p in
    is_one (bit_at (swapped_of slot p) 6) 0 (omega arith)

pub protection_of-swapped : (slot : ℕ) (p : Protection) → protection_of (swapped_of slot p) ≡ p
protection_of-swapped slot p =
    let s : protection_number p < 3 = protection_number-lt p in
    protection_of-digit (swapped_of slot p) p (omega arith)

pub number_of-swapped : (slot : ℕ) (p : Protection) → number_of (swapped_of slot p) ≡ slot
number_of-swapped slot p = let s : protection_number p < 3 = protection_number-lt p in omega arith

pub swapped_readable : (slot : ℕ) (p : Protection) → IsTrue (is_readable (swapped_of slot p))
swapped_readable slot p =
    let s : protection_number p < 3 = protection_number-lt p in
    has_no_reserved (field (swapped_of slot p) 7 5) (field (swapped_of slot p) 3 2) (omega arith) (λ e. omega arith)

pub swapped_of-lt : (slot : ℕ) (p : Protection) → slot < 2 ^ 20 → swapped_of slot p < 2 ^ 32
swapped_of-lt slot p small = let s : protection_number p < 3 = protection_number-lt p in omega arith

-- ---- both, as the code makes them

-- the flags of a page in a frame, beside a protection
low_resident : (p : Protection) → bit_or 3 (protection_number p * 2 ^ 3) ≡ protection_number p * 2 ^ 3 + 2 ^ 1 + 2 ^ 0
low_resident Nothing = refl
low_resident ReadOnly = refl
low_resident ReadWrite = refl

-- the flag of a page on swap, beside a protection
low_swapped : (p : Protection) → bit_or 32 (protection_number p * 2 ^ 3) ≡ 2 ^ 5 + protection_number p * 2 ^ 3
low_swapped Nothing = refl
low_swapped ReadOnly = refl
low_swapped ReadWrite = refl

-- a number above, and low bits
above_low : (number low : ℕ) → number < 2 ^ 20 → low < 2 ^ 12 → bit_or (number * 2 ^ 12 % 2 ^ 32) low ≡ number * 2 ^ 12 + low
above_low number low small below = or_after_shift number (2 ^ 12) (2 ^ 32) low refl below (omega arith)

pub resident_word : (frame low : ℕ) (p : Protection) → frame < 2 ^ 20 → low ≡ bit_or 3 (protection_number p * 2 ^ 3) → bit_or (frame * 2 ^ 12 % 2 ^ 32) low ≡ resident_of frame p
resident_word frame low p small made =
    let s : protection_number p < 3 = protection_number-lt p in
    let e : low ≡ protection_number p * 2 ^ 3 + 2 ^ 1 + 2 ^ 0 = made ∙ low_resident p in
    above_low frame low small (omega arith) ∙ omega arith

pub swapped_word : (slot low : ℕ) (p : Protection) → slot < 2 ^ 20 → low ≡ bit_or 32 (protection_number p * 2 ^ 3) → bit_or (slot * 2 ^ 12 % 2 ^ 32) low ≡ swapped_of slot p
swapped_word slot low p small made =
    let s : protection_number p < 3 = protection_number-lt p in
    let e : low ≡ 2 ^ 5 + protection_number p * 2 ^ 3 = made ∙ low_swapped p in
    above_low slot low small (omega arith) ∙ omega arith

-- such words are readable
pub resident_word_readable : (frame low : ℕ) (p : Protection) → frame < 2 ^ 20 → low ≡ bit_or 3 (protection_number p * 2 ^ 3) → IsTrue (is_readable (bit_or (frame * 2 ^ 12 % 2 ^ 32) low))
resident_word_readable frame low p small made =
    let P : ℕ → Type 0 = λ (m : ℕ). IsTrue (is_readable m) in
    subst P (sym (resident_word frame low p small made)) (resident_readable frame p)

pub swapped_word_readable : (slot low : ℕ) (p : Protection) → slot < 2 ^ 20 → low ≡ bit_or 32 (protection_number p * 2 ^ 3) → IsTrue (is_readable (bit_or (slot * 2 ^ 12 % 2 ^ 32) low))
swapped_word_readable slot low p small made =
    let P : ℕ → Type 0 = λ (m : ℕ). IsTrue (is_readable m) in
    subst P (sym (swapped_word slot low p small made)) (swapped_readable slot p)
