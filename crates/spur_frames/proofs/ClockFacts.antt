-- The moving hand does what the list says, step by step and in all.
use Rattle.std.proofs.Common.{◌≡◌, ◌∙◌, ℕ, zero, suc, ◌+◌, ◌<◌, ◌≤◌, Bool, true, false, if◌then◌else◌, List, [], ◌∷◌, ◌++◌, length, take, drop, Option, Some, None, refl, sym, ap, subst, arith}
use Rattle.std.specs.Option.{option_or}
use Rattle.std.proofs.lemmas.Bool.{eq-eqb, ne_eqb}
use Rattle.std.proofs.lemmas.List.{length-append}
use Rattle.spur_frames.specs.Frames.{Frames, looked_at, hand_past, place_after, passed}
use Rattle.spur_frames.specs.Clock.{AreSet, Resident, Turn, IsCleared, before_clear, clearing_turn, clock, first_clear, first_of, frame_of, leaving_turn, leaves_of, turn_at, moving_hand, page_found, page_of_frame, pages_of, residents_from, round, set_count, without}
use Rattle.spur_frames.specs.Laws.{ClearLeaves, ClearedAreFew, FirstClearLeaves, FirstLeavesWhereAllAreSet, HandDoesTheList, HaveOwnPages, SetBitsAreFew, SetBitsFall, SetIsClearedAndPassed}
use Rattle.spur_frames.proofs.RoundFacts.{Found, found_first, found_none, passes, split}
use Rattle.spur_frames.proofs.DifferFacts.{Differ, IsNoPageOf, differ_round}

-- a clear bit at the end clears no more, and leaves last
before_last : (bits : ℕ → Bool) (rs : List Resident) (r : Resident) → bits r.page ≡ false → before_clear bits (rs ++ r ∷ []) ≡ before_clear bits rs
before_last bits [] r clear = ap (λ (b : Bool). if b then r.page ∷ [] else []) clear
before_last bits (x ∷ xs) r clear = ap (λ (cs : List ℕ). if bits x.page then x.page ∷ cs else []) (before_last bits xs r clear)

first_last_by : (b : Bool) (x r : Resident) (later more : Option Resident) → later ≡ option_or more (Some r) → (if b then later else Some x) ≡ option_or (if b then more else Some x) (Some r)
first_last_by true x r later more is = is
first_last_by false x r later more is = refl

first_last : (bits : ℕ → Bool) (rs : List Resident) (r : Resident) → bits r.page ≡ false → first_clear bits (rs ++ r ∷ []) ≡ option_or (first_clear bits rs) (Some r)
first_last bits [] r clear = ap (λ (b : Bool). if b then None else Some r) clear
first_last bits (x ∷ xs) r clear = first_last_by (bits x.page) x r (first_clear bits (xs ++ r ∷ [])) (first_clear bits xs) (first_last bits xs r clear)

count_last : (bits : ℕ → Bool) (rs : List Resident) (r : Resident) → bits r.page ≡ false → set_count bits (rs ++ r ∷ []) ≡ set_count bits rs
count_last bits [] r clear = ap (λ (b : Bool). if b then 1 else 0) clear
count_last bits (x ∷ xs) r clear = ap (λ (n : ℕ). if bits x.page then suc n else n) (count_last bits xs r clear)

-- the bit of a page that is none of theirs changes nothing
before_same : (bits later : ℕ → Bool) (page : ℕ) (rs : List Resident) → IsCleared bits page later → IsNoPageOf page rs → before_clear later rs ≡ before_clear bits rs
before_same bits later page [] h none = refl
before_same bits later page (x ∷ xs) h none =
    ap (λ (b : Bool). if b then x.page ∷ before_clear later xs else []) (h.others x.page none.0)
    ∙ ap (λ (cs : List ℕ). if bits x.page then x.page ∷ cs else []) (before_same bits later page xs h none.1)

first_same : (bits later : ℕ → Bool) (page : ℕ) (rs : List Resident) → IsCleared bits page later → IsNoPageOf page rs → first_clear later rs ≡ first_clear bits rs
first_same bits later page [] h none = refl
first_same bits later page (x ∷ xs) h none =
    ap (λ (b : Bool). if b then first_clear later xs else Some x) (h.others x.page none.0)
    ∙ ap (λ (o : Option Resident). if bits x.page then o else Some x) (first_same bits later page xs h none.1)

count_same : (bits later : ℕ → Bool) (page : ℕ) (rs : List Resident) → IsCleared bits page later → IsNoPageOf page rs → set_count later rs ≡ set_count bits rs
count_same bits later page [] h none = refl
count_same bits later page (x ∷ xs) h none =
    ap (λ (b : Bool). if b then suc (set_count later xs) else set_count later xs) (h.others x.page none.0)
    ∙ ap (λ (n : ℕ). if bits x.page then suc n else n) (count_same bits later page xs h none.1)

-- who leaves, where there is a first
abbrev picked : Option Resident → Resident → Resident
picked None r = r
picked (Some x) r = x

picks : (o : Option Resident) (r : Resident) → option_or o (Some r) ≡ Some (picked o r)
picks None r = refl
picks (Some x) r = refl

picks_again : (o : Option Resident) (r : Resident) (other : Option Resident) → option_or (option_or o (Some r)) other ≡ Some (picked o r)
picks_again None r other = refl
picks_again (Some x) r other = refl

-- the turn by a list
abbrev turn_of : Frames → (ℕ → Bool) → List Resident → Turn
turn_of frames bits rs = record { cleared = before_clear bits rs; leaves = leaves_of bits rs; hand = hand_past frames (frame_of (leaves_of bits rs)) }

turn_is : (frames : Frames) (bits : ℕ → Bool) (rs : List Resident) (cs : List ℕ) (x : Resident) → before_clear bits rs ≡ cs → leaves_of bits rs ≡ Some x
    → turn_of frames bits rs ≡ record { cleared = cs; leaves = Some x; hand = place_after frames x.frame }
turn_is frames bits rs cs x cleared leaves =
    ap (λ (c : List ℕ). record { cleared = c; leaves = leaves_of bits rs; hand = hand_past frames (frame_of (leaves_of bits rs)) }) cleared
    ∙ ap (λ (o : Option Resident). record { cleared = cs; leaves = o; hand = hand_past frames (frame_of o) }) leaves

-- the list by its parts: those before the first clear bit, and who has it
cleared_before : (bits : ℕ → Bool) (us : List Resident) (r : Resident) (vs : List Resident) → AreSet bits us → bits r.page ≡ false → before_clear bits (us ++ r ∷ vs) ≡ pages_of us
cleared_before bits [] r vs set clear = ap (λ (b : Bool). if b then r.page ∷ before_clear bits vs else []) clear
cleared_before bits (u ∷ us) r vs set clear =
    ap (λ (b : Bool). if b then u.page ∷ before_clear bits (us ++ r ∷ vs) else []) set.0
    ∙ ap (λ (cs : List ℕ). u.page ∷ cs) (cleared_before bits us r vs set.1 clear)

clear_found : (bits : ℕ → Bool) (us : List Resident) (r : Resident) (vs : List Resident) → AreSet bits us → bits r.page ≡ false → first_clear bits (us ++ r ∷ vs) ≡ Some r
clear_found bits [] r vs set clear = ap (λ (b : Bool). if b then first_clear bits vs else Some r) clear
clear_found bits (u ∷ us) r vs set clear =
    ap (λ (b : Bool). if b then first_clear bits (us ++ r ∷ vs) else Some u) set.0
    ∙ clear_found bits us r vs set.1 clear

pub first-clear-leaves : FirstClearLeaves
first-clear-leaves frames bits us r vs list set clear =
    ap (turn_of frames bits) list
    ∙ turn_is frames bits (us ++ r ∷ vs) (pages_of us) r (cleared_before bits us r vs set clear)
    (ap (λ (o : Option Resident). option_or o (first_of (us ++ r ∷ vs))) (clear_found bits us r vs set clear))

-- the list where none is clear
cleared_all : (bits : ℕ → Bool) (rs : List Resident) → AreSet bits rs → before_clear bits rs ≡ pages_of rs
cleared_all bits [] set = refl
cleared_all bits (r ∷ rs) set =
    ap (λ (b : Bool). if b then r.page ∷ before_clear bits rs else []) set.0
    ∙ ap (λ (cs : List ℕ). r.page ∷ cs) (cleared_all bits rs set.1)

clear_nowhere : (bits : ℕ → Bool) (rs : List Resident) → AreSet bits rs → first_clear bits rs ≡ None
clear_nowhere bits [] set = refl
clear_nowhere bits (r ∷ rs) set = ap (λ (b : Bool). if b then first_clear bits rs else Some r) set.0 ∙ clear_nowhere bits rs set.1

pub first-leaves-where-all-are-set : FirstLeavesWhereAllAreSet
first-leaves-where-all-are-set frames bits r rest list set =
    ap (turn_of frames bits) list
    ∙ turn_is frames bits (r ∷ rest) (pages_of (r ∷ rest)) r (cleared_all bits (r ∷ rest) set)
    (ap (λ (o : Option Resident). option_or o (Some r)) (clear_nowhere bits (r ∷ rest) set))

-- the first has its bit set: it is cleared and put last
turn_set : (frames : Frames) (bits later : ℕ → Bool) (r : Resident) (rs : List Resident) → bits r.page ≡ true → IsCleared bits r.page later → IsNoPageOf r.page rs
    → turn_of frames bits (r ∷ rs) ≡ clearing_turn r.page (turn_of (passed frames) later (rs ++ r ∷ []))
turn_set frames bits later r rs set cleared none =
    let x : Resident = picked (first_clear bits rs) r in
    let same : first_clear later rs ≡ first_clear bits rs = first_same bits later r.page rs cleared none in
    turn_is frames bits (r ∷ rs) (r.page ∷ before_clear bits rs) x
    (ap (λ (b : Bool). if b then r.page ∷ before_clear bits rs else []) set)
    (ap (λ (b : Bool). option_or (if b then first_clear bits rs else Some r) (Some r)) set ∙ picks (first_clear bits rs) r)
    ∙ sym (ap (clearing_turn r.page) (turn_is (passed frames) later (rs ++ r ∷ []) (before_clear bits rs) x
    (before_last later rs r cleared.clear ∙ before_same bits later r.page rs cleared none)
    (ap (λ (o : Option Resident). option_or o (first_of (rs ++ r ∷ []))) (first_last later rs r cleared.clear)
    ∙ picks_again (first_clear later rs) r (first_of (rs ++ r ∷ []))
    ∙ ap (λ (o : Option Resident). Some (picked o r)) same)))

-- the page that the hand finds is that of the first of the list
found_page : (frames : Frames) (frame : ℕ) (found : Found frames frame) → page_of_frame frames frame ≡ found.first.page
found_page frames frame found = sym (ap (page_of_frame frames) found.is) ∙ (passes frames found.first found.rest found.list).page

cleared_same : (bits later : ℕ → Bool) (page other : ℕ) → page ≡ other → IsCleared bits page later → IsCleared bits other later
cleared_same bits later page other same h = subst (λ (p : ℕ). IsCleared bits p later) same h

found_alone : (frames : Frames) (frame : ℕ) (found : Found frames frame) → HaveOwnPages frames → IsNoPageOf found.first.page found.rest
found_alone frames frame found own = (subst Differ found.list (differ_round frames own)).0

pub set-is-cleared-and-passed : SetIsClearedAndPassed
set-is-cleared-and-passed frames bits later frame own is set cleared =
    let found = found_first frames frame is in
    let page : page_of_frame frames frame ≡ found.first.page = found_page frames frame found in
    ap (turn_of frames bits) found.list
    ∙ turn_set frames bits later found.first found.rest (sym (ap bits page) ∙ set) (cleared_same bits later (page_of_frame frames frame) found.first.page page cleared) (found_alone frames frame found own)
    ∙ sym (ap (λ (rs : List Resident). clearing_turn found.first.page (turn_of (passed frames) later rs)) (passes frames found.first found.rest found.list).last)
    ∙ sym (ap (λ (p : ℕ). clearing_turn p (clock (passed frames) later)) page)

pub clear-leaves : ClearLeaves
clear-leaves frames bits frame is clear =
    let found = found_first frames frame is in
    let r : Resident = found.first in
    let page : page_of_frame frames frame ≡ r.page = found_page frames frame found in
    let first : bits r.page ≡ false = sym (ap bits page) ∙ clear in
    ap (turn_of frames bits) found.list
    ∙ turn_is frames bits (r ∷ found.rest) [] r
    (ap (λ (b : Bool). if b then r.page ∷ before_clear bits found.rest else []) first)
    (ap (λ (b : Bool). option_or (if b then first_clear bits found.rest else Some r) (Some r)) first)
    ∙ ap (λ (n : ℕ). record { cleared = []; leaves = Some (record { frame = n; page = r.page }); hand = place_after frames n }) found.is
    ∙ sym (ap (λ (p : ℕ). record { cleared = []; leaves = Some (record { frame = frame; page = p }); hand = place_after frames frame }) page)

pub set-bits-fall : SetBitsFall
set-bits-fall frames bits later frame own is set cleared =
    let found = found_first frames frame is in
    let r : Resident = found.first in
    let page : page_of_frame frames frame ≡ r.page = found_page frames frame found in
    let here : IsCleared bits r.page later = cleared_same bits later (page_of_frame frames frame) r.page page cleared in
    let now : set_count later (round (passed frames)) ≡ set_count bits found.rest =
    ap (set_count later) (passes frames r found.rest found.list).last
    ∙ count_last later found.rest r here.clear
    ∙ count_same bits later r.page found.rest here (found_alone frames frame found own) in
    let before : set_count bits (round frames) ≡ suc (set_count bits found.rest) =
    ap (set_count bits) found.list
    ∙ ap (λ (b : Bool). if b then suc (set_count bits found.rest) else set_count bits found.rest) (sym (ap bits page) ∙ set) in
    omega arith

-- numbers of residents
few_from : (k : ℕ) (held : List (Option (ℕ × ℕ))) → length (residents_from k held) ≤ length held
few_from k [] = omega arith
few_from k (None ∷ rest) = let few : length (residents_from (k + 1) rest) ≤ length rest = few_from (k + 1) rest in omega arith
few_from k (Some h ∷ rest) = let few : length (residents_from (k + 1) rest) ≤ length rest = few_from (k + 1) rest in omega arith

few_round : (frames : Frames) → length (round frames) ≤ length frames.held
few_round frames =
    let high : List Resident = residents_from (frames.first + frames.hand) (drop frames.hand frames.held) in
    let low : List Resident = residents_from frames.first (take frames.hand frames.held) in
    let one : length (round frames) ≡ length high + length low = length-append high low in
    let other : length (residents_from frames.first frames.held) ≡ length low + length high = ap (λ (rs : List Resident). length rs) (split frames.first frames.hand frames.held) ∙ length-append low high in
    let few : length (residents_from frames.first frames.held) ≤ length frames.held = few_from frames.first frames.held in
    omega arith

more_by : (b : Bool) (n m : ℕ) → n ≤ m → (if b then suc n else n) ≤ suc m
more_by true n m few = omega arith
more_by false n m few = omega arith

few_set : (bits : ℕ → Bool) (rs : List Resident) → set_count bits rs ≤ length rs
few_set bits [] = omega arith
few_set bits (r ∷ rs) = more_by (bits r.page) (set_count bits rs) (length rs) (few_set bits rs)

longer_by : (b : Bool) (page : ℕ) (cs : List ℕ) (m : ℕ) → length cs ≤ m → length (if b then page ∷ cs else []) ≤ suc m
longer_by true page cs m few = omega arith
longer_by false page cs m few = omega arith

few_before : (bits : ℕ → Bool) (rs : List Resident) → length (before_clear bits rs) ≤ length rs
few_before bits [] = omega arith
few_before bits (r ∷ rs) = longer_by (bits r.page) r.page (before_clear bits rs) (length rs) (few_before bits rs)

pub set-bits-are-few : SetBitsAreFew
set-bits-are-few frames bits =
    let set : set_count bits (round frames) ≤ length (round frames) = few_set bits (round frames) in
    let few : length (round frames) ≤ length frames.held = few_round frames in
    omega arith

pub cleared-are-few : ClearedAreFew
cleared-are-few frames bits =
    let set : length (before_clear bits (round frames)) ≤ length (round frames) = few_before bits (round frames) in
    let few : length (round frames) ≤ length frames.held = few_round frames in
    omega arith

-- the bits without a page's
without_is : (bits : ℕ → Bool) (page : ℕ) → IsCleared bits page (without bits page)
without_is bits page = record {
  clear = ap (λ (b : Bool). if b then false else bits page) (eq-eqb page page refl);
  others = λ other apart. ap (λ (b : Bool). if b then false else bits other) (ne_eqb other page apart);
}

-- the moving hand, where it does the list with one look fewer
abbrev DoesAll : ℕ → Type 0
DoesAll n = (frames : Frames) (bits : ℕ → Bool) → HaveOwnPages frames → set_count bits (round frames) < n → moving_hand n frames bits ≡ clock frames bits

abbrev look_at : ℕ → Frames → (ℕ → Bool) → Option ℕ → Turn
look_at n frames bits o = turn_at frames bits (moving_hand n (passed frames) (without bits (page_found frames o))) o

hand_bit : (n : ℕ) (frames : Frames) (bits : ℕ → Bool) (frame : ℕ) (b : Bool) → DoesAll n → HaveOwnPages frames → set_count bits (round frames) < suc n → looked_at frames ≡ Some frame
    → bits (page_of_frame frames frame) ≡ b → look_at n frames bits (Some frame) ≡ clock frames bits
hand_bit n frames bits frame true more own few is set =
    let page : ℕ = page_of_frame frames frame in
    let cleared : IsCleared bits page (without bits page) = without_is bits page in
    let fewer : set_count (without bits page) (round (passed frames)) + 1 ≡ set_count bits (round frames) = set-bits-fall frames bits (without bits page) frame own is set cleared in
    ap (λ (b : Bool). if b then clearing_turn page (moving_hand n (passed frames) (without bits page)) else leaving_turn frames frame) set
    ∙ ap (clearing_turn page) (more (passed frames) (without bits page) own (omega arith))
    ∙ sym (set-is-cleared-and-passed frames bits (without bits page) frame own is set cleared)
hand_bit n frames bits frame false more own few is clear =
    ap (λ (b : Bool). if b then clearing_turn (page_of_frame frames frame) (moving_hand n (passed frames) (without bits (page_of_frame frames frame))) else leaving_turn frames frame) clear
    ∙ sym (clear-leaves frames bits frame is clear)

hand_look : (n : ℕ) (frames : Frames) (bits : ℕ → Bool) (o : Option ℕ) → DoesAll n → HaveOwnPages frames → set_count bits (round frames) < suc n → looked_at frames ≡ o
    → look_at n frames bits o ≡ clock frames bits
hand_look n frames bits None more own few is = sym (ap (turn_of frames bits) (found_none frames is))
hand_look n frames bits (Some frame) more own few is = hand_bit n frames bits frame (bits (page_of_frame frames frame)) more own few is refl

hand_does : (n : ℕ) → DoesAll n
hand_does zero frames bits own few = absurd (omega arith)
hand_does (suc n) frames bits own few = hand_look n frames bits (looked_at frames) (hand_does n) own few refl

pub hand-does-the-list : HandDoesTheList
hand-does-the-list n frames bits own long =
    let few : set_count bits (round frames) ≤ length frames.held = set-bits-are-few frames bits in
    hand_does n frames bits own (omega arith)
