-- Logs are merged.
use Rattle.std.proofs.Common.{◌≡◌, ℕ, ◌+◌, ◌<◌, ◌≤◌, suc, List, [], ◌∷◌, ◌++◌, length, take, drop, get_or, map, refl, sym, ap, ◌∙◌, arith, drop-cons, append-nil}
use Rattle.std.proofs.Math.ListN.{set}
use Rattle.std.proofs.lemmas.List.{append_assoc, drop-set-lt, length-append, map-append, take-append-drop, take_more}
use Rattle.std.proofs.lemmas.Grind.{take-set_at, drop_more_same}
use Rattle.std.proofs.lemmas.Option.{slice_get_read}
use Rattle.spur_flat.specs.declared.entry.Entry.{Entry}
use Rattle.spur_board.specs.declared.board.Board.{Board}
use Rattle.spur_commute.specs.Logs.{joined_logs}
use Rattle.spur_core.specs.Boards.{AreBoardLogs, emptied, logs_of}

-- a list is changed from the front, element by element
pub map_step : {X : Type 0} (f : X → X) (now old : List X) (i : ℕ) (d b : X) → i < length old → length now ≡ length old
    → take i now ≡ map f (take i old) → drop i now ≡ drop i old → b ≡ f (get_or now i d)
    → (take (i + 1) (set now i b) ≡ map f (take (i + 1) old)) × (drop (i + 1) (set now i b) ≡ drop (i + 1) old)
map_step {X} f now old i d b within_old same done left changed =
    let within : i < length now = omega arith in
    let heads : get_or now i d ∷ drop (suc i) now ≡ get_or old i d ∷ drop (suc i) old = sym (drop-cons now i d within) ∙ left ∙ drop-cons old i d within_old in
    let head : get_or now i d ≡ get_or old i d = cc in (
      take-set_at now i (i + 1) b refl within
          ∙ ap (λ (zs : List X). zs ++ b ∷ []) done
          ∙ ap (λ (z : X). map f (take i old) ++ z ∷ []) (changed ∙ ap f head)
          ∙ sym (map-append f (take i old) (get_or old i d ∷ []))
          ∙ ap (λ (zs : List X). map f zs) (sym (take_more old i d within_old)),
      drop-set-lt (i + 1) now i b (omega arith) ∙ drop_more_same now old i left,
    )

-- the element that is next is as it was
pub next_same : {X : Type 0} (now old : List X) (i : ℕ) (d : X) → i < length old → length now ≡ length old → drop i now ≡ drop i old → get_or now i d ≡ get_or old i d
next_same {X} now old i d within_old same left =
    let within : i < length now = omega arith in
    let heads : get_or now i d ∷ drop (suc i) now ≡ get_or old i d ∷ drop (suc i) old = sym (drop-cons now i d within) ∙ left ∙ drop-cons old i d within_old in
    cc

pub joined_logs-append : (xs ys : List (List Entry)) → joined_logs (xs ++ ys) ≡ joined_logs xs ++ joined_logs ys
joined_logs-append [] ys = refl
joined_logs-append (x ∷ xs) ys = ap (λ (zs : List Entry). x ++ zs) (joined_logs-append xs ys) ∙ sym (append_assoc x (joined_logs xs) (joined_logs ys))

pub logs-append : {C : Type 0} (xs ys : List (Board C)) → joined_logs (logs_of (xs ++ ys)) ≡ joined_logs (logs_of xs) ++ joined_logs (logs_of ys)
logs-append {C} xs ys = ap joined_logs (map-append (λ (b : Board C). b.log.entries) xs ys) ∙ joined_logs-append (logs_of xs) (logs_of ys)

pub joined_more : {C : Type 0} (bs : List (Board C)) (i : ℕ) (d : Board C) → i < length bs → joined_logs (logs_of (take (i + 1) bs)) ≡ joined_logs (logs_of (take i bs)) ++ (get_or bs i d).log.entries
joined_more {C} bs i d within =
    ap (λ (xs : List (Board C)). joined_logs (logs_of xs)) (take_more bs i d within) ∙ logs-append (take i bs) (get_or bs i d ∷ [])
    ∙ ap (λ (es : List Entry). joined_logs (logs_of (take i bs)) ++ es) (append-nil (get_or bs i d).log.entries)

-- what is left fits
pub joined_fits : {C : Type 0} (bs : List (Board C)) (i : ℕ) (d : Board C) → i < length bs → length (joined_logs (logs_of (take i bs))) + length (get_or bs i d).log.entries ≤ length (joined_logs (logs_of bs))
joined_fits {C} bs i d within =
    let parts : joined_logs (logs_of bs) ≡ joined_logs (logs_of (take (i + 1) bs)) ++ joined_logs (logs_of (drop (i + 1) bs)) =
    ap (λ (xs : List (Board C)). joined_logs (logs_of xs)) (sym (take-append-drop (i + 1) bs)) ∙ logs-append (take (i + 1) bs) (drop (i + 1) bs) in
    let long : length (joined_logs (logs_of bs)) ≡ length (joined_logs (logs_of (take (i + 1) bs))) + length (joined_logs (logs_of (drop (i + 1) bs))) = ap (λ (es : List Entry). length es) parts ∙ length-append _ _ in
    let more : length (joined_logs (logs_of (take (i + 1) bs))) ≡ length (joined_logs (logs_of (take i bs))) + length (get_or bs i d).log.entries = ap (λ (es : List Entry). length es) (joined_more bs i d within) ∙ length-append _ _ in
    omega arith

-- a log is short
pub log_few : {C : Type 0} (bs : List (Board C)) (i : ℕ) (b : Board C) → AreBoardLogs bs → i < length bs → b ≡ get_or bs i b → length b.log.entries ≤ 1024
log_few bs i b all within is = (all.each i b (slice_get_read _ _ _ _ refl within is)).few

-- with all logs empty nothing is joined_logs
pub joined_none : {C : Type 0} (bs : List (Board C)) → joined_logs (logs_of (map emptied bs)) ≡ []
joined_none [] = refl
joined_none (b ∷ bs) = joined_none bs

-- a list that was lent as a slice, given back
pub written_back : {X : Type 0} (news olds : List X) (n : ℕ) → n ≡ length news → take n (news ++ drop (length news) olds) ≡ news
written_back {X} news olds n is = ap (λ (k : ℕ). take k (news ++ drop (length news) olds)) is ∙ take_front news (drop (length news) olds)
  where
    take_front : (xs ys : List X) → take (length xs) (xs ++ ys) ≡ xs
    take_front [] ys = refl
    take_front (x ∷ xs) ys = ap (λ (zs : List X). x ∷ zs) (take_front xs ys)
