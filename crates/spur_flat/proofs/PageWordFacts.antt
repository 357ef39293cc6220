-- The words of a list in which a page was put.
use Rattle.std.proofs.Common.{◌≡◌, ◌≢◌, ◌∙◌, ℕ, ◌+◌, ◌-◌, ◌*◌, ◌/◌, ◌<◌, ◌≤◌, ◌⊎◌, inl, inr, ⊎_elim, ap, sym, List, ◌++◌, length, take, drop, slice_index, slice_set, arith}
use Rattle.std.proofs.lemmas.Bool.{cases_lt}
use Rattle.std.proofs.lemmas.List.{ext_get_or, get_or-append_right, get_or-drop, get_or-take, get_or_append_left, get_or-set_other, length-append, length-set, length-take-le}
use Rattle.spur_addr.specs.Pages.{page_at, with_page}
use Rattle.spur_flat.proofs.PagerFacts.{length-with_page, page_long}

-- a page that may be put in, and read again
pub record IsPut (words part : List ℕ) (n : ℕ) : Type 0 where
  pub within : n * 1024 + 1024 ≤ length words
  pub long : length part ≡ 1024

abbrev head : List ℕ → List ℕ → ℕ → List ℕ
head words part n = take (n * 1024) words ++ take 1024 part

head_long : (words part : List ℕ) (n : ℕ) → IsPut words part n → length (head words part n) ≡ n * 1024 + 1024
head_long words part n put =
    let within : n * 1024 + 1024 ≤ length words = put.within in
    let long : length part ≡ 1024 = put.long in
    let first : length (take (n * 1024) words) ≡ n * 1024 = length-take-le (n * 1024) words (omega arith) in
    let second : length (take 1024 part) ≡ 1024 = length-take-le 1024 part (omega arith) in
    let both : length (head words part n) ≡ length (take (n * 1024) words) + length (take 1024 part) = length-append (take (n * 1024) words) (take 1024 part) in
    omega arith

pub before_part : (words part : List ℕ) (n k : ℕ) → IsPut words part n → k < n * 1024 → slice_index (with_page words n part) k ≡ slice_index words k
before_part words part n k put before =
    let within : n * 1024 + 1024 ≤ length words = put.within in
    let whole : length (head words part n) ≡ n * 1024 + 1024 = head_long words part n put in
    let first : length (take (n * 1024) words) ≡ n * 1024 = length-take-le (n * 1024) words (omega arith) in
    get_or_append_left (head words part n) (drop (n * 1024 + 1024) words) 0 k (omega arith)
    ∙ get_or_append_left (take (n * 1024) words) (take 1024 part) 0 k (omega arith)
    ∙ get_or-take (n * 1024) words k 0 before

pub after_part : (words part : List ℕ) (n k : ℕ) → IsPut words part n → n * 1024 + 1024 ≤ k → slice_index (with_page words n part) k ≡ slice_index words k
after_part words part n k put past =
    let whole : length (head words part n) ≡ n * 1024 + 1024 = head_long words part n put in
    let back : n * 1024 + 1024 + (k - (n * 1024 + 1024)) ≡ k = omega arith in
    get_or-append_right (head words part n) (drop (n * 1024 + 1024) words) (n * 1024 + 1024) k 0 whole past
    ∙ get_or-drop (n * 1024 + 1024) words (k - (n * 1024 + 1024)) 0
    ∙ ap (slice_index words) back

pub in_part : (words part : List ℕ) (n k : ℕ) → IsPut words part n → k < 1024 → slice_index (with_page words n part) (n * 1024 + k) ≡ slice_index part k
in_part words part n k put small =
    let within : n * 1024 + 1024 ≤ length words = put.within in
    let whole : length (head words part n) ≡ n * 1024 + 1024 = head_long words part n put in
    let first : length (take (n * 1024) words) ≡ n * 1024 = length-take-le (n * 1024) words (omega arith) in
    let back : n * 1024 + k - n * 1024 ≡ k = omega arith in
    get_or_append_left (head words part n) (drop (n * 1024 + 1024) words) 0 (n * 1024 + k) (omega arith)
    ∙ get_or-append_right (take (n * 1024) words) (take 1024 part) (n * 1024) (n * 1024 + k) 0 first (omega arith)
    ∙ ap (slice_index (take 1024 part)) back
    ∙ get_or-take 1024 part k 0 small

-- words of other frames stay
pub outside_part : (words part : List ℕ) (n k : ℕ) → IsPut words part n → (k < n * 1024) ⊎ (n * 1024 + 1024 ≤ k) → slice_index (with_page words n part) k ≡ slice_index words k
outside_part words part n k put apart = ⊎_elim (before_part words part n k put) (after_part words part n k put) apart

-- word k of a page
pub page_word : (words : List ℕ) (n k : ℕ) → k < 1024 → slice_index (page_at words n) k ≡ slice_index words (n * 1024 + k)
page_word words n k small = get_or-take 1024 (drop (n * 1024) words) k 0 small ∙ get_or-drop (n * 1024) words k 0

-- the page that was put in is there
pub page_put : (words part : List ℕ) (n : ℕ) → IsPut words part n → page_at (with_page words n part) n ≡ part
page_put words part n put =
    let within : n * 1024 + 1024 ≤ length words = put.within in
    let long : length part ≡ 1024 = put.long in
    let same : length (with_page words n part) ≡ length words = length-with_page words part n within long in
    let size : length (page_at (with_page words n part) n) ≡ 1024 = page_long (with_page words n part) n (omega arith) in
    ext_get_or 0 (page_at (with_page words n part) n) part (size ∙ sym long)
    (λ (k : ℕ) (small : k < length (page_at (with_page words n part) n)). page_word (with_page words n part) n k (omega arith) ∙ in_part words part n k put (omega arith))

-- and each other page is what it was
pub page_other : (words part : List ℕ) (n m : ℕ) → IsPut words part n → m * 1024 + 1024 ≤ length words → m ≢ n → page_at (with_page words n part) m ≡ page_at words m
page_other words part n m put there apart =
    let within : n * 1024 + 1024 ≤ length words = put.within in
    let same : length (with_page words n part) ≡ length words = length-with_page words part n within put.long in
    let size : length (page_at (with_page words n part) m) ≡ 1024 = page_long (with_page words n part) m (omega arith) in
    let old : length (page_at words m) ≡ 1024 = page_long words m there in
    ext_get_or 0 (page_at (with_page words n part) m) (page_at words m) (size ∙ sym old)
    (λ (k : ℕ) (small : k < length (page_at (with_page words n part) m)).
    let few : k < 1024 = omega arith in
    page_word (with_page words n part) m k few
    ∙ outside_part words part n (m * 1024 + k) put (away m n k few apart)
    ∙ sym (page_word words m k few))
  where
    away : (m n k : ℕ) → k < 1024 → m ≢ n → (m * 1024 + k < n * 1024) ⊎ (n * 1024 + 1024 ≤ m * 1024 + k)
    away m n k few apart =
        ⊎_elim
        (λ (before : m < n). inl (omega arith))
        (λ (past : n ≤ m).
        ⊎_elim
        (λ (more : n < m). inr (omega arith))
        (λ (not_more : m ≤ n). let same : m ≡ n = omega arith in absurd (apart same))
        (cases_lt n m))
        (cases_lt m n)

-- and each page in which a word was not written
pub page_at-set_other : (words : List ℕ) (place n value : ℕ) → n * 1024 + 1024 ≤ length words → place / 1024 ≢ n → page_at (slice_set words place value) n ≡ page_at words n
page_at-set_other words place n value there apart =
    let same : length (slice_set words place value) ≡ length words = length-set words place value in
    let size : length (page_at (slice_set words place value) n) ≡ 1024 = page_long (slice_set words place value) n (omega arith) in
    let old : length (page_at words n) ≡ 1024 = page_long words n there in
    ext_get_or 0 (page_at (slice_set words place value) n) (page_at words n) (size ∙ sym old)
    (λ (k : ℕ) (small : k < length (page_at (slice_set words place value) n)).
    let few : k < 1024 = omega arith in
    page_word (slice_set words place value) n k few
    ∙ get_or-set_other words place (n * 1024 + k) value 0 (λ (h : n * 1024 + k ≡ place). let is : place / 1024 ≡ n = omega arith in apart is)
    ∙ sym (page_word words n k few))
